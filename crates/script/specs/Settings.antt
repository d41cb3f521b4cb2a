-- The settings that lines make. Assumes nothing.
use Rattle.std.specs.Prelude.{false, List, ℕ, take}
use Rattle.rules.specs.Bytes.{blank}
use Rattle.script.specs.declared.settings.Input.{Input}
use Rattle.script.specs.declared.settings.Setting.{Setting}
use Rattle.script.specs.declared.settings.Settings.{Settings}

-- so many zeros
abbrev pub zeros : ℕ → Input
zeros n = record { bytes = blank 64; count = n }

-- the first so many of a line's bytes
abbrev pub front : List ℕ → ℕ → Input
front bytes n = record { bytes = take 64 bytes; count = n }

-- the bytes that are set
abbrev pub given : Input → List ℕ
given i = take i.count i.bytes

-- at the start: 32 zero bytes that are not ready, no secure stream, session 0, a reply buffer of 256 bytes
abbrev pub at_start : Settings
at_start = record { nonce = zeros 32; ready = false; streams = zeros 32; session = record { 0 = 0 }; reply_bytes = 256 }

-- with one of them set; a line's bytes stand beside it
abbrev pub set_by : Setting → List ℕ → Settings → Settings
set_by (Setting.Nonce n) bytes s = record s { nonce = front bytes n }
set_by (Setting.Ready is) bytes s = record s { ready = is }
set_by (Setting.Streams n) bytes s = record s { streams = front bytes n }
set_by (Setting.Session n) bytes s = record s { session = record { 0 = n } }
set_by (Setting.ReplyLength n) bytes s = record s { reply_bytes = n }
