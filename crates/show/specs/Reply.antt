-- A reply that is shown. Assumes nothing.
use Rattle.std.specs.Prelude.{ℕ, ltb, if◌then◌else◌}

-- of so many bytes so many are shown: what is shorter than a header is no reply
abbrev pub shown : ℕ → ℕ
shown n = if ltb n 16 then 0 else n
