-- What a handler returns and leaves.
use Rattle.std.specs.Prelude.{◌≡◌, List, ℕ, length, Result, Ok, Err}
use Rattle.rules.specs.Bytes.{over}
use Rattle.rules.specs.Record.{Rec}
use Rattle.rules.specs.Request.{Effect, Lent, lent, does, message, error_message, error_code, error_datum, locked}
use Rattle.rules.specs.declared.Inputs.{Inputs}
use Rattle.rules.specs.declared.RequestError.{RequestError}

-- a message at the front of the buffer, the rest of it as it was, its length returned, and the record afterwards
pub record Does (e : Effect) (n : ℕ) (reply reply' rec' : List ℕ) : Type 0 where
  pub length_is : n ≡ length e.reply
  pub bytes_are : reply' ≡ over 0 e.reply reply
  pub record_is : rec' ≡ e.rec

-- what a request is lent, with its inputs in one
abbrev pub lent_with : List ℕ → List ℕ → Inputs → Lent
lent_with q p i = lent q p i.nonce.now i.ready i.streams.now i.session

-- what a lock does, by what its checks tell
abbrev pub lock_told : Result Unit RequestError → Lent → Rec → Effect
lock_told (Err why) l r = does (error_message (error_code why) (error_datum why) l.request) r
lock_told (Ok tt) l r = does (message 0x03 l.request l.nonce) (locked l.request l.nonce l.session r)
