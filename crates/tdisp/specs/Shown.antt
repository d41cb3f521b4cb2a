-- What an exported function returns and leaves, as numbers. No rule stands here.
use Rattle.std.specs.Prelude.{◌≡◌, List, ℕ}
use Rattle.rules.specs.Call.{Outcome}

-- the outcome of a call: its number; its length, count or answer; the reply buffer and the table afterwards
pub record Shows (o : Outcome) (number value : ℕ) (reply table : List ℕ) : Type 0 where
  pub number_is : number ≡ o.number
  pub value_is : value ≡ o.value
  pub reply_is : reply ≡ o.reply
  pub table_is : table ≡ o.table
