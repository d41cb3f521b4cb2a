-- Refusals 1 to 3, which every call gives alike. Assumes nothing.
use Rattle.std.specs.Prelude.{Err, Ok, Result}
use mathlib.Core.Path.{◌≡◌, sym, ap, ◌∙◌}
use mathlib.Core.List.{List}
use Prim.Native.Nat.{ℕ}
use native.Mathlib.Omega.{arith}
use borrow.Author.Tests.{eq-eqb, ne_eqb}
use Rattle.rules.specs.Call.{Outcome, refused, on_accepted}
use Rattle.rules.specs.Table.{table_number, judgement_number, refusal_number}
use Rattle.rules.specs.declared.Refusal.{Refusal}
use Rattle.rules.specs.declared.Refusal.TheVariants.{TableLength, TableRecord, TableIdentities, ReplyShort, RequestShort, Inputs, Interface}

-- 0 is no refusal's number
pub no_refusal : (why : Refusal) → refusal_number why ≡ 0 → ⊥
no_refusal TableLength e = omega arith
no_refusal TableRecord e = omega arith
no_refusal TableIdentities e = omega arith
no_refusal ReplyShort e = omega arith
no_refusal RequestShort e = omega arith
no_refusal Inputs e = omega arith
no_refusal Interface e = omega arith

-- past 1 to 3
pub past_table : (t reply : List ℕ) (o : Outcome) → table_number t ≡ 0 → on_accepted reply t o ≡ o
past_table t reply o accepted = rw (eq-eqb (table_number t) 0 accepted)

module _ (t : List ℕ) (v : Result Unit Refusal) (told : judgement_number v ≡ table_number t) where
  pub judged_accepted : v ≡ Ok tt → table_number t ≡ 0
  judged_accepted e = sym told ∙ ap judgement_number e

  pub judged_refused : (why : Refusal) → v ≡ Err why → (reply : List ℕ) (o : Outcome) → on_accepted reply t o ≡ refused (refusal_number why) reply t
  judged_refused why e reply o =
      let number : table_number t ≡ refusal_number why = sym told ∙ ap judgement_number e in
      rw (number, ne_eqb (refusal_number why) 0 (no_refusal why))
