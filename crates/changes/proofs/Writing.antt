-- The record that a register write names. Assumes nothing.
use Rattle.std.proofs.Common.{◌≡◌, refl, sym, ap, ◌∙◌, false, List, [], ◌∷◌, ℕ, ◌/◌, ◌<◌, length, set, arith}
use Rattle.std.specs.Prelude.{Ok, Some}
use Rattle.rules.specs.Call.{join, changed, Gives}
use Rattle.rules.specs.Change.{hits, rule_hits, device_wide, write_hits, moved, differing}
use Rattle.rules.specs.Table.{records, record_at, record_bytes, find, table_number}
use Rattle.rules.specs.declared.Event.TheVariants.{Multicast}
use Rattle.rules.specs.declared.Identity.{Identity}
use Rattle.rules.specs.declared.Rule.{Rule}
use Rattle.rules.proofs.Changed.{named_alone}
use Rattle.rules.proofs.Lookup.{find_at}
use Rattle.rules.proofs.Records.{length_records}

module _ (rule : Rule) (who : Identity) (t : List ℕ) (k : ℕ) (accepted : table_number t ≡ 0) (found : find who (records t) ≡ Some k) where
  pub in_table : k < length t / record_bytes
  in_table = omega (arith, length_records t, (find_at who k (records t) found).within)

  -- class 10 is for all
  pub for_all : (n : ℕ) (t' : List ℕ) → rule ≡ Rule.DeviceWide → Gives (changed (hits Multicast) t) (Ok n) [] t'
      → Gives (changed (write_hits rule who) t) (Ok n) [] t'
  unfolding write_hits rule_hits hits
  for_all n t' e g = rw e g

  -- every other is for that record
  pub for_one : device_wide rule ≡ false → (n : ℕ) (t' : List ℕ) → t' ≡ join (set (records t) k (moved (rule_hits rule) (record_at t k)))
      → n ≡ differing (record_at t k ∷ []) (moved (rule_hits rule) (record_at t k) ∷ []) → Gives (changed (write_hits rule who) t) (Ok n) [] t'
  for_one narrow n t' e c =
      let (one, count) = named_alone rule who t k accepted found narrow in
      record { number_is = refl; value_is = c ∙ sym count; reply_is = refl; table_is = e ∙ ap join (sym one) }
