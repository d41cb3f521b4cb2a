-- The record that a request is served on, lent and back. Assumes nothing.
use Rattle.std.proofs.Common.{◌≡◌, refl, ap, ◌∙◌, true, List, ◌++◌, ℕ, ◌+◌, ◌*◌, ◌/◌, ◌<◌, length, take, drop, set, arith, length-append, length-drop}
use Rattle.std.specs.Prelude.{Ok}
use Rattle.rules.specs.Call.{join, carried_out, Gives}
use Rattle.rules.specs.Record.{record_ok}
use Rattle.rules.specs.Request.{Lent, effect}
use Rattle.rules.specs.Table.{records, record_at, record_bytes, table_number}
use Rattle.rules.proofs.Accepted.{keeps_rules, whole}
use Rattle.rules.proofs.Lending.{lent_is, back_is}
use Rattle.rules.proofs.Records.{length_records}
use Rattle.locks.specs.Does.{Does}

module _ (t : List ℕ) (k : ℕ) (accepted : table_number t ≡ 0) (h : k < length t / record_bytes) (rest r : List ℕ)
    (rest-is : rest ≡ drop (k * record_bytes) t) (r-is : r ≡ take record_bytes rest) where
  pub lent_kept : record_ok r ≡ true
  lent_kept = rw (lent_is t k h rest rest-is r r-is) (keeps_rules t accepted k (omega (arith, length_records t)))

  pub record_back : (l : Lent) (n : ℕ) (p' r' front : List ℕ) → front ≡ take (k * record_bytes) t → Does (effect l r) n l.reply p' r'
      → length (r' ++ drop record_bytes rest) ≡ length rest → Gives (carried_out (Ok k) l t) (Ok n) p' (front ++ (r' ++ drop record_bytes rest))
  record_back l n p' r' front front-is d stays =
      let w : Does (effect l (record_at t k)) n l.reply p' r' = rw (lent_is t k h rest rest-is r r-is) at d in
      let rest_long : length rest + k * record_bytes ≡ length t = rw rest-is (simp length-drop (omega arith)) in
      let long : length r' ≡ record_bytes = omega (arith, length-append r' (drop record_bytes rest), length-drop record_bytes rest) in
      let steps = rw (length_records t) at (whole t accepted) in
      record {
        number_is = refl;
        value_is = w.length_is;
        reply_is = w.bytes_are;
        table_is = back_is t k h rest rest-is front r' front-is steps long ∙ ap (λ (r : List ℕ). join (set (records t) k r)) w.record_is;
      }
