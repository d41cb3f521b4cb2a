-- The loop over all records: the first k are changed, and counted. Assumes nothing.
use Rattle.std.proofs.Common.{◌≡◌, refl, sym, ap, ◌∙◌, Bool, true, false, List, [], ◌∷◌, ℕ, ◌+◌, ◌*◌, ◌/◌, ◌≤◌, ◌<◌, eqb, length, set, add-one, arith}
use Rattle.std.specs.Prelude.{Ok, if◌then◌else◌}
use Rattle.rules.specs.Call.{join, changed, Gives}
use Rattle.rules.specs.Change.{moves, moved, differing}
use Rattle.rules.specs.Record.{Rec, state}
use Rattle.rules.specs.Table.{records, record_at, record_bytes, table_number}
use Rattle.rules.proofs.Accepted.{whole}
use Rattle.rules.proofs.Joined.{sized_records, join_records, records_join}
use Rattle.rules.proofs.Moved.{state_differs}
use Rattle.rules.proofs.Records.{length_records, length_record}
use Rattle.rules.proofs.Swept.{one, swept, swept_ahead, swept_next, swept_all, differing_none, differing_next, sized_swept}

-- of one record, at most one moves
pub one_most : (r s : Rec) → differing (r ∷ []) (s ∷ []) ≤ 1
unfolding differing
one_most r s = by (eqb (state r) (state s))
  where
    by : (b : Bool) → (if b then 0 else 1) + 0 ≤ 1
    by true = omega arith
    by false = omega arith

-- an accepted table has whole records, and has them still
pub whole_now : (t now : List ℕ) → table_number t ≡ 0 → length now ≡ length t → length now ≡ length now / record_bytes * record_bytes
whole_now t now accepted l = rw l (rw (length_records t) at (whole t accepted))

module _ (p : Rec → Bool) (t : List ℕ) where
  -- the table and the count after the first k records
  pub record Sweeps (k n : ℕ) (now : List ℕ) : Type 0 where
    pub table_is : now ≡ join (swept p k (records t))
    pub count_is : n ≡ differing (records t) (swept p k (records t))
    pub few : n ≤ k

  module _ (accepted : table_number t ≡ 0) where
    pub sweep_start : Sweeps 0 0 t
    unfolding swept
    sweep_start = record { table_is = sym (join_records t (whole_now t t accepted refl)); count_is = sym (differing_none (records t)); few = omega arith }

    pub sweep_done : (k n : ℕ) (t' : List ℕ) → length t / record_bytes ≤ k → Sweeps k n t' → Gives (changed p t) (Ok n) [] t'
    sweep_done k n t' h s =
        let all = swept_all p k (records t) (omega (arith, length_records t)) in
        record {
          number_is = refl;
          value_is = s.count_is ∙ ap (differing (records t)) all;
          reply_is = refl;
          table_is = s.table_is ∙ ap join all;
        }

    -- a turn: record k, as it was, is changed
    module _ (k n : ℕ) (now : List ℕ) (h : k < length t / record_bytes) (s : Sweeps k n now) where
      records_now : records now ≡ swept p k (records t)
      records_now = rw s.table_is (records_join (swept p k (records t)) (sized_swept p k (records t) (sized_records t)))

      at_now : record_at now k ≡ record_at t k
      at_now = rw records_now (swept_ahead p k (records t))

      pub sweep_next : (got : ℕ) (now' : List ℕ) → now' ≡ join (set (records now) k (moved p (record_at now k)))
          → got ≡ differing (record_at now k ∷ []) (moved p (record_at now k) ∷ []) → Sweeps (k + 1) (n + got) now'
      unfolding differing
      sweep_next got now' e c =
          let within : k < length (records t) = omega (arith, length_records t) in
          let here : got ≡ one (moves p (record_at t k)) = c ∙ rw (at_now, state_differs p (record_at t k) (length_record t k h)) (omega arith) in
          record {
            table_is = e ∙ rw (records_now, swept_ahead p k (records t), add-one) (ap join (swept_next p k (records t) within));
            count_is = rw (add-one, differing_next p k (records t) (sized_records t) within) (omega (arith, here, s.count_is));
            few = omega (arith, s.few, c, one_most (record_at now k) (moved p (record_at now k)));
          }
