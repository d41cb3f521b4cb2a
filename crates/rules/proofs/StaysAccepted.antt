-- A record that keeps its rules, put in the place of one for the same interface, leaves an accepted table accepted. Assumes nothing.
use mathlib.Core.Path.{◌≡◌, refl, sym}
use mathlib.Core.Bool.{Bool, true}
use mathlib.Core.List.{List, [], ◌∷◌}
use Prim.Native.Nat.{ℕ, zero, suc, ◌*◌, ◌/◌, ◌<◌}
use native.Mathlib.Nat.{le_of_suc-le-suc, not-suc-le-zero}
use native.Mathlib.Omega.{arith}
use lib.ListN.{length, get_or, set, length-set}
use lib.Seq.{get_or-set_same, get_or-set_other}
use Rattle.rules.specs.Call.{join}
use Rattle.rules.specs.Record.{Rec, record_ok}
use Rattle.rules.specs.Table.{records, record_at, record_bytes, all, identity, names_not, distinct, table_number}
use Rattle.rules.proofs.Accepted.{tests, whole}
use Rattle.rules.proofs.Bools.{and_left, and_right}
use Rattle.rules.proofs.Joined.{length_join, sized_records_set, records_set}
use Rattle.rules.proofs.Records.{length_records}

-- ---- records of which one is put in another's place

-- a test that all pass, and the new one
pub all_set : (p : Rec → Bool) (rs : List Rec) (k : ℕ) (r : Rec) → all p rs ≡ true → p r ≡ true → all p (set rs k r) ≡ true
unfolding all
all_set p [] k r e h = refl
all_set p (x ∷ rs) zero r e h = rw h (and_right (p x) (all p rs) e)
all_set p (x ∷ rs) (suc k) r e h = rw (and_left (p x) (all p rs) e) (all_set p rs k r (and_right (p x) (all p rs) e) h)

-- a test that does not tell the new one from the old
all_same : (p : Rec → Bool) (rs : List Rec) (k : ℕ) (r : Rec) → p r ≡ p (get_or rs k []) → all p (set rs k r) ≡ all p rs
unfolding all
all_same p [] k r e = refl
all_same p (x ∷ rs) zero r e = rw e
all_same p (x ∷ rs) (suc k) r e = rw (all_same p rs k r e)

-- one for the same interface leaves all comparisons as they were
pub distinct_set : (rs : List Rec) (k : ℕ) (r : Rec) → k < length rs → identity r ≡ identity (get_or rs k []) → distinct (set rs k r) ≡ distinct rs
unfolding distinct
distinct_set [] k r h e = absurd (not-suc-le-zero h)
distinct_set (x ∷ rs) zero r h e = rw e
distinct_set (x ∷ rs) (suc k) r h e =
    rw (all_same (names_not (identity x)) rs k r (rw e), distinct_set rs k r (le_of_suc-le-suc h) e)

-- ---- tables

-- a table in which one record was put has the length that it had
pub length_put : (t : List ℕ) (k : ℕ) (r : Rec) → length t ≡ length t / record_bytes * record_bytes → length r ≡ record_bytes
    → length (join (set (records t) k r)) ≡ length t
length_put t k r w p = rw (length_join (sized_records_set t k r p), length-set, length_records t) (sym w)

-- an accepted table stays accepted
pub set_accepted : (t : List ℕ) (k : ℕ) (r : Rec) → table_number t ≡ 0 → k < length (records t) → length r ≡ record_bytes → record_ok r ≡ true
    → identity r ≡ identity (record_at t k) → table_number (join (set (records t) k r)) ≡ 0
unfolding table_number
set_accepted t k r accepted h p ok e =
    let (length-ok, rules, differ) = tests t accepted in
    let n = length_records t in
    let w = rw (length_records t) at (whole t accepted) in
    rw (length_put t k r w p, records_set t k r w p (omega arith), length-ok, all_set record_ok (records t) k r rules ok, distinct_set (records t) k r h e, differ)

-- only the named record can change
pub other_stays : (t : List ℕ) (j k : ℕ) (r : Rec) → length t ≡ length t / record_bytes * record_bytes → length r ≡ record_bytes → k < length t / record_bytes
    → (j ≡ k → ⊥) → record_at (join (set (records t) k r)) j ≡ record_at t j
other_stays t j k r w p h n = rw (records_set t k r w p h) (get_or-set_other (records t) k j r [] n)

-- and that one is the one put
pub named_is : (t : List ℕ) (k : ℕ) (r : Rec) → length t ≡ length t / record_bytes * record_bytes → length r ≡ record_bytes → k < length t / record_bytes
    → record_at (join (set (records t) k r)) k ≡ r
named_is t k r w p h = let n = length_records t in rw (records_set t k r w p h) (get_or-set_same (records t) k r [] (omega arith))
