-- What number 0 tells of a table. Assumes nothing.
use Rattle.std.specs.Prelude.{if◌then◌else◌}
use mathlib.Core.Path.{◌≡◌, refl, ◌∙◌}
use mathlib.Core.Bool.{Bool, true, false, not, ◌&&◌}
use mathlib.Core.List.{List, [], ◌∷◌}
use Prim.Native.Nat.{ℕ, zero, suc, ◌*◌, ◌%◌, ◌≤◌, ◌<◌}
use native.Mathlib.Nat.{le_of_suc-le-suc, not-suc-le-zero}
use native.Mathlib.Omega.{arith}
use borrow.Author.Tests.{eqb-true, leb-true, ltb-true, ltb-false, not-true}
use lib.Dec.{eqb, leb, ltb}
use lib.ListN.{length, get_or}
use Rattle.rules.specs.Identity.{same}
use Rattle.rules.specs.Record.{Rec, record_ok}
use Rattle.rules.specs.Table.{records, record_at, record_bytes, most_records, all, identity, names_not, distinct, length_ok, table_number}
use Rattle.rules.proofs.Bools.{and_left, and_right}
use Rattle.rules.proofs.Identities.{same_sym}
use Rattle.rules.proofs.Lookup.{all_at}
use Rattle.rules.proofs.Records.{length_records}

-- the three tests passed
passed : (a b c : Bool) → ◌≡◌ {A = ℕ} (if not a then 1 else if not b then 2 else if not c then 3 else 0) 0 → (a ≡ true) × (b ≡ true) × (c ≡ true)
passed true true true e = (refl, refl, refl)
passed true true false e = absurd (omega arith)
passed true false c e = absurd (omega arith)
passed false b c e = absurd (omega arith)

-- no two of distinct records are for one interface
distinct_at : (rs : List Rec) (j k : ℕ) → distinct rs ≡ true → j < k → k < length rs → same (identity (get_or rs j [])) (identity (get_or rs k [])) ≡ false
unfolding distinct
distinct_at [] j k e h l = absurd (not-suc-le-zero l)
distinct_at (r ∷ rs) j zero e h l = absurd (not-suc-le-zero h)
distinct_at (r ∷ rs) zero (suc k) e h l =
    not-true _ (all_at (names_not (identity r)) rs k (and_left (all (names_not (identity r)) rs) (distinct rs) e) (le_of_suc-le-suc l))
distinct_at (r ∷ rs) (suc j) (suc k) e h l =
    distinct_at rs j k (and_right (all (names_not (identity r)) rs) (distinct rs) e) (le_of_suc-le-suc h) (le_of_suc-le-suc l)

-- a length that is accepted
module _ (n : ℕ) (ok : length_ok n ≡ true) where
  bounds : leb record_bytes n && leb n (most_records * record_bytes) ≡ true
  unfolding length_ok
  bounds = and_left (leb record_bytes n && leb n (most_records * record_bytes)) (eqb (n % record_bytes) 0) ok

  steps : n % record_bytes ≡ 0
  unfolding length_ok
  steps = eqb-true _ _ (and_right (leb record_bytes n && leb n (most_records * record_bytes)) (eqb (n % record_bytes) 0) ok)

  least : record_bytes ≤ n
  least = leb-true _ _ (and_left (leb record_bytes n) (leb n (most_records * record_bytes)) bounds)

  most : n ≤ most_records * record_bytes
  most = leb-true _ _ (and_right (leb record_bytes n) (leb n (most_records * record_bytes)) bounds)

module _ (t : List ℕ) (accepted : table_number t ≡ 0) where
  pub tests : (length_ok (length t) ≡ true) × (all record_ok (records t) ≡ true) × (distinct (records t) ≡ true)
  unfolding table_number
  tests = passed (length_ok (length t)) (all record_ok (records t)) (distinct (records t)) accepted

  -- 1 to 64 records,
  pub at_least_one : 1 ≤ length (records t)
  at_least_one = omega (arith, length_records t, least (length t) tests.0)

  pub at_most : length (records t) ≤ most_records
  at_most = omega (arith, length_records t, most (length t) tests.0)

  -- and no byte besides
  pub whole : length t ≡ length (records t) * record_bytes
  whole = omega (arith, length_records t, steps (length t) tests.0)

  -- every record keeps its rules
  pub keeps_rules : (k : ℕ) → k < length (records t) → record_ok (record_at t k) ≡ true
  keeps_rules k h = all_at record_ok (records t) k tests.1 h

  -- identities differ
  pub differ : (j k : ℕ) → j < length (records t) → k < length (records t) → (j ≡ k → ⊥) → same (identity (record_at t j)) (identity (record_at t k)) ≡ false
  differ j k a b n = go (ltb j k) refl
    where
      go : (before : Bool) → ltb j k ≡ before → same (identity (record_at t j)) (identity (record_at t k)) ≡ false
      go true e = distinct_at (records t) j k tests.2 (ltb-true j k e) b
      go false e =
          let l : k < j = omega (arith, ltb-false j k e) in
          same_sym (identity (record_at t j)) (identity (record_at t k)) ∙ distinct_at (records t) k j tests.2 l a
