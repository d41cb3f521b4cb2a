-- Records that a change goes through one by one: all are moved that it is for, and counted. Assumes nothing.
use Rattle.std.specs.Prelude.{if◌then◌else◌}
use mathlib.Core.Path.{◌≡◌, refl, sym, ap}
use mathlib.Core.Bool.{Bool, true, not}
use mathlib.Core.List.{List, [], ◌∷◌, map}
use Prim.Native.Nat.{ℕ, zero, suc, ◌+◌, ◌≤◌, ◌<◌}
use native.Mathlib.Nat.{le_of_suc-le-suc, not-suc-le-zero}
use native.Mathlib.Omega.{arith}
use borrow.Author.Tests.{eq-eqb}
use lib.ListN.{length, get_or, set}
use Rattle.rules.specs.Change.{moves, moved, differing}
use Rattle.rules.specs.Record.{Rec, state, record_ok}
use Rattle.rules.specs.Table.{record_bytes, all, identity, names_not, distinct}
use Rattle.rules.proofs.Bools.{and_left, and_right}
use Rattle.rules.proofs.Joined.{Sized, none_left, ◌and◌}
use Rattle.rules.proofs.Moved.{moved_none, length_moved, identity_moved, moved_keeps, state_differs}

-- 1 where a record moves
abbrev pub one : Bool → ℕ
one m = if not m then 0 else 1

-- how many records pass a test
unfoldable pub tally : (Rec → Bool) → List Rec → ℕ
tally p [] = 0
tally p (r ∷ rs) = one (p r) + tally p rs

-- no state differs from itself
pub differing_none : (rs : List Rec) → differing rs rs ≡ 0
unfolding differing
differing_none [] = refl
differing_none (r ∷ rs) = rw (eq-eqb (state r) (state r) refl, differing_none rs)

-- and where one record is another, it alone counts
pub differing_one : (rs : List Rec) (k : ℕ) (r : Rec) → k < length rs → differing rs (set rs k r) ≡ differing (get_or rs k [] ∷ []) (r ∷ [])
unfolding differing
differing_one [] k r h = absurd (not-suc-le-zero h)
differing_one (x ∷ rs) zero r h = rw (differing_none rs)
differing_one (x ∷ rs) (suc k) r h = rw (eq-eqb (state x) (state x) refl) (omega (arith, differing_one rs k r (le_of_suc-le-suc h)))

module _ (p : Rec → Bool) where
  -- the first k of the records changed
  unfoldable pub swept : ℕ → List Rec → List Rec
  swept zero rs = rs
  swept (suc k) [] = []
  swept (suc k) (r ∷ rs) = moved p r ∷ swept k rs

  -- record k is as it was,
  pub swept_ahead : (k : ℕ) (rs : List Rec) → get_or (swept k rs) k [] ≡ get_or rs k []
  unfolding swept
  swept_ahead zero rs = refl
  swept_ahead (suc k) [] = refl
  swept_ahead (suc k) (r ∷ rs) = swept_ahead k rs

  -- and is the next to change
  pub swept_next : (k : ℕ) (rs : List Rec) → k < length rs → set (swept k rs) k (moved p (get_or rs k [])) ≡ swept (suc k) rs
  unfolding swept
  swept_next k [] h = absurd (not-suc-le-zero h)
  swept_next zero (r ∷ rs) h = refl
  swept_next (suc k) (r ∷ rs) h = ap (λ (x : List Rec). moved p r ∷ x) (swept_next k rs (le_of_suc-le-suc h))

  pub swept_all : (k : ℕ) (rs : List Rec) → length rs ≤ k → swept k rs ≡ map (moved p) rs
  unfolding swept
  swept_all zero [] h = refl
  swept_all zero (r ∷ rs) h = absurd (not-suc-le-zero h)
  swept_all (suc k) [] h = refl
  swept_all (suc k) (r ∷ rs) h = ap (λ (x : List Rec). moved p r ∷ x) (swept_all k rs (le_of_suc-le-suc h))

  -- how many moved: one more where record k moves
  pub differing_next : (k : ℕ) (rs : List Rec) → Sized record_bytes rs → k < length rs
      → differing rs (swept (suc k) rs) ≡ differing rs (swept k rs) + one (moves p (get_or rs k []))
  unfolding differing swept
  differing_next k [] none_left h = absurd (not-suc-le-zero h)
  differing_next zero (r ∷ rs) (e and s) h = rw (eq-eqb (state r) (state r) refl, differing_none rs, state_differs p r e) (omega arith)
  differing_next (suc k) (r ∷ rs) (e and s) h = rw (differing_next k rs s (le_of_suc-le-suc h)) (omega arith)

  -- all that are moved are counted
  pub differing_all : (rs : List Rec) → Sized record_bytes rs → differing rs (map (moved p) rs) ≡ tally (moves p) rs
  unfolding differing tally
  differing_all [] none_left = refl
  differing_all (r ∷ rs) (e and s) = rw (state_differs p r e, differing_all rs s)

  -- ---- one of them, or none

  pub map_none : (rs : List Rec) → ((j : ℕ) → moved p (get_or rs j []) ≡ get_or rs j []) → map (moved p) rs ≡ rs
  map_none [] f = refl
  map_none (r ∷ rs) f = rw (f 0, map_none rs (λ j. f (suc j)))

  pub map_one : (rs : List Rec) (k : ℕ) → k < length rs → ((j : ℕ) → (j ≡ k → ⊥) → moved p (get_or rs j []) ≡ get_or rs j [])
      → map (moved p) rs ≡ set rs k (moved p (get_or rs k []))
  map_one [] k h f = absurd (not-suc-le-zero h)
  map_one (r ∷ rs) zero h f = rw (map_none rs (λ j. f (suc j) (λ e. omega arith)))
  map_one (r ∷ rs) (suc k) h f = rw (f 0 (λ e. omega arith), map_one rs k (le_of_suc-le-suc h) (λ j n. f (suc j) (λ e. n (omega arith))))

  -- ---- all of them

  pub sized_map : (rs : List Rec) → Sized record_bytes rs → Sized record_bytes (map (moved p) rs)
  sized_map [] none_left = none_left
  sized_map (r ∷ rs) (e and s) = length_moved p r e and sized_map rs s

  pub sized_swept : (k : ℕ) (rs : List Rec) → Sized record_bytes rs → Sized record_bytes (swept k rs)
  unfolding swept
  sized_swept zero rs s = s
  sized_swept (suc k) [] none_left = none_left
  sized_swept (suc k) (r ∷ rs) (e and s) = length_moved p r e and sized_swept k rs s

  pub length_map : (rs : List Rec) → length (map (moved p) rs) ≡ length rs
  length_map [] = refl
  length_map (r ∷ rs) = ap suc (length_map rs)

  pub map_at : (rs : List Rec) (k : ℕ) → get_or (map (moved p) rs) k [] ≡ moved p (get_or rs k [])
  map_at [] k = sym (moved_none p)
  map_at (r ∷ rs) zero = refl
  map_at (r ∷ rs) (suc k) = map_at rs k

  -- they keep their rules,
  pub all_keep : (rs : List Rec) → Sized record_bytes rs → all record_ok rs ≡ true → all record_ok (map (moved p) rs) ≡ true
  unfolding all
  all_keep [] none_left ok = refl
  all_keep (r ∷ rs) (e and s) ok =
      rw (moved_keeps p r e (and_left (record_ok r) (all record_ok rs) ok)) (all_keep rs s (and_right (record_ok r) (all record_ok rs) ok))

  -- and are for the interfaces that they were for
  same_names : (x : Rec) (rs : List Rec) → Sized record_bytes rs → all (names_not (identity x)) (map (moved p) rs) ≡ all (names_not (identity x)) rs
  unfolding all
  same_names x [] none_left = refl
  same_names x (r ∷ rs) (e and s) = rw (identity_moved p r e, same_names x rs s)

  pub same_distinct : (rs : List Rec) → Sized record_bytes rs → distinct (map (moved p) rs) ≡ distinct rs
  unfolding distinct
  same_distinct [] none_left = refl
  same_distinct (r ∷ rs) (e and s) = rw (identity_moved p r e, same_names r rs s, same_distinct rs s)
