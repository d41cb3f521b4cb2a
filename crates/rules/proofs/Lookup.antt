-- What a lookup finds, exactly. Assumes nothing.
use Rattle.std.specs.Prelude.{if◌then◌else◌, None, Some}
use mathlib.Core.Path.{◌≡◌, refl, sym, ap, ◌∙◌}
use mathlib.Core.Bool.{Bool, true, false, not, ◌&&◌}
use mathlib.Core.List.{List, [], ◌∷◌}
use Prim.Native.Nat.{ℕ, zero, suc, ◌+◌, ◌<◌}
use native.Mathlib.Nat.{le_of_suc-le-suc, not-suc-le-zero}
use native.Mathlib.Omega.{arith}
use borrow.Author.Tests.{not-true}
use lib.ListN.{length, get_or}
use Rattle.rules.specs.Record.{Rec}
use Rattle.rules.specs.Table.{all, names, names_not, find_from, find, nothing}
use Rattle.rules.specs.declared.Identity.{Identity}
use Rattle.rules.proofs.Bools.{and_left, and_right}

-- a test of every record, at one of them
pub all_at : (p : Rec → Bool) (rs : List Rec) (k : ℕ) → all p rs ≡ true → k < length rs → p (get_or rs k []) ≡ true
unfolding all
all_at p [] k e h = absurd (not-suc-le-zero h)
all_at p (r ∷ rs) zero e h = and_left (p r) (all p rs) e
all_at p (r ∷ rs) (suc k) e h = all_at p rs k (and_right (p r) (all p rs) e) (le_of_suc-le-suc h)

-- the record at place k is for that interface, and none before it
pub record Is (who : Identity) (rs : List Rec) (k : ℕ) : Type 0 where
  pub within : k < length rs
  pub here : names who (get_or rs k []) ≡ true
  pub none_before : (j : ℕ) → j < k → names who (get_or rs j []) ≡ false

module _ (who : Identity) where
  -- one record more at the front
  none_before_next : (r : Rec) (rs : List Rec) (k : ℕ) → names who r ≡ false → ((j : ℕ) → j < k → names who (get_or rs j []) ≡ false)
      → (j : ℕ) → j < suc k → names who (get_or (r ∷ rs) j []) ≡ false
  none_before_next r rs k p f zero h = p
  none_before_next r rs k p f (suc j) h = f j (le_of_suc-le-suc h)

  -- found at place k, counted from n: k is n and some more, and that is where the record stands
  found_from : (n k : ℕ) (rs : List Rec) → find_from n who rs ≡ Some k → (j : ℕ) × ((k ≡ n + j) × Is who rs j)
  unfolding find_from
  found_from n k [] e = let z : ◌≡◌ {A = ℕ} 0 1 = cc in absurd (omega arith)
  found_from n k (r ∷ rs) e = by (names who r) refl e (found_from (suc n) k rs)
    where
      by : (t : Bool) → names who r ≡ t → (if t then Some n else find_from (suc n) who rs) ≡ Some k
          → (find_from (suc n) who rs ≡ Some k → (j : ℕ) × ((k ≡ suc n + j) × Is who rs j))
          → (j : ℕ) × ((k ≡ n + j) × Is who (r ∷ rs) j)
      by true p q ih =
          let z : n ≡ k = cc in
          (0, (omega arith, record { within = omega arith; here = p; none_before = λ j h. absurd (not-suc-le-zero h) }))
      by false p q ih =
          let (j, (z, is)) = ih q in
          (suc j, (omega arith, record { within = omega arith; here = is.here; none_before = none_before_next r rs j p is.none_before }))

  -- a lookup that finds a place is right
  pub find_at : (k : ℕ) (rs : List Rec) → find who rs ≡ Some k → Is who rs k
  find_at k rs e =
      let (j, (z, is)) = found_from 0 k rs e in
      let same_place : j ≡ k = omega arith in
      rw same_place at is

-- a lookup finds nothing where no record is for the interface,
pub nothing_all : (k : ℕ) (who : Identity) (rs : List Rec) → nothing (find_from k who rs) ≡ all (names_not who) rs
unfolding find_from all
nothing_all k who [] = refl
nothing_all k who (r ∷ rs) = by (names who r) (nothing_all (suc k) who rs)
  where
    by : (t : Bool) → nothing (find_from (suc k) who rs) ≡ all (names_not who) rs
        → nothing (if t then Some k else find_from (suc k) who rs) ≡ (not t && all (names_not who) rs)
    by true ih = refl
    by false ih = ih

-- so one that finds nothing is right
pub find_nothing : (who : Identity) (rs : List Rec) → find who rs ≡ None → (k : ℕ) → k < length rs → names who (get_or rs k []) ≡ false
find_nothing who rs e k h = not-true _ (all_at (names_not who) rs k (sym (nothing_all 0 who rs) ∙ ap nothing e) h)
