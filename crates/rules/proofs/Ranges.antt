-- What ranges that keep their rules tell. Assumes nothing.
use mathlib.Core.Path.{◌≡◌, ap, ◌∙◌}
use mathlib.Core.Bool.{Bool, true, ◌&&◌}
use mathlib.Core.List.{List}
use Prim.Native.Nat.{ℕ, ◌+◌, ◌*◌, ◌≤◌, ◌<◌}
use native.Mathlib.Omega.{arith}
use borrow.Author.Tests.{leb-true}
use lib.Dec.{leb}
use lib.IntN.{ℤ}
use lib.ListN.{length}
use Rattle.rules.specs.Bytes.{zeros}
use Rattle.rules.specs.Lock.{shifted, stays, all_stay}
use Rattle.rules.specs.Range.{range_bytes, pages_end, eight_ranges, range_in, pages_ok, attributes_ok, all_pages, all_attributes, never_fall, ids_of}
use Rattle.rules.specs.Record.{Rec, ranges_place, range_count, range_of, ranges_ok}
use Rattle.rules.specs.declared.Range.{Range}
use Rattle.rules.proofs.Bools.{and_left, and_right}
use Rattle.rules.proofs.Listed.{eight_at}
use Rattle.rules.proofs.Every.{every_at, every_same}

-- a range ends where the pages end or before
pub range_end : (x : Range) → pages_ok x ≡ true → x.first + x.pages ≤ pages_end
unfolding pages_ok
range_end x e = leb-true _ _ (and_right (leb 1 x.pages) _ e)

pub range_start : (x y : Range) → x ≡ y → pages_ok y ≡ true → x.first ≤ pages_end
range_start x y p e = let h = range_end x (ap pages_ok p ∙ e) in omega arith

-- ranges read into eight places
pub range_read : (ranges : List Range) (n : ℕ) (f : ℕ → Range) → ranges ≡ eight_ranges n f → (k : ℕ) → k < n → range_in ranges k ≡ f k
range_read ranges n f e k h = rw e (eight_at n k f h)

-- ---- ranges that agree below n

module _ (n : ℕ) (p q : ℕ → Range) (same : (k : ℕ) → k < n → p k ≡ q k) where
  pub pages_agree : all_pages n p ≡ all_pages n q
  pages_agree = every_same n _ _ (λ k l. ap pages_ok (same k l))

  pub attributes_agree : all_attributes n p ≡ all_attributes n q
  attributes_agree = every_same n _ _ (λ k l. ap attributes_ok (same k l))

  id_same : (k : ℕ) → k < n → (p k).id ≡ (q k).id
  id_same k l = ap (λ (x : Range). x.id) (same k l)

  pub ids_agree : never_fall n (ids_of p) ≡ never_fall n (ids_of q)
  unfolding never_fall
  ids_agree = every_same n _ _ (λ j l. every_same j _ _ (λ k m. rw (id_same j l, id_same k (omega arith))))

  pub stay_agree : (z : ℤ) → all_stay z n p ≡ all_stay z n q
  stay_agree z = every_same n _ _ (λ k l. ap (λ (x : Range). stays (shifted z x)) (same k l))

pub pages_at : (ranges : List Range) (k : ℕ) → all_pages (length ranges) (range_in ranges) ≡ true → k < length ranges → pages_ok (range_in ranges k) ≡ true
pages_at ranges k e h = every_at _ (length ranges) k e h

-- ---- a record's ranges

-- each of a record's ranges keeps its rules
module _ (r : Rec) (ok : ranges_ok r ≡ true) where
  abbrev n : ℕ
  n = range_count r

  abbrev pages : Bool
  pages = all_pages n (range_of r)

  abbrev attributes : Bool
  attributes = all_attributes n (range_of r)

  abbrev falls : Bool
  falls = never_fall n (ids_of (range_of r))

  tests : pages && attributes && falls ≡ true
  unfolding ranges_ok
  tests = and_left (pages && attributes && falls) (zeros r (ranges_place + n * range_bytes) 199) ok

  pub pages_ok_lem : pages ≡ true
  pages_ok_lem = and_left pages attributes (and_left (pages && attributes) falls tests)

  pub attributes_ok_lem : attributes ≡ true
  attributes_ok_lem = and_right pages attributes (and_left (pages && attributes) falls tests)

  pub ids_ok : falls ≡ true
  ids_ok = and_right (pages && attributes) falls tests
