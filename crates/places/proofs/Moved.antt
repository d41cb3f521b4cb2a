-- The limits of an offset: a range keeps its rules and stays, moved by the offset's pages, exactly when it lies between them. Assumes nothing.
use Rattle.std.proofs.Common.{◌≡◌, refl, sym, ◌∙◌, Bool, true, false, ◌&&◌, ℕ, zero, suc, ◌+◌, ◌-◌, ◌*◌, ◌^◌, ◌≤◌, ◌<◌, leb, ltb, ℤ, pos, nat_abs, negsuc, ◌+ℤ◌, cond, Some, None, arith, if◌then◌else◌}
use Rattle.std.specs.Int.Signed.{mag, quot_z}
use borrow.Author.Tests.{leb-true, le-leb, lt-leb, ltb-true, ltb-false}
use lib.Dec.{leb-zero}
use lib.Signed.{lt_z}
use Rattle.rules.specs.Bytes.{every, zeros}
use Rattle.rules.specs.Lock.{page_bytes, signed, whole_pages, fitted, shifted, stays, all_stay}
use Rattle.rules.specs.Range.{most_ranges, range_bytes, pages_end, pages_ok, all_pages, all_attributes, never_fall, ids_of}
use Rattle.rules.specs.Record.{Rec, ranges_place, range_count, range_of, ranges_ok, offset_ok}
use Rattle.rules.specs.declared.Range.{Range}
use Rattle.rules.proofs.Bools.{clash, and_false, same_order}
use Rattle.rules.proofs.Every.{every_same, every_at, every_true}
use Rattle.rules.proofs.Ranges.{range_end, pages_ok_lem}
use Rattle.places.specs.Limits.{inside, all_inside, ranges_keep, places_keep}

-- ---- one range, moved by so many pages

stays_if : (b : Bool) (page : ℕ) → stays (if b then Some page else None) ≡ b
stays_if true page = refl
stays_if false page = refl

-- moved up by q pages, it stays where it ends q pages below the end
up : (first pages q : ℕ) → q ≤ pages_end → stays (fitted (pos first +ℤ pos q) pages) ≡ leb (first + pages) (pages_end - q)
up first pages q h =
    stays_if (leb (first + q + pages) pages_end) (first + q)
    ∙ same_order (first + q + pages) pages_end (first + pages) (pages_end - q) (λ l. omega arith) (λ l. omega arith)

-- moved down by m + 1 pages, it stays where it starts at page m + 1 or later
down : (first pages m : ℕ) → first + pages ≤ pages_end → stays (fitted (pos first +ℤ negsuc m) pages) ≡ leb (suc m) first
down first pages m h = by (ltb first (suc m)) refl
  where
    by : (b : Bool) → ltb first (suc m) ≡ b → stays (fitted (cond b (negsuc (suc m - suc first)) (pos (first - suc m))) pages) ≡ leb (suc m) first
    by true e = let l = ltb-true first (suc m) e in sym (lt-leb (suc m) first l)
    by false e =
        let l = ltb-false first (suc m) e in
        stays_if (leb (first - suc m + pages) pages_end) (first - suc m) ∙ le-leb (first - suc m + pages) pages_end (omega arith) ∙ sym (le-leb (suc m) first l)

-- its own rules, joined with its stay
joined : (one end stay near low : Bool) → (near ≡ true → end ≡ true) → stay ≡ near → low ≡ true → one && near && low ≡ one && end && stay
joined one end stay true low f p q = rw (f refl, p, q)
joined one end stay false low f p q = grind arith

-- the limits of a number of pages
abbrev pub low : ℤ → ℕ
low (pos q) = 0
low (negsuc m) = suc m

abbrev pub top : ℤ → ℕ
top (pos q) = pages_end - q
top (negsuc m) = pages_end

module _ (range : Range) where
  abbrev ruled : ℤ → Bool
  ruled z = pages_ok range && stays (fitted (pos range.first +ℤ z) range.pages)

  inside_moved : (z : ℤ) → mag z ≤ 2 ^ 51 → inside (low z) (top z) range ≡ ruled z
  unfolding inside pages_ok
  inside_moved (pos q) h =
      let first = range.first in
      let pages = range.pages in
      joined
      (leb 1 pages)
      (leb (first + pages) pages_end)
      (stays (fitted (pos first +ℤ pos q) pages))
      (leb (first + pages) (pages_end - q))
      (leb 0 first)
      (λ e. let l = leb-true (first + pages) (pages_end - q) e in le-leb (first + pages) pages_end (omega arith))
      (up first pages q (omega arith))
      (leb-zero first)
  inside_moved (negsuc m) h = by (leb (range.first + range.pages) pages_end) refl
    where
      by : (b : Bool) → leb (range.first + range.pages) pages_end ≡ b
          → leb 1 range.pages && b && leb (suc m) range.first ≡ leb 1 range.pages && b && stays (fitted (pos range.first +ℤ negsuc m) range.pages)
      by true e = rw (down range.first range.pages m (leb-true (range.first + range.pages) pages_end e))
      by false e = rw (and_false (leb 1 range.pages))

-- ---- a record's ranges

-- tests of each of n ranges, joined
exchange : (a b c d : Bool) → a && b && (c && d) ≡ a && c && (b && d)
exchange a b c d = grind arith

every_and : (n : ℕ) (p q : ℕ → Bool) → every n (λ k. p k && q k) ≡ every n p && every n q
unfolding every
every_and zero p q = refl
every_and (suc n) p q = rw (every_and n p q) (exchange (every n p) (every n q) (p n) (q n))

-- the whole told first, the stay told last
last : (whole count pages stay attributes falls rest : Bool) → whole && (count && (pages && stay && attributes && falls) && rest) ≡ count && (pages && attributes && falls && rest) && (whole && stay)
last whole count pages stay attributes falls rest = grind arith

lowers : (r : Rec) (z : ℤ) → lt_z z (pos 0) ≡ false → places_keep (low z) (top z) r ≡ places_keep 0 (pages_end - nat_abs z) r
lowers r (pos q) e = refl
lowers r (negsuc m) e = clash e

raises : (r : Rec) (z : ℤ) → lt_z z (pos 0) ≡ true → places_keep (low z) (top z) r ≡ places_keep (nat_abs z) pages_end r
raises r (pos q) e = let h : q < 0 = ltb-true q 0 e in absurd (omega arith)
raises r (negsuc m) e = refl

module _ (r : Rec) (x : ℕ) where
  abbrev n : ℕ
  n = range_count r

  abbrev stay : Bool
  stay = all_stay (signed x) n (range_of r)

  -- the offset's pages
  abbrev z : ℤ
  z = quot_z (signed x) (pos page_bytes)

  module _ (small : mag z ≤ 2 ^ 51) where
    each : (range : Range) → inside (low z) (top z) range ≡ pages_ok range && stays (shifted (signed x) range)
    unfolding shifted
    each range = inside_moved range z small

    all_ruled : all_inside (low z) (top z) n (range_of r) ≡ all_pages n (range_of r) && stay
    unfolding all_inside
    all_ruled =
        every_same n (λ k. inside (low z) (top z) (range_of r k)) (λ k. pages_ok (range_of r k) && stays (shifted (signed x) (range_of r k))) (λ k l. each (range_of r k))
        ∙ every_and n (λ k. pages_ok (range_of r k)) (λ k. stays (shifted (signed x) (range_of r k)))

    -- the count, the ranges and the lock's rule
    pub judged_by : leb n most_ranges && ranges_ok r && offset_ok r x ≡ whole_pages (signed x) && places_keep (low z) (top z) r
    unfolding places_keep ranges_keep ranges_ok offset_ok
    judged_by =
        sym
        (rw all_ruled
        (last (whole_pages (signed x)) (leb n most_ranges) (all_pages n (range_of r)) stay (all_attributes n (range_of r)) (never_fall n (ids_of (range_of r))) (zeros r (ranges_place + n * range_bytes) 199)))

    -- so that not below zero it lowers the end,
    pub end_lowered : whole_pages (signed x) ≡ true → lt_z z (pos 0) ≡ false → leb n most_ranges && ranges_ok r && offset_ok r x ≡ places_keep 0 (pages_end - nat_abs z) r
    end_lowered w h = judged_by ∙ rw w (lowers r z h)

    -- and below zero it raises the start
    pub start_raised : whole_pages (signed x) ≡ true → lt_z z (pos 0) ≡ true → leb n most_ranges && ranges_ok r && offset_ok r x ≡ places_keep (nat_abs z) pages_end r
    start_raised w h = judged_by ∙ rw w (raises r z h)

-- an offset of zero moves no range
stay_unmoved : (range : Range) → pages_ok range ≡ true → stays (shifted (signed 0) range) ≡ true
unfolding shifted
stay_unmoved range e = up range.first range.pages 0 (omega arith) ∙ le-leb (range.first + range.pages) pages_end (range_end range e)

pub unmoved : (r : Rec) → ranges_ok r ≡ true → offset_ok r 0 ≡ true
unfolding offset_ok
unmoved r ok = every_true _ (range_count r) (λ k l. stay_unmoved (range_of r k) (every_at _ (range_count r) k (pages_ok_lem r ok) l))
