-- A record's ranges, judged in one pass: each lies between limits, their attributes are gathered, and their IDs never fall. Assumes nothing.
use Rattle.std.proofs.Common.{◌≡◌, refl, sym, ap, ◌∙◌, Bool, true, false, not, ◌&&◌, ℕ, ◌+◌, ◌/◌, ◌%◌, ◌^◌, ◌≤◌, ◌<◌, eqb, leb, add-one, arith, if◌then◌else◌}
use native.Mathlib.Nat.{le_antisymm}
use borrow.Author.Tests.{eqb-true, eqb-false, ne_eqb}
use lib.Bits.{bit_or, or_zero_l, or_add_and, and_le_r, or_shr, or_mod}
use Rattle.rules.specs.Bytes.{bits, every}
use Rattle.rules.specs.Range.{attributes_ok, all_attributes, never_fall, ids_of}
use Rattle.rules.specs.declared.Range.{Range}
use Rattle.rules.proofs.Bools.{and_true, and_false}
use Rattle.rules.proofs.Every.{every_next, every_stop}
use Rattle.ranges.proofs.Falls.{StandsFor, none_yet, no_fall_yet, falls, no_fall_lem, one_more}
use Rattle.places.specs.Limits.{inside, all_inside, ranges_keep}

-- ---- attributes, gathered

none_of_two : (a b : ℕ) → eqb (bit_or a b) 0 ≡ eqb a 0 && eqb b 0
none_of_two a b = by (eqb a 0) refl
  where
    by : (t : Bool) → eqb a 0 ≡ t → eqb (bit_or a b) 0 ≡ t && eqb b 0
    by true e = rw (eqb-true a 0 e, or_zero_l b)
    by false e =
        let some = eqb-false a 0 e in
        ne_eqb (bit_or a b) 0 (λ (z : bit_or a b ≡ 0). some (omega (arith, or_add_and a b, and_le_r a b)))

-- bits 15:4 of what was gathered are zero
abbrev pub clean : ℕ → Bool
clean attributes = eqb (bits 15 4 attributes) 0

clean_or : (a b : ℕ) → clean (bit_or a b) ≡ clean a && clean b
clean_or a b = rw (or_shr a b 4, or_mod (a / 2 ^ 4) (b / 2 ^ 4) 12) (none_of_two (a / 2 ^ 4 % 2 ^ 12) (b / 2 ^ 4 % 2 ^ 12))

-- ---- n ranges, in one pass between two limits

module _ (low top : ℕ) (ranges : ℕ → Range) where
  -- what is known where k of them are passed
  pub record Passed (k gathered least : ℕ) : Type 0 where
    pub within : true ≡ all_inside low top k ranges
    pub attributes : clean gathered ≡ all_attributes k ranges
    pub falls_not : true ≡ never_fall k (ids_of ranges)
    pub stands : StandsFor (ids_of ranges) least k

  pub none_passed : Passed 0 0 0
  unfolding all_inside every
  none_passed = record { within = refl; attributes = refl; falls_not = no_fall_yet (ids_of ranges); stands = none_yet (ids_of ranges) }

  -- range k is x, and b tells whether it lies inside
  module _ (k gathered least : ℕ) (x : Range) (here : x ≡ ranges k) (passed : Passed k gathered least) (b : Bool) (told : b ≡ inside low top x) where
    test : b ≡ inside low top (ranges k)
    test = told ∙ ap (inside low top) here

    id : x.id ≡ ids_of ranges k
    id = ap (λ (y : Range). y.id) here

    pub outside : (n : ℕ) → k < n → not b ≡ true → false ≡ ranges_keep low top n ranges
    unfolding ranges_keep all_inside
    outside n l e = rw (← every_stop (λ i. inside low top (ranges i)) n k l test e)

    pub id_falls : (n : ℕ) → k < n → x.id < least → false ≡ ranges_keep low top n ranges
    unfolding ranges_keep
    id_falls n l h = sym (rw (← falls (ids_of ranges) k x.id id n least passed.stands l h) (and_false (all_inside low top n ranges && all_attributes n ranges)))

    attributes_next : clean (bit_or gathered x.attributes) ≡ all_attributes (k + 1) ranges
    unfolding every attributes_ok
    attributes_next = rw (add-one, ← here, ← passed.attributes) (clean_or gathered x.attributes)

    within_next : not b ≡ false → true ≡ all_inside low top (k + 1) ranges
    unfolding all_inside
    within_next e = every_next _ k passed.within test e

    pub one_passed : (next : ℕ) → not b ≡ false → least ≤ x.id → next ≡ (if leb x.id 7 then x.id else least) → Passed (k + 1) (bit_or gathered x.attributes) next
    one_passed next e l n =
        record { within = within_next e; attributes = attributes_next; falls_not = no_fall_lem (ids_of ranges) k x.id id least passed.stands l passed.falls_not; stands = one_more (ids_of ranges) k x.id id passed.stands l n }

  pub all_passed : (n k gathered least : ℕ) → k ≤ n → n ≤ k → Passed k gathered least → clean gathered ≡ ranges_keep low top n ranges
  unfolding ranges_keep
  all_passed n k gathered least l m passed = sym (rw (← le_antisymm l m, ← passed.within, ← passed.falls_not, passed.attributes) (and_true (all_attributes k ranges)))
