-- Eight ranges of which n count, and 52 bytes of which l count. Assumes nothing.
use mathlib.Core.Path.{◌≡◌, refl, ap, ◌∙◌}
use mathlib.Core.List.{List, [], ◌∷◌, ◌++◌, append_assoc}
use mathlib.Core.Logic.{⊎_elim}
use Prim.Native.Nat.{ℕ, zero, suc, ◌+◌, ◌-◌, ◌≤◌, ◌<◌}
use native.Mathlib.Nat.{zero-add, suc-sub-suc, le_of_suc-le-suc, not-suc-le-zero, eq-or-lt_of_le, sub-zero}
use native.Mathlib.Numerals.{add-one}
use native.Mathlib.Omega.{arith}
use lib.ListN.{length, take, drop, get_or, set, replicate, length-append, length-replicate, get_or-append}
use lib.Seq.{set_at, get_or_at, get_or-append-add, length-take-le}
use Rattle.rules.specs.Bytes.{Bytes, blank, part, over}
use Rattle.rules.specs.Range.{most_ranges, zero_range, listed, eight_ranges}
use Rattle.rules.specs.Record.{most_information}
use Rattle.rules.specs.Report.{information_from}
use Rattle.rules.specs.declared.Range.{Range}
use Rattle.rules.proofs.Numbers.{bytes_append, bytes_part}
use Rattle.rules.proofs.Parts.{lent_part, length_part}

pub length_listed : {A : Type 0} (n : ℕ) (f : ℕ → A) → length (listed n f) ≡ n
unfolding listed
length_listed zero f = refl
length_listed (suc n) f = rw (length-append, length_listed n f) (omega arith)

-- values that agree below n
pub listed_same : {A : Type 0} (n : ℕ) (p q : ℕ → A) → ((k : ℕ) → k < n → p k ≡ q k) → listed n p ≡ listed n q
unfolding listed
listed_same zero p q h = refl
listed_same (suc n) p q h = rw (listed_same n p q (λ k l. h k (omega arith)), h n (omega arith))

pub listed_at : {A : Type 0} (n k : ℕ) (p : ℕ → A) (d : A) → k < n → get_or (listed n p) k d ≡ p k
unfolding listed
listed_at zero k p d h = absurd (not-suc-le-zero h)
listed_at (suc n) k p d h =
    ⊎_elim
    (λ e. rw e (get_or_at (listed n p) (p n) [] d n (length_listed n p)))
    (λ l. get_or-append (listed n p) (p n ∷ []) d k (omega (arith, length_listed n p)) ∙ listed_at n k p d l)
    (eq-or-lt_of_le (le_of_suc-le-suc h))

pub same_at_lem : {A : Type 0} (n k : ℕ) (d : A) → get_or (replicate n d) k d ≡ d
same_at_lem zero k d = refl
same_at_lem (suc n) zero d = refl
same_at_lem (suc n) (suc k) d = same_at_lem n k d

-- a range that counts, and one past those
pub eight_at : (n k : ℕ) (p : ℕ → Range) → k < n → get_or (eight_ranges n p) k zero_range ≡ p k
unfolding eight_ranges
eight_at n k p h =
    get_or-append (listed n p) (replicate (most_ranges - n) zero_range) zero_range k (omega (arith, length_listed n p)) ∙ listed_at n k p zero_range h

pub eight_past : (n k : ℕ) (p : ℕ → Range) → n ≤ k → get_or (eight_ranges n p) k zero_range ≡ zero_range
unfolding eight_ranges
eight_past n k p h =
    let e : k ≡ length (listed n p) + (k - n) = omega (arith, length_listed n p) in
    let rest = replicate (most_ranges - n) zero_range in
    ap (λ (i : ℕ). get_or (listed n p ++ rest) i zero_range) e ∙ get_or-append-add (listed n p) rest (k - n) zero_range ∙ same_at_lem (most_ranges - n) (k - n) zero_range

-- there are eight
pub length_eight : (n : ℕ) (p : ℕ → Range) → n ≤ most_ranges → length (eight_ranges n p) ≡ most_ranges
unfolding eight_ranges
length_eight n p h = rw (length-append, length_listed, length-replicate) (omega arith)

-- and the first n of them are n
pub front_eight : (n : ℕ) (p : ℕ → Range) → n ≤ most_ranges → length (take n (eight_ranges n p)) ≡ n
front_eight n p h = length-take-le n (eight_ranges n p) (rw (length_eight n p h) h)

-- ---- a loop that fills eight ranges: k of them are filled

module _ (f : ℕ → Range) where
  pub eight_none : replicate most_ranges zero_range ≡ eight_ranges 0 f
  unfolding eight_ranges listed
  eight_none = refl

  pub eight_more : (k : ℕ) (x : Range) (ranges : List Range) → k < most_ranges → ranges ≡ eight_ranges k f → x ≡ f k → set ranges k x ≡ eight_ranges (k + 1) f
  unfolding eight_ranges listed
  eight_more k x ranges h p e =
      let left : most_ranges - k ≡ suc (most_ranges - (k + 1)) = omega arith in
      let rest : List Range = replicate (most_ranges - (k + 1)) zero_range in
      rw (p, left, set_at (listed k f) zero_range rest x k (length_listed k f), e, add-one, append_assoc)

-- ---- information copied over zeros

pub drop_blank : (l n : ℕ) → l ≤ n → drop l (blank n) ≡ blank (n - l)
drop_blank zero n h = rw sub-zero
drop_blank (suc l) zero h = absurd (not-suc-le-zero h)
drop_blank (suc l) (suc n) h = rw (suc-sub-suc, drop_blank l n (le_of_suc-le-suc h))

pub information_copied : (s last : List ℕ) (at l : ℕ) → at + l ≤ length s → l ≤ most_information → last ≡ over 0 (take (at + l - at) (drop at s)) (blank most_information)
    → last ≡ information_from s at l
unfolding information_from over
information_copied s last at l h m p =
    rw (p, lent_part at l s, zero-add, length_part s at l h, drop_blank l most_information m)

pub bytes_information : (s : List ℕ) (at l : ℕ) → Bytes s → Bytes (information_from s at l)
unfolding information_from
bytes_information s at l f = bytes_append (part s at l) (blank (most_information - l)) (bytes_part s at l f) (λ i. rw same_at_lem (omega arith))

pub length_information : (s : List ℕ) (at l : ℕ) → l ≤ most_information → at + l ≤ length s → length (information_from s at l) ≡ most_information
unfolding information_from
length_information s at l h m = rw (length-append, length_part s at l m, length-replicate) (omega arith)
