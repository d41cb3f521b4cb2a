-- How many digits a number's text has: as many as the number takes, or those that were asked for, up to 16. Assumes nothing.
use Rattle.std.proofs.Common.{◌≡◌, refl, ap, subst, ◌∙◌, Bool, true, false, cond, List, [], ◌∷◌, ◌++◌, ℕ, zero, suc, ◌+◌, ◌-◌, ◌*◌, ◌/◌, ◌%◌, ◌^◌, ◌≤◌, ◌<◌, min, max, length, eqb, codes}
use native.Mathlib.Omega.{arith}
use native.Mathlib.Nat.{pow-suc, pow-le-pow_right}
use borrow.Author.Tests.{eq-eqb, eqb-true, eqb-false}
use Rattle.io.specs.Digits.{IsDigitCount}
use lib.ListN.{length-append, length-replicate}
use Rattle.std.specs.Fmt.{digits, digits_onto, digit_glyph, char_count, padded_integral}
use Rattle.compare.specs.Form.{padded}
use Rattle.show.specs.Forms.{number}

-- one digit more than the number without its last
one_more : (n c : ℕ) → (n / 16 ≡ 0 → ⊥) → IsDigitCount 16 1 (n / 16) c → IsDigitCount 16 1 n (suc c)
one_more n zero big d = absurd (omega (arith, d.0))
one_more n (suc zero) big d = (omega arith, omega (arith, d.1), λ h. omega (arith, big))
one_more n (suc (suc j)) big d =
    let all : 16 ^ suc (suc (suc j)) ≡ 16 ^ suc (suc j) * 16 = pow-suc 16 (suc (suc j)) in
    let most : 16 ^ suc (suc j) ≡ 16 ^ suc j * 16 = pow-suc 16 (suc j) in
    let less : suc (suc j) - 1 ≡ suc j = omega arith in
    let least : 16 ^ suc j ≤ n / 16 = subst (λ (i : ℕ). 16 ^ i ≤ n / 16) less (d.2 (omega arith)) in
    let same : suc (suc j) ≡ suc (suc (suc j)) - 1 = omega arith in
    let low : 16 ^ suc (suc j) ≤ n = omega (arith, least, most) in
    (omega arith, omega (arith, d.1, all), λ h. subst (λ (i : ℕ). 16 ^ i ≤ n) same low)

-- what stands before so many more is as many digits as n takes
abbrev Counted : ℕ → ℕ → ℕ → Type 0
Counted n a l = (c : ℕ) × (l ≡ c + a) × IsDigitCount 16 1 n c

last : (n a : ℕ) → n / 16 ≡ 0 → Counted n a (suc a)
last n a none = (1, omega arith, (omega arith, omega (arith, none), λ h. absurd (omega arith)))

either : (n a : ℕ) (t : Bool) (xs ys : List ℕ) → eqb (n / 16) 0 ≡ t → length xs ≡ suc a → Counted (n / 16) (suc a) (length ys) → Counted n a (length (cond t xs ys))
either n a true xs ys e one rest = rw one (last n a (eqb-true _ _ e))
either n a false xs ys e one rest = (suc rest.0, omega (arith, rest.1), one_more n rest.0 (eqb-false _ _ e) rest.2)

counted : (k n : ℕ) (acc : List ℕ) → n < 16 ^ suc k → Counted n (length acc) (length (digits_onto (suc k) 16 false n acc))
counted zero n acc small =
    let none : n / 16 ≡ 0 = omega (arith, small) in
    rw (eq-eqb _ 0 none) (last n (length acc) none)
counted (suc k) n acc small =
    either n (length acc) (eqb (n / 16) 0) _ _ refl refl (counted k (n / 16) (digit_glyph false (n % 16) ∷ acc) (omega (arith, small, pow-suc 16 (suc k))))

-- a number's digits are as many as it takes
digits_counted : (n : ℕ) → n < 2 ^ 64 → IsDigitCount 16 1 n (length (digits 16 false n))
unfolding digits
digits_counted n small =
    let c = counted 63 n [] (omega (arith, small)) in
    subst (λ (k : ℕ). IsDigitCount 16 1 n k) (omega (arith, c.1)) c.2

-- zeros before them up to a width
length_padded : (width n : ℕ) → length (padded width n) ≡ max width (length (digits 16 false n))
unfolding padded_integral char_count
length_padded width n = simp (length-append, length-replicate) (omega arith)

-- the digits, which an h follows
pub number_length : (width n : ℕ) → n < 2 ^ 64 → (k : ℕ) × (length (number width n) ≡ k + 1) × IsDigitCount 16 (min (max width 1) 16) n k
number_length width n small =
    let d = digits_counted n small in
    let l = length (digits 16 false n) in
    let k = max (min width 16) l in
    let more : 16 ^ l ≤ 16 ^ k = pow-le-pow_right (omega arith) (omega arith) in
    let fewest : min (max width 1) 16 < k → 16 ^ (k - 1) ≤ n = λ h. subst (λ (i : ℕ). 16 ^ (i - 1) ≤ n) {x = l} {y = k} (omega arith) (d.2 (omega arith)) in
    (k, omega (arith, length-append (padded (min width 16) n) (codes "h"), length_padded (min width 16) n), (omega (arith, d.0), omega (arith, d.1, more), fewest))
