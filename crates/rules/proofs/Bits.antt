-- Masks as bits. One law for every mask: a mask is its list of bits, low bit first. Assumes nothing.
use Prim.Native.Nat.{ℕ, zero, suc, ◌+◌, ◌*◌, ◌/◌, ◌%◌, ◌^◌, ◌<◌, min}
use mathlib.Core.Path.{◌≡◌, refl, sym, ap, ◌∙◌}
use mathlib.Core.Bool.{Bool, true, false, ◌&&◌}
use mathlib.Core.Logic.{◌⊎◌, inl, inr, ⊎_elim}
use mathlib.Core.List.{List, [], ◌∷◌}
use Rattle.std.specs.Int.{from_bool}
use native.Mathlib.Omega.{arith}
use native.Mathlib.Decide.{ℕ_discrete}
use lib.Arith.{bin_ind}
use lib.Bits.{bit_and, and_step, and_shr, and_zero_r}
use lib.Dec.{eqb, eqb-suc-zero}
use lib.Pow.{shr-shr}
use borrow.Author.Tests.{ne_eqb, eq-eqb, eqb-true, eqb-false}
use Rattle.rules.specs.Bytes.{bit, bit_set}
use Rattle.rules.specs.Lock.{contains, supported}

-- the mask's number, and what is left of x under it
abbrev mask : List Bool → ℕ
mask [] = 0
mask (true ∷ bs) = 1 + 2 * mask bs
mask (false ∷ bs) = 2 * mask bs

abbrev under : List Bool → ℕ → ℕ
under [] x = 0
under (true ∷ bs) x = x % 2 + 2 * under bs (x / 2)
under (false ∷ bs) x = 2 * under bs (x / 2)

and_bits : (bs : List Bool) (x m : ℕ) → m ≡ mask bs → bit_and x m ≡ under bs x
and_bits [] x m e = rw e (and_zero_r x)
and_bits (true ∷ bs) x m e = and_step x m ∙ omega (arith, and_bits bs (x / 2) (m / 2) (omega arith))
and_bits (false ∷ bs) x m e = and_step x m ∙ omega (arith, and_bits bs (x / 2) (m / 2) (omega arith))

-- ---- supported: none of bits 1, 3 and 4

three : (p q r : ℕ) → eqb (p * 2 + q * 8 + r * 16) 0 ≡ eqb p 0 && eqb q 0 && eqb r 0
three zero zero zero = refl
three zero zero (suc r) = ne_eqb (0 * 2 + 0 * 8 + suc r * 16) 0 (λ e. omega arith) ∙ sym (eqb-suc-zero r)
three zero (suc q) r = ne_eqb (0 * 2 + suc q * 8 + r * 16) 0 (λ e. omega arith) ∙ sym (simp eqb-suc-zero)
three (suc p) q r = ne_eqb (suc p * 2 + q * 8 + r * 16) 0 (λ e. omega arith) ∙ sym (simp eqb-suc-zero)

pub supported_mask : (x : ℕ) → eqb (bit_and x 26) 0 ≡ supported x
supported_mask x =
    let m : bit_and x 26 ≡ bit 1 x * 2 + bit 3 x * 8 + bit 4 x * 16 =
    and_bits (false ∷ true ∷ false ∷ true ∷ true ∷ []) x 26 refl ∙ omega arith in
    rw m (three (bit 1 x) (bit 3 x) (bit 4 x))

-- ---- contains: every bit of m is a bit of x, and the two flags are bits 0 and 2

low : (a b : ℕ) → bit_and a b % 2 ≡ min (a % 2) (b % 2)
low a b = omega (arith, and_step a b)

pub contains_bit : (k x m : ℕ) → bit_and x m ≡ m → bit k m ≡ 1 → bit k x ≡ 1
contains_bit k x m e h =
    let s : bit_and (x / 2 ^ k) (m / 2 ^ k) % 2 ≡ m / 2 ^ k % 2 = ap (λ (n : ℕ). n % 2) (sym (and_shr x m k)) ∙ ap (bit k) e in
    omega (arith, low (x / 2 ^ k) (m / 2 ^ k), s, h)

odd : (n : ℕ) → n < 2 → (n ≡ 0) ⊎ (n ≡ 1)
odd zero h = inl refl
odd (suc zero) h = inr refl
odd (suc (suc n)) h = absurd (omega arith)

pub contains_all : (m x : ℕ) → ((k : ℕ) → bit k m ≡ 1 → bit k x ≡ 1) → bit_and x m ≡ m
contains_all = bin_ind (λ (m : ℕ). (x : ℕ) → ((k : ℕ) → bit k m ≡ 1 → bit k x ≡ 1) → bit_and x m ≡ m)
    (λ x h. and_zero_r x)
    (λ m ih x h.
    let up : bit_and (x / 2) (m / 2) ≡ m / 2 = ih (x / 2) (λ k e. ap (λ (n : ℕ). n % 2) (shr_one x k) ∙ h (suc k) (sym (ap (λ (n : ℕ). n % 2) (shr_one m k)) ∙ e)) in
    and_step x m ∙ ⊎_elim (λ e. omega (arith, e, up)) (λ e. omega (arith, e, up, h 0 (omega (arith, e)))) (odd (m % 2) (omega arith)))
  where
    shr_one : (n k : ℕ) → n / 2 / 2 ^ k ≡ n / 2 ^ suc k
    shr_one n k = shr-shr n 1 k ∙ ap (λ (j : ℕ). n / 2 ^ j) (omega arith)

-- two tests of equality that hold together
same_test : (a b c d : ℕ) → (a ≡ b → c ≡ d) → (c ≡ d → a ≡ b) → eqb a b ≡ eqb c d
same_test a b c d f g = by (ℕ_discrete a b)
  where
    by : Dec (a ≡ b) → eqb a b ≡ eqb c d
    by (yes p) = eq-eqb a b p ∙ sym (eq-eqb c d (f p))
    by (no n) = ne_eqb a b n ∙ sym (ne_eqb c d (λ q. n (g q)))

pub no_fw_update_bit : (x : ℕ) → contains x 1 ≡ bit_set 0 x
no_fw_update_bit x = same_test (bit_and x 1) 1 (bit 0 x) 1 (λ e. omega (arith, m)) (λ e. omega (arith, m))
  where
    m : bit_and x 1 ≡ x % 2 + 2 * 0
    m = and_bits (true ∷ []) x 1 refl

pub flag_bit : (x : ℕ) → from_bool (contains x 1) ≡ bit 0 x
flag_bit x = rw (no_fw_update_bit x) (by (bit_set 0 x) refl)
  where
    by : (b : Bool) → bit_set 0 x ≡ b → from_bool b ≡ bit 0 x
    by true e = sym (eqb-true (bit 0 x) 1 e)
    by false e = let n : bit 0 x ≡ 1 → ⊥ = eqb-false (bit 0 x) 1 e in omega arith

pub lock_msix_bit : (x : ℕ) → contains x 4 ≡ bit_set 2 x
lock_msix_bit x = same_test (bit_and x 4) 4 (bit 2 x) 1 (λ e. omega (arith, m)) (λ e. omega (arith, m))
  where
    m : bit_and x 4 ≡ bit 2 x * 4
    m = and_bits (false ∷ false ∷ true ∷ []) x 4 refl ∙ omega arith
