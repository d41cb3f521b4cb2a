-- The division by 4096 is exact, and a multiple of 4096 is an 8-byte number. Assumes nothing.
use mathlib.Core.Path.{◌≡◌, refl, sym, ap, ◌∙◌}
use mathlib.Core.Bool.{Bool, true, false}
use Prim.Native.Nat.{ℕ, zero, suc, ◌-◌, ◌*◌, ◌/◌, ◌%◌, ◌^◌, ◌<◌}
use native.Mathlib.Omega.{arith}
use borrow.Author.Tests.{le-ltb, ltb-true, ltb-false, eqb-true}
use lib.Dec.{ltb}
use lib.IntN.{ℤ, pos, negsuc, neg_ℤ, nat_abs, ◌*ℤ◌}
use lib.Signed.{quot_z}
use Rattle.rules.specs.Lock.{page_bytes, signed, whole_pages}
use Rattle.rules.proofs.Bools.{clash}

times : (n : ℕ) → neg_ℤ (pos n) *ℤ pos page_bytes ≡ neg_ℤ (pos (n * page_bytes))
times zero = refl
times (suc n) = refl

whole : (z : ℤ) → nat_abs z % page_bytes ≡ 0 → quot_z z (pos page_bytes) *ℤ pos page_bytes ≡ z
whole (pos a) e = ap pos (omega arith)
whole (negsuc a) e = times (suc a / page_bytes) ∙ ap (λ (n : ℕ). neg_ℤ (pos n)) {x = suc a / page_bytes * page_bytes} {y = suc a} (omega arith)

-- 4096 times the quotient of a multiple is the offset again, below zero too
pub exact : (z : ℤ) → whole_pages z ≡ true → quot_z z (pos page_bytes) *ℤ pos page_bytes ≡ z
exact z e = whole z (eqb-true (nat_abs z % page_bytes) 0 e)

-- a number of more than 8 bytes counts as -1, which is no multiple
pub fits : (x : ℕ) → whole_pages (signed x) ≡ true → x < 2 ^ 64
fits x e = by (ltb x (2 ^ 64)) refl
  where
    by : (b : Bool) → ltb x (2 ^ 64) ≡ b → x < 2 ^ 64
    by true l = ltb-true x (2 ^ 64) l
    by false l =
        let above = ltb-false x (2 ^ 64) l in
        let below : 2 ^ 64 - 1 - x ≡ 0 = omega arith in
        let counted : whole_pages (signed x) ≡ false = rw (le-ltb x (2 ^ 63) (omega arith), below) in
        clash (sym e ∙ counted)
