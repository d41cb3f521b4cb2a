-- A number read digit by digit. Assumes nothing.
use Rattle.std.proofs.Common.{◌≡◌, ℕ, ◌+◌, ◌<◌, ◌≤◌, List, length, get_or, drop, add-one, drop-cons, drop_of_length-le, Ok, Option, Some, None, SomeIff, arith}
use Rattle.std.specs.Char.{digit_value}
use Rattle.std.proofs.lemmas.Bool.Decides.{nat_tests}
use Rattle.script.specs.Digits.{◌>>=◌, digit_of, with_digit, spelled}
use Rattle.script.specs.declared.digits.Wrong.{Wrong}

-- the digit at a place, and those after it
pub spelled_more : (base most : ℕ) (wrong : Wrong) (value i : ℕ) (s : List ℕ) → i < length s
    → spelled base most wrong value (drop i s) ≡ (with_digit base most wrong value (digit_of (get_or s i 0)) >>= λ more. spelled base most wrong more (drop (i + 1) s))
unfolding spelled
spelled_more base most wrong value i s h = rw (drop-cons s i 0 h, add-one)

-- no digit is left
pub spelled_all : (base most : ℕ) (wrong : Wrong) (value i : ℕ) (s : List ℕ) → length s ≤ i → spelled base most wrong value (drop i s) ≡ Ok value
unfolding spelled
spelled_all base most wrong value i s h = rw (drop_of_length-le s h)

-- what the library's digits are worth
pub digit_is : (c : ℕ) (r : Option ℕ) → SomeIff r (digit_value c < 16) (digit_value c) → r ≡ digit_of c
unfolding digit_of
digit_is c None h = grind (arith, nat_tests)
digit_is c (Some d) h = grind (arith, nat_tests)
