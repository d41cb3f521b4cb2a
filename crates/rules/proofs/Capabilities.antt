-- In the capabilities' sixteen mask bytes, bit n is code 80h + n: it is set exactly for the listed requests. Assumes nothing.
use mathlib.Core.Path.{◌≡◌, refl, sym}
use mathlib.Core.Bool.{Bool, true, false, not}
use Prim.Native.Nat.{ℕ, ◌+◌, ◌/◌, ◌%◌, ◌<◌}
use lib.Dec.{eqb}
use Rattle.rules.specs.Bytes.{byte, bytes_of, bit_set, every}
use Rattle.rules.specs.Request.{exact_length, capabilities}
use Rattle.rules.proofs.Bools.{clash}
use Rattle.rules.proofs.Every.{every_at}

-- bit n of the mask, which stands behind DSM_CAPS
abbrev supports : ℕ → Bool
supports n = bit_set (n % 8) (byte capabilities (4 + n / 8))

-- code 80h + n is listed
abbrev lists : ℕ → Bool
lists n = not (eqb (exact_length (0x80 + n)) 0)

abbrev agree : Bool → Bool → Bool
agree true b = b
agree false b = not b

agreed : (a b : Bool) → agree a b ≡ true → a ≡ b
agreed true true e = refl
agreed true false e = clash (sym e)
agreed false true e = clash (sym e)
agreed false false e = refl

all_agree : every 128 (λ n. agree (supports n) (lists n)) ≡ true
unfolding every exact_length bytes_of
all_agree = refl

pub code_bit : (n : ℕ) → n < 128 → supports n ≡ lists n
code_bit n h = agreed (supports n) (lists n) (every_at (λ k. agree (supports k) (lists k)) 128 n all_agree h)
