-- A number's bytes as the library has them, lowest first, are those of rules: one law for every width. Assumes nothing.
use Rattle.std.proofs.Common.{◌≡◌, refl, sym, ap, ◌∙◌, List, ℕ, zero, suc, ◌+◌, ◌*◌, ◌/◌, ◌%◌, ◌^◌, mul_comm, add-one, add-zero, zero-add, pow-suc, arith}
use Rattle.std.proofs.Math.Nat.{div-div-eq-div-mul}
use Rattle.std.specs.Int.{byte_worth, byte_at, sum_through, bytes_low_first}
use Rattle.rules.specs.Bytes.{byte, num, bytes_of, part, over}
use Rattle.rules.proofs.Numbers.{num_split, num_part}

worth : (i b : ℕ) → byte_worth i b ≡ 256 ^ i * b
worth zero b = omega arith
worth (suc i) b = mul_comm b (256 ^ suc i)

last_byte : (s : List ℕ) (k : ℕ) → num s k 1 ≡ byte s k
unfolding num
last_byte s k = omega arith

-- the sum of what the bytes are worth
summed : (s : List ℕ) (n : ℕ) → sum_through (λ i. byte_worth i (byte s i)) n ≡ num s 0 (suc n)
summed s zero = omega (arith, last_byte s 0)
summed s (suc n) =
    let split : num s 0 (suc (suc n)) ≡ num s 0 (suc n) + 256 ^ suc n * byte s (suc n) = rw (← add-one (suc n), num_split s 0 (suc n) 1, zero-add, last_byte s (suc n)) in
    rw (summed s n, split, worth (suc n) (byte s (suc n)))

byte_is : (i x : ℕ) → byte_at i x ≡ x / 256 ^ i % 256
byte_is zero x = ap (λ (y : ℕ). y % 256) (omega arith)
byte_is (suc i) x = refl

low_first : (i n x : ℕ) → bytes_low_first i n x ≡ bytes_of n (x / 256 ^ i)
unfolding bytes_of
low_first i zero x = refl
low_first i (suc n) x =
    let next : x / 256 ^ suc i ≡ x / 256 ^ i / 256 = sym (div-div-eq-div-mul x (256 ^ i) 256 ∙ ap (λ (y : ℕ). x / y) (sym (pow-suc 256 i))) in
    rw (byte_is i x, low_first (suc i) n x, next)

-- the bytes that a number is read from, and those that it is written as
pub read_whole : (s : List ℕ) (at n x : ℕ) → x ≡ sum_through (λ i. byte_worth i (byte (part s at (suc n)) i)) n → x ≡ num s at (suc n)
read_whole s at n x e = e ∙ summed (part s at (suc n)) n ∙ rw (add-zero at) at (num_part s at (suc n) 0 (suc n) (omega arith))

pub written_whole : (n x at : ℕ) (ys s t : List ℕ) → ys ≡ bytes_low_first 0 n x → t ≡ over at ys s → t ≡ over at (bytes_of n x) s
written_whole n x at ys s t e f =
    let low : bytes_low_first 0 n x ≡ bytes_of n x = low_first 0 n x ∙ ap (bytes_of n) (omega arith) in
    f ∙ ap (λ (zs : List ℕ). over at zs s) (e ∙ low)
