-- Document 01, "Byte order, said once": every field wider than a byte, in messages, reports and table, is low byte first.
use Rattle.std.specs.Prelude.{Bool, true, ◌&&◌, List, [], ◌∷◌, ◌++◌, ℕ, zero, suc, ◌+◌, ◌-◌, ◌*◌, ◌/◌, ◌%◌, ◌^◌, ◌<◌, eqb, length, take, drop, get_or, replicate}

-- ---- numbers

-- the byte at a place
abbrev pub byte : List ℕ → ℕ → ℕ
byte s at = get_or s at 0

-- every element is a byte, as in a slice of u8. Definitions read lists of any numbers, so that a statement asks this where it needs it.
abbrev pub Bytes : List ℕ → Type 0
Bytes s = (i : ℕ) → byte s i < 256

-- the number in the n bytes from a place on, low byte first
unfoldable pub num : List ℕ → ℕ → ℕ → ℕ
num s at zero = 0
num s at (suc n) = byte s at + 256 * num s (at + 1) n

-- a number as n bytes, low byte first
unfoldable pub bytes_of : ℕ → ℕ → List ℕ
bytes_of zero x = []
bytes_of (suc n) x = x % 256 ∷ bytes_of n (x / 256)

-- bits high to low of a number, as 01 writes 23:16
abbrev pub bits : ℕ → ℕ → ℕ → ℕ
bits high low x = x / 2 ^ low % 2 ^ (high + 1 - low)

-- bit k, 0 or 1
abbrev pub bit : ℕ → ℕ → ℕ
bit k x = x / 2 ^ k % 2

abbrev pub bit_set : ℕ → ℕ → Bool
bit_set k x = eqb (bit k x) 1

abbrev pub bit_clear : ℕ → ℕ → Bool
bit_clear k x = eqb (bit k x) 0

-- ---- parts

-- n zero bytes
abbrev pub blank : ℕ → List ℕ
blank n = replicate n 0

-- the n bytes from a place on
unfoldable pub part : List ℕ → ℕ → ℕ → List ℕ
part s at n = take n (drop at s)

-- bytes with `new` written over what stands from a place on
unfoldable pub over : ℕ → List ℕ → List ℕ → List ℕ
over at new bytes = take at bytes ++ new ++ drop (at + length new) bytes

-- ---- tests

-- p holds of every number below n
unfoldable pub every : ℕ → (ℕ → Bool) → Bool
every zero p = true
every (suc n) p = every n p && p n

abbrev pub zero_at : List ℕ → ℕ → ℕ → Bool
zero_at s first i = eqb (byte s (first + i)) 0

-- the bytes from first to last are zero, both counted, as 01 writes 6-9
unfoldable pub zeros : List ℕ → ℕ → ℕ → Bool
zeros s first last = every (last + 1 - first) (zero_at s first)

-- two runs of bytes are the same
abbrev pub same_at : List ℕ → List ℕ → ℕ → Bool
same_at a b i = eqb (byte a i) (byte b i)

unfoldable pub same_bytes : List ℕ → List ℕ → Bool
same_bytes a b = eqb (length a) (length b) && every (length a) (same_at a b)
