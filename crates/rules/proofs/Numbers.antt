-- Numbers low byte first: one law for every width. Assumes nothing.
use mathlib.Core.Path.{◌≡◌, refl, sym, ap, ◌∙◌}
use mathlib.Core.List.{List, [], ◌∷◌, ◌++◌}
use Prim.Native.Nat.{ℕ, zero, suc, ◌+◌, ◌*◌, ◌/◌, ◌%◌, ◌^◌, ◌≤◌, ◌<◌}
use native.Mathlib.Nat.{add_assoc, add-zero, zero-add, one-mul, suc-add, pow-zero, pow-succ', mul_assoc, mod-lt, mod-add-div}
use native.Mathlib.Numerals.{add-one}
use native.Mathlib.Omega.{arith}
use lib.ListN.{length, drop, take, length-drop, get_or-append}
use lib.Seq.{get_or-take, get_or-drop, drop-cons, get_or-append-add, take-append-le, drop-append-le}
use Rattle.rules.specs.Bytes.{byte, Bytes, num, bytes_of, part, over}
use Rattle.rules.proofs.Parts.{over_next, part_over, over_part}

power : (m x : ℕ) → 256 ^ suc m * x ≡ 256 * (256 ^ m * x)
power m x = rw (pow-succ', mul_assoc)

power_pos : (m : ℕ) → 0 < 256 ^ m
power_pos zero = omega arith
power_pos (suc m) = omega (arith, power_pos m, power m 1)

-- ---- reading

-- a number of m + n bytes is the m low ones and then the n high ones
pub num_split : (s : List ℕ) (at m n : ℕ) → num s at (m + n) ≡ num s at m + 256 ^ m * num s (at + m) n
unfolding num
num_split s at zero n = simp (zero-add, pow-zero, one-mul, add-zero)
num_split s at (suc m) n =
    let e : at + suc m ≡ at + 1 + m = omega arith in
    rw (suc-add, e) (omega (arith, num_split s (at + 1) m n, power m (num s (at + 1 + m) n)))

-- a number within a part
pub num_part : (s : List ℕ) (b m at n : ℕ) → at + n ≤ m → num (part s b m) at n ≡ num s (b + at) n
unfolding num part
num_part s b m at zero h = refl
num_part s b m at (suc n) h =
    let e : b + at + 1 ≡ b + (at + 1) = omega arith in
    let l : at < m = omega arith in
    rw (get_or-take, get_or-drop, e, num_part s b m (at + 1) n (omega arith))

-- a number fits its width
pub num_lt : (s : List ℕ) (at n : ℕ) → Bytes s → num s at n < 256 ^ n
unfolding num
num_lt s at zero b = omega arith
num_lt s at (suc n) b = omega (arith, b at, num_lt s (at + 1) n b, power n 1)

-- ---- writing

pub length_bytes : (n x : ℕ) → length (bytes_of n x) ≡ n
unfolding bytes_of
length_bytes zero x = refl
length_bytes (suc n) x = ap suc (length_bytes n (x / 256))

-- m low bytes and then n high ones are a number of m + n bytes
bytes_join : (m n low high : ℕ) → low < 256 ^ m → bytes_of m low ++ bytes_of n high ≡ bytes_of (m + n) (low + 256 ^ m * high)
unfolding bytes_of
bytes_join zero n low high h =
    let e : low + 256 ^ 0 * high ≡ high = rw (pow-zero, one-mul) (omega arith) in
    rw (zero-add, e)
bytes_join (suc m) n low high h =
    let p = power m high in
    let q = power m 1 in
    let e : (low + 256 ^ suc m * high) % 256 ≡ low % 256 = omega arith in
    let f : (low + 256 ^ suc m * high) / 256 ≡ low / 256 + 256 ^ m * high = omega arith in
    rw (suc-add, e, f, bytes_join m n (low / 256) high (omega arith))

-- the low half of a number written, and then the high half
pub put_halves : (m at x : ℕ) (s one two : List ℕ) → at + (m + m) ≤ length s → one ≡ over at (bytes_of m (x % 256 ^ m)) s → two ≡ over (at + m) (bytes_of m (x / 256 ^ m)) one
    → two ≡ over at (bytes_of (m + m) x) s
put_halves m at x s one two h p q =
    let low = x % 256 ^ m in
    let high = x / 256 ^ m in
    let whole : low + 256 ^ m * high ≡ x = mod-add-div x (256 ^ m) in
    rw (q, p, over_next at m (bytes_of m low) (bytes_of m high) s (omega arith) (length_bytes m low), bytes_join m m low high (mod-lt x (power_pos m)), whole)

-- ---- there and back

num_tail : (b : ℕ) (s : List ℕ) (at n : ℕ) → num (b ∷ s) (suc at) n ≡ num s at n
unfolding num
num_tail b s at zero = refl
num_tail b s at (suc n) = rw (suc-add, num_tail b s (at + 1) n)

pub num_bytes : (n x : ℕ) → x < 256 ^ n → num (bytes_of n x) 0 n ≡ x
unfolding num bytes_of
num_bytes zero x h = omega arith
num_bytes (suc n) x h =
    let q = power n 1 in
    omega (arith, num_tail (x % 256) (bytes_of n (x / 256)) 0 n, num_bytes n (x / 256) (omega arith))

-- Requester ID 0100h is the bytes 00 01.
pub requester_0100h : (bytes_of 2 0x0100 ≡ 0x00 ∷ 0x01 ∷ []) × (num (0x00 ∷ 0x01 ∷ []) 0 2 ≡ 0x0100)
unfolding num bytes_of
requester_0100h = (refl, refl)

-- a number read and written
pub bytes_num : (s : List ℕ) (at n : ℕ) → Bytes s → at + n ≤ length s → bytes_of n (num s at n) ≡ part s at n
unfolding num bytes_of part
bytes_num s at zero b h = refl
bytes_num s at (suc n) b h =
    let low : (byte s at + 256 * num s (at + 1) n) % 256 ≡ byte s at = omega (arith, b at) in
    let rest : (byte s at + 256 * num s (at + 1) n) / 256 ≡ num s (at + 1) n = omega (arith, b at) in
    rw (low, rest, bytes_num s (at + 1) n b (omega arith), drop-cons s at 0 (omega arith), add-one)

module _ (s : List ℕ) (at n : ℕ) (fits : at + n ≤ length s) where
  -- a number written and read
  pub written_read : (x : ℕ) → x < 256 ^ n → num (over at (bytes_of n x) s) at n ≡ x
  written_read x h =
      let e : at + 0 ≡ at = omega arith in
      let p = num_part (over at (bytes_of n x) s) at n 0 n (omega arith) in
      sym (rw e at p) ∙ rw (part_over at n (bytes_of n x) s (omega arith) (length_bytes n x)) (num_bytes n x h)

  -- bytes read and written
  pub read_written : Bytes s → over at (bytes_of n (num s at n)) s ≡ s
  read_written b = rw (bytes_num s at n b fits) (over_part at n s fits)

-- ---- reading what was put together

-- a number that ends within the first of two lists is read there
pub num_append : (a b : List ℕ) (at n : ℕ) → at + n ≤ length a → num (a ++ b) at n ≡ num a at n
unfolding num
num_append a b at zero h = refl
num_append a b at (suc n) h = rw (get_or-append a b 0 at (omega arith), num_append a b (at + 1) n (omega arith))

-- a number past the first list is read in the second
pub num_past : (a b : List ℕ) (k at n : ℕ) → length a ≡ k → num (a ++ b) (k + at) n ≡ num b at n
unfolding num
num_past a b k at zero e = refl
num_past a b k at (suc n) e =
    let l = num_past a b k (at + 1) n e in
    rw (add_assoc, l, ← e, get_or-append-add)

-- a part that ends within the first of two lists is cut there
pub part_append : (a b : List ℕ) (at n : ℕ) → at + n ≤ length a → part (a ++ b) at n ≡ part a at n
unfolding part
part_append a b at n h =
    let l : n ≤ length (drop at a) = rw length-drop (omega arith) in
    rw (drop-append-le at a b (omega arith), take-append-le n (drop at a) b l)

-- a number written behind a list
pub num_last : (a : List ℕ) (at n x : ℕ) → length a ≡ at → x < 256 ^ n → num (a ++ bytes_of n x) at n ≡ x
num_last a at n x e h =
    let z : at ≡ at + 0 = omega arith in
    ap (λ (k : ℕ). num (a ++ bytes_of n x) k n) z ∙ num_past a (bytes_of n x) at 0 n e ∙ num_bytes n x h

-- ---- bytes of bytes

pub bytes_append : (a b : List ℕ) → Bytes a → Bytes b → Bytes (a ++ b)
bytes_append [] b f g i = g i
bytes_append (x ∷ a) b f g zero = f 0
bytes_append (x ∷ a) b f g (suc i) = bytes_append a b (λ j. f (suc j)) g i

bytes_take : (n : ℕ) (s : List ℕ) → Bytes s → Bytes (take n s)
bytes_take zero s f i = omega arith
bytes_take (suc n) [] f i = omega arith
bytes_take (suc n) (x ∷ s) f zero = f 0
bytes_take (suc n) (x ∷ s) f (suc i) = bytes_take n s (λ j. f (suc j)) i

-- every part of bytes is bytes
pub bytes_part : (s : List ℕ) (at n : ℕ) → Bytes s → Bytes (part s at n)
unfolding part
bytes_part s at n f = bytes_take n (drop at s) (λ i. rw get_or-drop (f (at + i)))
