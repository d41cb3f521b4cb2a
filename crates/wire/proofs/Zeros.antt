-- Zero bytes in words: one law for every width. Assumes nothing.
use mathlib.Core.Path.{◌≡◌, refl, sym, ap, ◌∙◌}
use mathlib.Core.Bool.{Bool, true, false, ◌&&◌}
use mathlib.Core.List.{List, []}
use Prim.Native.Nat.{ℕ, zero, suc, ◌+◌, ◌*◌, ◌/◌, ◌%◌, ◌≤◌}
use Prim.Native.Nat.{◌-◌, ◌<◌}
use native.Mathlib.Nat.{add-zero, zero-add, add-suc}
use native.Mathlib.Omega.{arith}
use borrow.Author.Tests.{eqb-true, eqb-false, eq-eqb, ne_eqb}
use lib.Dec.{eqb}
use lib.ListN.{length, take, drop, get_or, length-take, length-drop}
use lib.Seq.{get_or-take, get_or-drop}
use Rattle.std.specs.Simd.{first_chunks}
use Rattle.rules.specs.Bytes.{byte, num, part, every, zero_at, zeros}
use Rattle.rules.proofs.Bools.{and_true, and_assoc}
use Rattle.rules.proofs.Every.{every_same}
use Rattle.rules.proofs.Numbers.{num_part}
use Rattle.rules.proofs.Records.{cut_at}
use Rattle.wire.proofs.Records.{chunks_cut}

-- a test of every number below m + n, in two
every_split : (p : ℕ → Bool) (m n : ℕ) → every (m + n) p ≡ every m p && every n (λ k. p (m + k))
unfolding every
every_split p m zero = rw add-zero (sym (and_true (every m p)))
every_split p m (suc n) = rw (add-suc, every_split p m n) (and_assoc (every m p) (every n (λ k. p (m + k))) (p (m + n)))

-- zero bytes, in two
zero_split : (s : List ℕ) (at m n : ℕ) → every (m + n) (zero_at s at) ≡ every m (zero_at s at) && every n (zero_at s (at + m))
zero_split s at m n = every_split (zero_at s at) m n ∙ ap (λ b. every m (zero_at s at) && b) (every_same n _ _ (λ k l. ap (λ (i : ℕ). eqb (byte s i) 0) (omega arith)))

one_add : (n : ℕ) → 1 + n ≡ suc n
one_add n = omega arith

low_high : (b x : ℕ) → eqb (b + 256 * x) 0 ≡ eqb b 0 && eqb x 0
low_high b x = go (eqb b 0) (eqb x 0) refl refl
  where
    go : (u v : Bool) → eqb b 0 ≡ u → eqb x 0 ≡ v → eqb (b + 256 * x) 0 ≡ u && v
    go true true e f = let p = eqb-true b 0 e in let q = eqb-true x 0 f in eq-eqb (b + 256 * x) 0 (omega arith)
    go false v e f = let p = eqb-false b 0 e in ne_eqb (b + 256 * x) 0 (λ (z : b + 256 * x ≡ 0). p (omega arith))
    go true false e f = let q = eqb-false x 0 f in ne_eqb (b + 256 * x) 0 (λ (z : b + 256 * x ≡ 0). q (omega arith))

-- a number is zero where its bytes are
pub number_zero : (s : List ℕ) (at n : ℕ) → eqb (num s at n) 0 ≡ every n (zero_at s at)
unfolding num every
number_zero s at zero = refl
number_zero s at (suc n) =
    low_high (byte s at) (num s (at + 1) n)
    ∙ ap (λ b. eqb (byte s at) 0 && b) (number_zero s (at + 1) n)
    ∙ sym (rw (add-zero at, one_add n) at (zero_split s at 1 n))

-- ---- words of 8 bytes, and the bytes that are left

-- word k of those at the front
word_zero : (s : List ℕ) (n k : ℕ) → k < n → eqb (num (get_or (first_chunks 8 n s) k []) 0 8) 0 ≡ every 8 (zero_at s (k * 8))
word_zero s n k h =
    let word : get_or (first_chunks 8 n s) k [] ≡ part s (k * 8) 8 = rw (chunks_cut 8 n s) (cut_at 8 n k s h) in
    rw (word, num_part s (k * 8) 8 0 8 (omega arith), add-zero) (number_zero s (k * 8) 8)

words_zero : (s : List ℕ) (m n : ℕ) → n ≤ m → every n (λ k. eqb (num (get_or (first_chunks 8 m s) k []) 0 8) 0) ≡ every (n * 8) (zero_at s 0)
unfolding every
words_zero s m zero h = refl
words_zero s m (suc n) h =
    let next : suc n * 8 ≡ n * 8 + 8 = omega arith in
    rw (next, zero_split s 0 (n * 8) 8, words_zero s m n (omega arith), word_zero s m n (omega arith), zero-add)

module _ (s : List ℕ) (first last : ℕ) where
  -- what `s[first..last + 1]` shows
  abbrev shown : List ℕ
  shown = take (last + 1 - first) (drop first s)

  zero_shown : (i : ℕ) → i < last + 1 - first → zero_at shown 0 i ≡ zero_at s first i
  zero_shown i h = rw (zero-add, get_or-take, get_or-drop)

  long : first ≤ last + 1 → last < length s → length shown ≡ last + 1 - first
  long h l = simp (length-take, length-drop) (omega arith)

  rest_shown : (m i : ℕ) → i < length shown % 8 → zero_at (drop m shown) 0 i ≡ zero_at shown m i
  rest_shown m i h = rw (zero-add, get_or-drop)

  pub words_and_bytes : {a b : Bool} (words : List (List ℕ)) (bytes : List ℕ) → first ≤ last + 1 → last < length s
      → words ≡ first_chunks 8 (length shown / 8) shown → length words ≡ length shown / 8 → bytes ≡ drop (length shown / 8 * 8) shown → length bytes ≡ length shown % 8
      → a ≡ every (length words) (λ k. eqb (num (get_or words k []) 0 8) 0) → b ≡ every (length bytes) (zero_at bytes 0) → a && b ≡ zeros s first last
  unfolding zeros
  words_and_bytes words bytes h l w v x y p q =
      let n = length shown / 8 in
      let first_part = rw (v, w, words_zero shown n n (omega arith)) at p in
      let rest = rw (y, x, every_same (length shown % 8) _ (zero_at shown (n * 8)) (rest_shown (n * 8))) at q in
      let whole : n * 8 + length shown % 8 ≡ last + 1 - first = omega (arith, long h l) in
      let join = rw zero-add at (zero_split shown 0 (n * 8) (length shown % 8)) in
      rw (first_part, rest, ← join, whole) (every_same (last + 1 - first) _ _ zero_shown)
