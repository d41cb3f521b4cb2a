-- The bytes of `over`: below, above and within what was written. Assumes nothing.
use mathlib.Core.Path.{◌≡◌, refl, ap, ◌∙◌}
use mathlib.Core.Bool.{true}
use mathlib.Core.List.{List, ◌++◌}
use mathlib.Core.Logic.{◌⊎◌, inl, inr}
use Prim.Native.Nat.{ℕ, zero, suc, ◌+◌, ◌-◌, ◌/◌, ◌≤◌, ◌<◌}
use native.Mathlib.Omega.{arith}
use lib.ListN.{length, take, drop, length-append, length-take, length-drop, get_or-append}
use lib.Seq.{get_or-take, get_or-drop, get_or-append-add, length-take-le, ext_get_or}
use Rattle.rules.specs.Bytes.{byte, Bytes, num, bytes_of, part, over, zero_at, zeros}
use Rattle.rules.proofs.Every.{every_same, every_true}
use Rattle.rules.proofs.Numbers.{bytes_append, bytes_part}

-- ---- one byte

module _ (at : ℕ) (new s : List ℕ) (l : at ≤ length s) where
  -- a byte below what was written stays
  pub over_below : (k : ℕ) → k < at → byte (over at new s) k ≡ byte s k
  unfolding over
  over_below k h =
      let a : k < length (take at s) = simp (length-take-le at s l) h in
      let b : k < length (take at s ++ new) = simp length-append (omega arith) in
      get_or-append (take at s ++ new) (drop (at + length new) s) 0 k b ∙ get_or-append (take at s) new 0 k a ∙ get_or-take at s k 0 h

  -- a byte above what was written stays
  pub over_above : (k : ℕ) → at + length new ≤ k → byte (over at new s) k ≡ byte s k
  unfolding over
  over_above k h =
      let m = at + length new in
      let a : length (take at s ++ new) ≡ m = simp (length-append, length-take-le at s l) in
      let e : k ≡ length (take at s ++ new) + (k - m) = omega arith in
      let f : m + (k - m) ≡ k = omega arith in
      ap (λ (n : ℕ). byte (take at s ++ new ++ drop m s) n) e ∙ get_or-append-add (take at s ++ new) (drop m s) (k - m) 0 ∙ get_or-drop m s (k - m) 0 ∙ ap (byte s) f

  -- a byte beside what was written stays
  pub over_beside : (k : ℕ) → (k < at) ⊎ (at + length new ≤ k) → byte (over at new s) k ≡ byte s k
  over_beside k (inl h) = over_below k h
  over_beside k (inr h) = over_above k h

  -- a byte within is what was written
  pub over_within : (k : ℕ) → k < length new → byte (over at new s) (at + k) ≡ byte new k
  unfolding over
  over_within k h =
      let t = length-take-le at s l in
      let b : at + k < length (take at s ++ new) = simp (length-append, t) (omega arith) in
      let e : at + k ≡ length (take at s) + k = omega arith in
      get_or-append (take at s ++ new) (drop (at + length new) s) 0 (at + k) b
      ∙ ap (λ (n : ℕ). byte (take at s ++ new) n) e
      ∙ get_or-append-add (take at s) new k 0

-- ---- bytes that agree

-- a number is the same where its bytes are
pub num_same : (s t : List ℕ) (b n : ℕ) → ((k : ℕ) → b ≤ k → k < b + n → byte s k ≡ byte t k) → num s b n ≡ num t b n
unfolding num
num_same s t b zero h = refl
num_same s t b (suc n) h = rw (h b (omega arith) (omega arith), num_same s t (b + 1) n (λ k l m. h k (omega arith) (omega arith)))

-- and a part
pub part_same : (s t : List ℕ) (b n : ℕ) → length s ≡ length t → ((k : ℕ) → b ≤ k → k < b + n → byte s k ≡ byte t k) → part s b n ≡ part t b n
unfolding part
part_same s t b n e h =
    ext_get_or 0 (take n (drop b s)) (take n (drop b t)) (rw (length-take, length-take, length-drop, length-drop, e)) (λ i l.
    let m : i < n = omega (arith, l, length-take n (drop b s)) in
    rw (get_or-take, get_or-take, get_or-drop, get_or-drop, h (b + i) (omega arith) (omega arith)))

-- bytes are zero in the one where they are in the other
pub zeros_same : (s t : List ℕ) (first last : ℕ) → ((k : ℕ) → first ≤ k → k ≤ last → byte s k ≡ byte t k) → zeros s first last ≡ zeros t first last
unfolding zeros
zeros_same s t first last h =
    every_same (last + 1 - first) (zero_at s first) (zero_at t first) (λ k l. rw (h (first + k) (omega arith) (omega arith)))

-- bytes that are zero one by one
pub zeros_true : (s : List ℕ) (first last : ℕ) → ((k : ℕ) → first ≤ k → k ≤ last → byte s k ≡ 0) → zeros s first last ≡ true
unfolding zeros
zeros_true s first last h =
    every_true (zero_at s first) (last + 1 - first) (λ k l. rw (h (first + k) (omega arith) (omega arith)))

-- ---- numbers and zeros of what was written over

module _ (at : ℕ) (new s : List ℕ) (l : at ≤ length s) where
  -- a number below or above what was written stays
  pub num_over : (b n : ℕ) → (b + n ≤ at) ⊎ (at + length new ≤ b) → num (over at new s) b n ≡ num s b n
  num_over b n (inl h) = num_same (over at new s) s b n (λ k p q. over_below at new s l k (omega arith))
  num_over b n (inr h) = num_same (over at new s) s b n (λ k p q. over_above at new s l k (omega arith))

  -- and so do zeros
  pub zeros_over : (first last : ℕ) → (last < at) ⊎ (at + length new ≤ first) → zeros (over at new s) first last ≡ zeros s first last
  zeros_over first last (inl h) = zeros_same (over at new s) s first last (λ k p q. over_below at new s l k (omega arith))
  zeros_over first last (inr h) = zeros_same (over at new s) s first last (λ k p q. over_above at new s l k (omega arith))

  -- a number within is what was written
  pub num_within : (b n : ℕ) → b + n ≤ length new → num (over at new s) (at + b) n ≡ num new b n
  unfolding num
  num_within b zero h = refl
  num_within b (suc n) h =
      let e : at + b + 1 ≡ at + (b + 1) = omega arith in
      rw (over_within at new s l b (omega arith), e, num_within (b + 1) n (omega arith))

  -- zeros were written
  pub zeros_within : (first last : ℕ) → ((k : ℕ) → first ≤ at + k → byte new k ≡ 0) → at ≤ first → last < at + length new → zeros (over at new s) first last ≡ true
  zeros_within first last z a h =
      zeros_true (over at new s) first last (λ k p q.
      let e : k ≡ at + (k - at) = omega arith in
      ap (byte (over at new s)) e ∙ over_within at new s l (k - at) (omega arith) ∙ z (k - at) (omega arith))

-- ---- bytes of bytes

-- a number as bytes is bytes
pub bytes_of_lem : (n x : ℕ) → Bytes (bytes_of n x)
unfolding bytes_of
bytes_of_lem zero x i = omega arith
bytes_of_lem (suc n) x zero = omega arith
bytes_of_lem (suc n) x (suc i) = bytes_of_lem n (x / 256) i

-- bytes written over bytes are bytes
pub bytes_over : (at : ℕ) (new s : List ℕ) → Bytes new → Bytes s → Bytes (over at new s)
unfolding over part
bytes_over at new s f g =
    bytes_append (take at s ++ new) (drop (at + length new) s) (bytes_append (take at s) new (bytes_part s 0 at g) f) (λ i. rw get_or-drop (g (at + length new + i)))
