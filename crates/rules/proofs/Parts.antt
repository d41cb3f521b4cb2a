-- Laws of `part` and `over`. Assumes nothing.
use mathlib.Core.Path.{◌≡◌, refl, sym, ap, ◌∙◌}
use mathlib.Core.List.{List, [], ◌∷◌, ◌++◌, append_assoc, append-nil}
use Prim.Native.Nat.{ℕ, zero, suc, ◌+◌, ◌-◌, ◌≤◌, min}
use native.Mathlib.Nat.{add-zero, zero-add, add-sub_cancel_left}
use native.Mathlib.Omega.{arith}
use lib.ListN.{length, take, drop, length-append, length-take, length-drop, take-append-drop}
use lib.Seq.{take_at, drop_at, drop-drop, length-take-le, take-length, drop-length, take-add, take-nil}
use Rattle.rules.specs.Bytes.{part, over}

-- what a callee is lent of `&s[at..end]`, where end is at + n
pub lent_part : (at n : ℕ) (s : List ℕ) → take (at + n - at) (drop at s) ≡ part s at n
unfolding part
lent_part at n s = rw (add-sub_cancel_left at n)

pub length_part : (s : List ℕ) (at n : ℕ) → at + n ≤ length s → length (part s at n) ≡ n
unfolding part
length_part s at n h = simp (length-take, length-drop) (omega arith)

pub length_over : (at : ℕ) (new s : List ℕ) → at + length new ≤ length s → length (over at new s) ≡ length s
unfolding over
length_over at new s h = simp (length-append, length-take, length-drop) (omega arith)

-- parts that touch join
pub part_join : (s : List ℕ) (at m n : ℕ) → part s at m ++ part s (at + m) n ≡ part s at (m + n)
unfolding part
part_join s at m n = sym (rw (take-add m n (drop at s), drop-drop))

-- all of it
pub part_all : (s : List ℕ) → part s 0 (length s) ≡ s
unfolding part
part_all s = take-length s

-- a length cut down to the bytes that are there takes the same bytes
pub take_least : (s : List ℕ) (n k : ℕ) → k ≡ min n (length s) → take k s ≡ take n s
take_least [] n k e = take-nil k ∙ sym (take-nil n)
take_least (x ∷ s) zero zero e = refl
take_least (x ∷ s) zero (suc k) e = absurd (omega arith)
take_least (x ∷ s) (suc n) zero e = absurd (omega arith)
take_least (x ∷ s) (suc n) (suc k) e = ap (λ (t : List ℕ). x ∷ t) (take_least s n k (omega arith))

-- ---- writing

pub over_nothing : (at : ℕ) (s : List ℕ) → over at [] s ≡ s
unfolding over
over_nothing at s = rw (append-nil, add-zero) (take-append-drop at s)

-- `b` written right after `a` is `a ++ b` written
pub over_next : (at n : ℕ) (a b s : List ℕ) → at ≤ length s → length a ≡ n → over (at + n) b (over at a s) ≡ over at (a ++ b) s
unfolding over
over_next at n a b s h e =
    let long : length (take at s ++ a) ≡ at + n = simp (length-append, length-take-le at s h, e) in
    let past : at + length a + length b ≡ at + length (a ++ b) = simp length-append (omega arith) in
    let rest : drop (at + n + length b) (take at s ++ a ++ drop (at + length a) s) ≡ drop (at + length (a ++ b)) s =
    sym (drop-drop (length b) (at + n) _) ∙ rw (drop_at (take at s ++ a) (drop (at + length a) s) (at + n) long, drop-drop, past) in
    rw (take_at (take at s ++ a) (drop (at + length a) s) (at + n) long, rest) (simp append_assoc)

-- all of it
pub over_all : (new s : List ℕ) → length new ≡ length s → over 0 new s ≡ new
unfolding over
over_all new s e = rw (zero-add, e, drop-length) (append-nil new)

-- ---- there and back

pub part_over : (at n : ℕ) (new s : List ℕ) → at ≤ length s → length new ≡ n → part (over at new s) at n ≡ new
unfolding part over
part_over at n new s h e =
    rw (append_assoc, drop_at (take at s) (new ++ drop (at + length new) s) at (length-take-le at s h)) (take_at new (drop (at + length new) s) n e)

three_parts : (at n : ℕ) (s : List ℕ) → take at s ++ part s at n ++ drop (at + n) s ≡ s
unfolding part
three_parts at n s = rw (append_assoc, ← drop-drop n at s, take-append-drop n (drop at s)) (take-append-drop at s)

pub over_part : (at n : ℕ) (s : List ℕ) → at + n ≤ length s → over at (part s at n) s ≡ s
unfolding over
over_part at n s h = rw (length_part s at n h) (three_parts at n s)
