-- Bytes compared, and a reply at the front of a buffer. Assumes nothing.
use mathlib.Core.Path.{◌≡◌, refl, sym, ap, ◌∙◌}
use mathlib.Core.Bool.{true}
use mathlib.Core.List.{List, [], ◌∷◌}
use Prim.Native.Nat.{ℕ, suc, ◌+◌, ◌-◌, ◌≤◌, ◌<◌}
use native.Mathlib.Nat.{zero-add}
use native.Mathlib.Omega.{arith}
use borrow.Author.Tests.{eq-eqb, eqb-true}
use lib.Dec.{eqb}
use lib.ListN.{length, take, drop}
use lib.Seq.{take_at, drop_at, drop-append-add, drop-drop}
use Rattle.rules.specs.Bytes.{byte, every, same_at, same_bytes, over}
use Rattle.rules.specs.Request.{header, message}
use Rattle.rules.proofs.Bools.{and_left, and_right}
use Rattle.rules.proofs.Every.{every_at, every_true}

-- lists of one length with the same bytes
alike : (a b : List ℕ) → length a ≡ length b → ((k : ℕ) → k < length a → byte a k ≡ byte b k) → a ≡ b
alike [] [] e f = refl
alike [] (y ∷ b) e f = absurd (omega arith)
alike (x ∷ a) [] e f = absurd (omega arith)
alike (x ∷ a) (y ∷ b) e f = rw (f 0 (omega arith), alike a b (omega arith) (λ k h. f (suc k) (omega arith)))

-- the comparison of bytes tells equal lists
pub same_then_equal : (a b : List ℕ) → same_bytes a b ≡ true → a ≡ b
unfolding same_bytes
same_then_equal a b e =
    let long = eqb (length a) (length b) in
    let all = every (length a) (same_at a b) in
    alike a b (eqb-true _ _ (and_left long all e)) (λ k h. eqb-true _ _ (every_at (same_at a b) (length a) k (and_right long all e) h))

pub equal_then_same : (a b : List ℕ) → a ≡ b → same_bytes a b ≡ true
unfolding same_bytes
equal_then_same a b e = rw (e, eq-eqb (length b) (length b) refl) (every_true (same_at b b) (length b) (λ k h. eq-eqb (byte b k) (byte b k) refl))

-- the reply that was put at the front of a buffer
pub front_is : (m buffer : List ℕ) → take (length m) (over 0 m buffer) ≡ m
unfolding over
front_is m buffer = take_at m (drop (0 + length m) buffer) (length m) refl

-- and what stands past it, which stays
pub rest_stays : (m buffer : List ℕ) (n : ℕ) → length m ≤ n → drop n (over 0 m buffer) ≡ drop n buffer
unfolding over
rest_stays m buffer n h =
    let e : n ≡ length m + (n - length m) = omega arith in
    rw (zero-add, e) (drop-append-add m (drop (length m) buffer) (n - length m) ∙ drop-drop (n - length m) (length m) buffer)

-- a message's payload is told from the message
pub payload_same : (kind : ℕ) (q a b : List ℕ) → message kind q a ≡ message kind q b → a ≡ b
unfolding message
payload_same kind q a b e =
    let n = length (header kind q) in
    sym (drop_at (header kind q) a n refl) ∙ ap (drop n) e ∙ drop_at (header kind q) b n refl

-- and so is its type
pub kind_same : (kind other : ℕ) (q p a b : List ℕ) → message kind q a ≡ message other p b → kind ≡ other
unfolding message header
kind_same kind other q p a b e = ap (λ (m : List ℕ). byte m 1) e
