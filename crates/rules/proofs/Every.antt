-- A test of every number below n, as a loop makes it. Assumes nothing.
use mathlib.Core.Path.{◌≡◌, refl, sym, ap, ◌∙◌}
use mathlib.Core.Bool.{Bool, true, false, not, ◌&&◌}
use mathlib.Core.Logic.{⊎_elim}
use Prim.Native.Nat.{ℕ, zero, suc, ◌+◌, ◌<◌}
use native.Mathlib.Nat.{le_of_suc-le-suc, not-suc-le-zero, eq-or-lt_of_le}
use native.Mathlib.Numerals.{add-one}
use native.Mathlib.Omega.{arith}
use borrow.Author.Tests.{not-true, not-false}
use Rattle.rules.specs.Bytes.{every}
use Rattle.rules.proofs.Bools.{and_true, and_false, and_left, and_right}

module _ (p : ℕ → Bool) where
  pub every_at : (n k : ℕ) → every n p ≡ true → k < n → p k ≡ true
  unfolding every
  every_at zero k e l = absurd (not-suc-le-zero l)
  every_at (suc n) k e l =
      ⊎_elim
      (λ q. ap p q ∙ and_right (every n p) (p n) e)
      (λ m. every_at n k (and_left (every n p) (p n) e) m)
      (eq-or-lt_of_le (le_of_suc-le-suc l))

  pub every_none : true ≡ every 0 p
  unfolding every
  every_none = refl

  pub every_more : (i : ℕ) → every (i + 1) p ≡ every i p && p i
  unfolding every
  every_more i = rw add-one

  -- A loop that leaves with `false` where p fails, with the invariant `true ≡ every i p`; b is the flag that the test at i gave
  pub every_next : {b : Bool} (i : ℕ) → true ≡ every i p → b ≡ p i → not b ≡ false → true ≡ every (i + 1) p
  unfolding every
  every_next {b} i h told e = rw (add-one, ← told, ← h, not-false b e)

  pub every_fails : (n i : ℕ) → i < n → p i ≡ false → false ≡ every n p
  unfolding every
  every_fails zero i l e = absurd (not-suc-le-zero l)
  every_fails (suc n) i l e =
      ⊎_elim
      (λ q. sym (ap (λ (k : ℕ). every n p && p k) (sym q) ∙ rw e (and_false (every n p))))
      (λ m. rw (← every_fails n i m e))
      (eq-or-lt_of_le (le_of_suc-le-suc l))

  pub every_stop : {b : Bool} (n i : ℕ) → i < n → b ≡ p i → not b ≡ true → false ≡ every n p
  every_stop {b} n i l told e = every_fails n i l (sym told ∙ not-true b e)

  -- A loop with no exit that keeps a flag, with the invariant `ok ≡ every i p`
  pub every_keeps : {ok : Bool} (i : ℕ) → ok ≡ every i p → p i ≡ true → ok ≡ every (i + 1) p
  unfolding every
  every_keeps i h e = rw (add-one, e, h) (sym (and_true (every i p)))

-- tests that agree below n
pub every_same : (n : ℕ) (p q : ℕ → Bool) → ((k : ℕ) → k < n → p k ≡ q k) → every n p ≡ every n q
unfolding every
every_same zero p q h = refl
every_same (suc n) p q h = rw (every_same n p q (λ k l. h k (omega arith)), h n (omega arith))

-- a test that passes below n
pub every_true : (p : ℕ → Bool) (n : ℕ) → ((k : ℕ) → k < n → p k ≡ true) → every n p ≡ true
unfolding every
every_true p zero h = refl
every_true p (suc n) h = rw (every_true p n (λ k l. h k (omega arith)), h n (omega arith))
