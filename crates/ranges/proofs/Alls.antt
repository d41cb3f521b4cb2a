-- A test of each element of a list, as `all` makes it, is a test of every number below its length. Assumes nothing.
use Rattle.std.proofs.Common.{◌≡◌, refl, sym, ap, ◌∙◌, Bool, ◌&&◌, List, [], ◌∷◌, ℕ, zero, suc, length, get_or}
use Rattle.std.specs.List.{list_all}
use Rattle.rules.specs.Bytes.{every}
use Rattle.rules.proofs.Bools.{and_true, and_assoc}

front : (p : ℕ → Bool) (n : ℕ) → every (suc n) p ≡ p 0 && every n (λ k. p (suc k))
unfolding every
front p zero = sym (and_true (p 0))
front p (suc n) = ap (λ b. b && p (suc n)) (front p n) ∙ and_assoc (p 0) (every n (λ k. p (suc k))) (p (suc n))

module _ {A : Type 0} (test : A → Bool) (d : A) where
  pub all_every : (xs : List A) → every (length xs) (λ k. test (get_or xs k d)) ≡ list_all test xs
  unfolding every
  all_every [] = refl
  all_every (x ∷ xs) = front (λ k. test (get_or (x ∷ xs) k d)) (length xs) ∙ ap (λ b. test x && b) (all_every xs)
