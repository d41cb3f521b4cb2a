-- The first place at which a test passes, as `position` finds it. Assumes nothing.
use Rattle.std.proofs.Common.{◌≡◌, ℕ, zero, suc, ◌+◌, ◌-◌, ◌≤◌, ◌<◌, Bool, true, false, cond, List, length, get_or, arith, not, nat_lt, Some, None, add-zero, add-one, add-suc, ◌∙◌}
use Rattle.std.proofs.lemmas.Bool.Decides.{nat_tests}
use Rattle.std.specs.List.{position_or_len}
use Rattle.std.specs.Prelude.{position, unwrap_or}
use Rattle.std.proofs.lemmas.List.Sums.{prefix_len-le-length}
use Rattle.script.specs.Text.{is_space, before, trimmed}

-- the end, where it finds none
pub before_is : (p : ℕ → Bool) (s : List ℕ) → before p s ≡ unwrap_or (position p s) (length s)
unfolding before
before_is p s = go (position_or_len p s) (length s) (prefix_len-le-length (λ x. not (p x)) s)
  where
    go : (n m : ℕ) → n ≤ m → n ≡ unwrap_or (cond (nat_lt n m) (Some n) None) m
    go n m h = grind (arith, nat_tests)

-- ---- the spaces at a text's end

-- from a place on there are spaces alone
abbrev SpacesFrom : List ℕ → ℕ → Type 0
SpacesFrom s n = (k : ℕ) → n ≤ k → k < length s → is_space (get_or s k 0) ≡ true

trimmed_back : (s : List ℕ) (n m : ℕ) → n + m ≤ length s → SpacesFrom s n → trimmed s n ≡ trimmed s (n + m)
unfolding trimmed
trimmed_back s n zero h f = rw add-zero
trimmed_back s n (suc m) h f =
    let last : is_space (get_or s (n + m) 0) ≡ true = f (n + m) (omega arith) (omega arith) in
    rw (add-suc, last) (trimmed_back s n m (omega arith) f)

trimmed_end : (s : List ℕ) (n : ℕ) → n ≤ length s → SpacesFrom s n → trimmed s n ≡ trimmed s (length s)
trimmed_end s n h f =
    let all : n + (length s - n) ≡ length s = omega arith in
    rw all at (trimmed_back s n (length s - n) (omega arith) f)

pub trimmed_none : (s : List ℕ) → SpacesFrom s 0 → 0 ≡ trimmed s (length s)
unfolding trimmed
trimmed_none s f = trimmed_end s 0 (omega arith) f

pub trimmed_last : (s : List ℕ) (n : ℕ) → n < length s → is_space (get_or s n 0) ≡ false → SpacesFrom s (n + 1) → n + 1 ≡ trimmed s (length s)
unfolding trimmed
trimmed_last s n h e f =
    let here : n + 1 ≡ trimmed s (n + 1) = rw (add-one, e) in
    here ∙ trimmed_end s (n + 1) (omega arith) f
