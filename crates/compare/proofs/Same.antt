-- `==` of two slices says whether they are the same bytes. Assumes nothing.
use Rattle.std.proofs.Common.{◌≡◌, ℕ, ◌<◌, Bool, List, length, refl, ap}
use Rattle.std.proofs.Math.Bool.{and_comm}
use Rattle.std.proofs.lemmas.Bool.Decides.{Decides-eqb, Decides-and, Decides-below_and, Decides-like, same_from_decides}
use Rattle.std.proofs.lemmas.List.{ext_get_or}
use Rattle.std.proofs.lemmas.Slice.Eq.{slice_eq-Decides}
use Rattle.std.specs.Bool.{Decides}
use Rattle.std.specs.Cmp.Lexicographic.{pointwise}
use Rattle.std.specs.Prelude.{nat_eq}
use Rattle.rules.specs.Bytes.{byte, every, same_at, same_bytes}

every_same : (a b : List ℕ) → Decides (every (length a) (same_at a b)) ((k : ℕ) → k < length a → byte a k ≡ byte b k)
unfolding every
every_same a b =
    Decides-below_and
    (same_at a b)
    (λ k. byte a k ≡ byte b k)
    (λ n. every n (same_at a b))
    (λ k. Decides-eqb (byte a k) (byte b k))
    refl
    (λ n. and_comm (every n (same_at a b)) (same_at a b n))
    (length a)

same_decides : (a b : List ℕ) → Decides (same_bytes a b) (a ≡ b)
unfolding same_bytes
same_decides a b =
    Decides-like
    _
    (λ h. ext_get_or 0 a b h.0 h.1)
    (λ e. (ap length e, λ k _. ap (λ (s : List ℕ). byte s k) e))
    (Decides-and _ _ (Decides-eqb (length a) (length b)) (every_same a b))

pub told_same : (a b : List ℕ) (r : Bool) → r ≡ pointwise nat_eq a b → r ≡ same_bytes a b
told_same a b r told = same_from_decides r (same_bytes a b) (slice_eq-Decides Decides-eqb a b r told) (same_decides a b)
