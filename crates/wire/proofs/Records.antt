-- A table's whole chunks are its records. Assumes nothing.
use Rattle.std.proofs.Common.{◌≡◌, refl, ap, List, ◌∷◌, ℕ, zero, suc, take, drop}
use Rattle.std.specs.Simd.{first_chunks}
use Rattle.rules.specs.Table.{cut}

pub chunks_cut : (w n : ℕ) (t : List ℕ) → first_chunks w n t ≡ cut w n t
unfolding cut
chunks_cut w zero t = refl
chunks_cut w (suc n) t = ap (λ (rs : List (List ℕ)). take w t ∷ rs) (chunks_cut w n (drop w t))
