-- Bytes in hex, one more of them written. Assumes nothing.
use Rattle.std.proofs.Common.{ℕ, ◌+◌, ◌<◌, List, [], ◌∷◌, ◌++◌, length, take, get_or, ◌≡◌}
use Rattle.std.proofs.Output.{has_written_append, has_written_of_eq}
use Rattle.std.proofs.lemmas.List.{take_more, flat_map_more}
use Rattle.std.specs.Fmt.{HasWritten}
use Rattle.std.specs.declared.fmt.Formatter.{Formatter}
use Rattle.compare.specs.Form.{padded, hex}

one_more : (s : List ℕ) (i : ℕ) → i < length s → hex (take i s) ++ (32 ∷ padded 2 (get_or s i 0)) ≡ hex (take (i + 1) s)
one_more s i h = rw (take_more s i 0 h) (flat_map_more (λ (b : ℕ). 32 ∷ padded 2 b) [] (take i s) (get_or s i 0))

pub written : {W : Type 0} (took : W → List ℕ → W → Type 0) (f g h : Formatter W) (s : List ℕ) (i : ℕ) → i < length s
    → HasWritten took f (hex (take i s)) g → HasWritten took g (32 ∷ padded 2 (get_or s i 0)) h → HasWritten took f (hex (take (i + 1) s)) h
written took f g h s i less p q = has_written_of_eq took _ _ _ _ (one_more s i less) (has_written_append took _ _ _ _ _ p q)
