-- Bytes read pair by pair. Assumes nothing.
use Rattle.std.proofs.Common.{◌≡◌, refl, ℕ, ◌+◌, ◌<◌, ◌≤◌, List, [], ◌∷◌, length, get_or, drop, set, arith, ◌∙◌, true, false, Some}
use Rattle.std.proofs.lemmas.Bool.{lt-leb}
use Rattle.script.specs.Digits.{pair_of, Bytes, hexed, hex_bytes}
use Rattle.script.specs.Text.{is_space}

-- at the start all of the text is left
pub at_start_lem : (s out : List ℕ) → hex_bytes s out ≡ hexed 0 out (drop 0 s)
at_start_lem s out = refl

-- what is left after a space, and after a byte of two digits, answers for the whole
module _ (whole : Bytes) (n : ℕ) (out : List ℕ) where
  pub after_space : (s t : List ℕ) → whole ≡ hexed n out s → 2 ≤ length s → is_space (get_or s 0 0) ≡ true → t ≡ drop 1 s → whole ≡ hexed n out t
  unfolding hexed
  after_space [] t w h e f = absurd (omega arith)
  after_space (c ∷ []) t w h e f = absurd (omega arith)
  after_space (high ∷ low ∷ s) t w h e f = w ∙ rw (e, f)

  pub after_byte : (s t : List ℕ) (x : ℕ) → whole ≡ hexed n out s → 2 ≤ length s → is_space (get_or s 0 0) ≡ false
      → pair_of (get_or s 0 0) (get_or s 1 0) ≡ Some x → n < 512 → t ≡ drop 1 (drop 1 s) → whole ≡ hexed (n + 1) (set out n x) t
  unfolding hexed
  after_byte [] t x w h e p few f = absurd (omega arith)
  after_byte (c ∷ []) t x w h e p few f = absurd (omega arith)
  after_byte (high ∷ low ∷ s) t x w h e p few f = w ∙ rw (e, p, lt-leb 512 n few, f)
