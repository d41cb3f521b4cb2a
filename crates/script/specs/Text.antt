-- Places in a text. A text is a list of bytes. Assumes nothing.
use Rattle.std.specs.Prelude.{Bool, not, ◌||◌, List, [], ◌∷◌, ◌≡◌, ℕ, zero, suc, ◌+◌, ◌≤◌, eqb, length, take, drop, get_or, if◌then◌else◌}
use Rattle.std.specs.List.{position_or_len}
use Prim.Native.Char.{code}
use Prim.Native.String.{String, [] as none, ◌∷◌ as ◌then◌}

-- a text's bytes, as it is written here: no character is wider than a byte
abbrev pub ascii : String → List ℕ
ascii none = []
ascii (c then s) = code c ∷ ascii s

-- a space, a tab, or the carriage return of a line that ends in two bytes
abbrev pub is_space : ℕ → Bool
is_space c = eqb c 32 || eqb c 9 || eqb c 13

abbrev pub is_no_space : ℕ → Bool
is_no_space c = not (is_space c)

-- how many bytes stand before the first of which p holds
unfoldable pub before : (ℕ → Bool) → List ℕ → ℕ
before p s = position_or_len p s

-- the first place from a place on at which p holds; the end where there is none
pub record First (p : ℕ → Bool) (s : List ℕ) (from r : ℕ) : Type 0 where
  pub is : r ≡ from + before p (drop from s)
  pub low : from ≤ r
  pub high : r ≤ length s

-- a text from its first byte on that is no space
abbrev pub without_space : List ℕ → List ℕ
without_space s = drop (before is_no_space s) s

-- the word that a text begins with, up to the first space
abbrev pub first_word : List ℕ → List ℕ
first_word s = take (before is_space s) s

-- what follows that word and the spaces after it
abbrev pub after_word : List ℕ → List ℕ
after_word s = without_space (drop (before is_space s) s)

-- the length of the first n bytes without the spaces at their end
unfoldable pub trimmed : List ℕ → ℕ → ℕ
trimmed s zero = 0
trimmed s (suc n) = if is_space (get_or s n 0) then trimmed s n else suc n

-- a text without the spaces at its end
abbrev pub trim : List ℕ → List ℕ
trim s = take (trimmed s (length s)) s
