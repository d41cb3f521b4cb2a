-- Bytes written at their places, and the record with the fullest report, byte for byte.
use Rattle.std.specs.Prelude.{List, ◌∷◌, ◌++◌, ℕ, set}
use Rattle.std.specs.List.{fold}
use Rattle.rules.specs.Bytes.{blank}
use Rattle.rules.specs.Record.{Rec}

-- bytes with others, one after the other, each at its place
abbrev pub put_each : List ℕ → List (ℕ × ℕ) → List ℕ
put_each = fold (λ s p. set s p.0 p.1)

-- one page
abbrev pub one_page : List ℕ
one_page = blank 8 ++ (1 ∷ blank 7)

-- locked, with eight ranges of one page and 52 bytes of information
unfoldable pub full_record : Rec
full_record =
    blank 4 ++ (1 ∷ 1 ∷ blank 4) ++ (8 ∷ blank 61) ++ one_page ++ one_page ++ one_page ++ one_page ++ one_page ++ one_page ++ one_page ++ one_page
    ++ (52 ∷ blank 55)
