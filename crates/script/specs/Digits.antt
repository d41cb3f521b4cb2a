-- What digits spell. Assumes nothing.
use Rattle.std.specs.Prelude.{cond, List, [], ◌∷◌, ℕ, ◌+◌, ◌-◌, ◌*◌, ltb, leb, set, Option, Some, None, option_and_then, option_map, Result, Ok, Err, if◌then◌else◌}
use Rattle.script.specs.Text.{is_space}
use Rattle.script.specs.declared.digits.Wrong.{Wrong}
use Rattle.script.specs.declared.digits.Wrong.TheVariants.{HexDigit, Odd, Large, Long}

-- a step after another, where that one found nothing wrong
infixl 10 ◌>>=◌
abbrev pub ◌>>=◌ : {A B : Type 0} → Result A Wrong → (A → Result B Wrong) → Result B Wrong
Ok x >>= f = f x
Err wrong >>= f = Err wrong

-- what a byte is worth as a hex digit: 0 to 9, a to f or A to F; nothing for any other
unfoldable pub digit_of : ℕ → Option ℕ
digit_of c =
    cond (ltb c 48) None
    (cond (ltb c 58) (Some (c - 48))
    (cond (ltb c 65) None
    (cond (ltb c 71) (Some (c - 55))
    (cond (ltb c 97) None
    (cond (ltb c 103) (Some (c - 87))
    None)))))

-- a value and one digit of a base after it, at most a most; or what is wrong: it is no such digit, or the number is too large
abbrev pub with_digit : ℕ → ℕ → Wrong → ℕ → Option ℕ → Result ℕ Wrong
with_digit base most wrong value None = Err wrong
with_digit base most wrong value (Some d) =
    if leb base d then Err wrong
    else if ltb most (value * base + d) then Err Large
    else Ok (value * base + d)

-- a value and the digits of a base after it, at most a most; or what is wrong first
unfoldable pub spelled : ℕ → ℕ → Wrong → ℕ → List ℕ → Result ℕ Wrong
spelled base most wrong value [] = Ok value
spelled base most wrong value (c ∷ s) = do
  more ← with_digit base most wrong value (digit_of c)
  spelled base most wrong more s

-- two hex digits as a byte; nothing, where one of them is none
unfoldable pub pair_of : ℕ → ℕ → Option ℕ
pair_of high low = option_and_then (λ h. option_map (λ l. h * 16 + l) (digit_of low)) (digit_of high)

-- how many bytes stand at the front of what they are put into, or what is wrong; and what they are put into
pub record Bytes : Type 0 where
  pub number : Result ℕ Wrong
  pub out : List ℕ

-- bytes of two hex digits each, spaces before them or not, put from place n on; at most 512
unfoldable pub hexed : ℕ → List ℕ → List ℕ → Bytes
hexed n out [] = record { number = Ok n; out = out }
hexed n out (c ∷ []) = record { number = Err Odd; out = out }
hexed n out (high ∷ low ∷ s) =
    if is_space high then hexed n out (low ∷ s)
    else elim (pair_of high low) [
      | None ↦ record { number = Err HexDigit; out = out }
      | Some x ↦
          if leb 512 n then record { number = Err Long; out = out }
          else hexed (n + 1) (set out n x) s
    ]

-- what a text spells, put at the front
abbrev pub hex_bytes : List ℕ → List ℕ → Bytes
hex_bytes s out = hexed 0 out s
