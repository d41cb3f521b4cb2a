-- What has a form of its own when it is printed. Assumes nothing.
use Rattle.std.specs.Prelude.{List, [], ◌∷◌, ℕ, ◌-◌, ◌^◌, false, flat_map}
use Rattle.std.specs.Fmt.{digits, format_spec, padded_integral}

-- a number in hex, of so many digits or more
abbrev pub padded : ℕ → ℕ → List ℕ
padded width n = padded_integral (format_spec 32 0 4 width (2 ^ 64 - 1)) false [] (digits 16 false n)

-- bytes in hex, a space before each
abbrev pub hex : List ℕ → List ℕ
hex bytes = flat_map (λ b. 32 ∷ padded 2 b) bytes
