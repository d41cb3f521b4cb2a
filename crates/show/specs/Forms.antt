-- What has a form of its own when it is printed. Assumes nothing.
use Rattle.std.specs.Prelude.{List, ◌++◌, ℕ, min, ltb, codes, decimal, flat_map, reverse, if◌then◌else◌}
use Rattle.compare.specs.Form.{padded, hex}
use Rattle.show.specs.Names.{state_name}

-- the number that bytes are, low byte first
abbrev pub turned : List ℕ → List ℕ
turned bytes = flat_map (padded 2) (reverse bytes)

-- the bytes and the number
abbrev pub low_first : List ℕ → List ℕ
low_first bytes = hex bytes ++ codes " = " ++ turned bytes ++ codes "h"

-- a number, with the h that says so; it is filled up to 16 digits at most
abbrev pub number : ℕ → ℕ → List ℕ
number width n = padded (min width 16) n ++ codes "h"

-- a FUNCTION_ID
abbrev pub function_id : ℕ → List ℕ
function_id n = number 4 n

-- a state: its name, and the number where it is none
abbrev pub state : ℕ → List ℕ
state x = if ltb 3 x then codes (state_name x) ++ codes " " ++ decimal x else codes (state_name x)
