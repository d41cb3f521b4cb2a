-- The messages that the programs make, byte for byte.
use Rattle.std.specs.Prelude.{List, [], ◌∷◌, ◌++◌, ℕ, ◌-◌}
use Rattle.rules.specs.Bytes.{blank, bytes_of}

-- a message of n bytes: its type, its interface, and zeros
abbrev pub message : ℕ → ℕ → ℕ → List ℕ
message n kind id = (0x10 ∷ kind ∷ 0 ∷ 0 ∷ []) ++ bytes_of 4 id ++ blank (n - 8)

-- GET_DEVICE_INTERFACE_REPORT: the header, OFFSET, LENGTH
abbrev pub report_request : ℕ → ℕ → ℕ → List ℕ
report_request id offset asked = (0x10 ∷ 0x84 ∷ 0 ∷ 0 ∷ []) ++ bytes_of 4 id ++ blank 8 ++ bytes_of 2 offset ++ bytes_of 2 asked
