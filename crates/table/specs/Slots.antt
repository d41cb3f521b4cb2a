-- Marks of the interfaces that were met, in slots.
use Rattle.std.specs.Prelude.{Bool, false, List, ℕ, ◌%◌, get_or}
use Rattle.rules.specs.Record.{Rec}
use Rattle.rules.specs.Table.{identity, all}
use Rattle.rules.specs.declared.Identity.{Identity}

-- the slot of an interface: bits 9:0 of its FUNCTION_ID
abbrev pub slot : Identity → ℕ
slot who = who.requester.0 % 1024

-- the slot of every record is marked
unfoldable pub marked : List Bool → List Rec → Bool
marked marks rs = all (λ r. get_or marks (slot (identity r)) false) rs
