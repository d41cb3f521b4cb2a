-- Document 01, "The table" and "Requests": FUNCTION_ID, and which interfaces are the same.
use Rattle.std.specs.Prelude.{Bool, not, ◌&&◌, List, ℕ, eqb, if◌then◌else◌}
use Rattle.rules.specs.Bytes.{num, bits, bit_set}
use Rattle.rules.specs.declared.Identity.{Identity}

-- FUNCTION_ID: bits 15:0 requester, 23:16 segment, 24 segment valid. Bits 31:25 are not looked at.
abbrev pub identity_of : ℕ → Identity
identity_of id = record { requester = record { 0 = bits 15 0 id }; segment = bits 23 16 id; valid = bit_set 24 id }

-- the identity whose 4 bytes start at a place
abbrev pub identity_at : List ℕ → ℕ → Identity
identity_at s at = identity_of (num s at 4)

-- Two identities are equal when bits 15:0, bit 24 and, if bit 24 is set, bits 23:16 agree.
unfoldable pub same : Identity → Identity → Bool
same a b =
    eqb a.requester.0 b.requester.0
    && (if a.valid then b.valid && eqb a.segment b.segment else not b.valid)
