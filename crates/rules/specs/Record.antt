-- Document 01, "The table (ours)": one record.
use Rattle.std.specs.Prelude.{Bool, ◌&&◌, ◌||◌, List, ℕ, ◌+◌, ◌*◌, eqb, leb, if◌then◌else◌}
use Rattle.rules.specs.Bytes.{byte, num, bits, bit, bit_set, bit_clear, part, zeros}
use Rattle.rules.specs.Lock.{stored, signed, whole_pages, all_stay}
use Rattle.rules.specs.Range.{most_ranges, range_bytes, ranges_from, all_pages, all_attributes, never_fall, ids_of}
use Rattle.rules.specs.declared.Range.{Range}

-- a record's bytes
abbrev pub Rec : Type 0
Rec = List ℕ

-- state: 0 CONFIG_UNLOCKED, 1 CONFIG_LOCKED, 2 RUN, 3 ERROR
abbrev pub CONFIG_UNLOCKED : ℕ
CONFIG_UNLOCKED = 0

abbrev pub CONFIG_LOCKED : ℕ
CONFIG_LOCKED = 1

abbrev pub RUN : ℕ
RUN = 2

abbrev pub ERROR : ℕ
ERROR = 3

-- ---- the fields, each at its place

abbrev pub function_id : Rec → ℕ
function_id r = num r 0 4

abbrev pub state : Rec → ℕ
state r = byte r 4

abbrev pub held : Rec → ℕ
held r = byte r 5

abbrev pub flags : Rec → ℕ
flags r = num r 6 2

-- bits 0 NO_FW_UPDATE and 2 LOCK_MSIX of the flags
abbrev pub no_fw_update : Rec → ℕ
no_fw_update r = bit 0 (flags r)

abbrev pub lock_msix : Rec → Bool
lock_msix r = bit_set 2 (flags r)

abbrev pub stream : Rec → ℕ
stream r = byte r 8

abbrev pub session : Rec → ℕ
session r = byte r 9

abbrev pub range_count : Rec → ℕ
range_count r = byte r 10

abbrev pub interface_info : Rec → ℕ
interface_info r = num r 12 2

abbrev pub msix_control : Rec → ℕ
msix_control r = num r 14 2

abbrev pub lnr_control : Rec → ℕ
lnr_control r = num r 16 2

abbrev pub tph_control : Rec → ℕ
tph_control r = num r 20 4

abbrev pub offset : Rec → ℕ
offset r = num r 24 8

abbrev pub nonce : Rec → List ℕ
nonce r = part r 40 32

-- 52 bytes of information, at most
abbrev pub most_information : ℕ
most_information = 52

-- where the ranges stand
abbrev pub ranges_place : ℕ
ranges_place = 72

abbrev pub range_of : Rec → ℕ → Range
range_of r k = ranges_from r ranges_place k

abbrev pub information_length : Rec → ℕ
information_length r = num r 200 4

-- ---- the rules, in 01's order

-- FUNCTION_ID: bits 31:25 zero. A segment without its valid bit is zero.
abbrev pub identity_ok : ℕ → Bool
identity_ok id = eqb (bits 31 25 id) 0 && (bit_set 24 id || eqb (bits 23 16 id) 0)

abbrev pub state_ok : Rec → Bool
state_ok r = leb (state r) ERROR

-- range count N, 0 to 8; zero
abbrev pub count_ok : Rec → Bool
count_ok r = leb (range_count r) most_ranges && eqb (byte r 11) 0

-- INTERFACE_INFO, bits 1 to 4 only
abbrev pub interface_ok : Rec → Bool
interface_ok r = bit_clear 0 (interface_info r) && eqb (bits 15 5 (interface_info r)) 0

-- bytes 18-19 and 32-39: zero
abbrev pub unused_ok : Rec → Bool
unused_ok r = zeros r 18 19 && zeros r 32 39

-- Held is 1 exactly in CONFIG_LOCKED; otherwise the nonce is zero.
abbrev pub nonce_ok : Rec → Bool
nonce_ok r = if eqb (state r) CONFIG_LOCKED then eqb (held r) 1 else eqb (held r) 0 && zeros r 40 71

-- the flags use bits 0 and 2 only
abbrev pub flags_ok : ℕ → Bool
flags_ok f = eqb (stored f) f

-- the lock's rule, for the offset of an 8-byte number x: a multiple of 4096, with which every range stays
unfoldable pub offset_ok : Rec → ℕ → Bool
offset_ok r x = whole_pages (signed x) && all_stay (signed x) (range_count r) (range_of r)

-- In states 0 and 3 bytes 6-9 and 24-31 are zero. In states 1 and 2 the flags use bits 0 and 2 only, and the offset meets the lock's rule.
unfoldable pub lock_ok : Rec → Bool
lock_ok r =
    if eqb (state r) CONFIG_UNLOCKED || eqb (state r) ERROR then zeros r 6 9 && zeros r 24 31
    else flags_ok (flags r) && offset_ok r (offset r)

-- the N ranges, and zero in the places past them
unfoldable pub ranges_ok : Rec → Bool
ranges_ok r =
    all_pages (range_count r) (range_of r)
    && all_attributes (range_count r) (range_of r)
    && never_fall (range_count r) (ids_of (range_of r))
    && zeros r (ranges_place + range_count r * range_bytes) 199

-- device information length L, 0 to 52; the information, zero past L
unfoldable pub information_ok : Rec → Bool
information_ok r = leb (information_length r) most_information && zeros r (204 + information_length r) 255

-- a record keeps its rules
unfoldable pub record_ok : Rec → Bool
record_ok r =
    identity_ok (function_id r)
    && state_ok r
    && nonce_ok r
    && count_ok r
    && interface_ok r
    && unused_ok r
    && lock_ok r
    && ranges_ok r
    && information_ok r
