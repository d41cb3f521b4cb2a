-- Document 01, "The table (ours)" and "What a call gets": records of one fixed size, no header, and refusals 1 to 3.
use Rattle.std.specs.Prelude.{Bool, true, false, not, ◌&&◌, List, [], ◌∷◌, ℕ, zero, suc, ◌*◌, ◌/◌, ◌%◌, eqb, leb, length, take, drop, get_or, Option, Some, None, Result, Ok, Err, if◌then◌else◌}
use Rattle.rules.specs.Identity.{identity_at, same}
use Rattle.rules.specs.Record.{Rec, record_ok}
use Rattle.rules.specs.declared.Identity.{Identity}
use Rattle.rules.specs.declared.Refusal.{Refusal}
use Rattle.rules.specs.declared.Refusal.TheVariants.{TableLength, TableRecord, TableIdentities, ReplyShort, RequestShort, Inputs, Interface}

-- bytes of a record, and how many records a table has at most
abbrev pub record_bytes : ℕ
record_bytes = 256

abbrev pub most_records : ℕ
most_records = 64

-- ---- records

-- the first n pieces of w bytes
unfoldable pub cut : ℕ → ℕ → List ℕ → List Rec
cut w zero t = []
cut w (suc n) t = take w t ∷ cut w n (drop w t)

-- a table's records
unfoldable pub records : List ℕ → List Rec
records t = cut record_bytes (length t / record_bytes) t

-- record k
abbrev pub record_at : List ℕ → ℕ → Rec
record_at t k = get_or (records t) k []

unfoldable pub all : (Rec → Bool) → List Rec → Bool
all p [] = true
all p (r ∷ rs) = p r && all p rs

-- the interface that a record is for
abbrev pub identity : Rec → Identity
identity r = identity_at r 0

-- whether a record is for an interface
abbrev pub names : Identity → Rec → Bool
names who r = same who (identity r)

abbrev pub names_not : Identity → Rec → Bool
names_not who r = not (names who r)

-- No two records have equal FUNCTION_ID.
unfoldable pub distinct : List Rec → Bool
distinct [] = true
distinct (r ∷ rs) = all (names_not (identity r)) rs && distinct rs

-- ---- refusals 1 to 3

-- 256 to 16,384 in steps of 256
unfoldable pub length_ok : ℕ → Bool
length_ok n = leb record_bytes n && leb n (most_records * record_bytes) && eqb (n % record_bytes) 0

-- 1 table length is not 256 to 16,384 in steps of 256; 2 a record breaks its rules; 3 two records have equal FUNCTION_ID.
-- The lowest number that applies wins.
unfoldable pub table_number : List ℕ → ℕ
table_number t =
    if not (length_ok (length t)) then 1
    else if not (all record_ok (records t)) then 2
    else if not (distinct (records t)) then 3
    else 0

-- this paper's numbers of the refusals,
abbrev pub refusal_number : Refusal → ℕ
refusal_number TableLength = 1
refusal_number TableRecord = 2
refusal_number TableIdentities = 3
refusal_number ReplyShort = 4
refusal_number RequestShort = 5
refusal_number Inputs = 6
refusal_number Interface = 7

-- a reason's number; 0 where nothing is refused
abbrev pub number_or_0 : {T E : Type 0} → (E → ℕ) → Result T E → ℕ
number_or_0 number (Ok x) = 0
number_or_0 number (Err why) = number why

-- and of a judgement
abbrev pub judgement_number : Result Unit Refusal → ℕ
judgement_number = number_or_0 refusal_number

-- ---- lookup by identity

-- the place of the first record for an interface, counted from k
unfoldable pub find_from : ℕ → Identity → List Rec → Option ℕ
find_from k who [] = None
find_from k who (r ∷ rs) = if names who r then Some k else find_from (suc k) who rs

abbrev pub find : Identity → List Rec → Option ℕ
find who rs = find_from 0 who rs

abbrev pub nothing : Option ℕ → Bool
nothing (Some k) = false
nothing None = true

-- the paper's numbers of a lookup: a register write whose interface is no record's gets 7. (A request gets an error: `looked_up` in Request.)
abbrev pub lookup_number : Option ℕ → ℕ
lookup_number (Some k) = 0
lookup_number None = 7
