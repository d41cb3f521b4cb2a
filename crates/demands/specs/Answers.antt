-- Demand 1: whatever bytes arrive, as request, table or event, the call ends with an answer that document 01 fixes. Callers check nothing
-- first. A refused call returns its number and leaves table and reply buffer as they were. (`Reports` has the same of reports.)
use Rattle.std.specs.Prelude.{◌≡◌, Bool, not, ◌&&◌, List, [], ◌∷◌, ◌++◌, ℕ, eqb, ltb, length, drop, if◌then◌else◌}
use Rattle.rules.specs.Call.{Outcome, Call, Request, RegisterWrite, DeviceWide, FirmwareQuestion}
use Rattle.rules.specs.Identity.{identity_of}
use Rattle.rules.specs.Record.{record_ok}
use Rattle.rules.specs.Table.{records, all, distinct, length_ok, find, nothing}
use Rattle.demands.specs.Machine.{Machine, buffer_of}

-- a line of 01's table of numbers: the number, and whether it applies
pub record Line : Type 0 where
  pub number : ℕ
  pub applies : Bool

abbrev pub line : ℕ → Bool → Line
line n b = record { number = n; applies = b }

-- 1 table length is not 256 to 16,384 in steps of 256; 2 a record breaks its rules; 3 two records have equal FUNCTION_ID
abbrev pub table_lines : List ℕ → List Line
table_lines t = line 1 (not (length_ok (length t))) ∷ line 2 (not (all record_ok (records t))) ∷ line 3 (not (distinct (records t))) ∷ []

-- A call uses those lines whose input it takes. 4 reply buffer under 256 bytes; 5 request under 16 bytes; 6 stream map or nonce bytes not
-- 32 long; 7 a register write's interface is no record's
abbrev pub lines : Call → List ℕ → List Line
lines (Request l) t =
    table_lines t
    ++ (line 4 (ltb (length l.reply) 256)
    ∷ line 5 (ltb (length l.request) 16)
    ∷ line 6 (not (eqb (length l.streams) 32 && eqb (length l.nonce) 32))
    ∷ [])
lines (RegisterWrite id class) t = table_lines t ++ (line 7 (nothing (find (identity_of id) (records t))) ∷ [])
lines (DeviceWide e) t = table_lines t
lines FirmwareQuestion t = table_lines t

-- The lowest number that applies wins: the first that does, for the lines of a call stand in the order of their numbers. 0 where none does:
-- served
unfoldable pub first_of : List Line → ℕ
first_of [] = 0
first_of (x ∷ xs) = if x.applies then x.number else first_of xs

-- the answer of one call
pub record Fixed (c : Call) (t : List ℕ) (o : Outcome) : Type 0 where
  pub number_is : o.number ≡ first_of (lines c t)
  -- refused: length, count or answer 0, buffer and table as they were
  pub refused_value : (o.number ≡ 0 → ⊥) → o.value ≡ 0
  pub refused_buffer : (o.number ≡ 0 → ⊥) → o.reply ≡ buffer_of c
  pub refused_table : (o.number ≡ 0 → ⊥) → o.table ≡ t
  -- the reply stands at the front: the buffer keeps its length, and the rest of it stays
  pub buffer_length : length o.reply ≡ length (buffer_of c)
  pub buffer_rest : drop o.value o.reply ≡ drop o.value (buffer_of c)

-- for every call on every table, with no premise
abbrev pub AnswersFixed : Machine → Type 0
AnswersFixed next = (c : Call) (t : List ℕ) → Fixed c t (next c t)
