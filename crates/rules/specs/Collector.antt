-- Document 02, 2/12, "A collector for reports that come in portions": the replies of type 04h for one interface, put together.
use Rattle.std.specs.Prelude.{Bool, true, false, not, ◌&&◌, List, ℕ, ◌+◌, eqb, leb, ltb, length, take, drop, Result, Ok, Err, if◌then◌else◌}
use Rattle.rules.specs.Bytes.{byte, num, blank, over}
use Rattle.rules.specs.Identity.{identity_of, identity_at, same}
use Rattle.rules.specs.Report.{most_report}
use Rattle.rules.specs.Request.{kind_of}
use Rattle.rules.specs.Table.{number_or_0}
use Rattle.rules.specs.declared.PortionRefusal.{PortionRefusal}
use Rattle.rules.specs.declared.PortionRefusal.TheVariants.{NotReport, OtherInterface, OtherLength, TotalDifferent, TotalOver}

-- A collector keeps the bytes it has so far and how many: of the interface with this FUNCTION_ID; whether a reply was taken, and the total then.
pub record Collection : Type 0 where
  pub id : ℕ
  pub bytes : List ℕ
  pub held : ℕ
  pub begun : Bool
  pub total : ℕ

-- one that has nothing yet: the first reply has no "before"
abbrev pub fresh : ℕ → Collection
fresh id = record { id = id; bytes = blank most_report; held = 0; begun = false; total = 0 }

-- It says which OFFSET to ask for next.
abbrev pub next_offset : Collection → ℕ
next_offset c = c.held

-- the bytes it has so far
abbrev pub held_bytes : Collection → List ℕ
held_bytes c = take c.held c.bytes

-- as many as the total
abbrev pub finished : Collection → Bool
finished c = c.begun && eqb c.held c.total

-- ---- a reply: portion length 2, remainder length 2, the portion

abbrev pub least_report_reply : ℕ
least_report_reply = 20

abbrev pub portion_said : List ℕ → ℕ
portion_said p = num p 16 2

abbrev pub remainder_said : List ℕ → ℕ
remainder_said p = num p 18 2

abbrev pub portion_in : List ℕ → List ℕ
portion_in p = drop least_report_reply p

-- The total is the bytes held plus portion plus remainder: an exact sum.
abbrev pub total_said : Collection → List ℕ → ℕ
total_said c p = c.held + portion_said p + remainder_said p

-- ---- whether it is taken

-- not a report reply: under 20 bytes, other version or type
unfoldable pub is_report_reply : List ℕ → Bool
is_report_reply p = leb least_report_reply (length p) && (eqb (byte p 0) 0x10 && eqb (kind_of p) 0x04)

-- a reply for its interface, by 01's equality; reserved bytes are not looked at
abbrev pub is_for_it : Collection → List ℕ → Bool
is_for_it c p = same (identity_of c.id) (identity_at p 4)

-- total different from before; the first reply has no "before"
abbrev pub is_different : Collection → List ℕ → Bool
is_different c p = c.begun && not (eqb (total_said c p) c.total)

-- It refuses by the first of these names that applies: not a report reply, other interface, length not as the portion says, total different
-- from before, total over 200.
unfoldable pub portion_verdict : Collection → List ℕ → Result Unit PortionRefusal
portion_verdict c p =
    if not (is_report_reply p) then Err NotReport
    else if not (is_for_it c p) then Err OtherInterface
    else if not (eqb (length p) (least_report_reply + portion_said p)) then Err OtherLength
    else if is_different c p then Err TotalDifferent
    else if ltb most_report (total_said c p) then Err TotalOver
    else Ok tt

-- the C interface's own numbers of these names: 02 gives none
abbrev pub portion_refusal_number : PortionRefusal → ℕ
portion_refusal_number NotReport = 30
portion_refusal_number OtherInterface = 31
portion_refusal_number OtherLength = 32
portion_refusal_number TotalDifferent = 33
portion_refusal_number TotalOver = 34

-- 0 where the reply is taken
abbrev pub portion_number : Result Unit PortionRefusal → ℕ
portion_number = number_or_0 portion_refusal_number

abbrev pub is_taken : Result Unit PortionRefusal → Bool
is_taken v = eqb (portion_number v) 0

-- ---- what becomes of it

-- A reply that is taken puts its portion behind the bytes held. (A portion of 0 while a remainder is left moves nothing.)
unfoldable pub grown : Collection → List ℕ → Collection
grown c p = record {
  id = c.id;
  bytes = over c.held (portion_in p) c.bytes;
  held = c.held + portion_said p;
  begun = true;
  total = total_said c p;
}

-- A refused reply leaves it as it was.
unfoldable pub collected : Collection → List ℕ → Collection
collected c p = if is_taken (portion_verdict c p) then grown c p else c
