-- Document 01, "What a call gets": numbers 0 to 7, answer, reply and table, of every call, over what it is given, byte for byte.
use Rattle.std.specs.Prelude.{Bool, not, ◌&&◌, ◌≡◌, List, [], ◌∷◌, ◌++◌, map, ℕ, eqb, ltb, length, get_or, set, Result, Ok, Err, if◌then◌else◌}
use Rattle.rules.specs.Bytes.{over}
use Rattle.rules.specs.Change.{rule_of, hits, write_hits, moved, differing, firmware_yes}
use Rattle.rules.specs.Identity.{identity_of}
use Rattle.rules.specs.Record.{Rec}
use Rattle.rules.specs.Report.{value_or_0}
use Rattle.rules.specs.Request.{Lent, effect, error_message, error_code, error_datum, verdict}
use Rattle.rules.specs.Table.{records, table_number, refusal_number, number_or_0, find, lookup_number}
use Rattle.rules.specs.declared.Event.{Event}
use Rattle.rules.specs.declared.Identity.{Identity}
use Rattle.rules.specs.declared.Refusal.{Refusal}
use Rattle.rules.specs.declared.RequestError.{RequestError}
use Rattle.rules.specs.declared.Rule.{Rule}

-- this paper's numbers of the answers
abbrev pub answer_number : Result ℕ Refusal → ℕ
answer_number = number_or_0 refusal_number

-- Beside any refusal number the length or count is 0.
abbrev pub answer_value : Result ℕ Refusal → ℕ
answer_value = value_or_0

-- and the firmware answer, 1 for yes, is no
abbrev pub firmware_number : Result Bool Refusal → ℕ
firmware_number = number_or_0 refusal_number

abbrev pub firmware_value : Result Bool Refusal → ℕ
firmware_value (Ok let_it) = if let_it then 1 else 0
firmware_value (Err why) = 0

-- the bytes of records
unfoldable pub join : List Rec → List ℕ
join [] = []
join (r ∷ rs) = r ++ join rs

-- what a call gives: its number, its length, count or answer, and the reply buffer and the table afterwards
pub record Outcome : Type 0 where
  pub number : ℕ
  pub value : ℕ
  pub reply : List ℕ
  pub table : List ℕ

-- refused: reply buffer and table unchanged
abbrev pub refused : ℕ → List ℕ → List ℕ → Outcome
refused number reply t = record { number = number; value = 0; reply = reply; table = t }

-- every call takes a table: 1 to 3 of it, else what follows. The lowest number that applies wins.
abbrev pub on_accepted : List ℕ → List ℕ → Outcome → Outcome
on_accepted reply t o = if not (eqb (table_number t) 0) then refused (table_number t) reply t else o

-- ---- requests

-- served: reply at the front, its length returned; the rest of the buffer unchanged; the named record as the request says
abbrev pub served : List ℕ → Lent → List ℕ → Outcome
served m l t = record { number = 0; value = length m; reply = over 0 m l.reply; table = t }

-- A TDISP_ERROR reply is served: number 0, table unchanged.
abbrev pub carried_out : Result ℕ RequestError → Lent → List ℕ → Outcome
carried_out (Err why) l t = served (error_message (error_code why) (error_datum why) l.request) l t
carried_out (Ok k) l t =
    let e = effect l (get_or (records t) k []) in
    served e.reply l (join (set (records t) k e.rec))

-- bytes of the least reply buffer and of the least request
abbrev pub least_reply : ℕ
least_reply = 256

abbrev pub least_request : ℕ
least_request = 16

-- the longest reply is 148 bytes
abbrev pub most_reply : ℕ
most_reply = 148

-- 4 reply buffer under 256 bytes; 5 request under 16 bytes; 6 stream map or nonce bytes not 32 long; else 0, served
unfoldable pub answered : Lent → List ℕ → Outcome
answered l t =
    on_accepted l.reply t
    (if ltb (length l.reply) least_reply then refused 4 l.reply t
    else if ltb (length l.request) least_request then refused 5 l.reply t
    else if not (eqb (length l.streams) 32 && eqb (length l.nonce) 32) then refused 6 l.reply t
    else carried_out (verdict l.request (records t)) l t)

-- ---- changes and the firmware question, which take no reply buffer

-- the records that a change is for, moved; the number of those whose state differs
abbrev pub changed : (Rec → Bool) → List ℕ → Outcome
changed p t = record {
  number = 0;
  value = differing (records t) (map (moved p) (records t));
  reply = [];
  table = join (map (moved p) (records t));
}

-- 7 a register write's interface is no record's, whatever the class; else the change of its rule
abbrev pub written_by : Rule → Identity → List ℕ → Outcome
written_by rule who t =
    let known = lookup_number (find who (records t)) in
    if not (eqb known 0) then refused known [] t else changed (write_hits rule who) t

-- a register write, of a FUNCTION_ID and a class
unfoldable pub register_written : ℕ → ℕ → List ℕ → Outcome
register_written id class t = on_accepted [] t (written_by (rule_of class) (identity_of id) t)

-- stream down, session end, multicast
unfoldable pub happened : Event → List ℕ → Outcome
happened e t = on_accepted [] t (changed (hits e) t)

-- 1 for yes
unfoldable pub firmware_asked : List ℕ → Outcome
firmware_asked t = on_accepted [] t (record { number = 0; value = if firmware_yes (records t) then 1 else 0; reply = []; table = t })

-- ---- every call: THE step

-- a request; a register write, by FUNCTION_ID and class; a device-wide event; the firmware question
pub data Call : Type 0 where
  Request : Lent → Call
  RegisterWrite : ℕ → ℕ → Call
  DeviceWide : Event → Call
  FirmwareQuestion : Call

-- what a call gives on a table
abbrev pub step : Call → List ℕ → Outcome
step (Request l) t = answered l t
step (RegisterWrite id class) t = register_written id class t
step (DeviceWide e) t = happened e t
step FirmwareQuestion t = firmware_asked t

-- what a function that makes a call returns and leaves
pub record Gives (o : Outcome) (r : Result ℕ Refusal) (reply table : List ℕ) : Type 0 where
  pub number_is : answer_number r ≡ o.number
  pub value_is : answer_value r ≡ o.value
  pub reply_is : reply ≡ o.reply
  pub table_is : table ≡ o.table

-- and what the firmware question returns; it cannot change the table
pub record Says (o : Outcome) (r : Result Bool Refusal) : Type 0 where
  pub number_is : firmware_number r ≡ o.number
  pub value_is : firmware_value r ≡ o.value
