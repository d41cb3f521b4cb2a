-- A line of a script, run: its call by the step of rules, the settings and the table after it. Assumes nothing.
use Rattle.std.specs.Prelude.{Bool, true, false, List, ◌≡◌, ℕ, ◌≤◌, ◌<◌, take, Result, Ok, Err}
use Rattle.compare.specs.Requests.{report_request}
use Rattle.rules.specs.Bytes.{blank, over}
use Rattle.rules.specs.Call as rules
use Rattle.rules.specs.Collector.{Collection, next_offset, finished, collected}
use Rattle.rules.specs.Request.{Lent, lent}
use Rattle.script.specs.Line.{Reading}
use Rattle.script.specs.Settings.{given, set_by}
use Rattle.script.specs.declared.digits.Wrong.{Wrong}
use Rattle.script.specs.declared.line.Call.{Call}
use Rattle.script.specs.declared.line.Line.{Line}
use Rattle.script.specs.declared.settings.Settings.{Settings}
use Rattle.rules.specs.declared.Refusal.{Refusal}

-- what a request is lent: the settings give all but the message and the reply buffer
abbrev pub lent_by : List ℕ → List ℕ → Settings → Lent
lent_by request reply s =
    lent request reply (given s.nonce) s.ready (given s.streams) s.session

-- a request, with a blank reply buffer of the length that is set
abbrev pub request_by : List ℕ → Settings → rules.Call
request_by request s = rules.Request (lent_by request (take s.reply_bytes (blank 512)) s)

-- what a function that makes a request returns and leaves: the reply buffer stands at the front of 512 bytes, of which the rest stays blank
pub record Gets (o : rules.Outcome) (r : Result ℕ Refusal) (buffer table : List ℕ) : Type 0 where
  pub number_is : rules.answer_number r ≡ o.number
  pub value_is : rules.answer_value r ≡ o.value
  pub buffer_is : buffer ≡ over 0 o.reply (blank 512)
  pub table_is : table ≡ o.table

-- ---- a report, collected

-- the reply to a request: as many of those bytes as the length says
abbrev pub reply_of : rules.Outcome → List ℕ
reply_of o = take o.value (over 0 o.reply (blank 512))

-- a collector after one ask, at the OFFSET that it names
abbrev pub asked_once : Collection → ℕ → Settings → List ℕ → Collection
asked_once c asked s t = collected c (reply_of (rules.step (request_by (report_request c.id (next_offset c) asked) s) t))

-- asked at one OFFSET after the other, up to an ask that moves nothing or that finishes it
pub data Asks (asked : ℕ) (s : Settings) (t : List ℕ) : Collection → Collection → Type 0 where
  stops : {c d : Collection} → d ≡ asked_once c asked s t → d.held ≤ c.held → Asks asked s t c d
  ends : {c d : Collection} → d ≡ asked_once c asked s t → finished d ≡ true → Asks asked s t c d
  goes_on : {c d e : Collection} → d ≡ asked_once c asked s t → c.held < d.held → finished d ≡ false → Asks asked s t d e → Asks asked s t c e

-- ---- a call

-- the table that a call leaves: what step gives. A request's bytes are the first of those beside it. A collect asks for a report in any number of
-- requests, each of which leaves the table.
abbrev pub table_left : Call → List ℕ → Settings → List ℕ → List ℕ
table_left (Call.Request n) bytes s t = (rules.step (request_by (take n bytes) s) t).table
table_left (Call.RegisterWrite id class) bytes s t = (rules.step (rules.RegisterWrite id class) t).table
table_left (Call.Collect id asked) bytes s t = t
table_left (Call.Happen event) bytes s t = (rules.step (rules.DeviceWide event) t).table
table_left Call.Firmware bytes s t = (rules.step rules.FirmwareQuestion t).table

-- ---- a line, by what it says, or what is wrong with it, and its bytes

abbrev pub good_line : Result Line Wrong → Bool
good_line (Ok line) = true
good_line (Err wrong) = false

abbrev pub is_good : Reading → Bool
is_good r = good_line r.line

-- only a setting line changes the settings, and only a call the table
abbrev pub settings_by : Result Line Wrong → List ℕ → Settings → Settings
settings_by (Ok Line.Empty) bytes s = s
settings_by (Ok (Line.Set setting)) bytes s = set_by setting bytes s
settings_by (Ok (Line.Do call)) bytes s = s
settings_by (Err wrong) bytes s = s

abbrev pub settings_after : Reading → Settings → Settings
settings_after r s = settings_by r.line r.out s

abbrev pub table_by : Result Line Wrong → List ℕ → Settings → List ℕ → List ℕ
table_by (Ok Line.Empty) bytes s t = t
table_by (Ok (Line.Set setting)) bytes s t = t
table_by (Ok (Line.Do call)) bytes s t = table_left call bytes s t
table_by (Err wrong) bytes s t = t

abbrev pub table_after : Reading → Settings → List ℕ → List ℕ
table_after r s t = table_by r.line r.out s t
