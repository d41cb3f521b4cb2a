-- Wrong responders, and the one card on which each is told from the right one: `proofs/Wrong.antt` shows which demand refuses it.
use Rattle.std.specs.Prelude.{true, List, [], ◌∷◌, ◌++◌, map, ℕ, eqb, if◌then◌else◌}
use Rattle.rules.specs.Bytes.{blank}
use Rattle.rules.specs.Call.{join, Outcome, refused, served, Call, Request, RegisterWrite, DeviceWide, FirmwareQuestion, step}
use Rattle.rules.specs.Identity.{identity_of}
use Rattle.rules.specs.Record.{Rec, CONFIG_LOCKED, state}
use Rattle.rules.specs.Report.{read_number, read_fields}
use Rattle.rules.specs.Request.{Lent, lent, kind_of, message, error_message, running}
use Rattle.rules.specs.Table.{records}
use Rattle.rules.specs.declared.Identity.{Identity}
use Rattle.demands.specs.Machine.{Machine, buffer_of, leaving}
use Rattle.demands.specs.Reports.{Reader, Writer, writer}

-- ---- the card: one interface, requester 0, in CONFIG_UNLOCKED

abbrev pub card : List ℕ
card = blank 256

abbrev pub interface : Identity
interface = identity_of 0

-- a request for it, with 32 zero bytes of nonce, ready, and stream 0 secure
abbrev pub asking : List ℕ → Lent
asking q = lent q (blank 256) (blank 32) true (1 ∷ blank 31) (record { 0 = 0 })

abbrev pub version_asked : Lent
version_asked = asking (0x10 ∷ 0x81 ∷ blank 14)

abbrev pub lock_asked : Lent
lock_asked = asking (0x10 ∷ 0x83 ∷ blank 34)

-- with the nonce that the lock replied
abbrev pub start_asked : Lent
start_asked = asking (0x10 ∷ 0x86 ∷ blank 46)

-- ---- the wrong ones

-- one whose answers do not look at the table, and leave it
abbrev pub constant : (Call → Outcome) → Machine
constant answer c t = leaving (answer c) t

-- one that only refuses
abbrev pub only_refuses : Machine
only_refuses c t = refused 4 (buffer_of c) t

-- one that is wrong about requests, and right about every other call
abbrev pub wrongly : (Lent → List ℕ → Outcome) → Machine
wrongly requested (Request l) t = requested l t
wrongly requested (RegisterWrite id class) t = step (RegisterWrite id class) t
wrongly requested (DeviceWide e) t = step (DeviceWide e) t
wrongly requested FirmwareQuestion t = step FirmwareQuestion t

-- one that answers every request with TDISP_ERROR: 01h
abbrev pub only_errs : Machine
only_errs = wrongly (λ (l : Lent) (t : List ℕ). served (error_message 0x01 0 l.request) l t)

-- one fixed reply for all: a stop's
abbrev pub one_reply : Machine
one_reply = wrongly (λ (l : Lent) (t : List ℕ). served (message 0x07 l.request []) l t)

-- one that leaves the table alone
abbrev pub leaves_table : Machine
leaves_table c t = leaving (step c t) t

-- one that enters RUN at lock and pretends at start
abbrev pub early : Rec → Rec
early r = if eqb (state r) CONFIG_LOCKED then running r else r

abbrev pub runs_at_lock : Machine
runs_at_lock =
    wrongly (λ (l : Lent) (t : List ℕ).
    if eqb (kind_of l.request) 0x86 then served (message 0x06 l.request []) l t
    else leaving (step (Request l) t) (join (map early (records (step (Request l) t).table))))

-- an invented moved count
abbrev pub counted : Outcome → Outcome
counted o = record { number = o.number; value = 1; reply = o.reply; table = o.table }

abbrev pub invents_count : Machine
invents_count (Request l) t = step (Request l) t
invents_count (RegisterWrite id class) t = counted (step (RegisterWrite id class) t)
invents_count (DeviceWide e) t = counted (step (DeviceWide e) t)
invents_count FirmwareQuestion t = step FirmwareQuestion t

-- one that adds a byte to the table at each event
abbrev pub lengthened : Outcome → Outcome
lengthened o = leaving o (o.table ++ (0 ∷ []))

abbrev pub adds_byte : Machine
adds_byte (Request l) t = step (Request l) t
adds_byte (RegisterWrite id class) t = lengthened (step (RegisterWrite id class) t)
adds_byte (DeviceWide e) t = lengthened (step (DeviceWide e) t)
adds_byte FirmwareQuestion t = step FirmwareQuestion t

-- ---- wrong readers and writers of reports

-- a reader that hands back fields beside a refusal
abbrev pub shows_refused : Reader
shows_refused s = record { number = read_number s; fields = read_fields s }

-- a writer that gives the right number and length, and writes nothing
abbrev pub writes_nothing : Writer
writes_nothing f output = record { number = (writer f output).number; value = (writer f output).value; output = output }
