-- Responders that are wrong about the report in RUN (02, 1/12), and the card on which each is told from the right one: `proofs/WrongInRun.antt`
-- shows which demand refuses it.
use Rattle.std.specs.Prelude.{◌&&◌, List, [], ◌∷◌, ◌++◌, ℕ, eqb, if◌then◌else◌}
use Rattle.rules.specs.Bytes.{byte, blank, over}
use Rattle.rules.specs.Call.{Outcome, served, Request, step}
use Rattle.rules.specs.Record.{RUN, ERROR}
use Rattle.rules.specs.Request.{Lent, kind_of, error_message, get_report}
use Rattle.demands.specs.Machine.{Machine, leaving}
use Rattle.wrong.specs.Wrong.{asking, wrongly}

-- ---- the card of `Wrong`, further on

-- locked, with NO_FW_UPDATE and a nonce that begins with 7; running; and in ERROR
abbrev pub locked_card : List ℕ
locked_card = blank 4 ++ (1 ∷ 1 ∷ 1 ∷ blank 33) ++ (7 ∷ blank 215)

abbrev pub running_card : List ℕ
running_card = blank 4 ++ (2 ∷ 0 ∷ 1 ∷ blank 249)

abbrev pub failed_card : List ℕ
failed_card = blank 4 ++ (3 ∷ blank 251)

-- its report asked for, all 20 bytes; and a start with that nonce
abbrev pub report_asked : Lent
report_asked = asking ((0x10 ∷ 0x84 ∷ blank 14) ++ (0 ∷ 0 ∷ 20 ∷ 0 ∷ []))

abbrev pub start_with_seven : Lent
start_with_seven = asking ((0x10 ∷ 0x86 ∷ blank 14) ++ (7 ∷ blank 31))

-- ---- the wrong ones

-- one that gives it in CONFIG_LOCKED alone, as before 1/12
abbrev pub only_in_locked : Machine
only_in_locked =
    wrongly (λ (l : Lent) (t : List ℕ).
    if eqb (kind_of l.request) 0x84 && eqb (byte t 4) RUN then served (error_message 0x04 0 l.request) l t else step (Request l) t)

-- one that gives it in ERROR too
abbrev pub also_in_error : Machine
also_in_error =
    wrongly (λ (l : Lent) (t : List ℕ).
    if eqb (kind_of l.request) 0x84 && eqb (byte t 4) ERROR then served (get_report l.request t).reply l t else step (Request l) t)

-- one whose report shows byte n of the record first: the state, the held mark, or a byte of the nonce
abbrev pub showing : ℕ → Outcome → Outcome
showing b o = record { number = o.number; value = o.value; reply = over 20 (b ∷ []) o.reply; table = o.table }

abbrev pub shows_byte : ℕ → Machine
shows_byte n =
    wrongly (λ (l : Lent) (t : List ℕ).
    if eqb (kind_of l.request) 0x84 then showing (byte t n) (step (Request l) t) else step (Request l) t)

-- one whose start forgets the flags of the lock
abbrev pub forgets_flags : Machine
forgets_flags =
    wrongly (λ (l : Lent) (t : List ℕ).
    if eqb (kind_of l.request) 0x86 then leaving (step (Request l) t) (over 6 (0 ∷ []) (step (Request l) t).table) else step (Request l) t)
