-- Wrong collectors and responders that a collector would come to grief on (02, 2/12), and what each is told by: `proofs/WrongCollecting.antt` shows which
-- statement refuses it. And one card whose report is collected over a start, so that what is asked of a history can be met.
use Rattle.std.specs.Prelude.{true, List, [], ◌∷◌, ◌++◌, ℕ, ◌+◌, eqb, ltb, if◌then◌else◌, Err}
use Rattle.rules.specs.Bytes.{bytes_of, blank}
use Rattle.rules.specs.Call.{Call, served, Request, step}
use Rattle.rules.specs.Collector.{Collection, portion_said, remainder_said, total_said, is_taken, portion_verdict, grown, collected}
use Rattle.rules.specs.Report.{most_report, report_total}
use Rattle.rules.specs.Request.{Lent, kind_of, message}
use Rattle.rules.specs.declared.PortionRefusal.TheVariants.{NotReport, TotalOver}
use Rattle.demands.specs.Collected.{Ask}
use Rattle.demands.specs.Collecting.{Collecting}
use Rattle.demands.specs.Machine.{Machine}
use Rattle.wrong.specs.Wrong.{asking, wrongly}
use Rattle.wrong.specs.WrongInRun.{start_with_seven}

-- ---- wrong collectors

-- a reply for requester 0 with a portion of zeros: what it says of portion and remainder, and the portion's bytes
abbrev pub reply_saying : ℕ → ℕ → ℕ → List ℕ
reply_saying portion remainder bytes = (0x10 ∷ 0x04 ∷ blank 14) ++ bytes_of 2 portion ++ bytes_of 2 remainder ++ blank bytes

-- one that took 0/200 from requester 0: it has a "before"
abbrev pub begun : Collection
begun = record { id = 0; bytes = blank 200; held = 0; begun = true; total = 200 }

-- and one that holds 100 bytes of it
abbrev pub half : Collection
half = record { id = 0; bytes = blank 200; held = 100; begun = true; total = 200 }

-- one that takes nothing
abbrev pub takes_nothing : Collecting
takes_nothing = record { finds = λ c p. Err NotReport; after = λ c p. c }

-- one that names a total over 200 before one that is different
abbrev pub over_first : Collecting
over_first = record {
  finds = λ (c : Collection) (p : List ℕ). if ltb most_report (total_said c p) then Err TotalOver else portion_verdict c p;
  after = collected;
}

-- one whose count moves by a reply that it refuses
abbrev pub refused_moves : Collecting
refused_moves = record { finds = portion_verdict; after = grown }

-- one whose "before" is what the last reply said, without the bytes held
abbrev pub last_said : Collection → List ℕ → Collection
last_said c p = record { id = c.id; bytes = c.bytes; held = c.held; begun = true; total = portion_said p + remainder_said p }

abbrev pub before_is_last : Collecting
before_is_last = record {
  finds = portion_verdict;
  after = λ (c : Collection) (p : List ℕ). if is_taken (portion_verdict c p) then last_said (grown c p) p else c;
}

-- ---- a responder that a collector gets nowhere with: it sends empty portions

abbrev pub sends_nothing : Machine
sends_nothing =
    wrongly (λ (l : Lent) (t : List ℕ).
    if eqb (kind_of l.request) 0x84 then served (message 0x04 l.request (bytes_of 2 0 ++ bytes_of 2 (report_total t))) l t else step (Request l) t)

-- ---- the locked card of `WrongInRun`: its report, 20 bytes, in portions of 16 and 4, with a start and a state question between, and an ask too many

-- a request for a portion, by OFFSET and LENGTH
abbrev pub portion_at : ℕ → ℕ → Lent
portion_at at long = asking ((0x10 ∷ 0x84 ∷ blank 14) ++ bytes_of 2 at ++ bytes_of 2 long)

abbrev pub state_question : Lent
state_question = asking (0x10 ∷ 0x85 ∷ blank 14)

abbrev pub ask : List Call → Lent → Ask
ask before lent = record { before = before; lent = lent }

abbrev pub three_asks : List Ask
three_asks =
    ask [] (portion_at 0 16)
    ∷ ask (Request start_with_seven ∷ Request state_question ∷ []) (portion_at 16 65535)
    ∷ ask [] (portion_at 20 128)
    ∷ []
