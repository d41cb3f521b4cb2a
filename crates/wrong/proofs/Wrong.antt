-- Each wrong responder is refused by a demand. Assumes nothing.
use Rattle.std.specs.Prelude.{Some}
use mathlib.Core.Path.{◌≡◌, refl, sym, ap, ◌∙◌}
use mathlib.Core.Bool.{true}
use mathlib.Core.List.{List, [], ◌∷◌, ◌++◌}
use Prim.Native.Nat.{ℕ}
use native.Mathlib.Nat.{not-suc-le-zero}
use native.Mathlib.Omega.{arith}
use lib.ListN.{length, replicate, length-append}
use Rattle.rules.specs.Bytes.{byte, num, bytes_of, blank, part, over, every, zeros}
use Rattle.rules.specs.Call.{join, Outcome, refused, answered, happened, Call, Request, RegisterWrite, DeviceWide, FirmwareQuestion}
use Rattle.rules.specs.Change.{hits, live, moved, differing}
use Rattle.rules.specs.Identity.{same}
use Rattle.rules.specs.Range.{never_fall}
use Rattle.rules.specs.Record.{offset_ok, lock_ok, ranges_ok, information_ok, record_ok}
use Rattle.rules.specs.Report.{content_number, size_number, read_number, read_fields}
use Rattle.rules.specs.Request.{kind_of, header, message, exact_length, legal_in, verdict, locked, lock_interface, running, effect}
use Rattle.rules.specs.Table.{cut, records, record_at, all, distinct, length_ok, table_number, find_from, find}
use Rattle.rules.specs.declared.Event.TheVariants.{Multicast}
use Rattle.rules.specs.declared.Identity.{Identity}
use Rattle.rules.specs.declared.ReportFields.{ReportFields}
use Rattle.rules.proofs.Bools.{clash}
use Rattle.rules.proofs.Changes.{bytes_blank}
use Rattle.demands.specs.Answers.{first_of, AnswersFixed}
use Rattle.demands.specs.Exactly.{Reaches, MayLock, RequestsExactly, EventsExactly}
use Rattle.demands.specs.Histories.{Terms, terms_of, AcceptedLock, ServedStart, Ends, RanSince, InRun, RunExactlyWhen, unlocked}
use Rattle.demands.specs.Machine.{Seen, buffer_of, run, trace, seen, none_left, ◌and◌}
use Rattle.demands.specs.Reports.{Writer, Wrote, reader, ReportsFixed, ReportsSurvive}
use Rattle.demands.specs.Swaps.{DifferentInterfacesSwap}
use Rattle.wrong.specs.Wrong.{card, interface, version_asked, lock_asked, start_asked, constant, only_refuses, only_errs, one_reply, leaves_table, runs_at_lock, invents_count, adds_byte, shows_refused, writes_nothing}
use Rattle.demands.proofs.Lookups.{one_place}
use Rattle.demands.proofs.Swaps.{anywhere}

-- the card is accepted, with its interface unlocked and in record 0
card_accepted : table_number card ≡ 0
unfolding table_number length_ok records cut all distinct record_ok lock_ok ranges_ok information_ok num zeros every never_fall
card_accepted = refl

card_unlocked : all unlocked (records card) ≡ true
unfolding records cut all
card_unlocked = refl

card_found : find interface (records card) ≡ Some 0
unfolding records cut find_from same num
card_found = refl

-- two numbers that differ
pub differ : {A : Type 0} (m n : ℕ) → m ≡ n → (m ≡ n → ⊥) → A
differ m n e f = absurd (f e)

-- the lock reaches it, and meets 01's conditions
lock_reaches : Reaches lock_asked card 0 0x83 36
unfolding records cut find_from same num
lock_reaches = record {
  accepted = card_accepted;
  room = omega arith;
  map_length = refl;
  nonce_length = refl;
  version_is = refl;
  kind_is = refl;
  length_is = refl;
  found = refl;
}

may_lock : MayLock lock_asked (record_at card 0)
unfolding records cut num
may_lock = record {
  state_is = refl;
  bit_1 = refl;
  bit_3 = refl;
  bit_4 = refl;
  whole_pages = refl;
  ranges_stay = λ j h. absurd (not-suc-le-zero h);
  stream_secure = refl;
  nonce_ready = refl;
}

-- ---- one that only refuses breaks demand 2: the lock is not accepted; and demand 1: the firmware question has no number 4

pub only_refuses_locks : RequestsExactly only_refuses → ⊥
only_refuses_locks d = differ 4 0 (ap (λ (o : Outcome). o.number) (d.lock lock_asked card 0 lock_reaches may_lock)) (λ e. omega arith)

pub only_refuses_lem : AnswersFixed only_refuses → ⊥
unfolding first_of table_number length_ok records cut all distinct record_ok lock_ok ranges_ok information_ok num zeros every never_fall
only_refuses_lem d = differ 4 0 (d FirmwareQuestion card).number_is (λ e. omega arith)

-- ---- one that answers every request with TDISP_ERROR breaks demand 2: the lock gets 03h

pub only_errs_lem : RequestsExactly only_errs → ⊥
unfolding over message header
only_errs_lem d = differ 0x7f 0x03 (ap (λ (o : Outcome). byte o.reply 1) (d.lock lock_asked card 0 lock_reaches may_lock)) (λ e. omega arith)

-- ---- one fixed reply breaks demand 2: a version request gets 01h

version_reaches : Reaches version_asked card 0 0x81 16
unfolding records cut find_from same num
version_reaches = record {
  accepted = card_accepted;
  room = omega arith;
  map_length = refl;
  nonce_length = refl;
  version_is = refl;
  kind_is = refl;
  length_is = refl;
  found = refl;
}

pub one_reply_lem : RequestsExactly one_reply → ⊥
unfolding over message header
one_reply_lem d = differ 7 1 (ap (λ (o : Outcome). byte o.reply 1) (d.version version_asked card 0 version_reaches)) (λ e. omega arith)

-- ---- an invented count breaks demand 2: nobody moves, and it says 1

pub invents_count_lem : EventsExactly invents_count → ⊥
unfolding happened records cut differing moved live hits join table_number length_ok all distinct record_ok lock_ok ranges_ok information_ok num zeros every never_fall
invents_count_lem d = differ 1 0 (d.event_counts Multicast card card_accepted) (λ e. omega arith)

-- ---- a byte more breaks demand 2: the table is its records and nothing else

pub adds_byte_lem : EventsExactly adds_byte → ⊥
unfolding happened records cut differing moved live hits join table_number length_ok all distinct record_ok lock_ok ranges_ok information_ok num zeros every never_fall
adds_byte_lem d = differ 257 256 (ap (λ (t : List ℕ). length t) (d.event_moves Multicast card card_accepted)) (λ e. omega arith)

-- ---- one that enters RUN at lock breaks demand 3: no start was served

runs_early : InRun interface (run runs_at_lock (Request lock_asked ∷ []) card)
unfolding run answered verdict exact_length effect legal_in lock_interface offset_ok locked running over part bytes_of message header table_number length_ok records cut join all distinct record_ok lock_ok ranges_ok information_ok num zeros every never_fall find_from same
runs_early = record { place = 0; found = refl; running = refl }

-- a history of one call has no lock and later start
too_short : {i : Identity} (e : Seen) → RanSince i (e ∷ []) → ⊥
too_short e s =
    let n = ap length s.whole in
    let m = length-append s.before (s.lock ∷ (s.middle ++ (s.start ∷ s.after))) in
    let k = length-append s.middle (s.start ∷ s.after) in
    omega (arith, n, m, k)

pub runs_at_lock_lem : RunExactlyWhen runs_at_lock → ⊥
unfolding trace
runs_at_lock_lem d = too_short (seen runs_at_lock (Request lock_asked) card) ((d interface (Request lock_asked ∷ []) card card_accepted card_unlocked).0 runs_early)

-- ---- one that leaves the table alone breaks demand 3: lock and start were served, and nothing runs

locked_seen : AcceptedLock interface (blank 32) (terms_of lock_asked) (seen leaves_table (Request lock_asked) card)
unfolding answered verdict exact_length effect legal_in lock_interface offset_ok over part bytes_of message header table_number length_ok records cut all distinct record_ok lock_ok ranges_ok information_ok num zeros every never_fall find_from same
locked_seen = record {
  lent = lock_asked;
  call_is = refl;
  asks = record { version_is = refl; kind_is = refl; length_is = refl; who_is = refl };
  served = refl;
  reply_is = refl;
  terms_are = refl;
}

started_seen : ServedStart interface (blank 32) (seen leaves_table (Request start_asked) card)
unfolding answered verdict exact_length effect legal_in table_number length_ok records cut all distinct record_ok lock_ok ranges_ok information_ok num zeros every never_fall find_from same part
started_seen = record {
  lent = start_asked;
  call_is = refl;
  asks = record { version_is = refl; kind_is = refl; length_is = refl; who_is = refl };
  served = refl;
  carries = refl;
}

-- the bytes that arrive with a call
abbrev request_of : Call → List ℕ
request_of (Request l) = l.request
request_of (RegisterWrite id class) = []
request_of (DeviceWide e) = []
request_of FirmwareQuestion = []

-- a start is no stop and no change
start_lasts : (on : Terms) → Ends interface on (seen leaves_table (Request start_asked) card) → ⊥
start_lasts on (Ends.stopped l e a z q) = differ 0x86 0x87 (ap (λ (c : Call). kind_of (request_of c)) e ∙ a.kind_is) (λ x. omega arith)
start_lasts on (Ends.changed z s) = clash (sym s)

ran : RanSince interface (trace leaves_table (Request lock_asked ∷ (Request start_asked ∷ [])) card)
unfolding trace
ran = record {
  before = [];
  lock = seen leaves_table (Request lock_asked) card;
  middle = [];
  start = seen leaves_table (Request start_asked) card;
  after = [];
  nonce = blank 32;
  on = terms_of lock_asked;
  whole = refl;
  locked = locked_seen;
  started = started_seen;
  lasting = start_lasts (terms_of lock_asked) and none_left;
}

-- the card as it was: its one interface does not run
not_running : InRun interface card → ⊥
unfolding records cut find_from same num
not_running x =
    let k : x.place ≡ 0 = one_place interface (records card) x.place 0 x.found card_found in
    differ 0 2 (rw k at x.running) (λ e. omega arith)

pub leaves_table_lem : RunExactlyWhen leaves_table → ⊥
unfolding run
leaves_table_lem d = not_running ((d interface (Request lock_asked ∷ (Request start_asked ∷ [])) card card_accepted card_unlocked).1 ran)

-- ---- the swap alone refuses no constant: one that only refuses has it too. So demand 3 is stated beside demands 1 and 2

pub constant_swaps : (answer : Call → Outcome) → DifferentInterfacesSwap (constant answer)
constant_swaps answer before c d after t apart =
    anywhere (constant answer) c d after (λ u. record { first_same = refl; second_same = refl; table_same = refl }) before t

pub only_refuses_swaps : DifferentInterfacesSwap only_refuses
only_refuses_swaps = constant_swaps (λ c. refused 4 (buffer_of c) [])

-- ---- a reader that hands back fields beside a refusal breaks demand 1: nineteen bytes are refused

pub shows_refused_lem : (write : Writer) → ReportsFixed shows_refused write → ⊥
unfolding read_number size_number read_fields num
shows_refused_lem write d =
    differ 1 0 (ap (λ (f : ReportFields). f.info) ((d.reads (1 ∷ blank 18)).refused_fields (λ z. omega arith))) (λ e. omega arith)

-- ---- a writer that writes nothing breaks demand 2: twenty zero bytes are read, and 200 ones stay where they are to be written

pub writes_nothing_lem : ReportsSurvive reader writes_nothing → ⊥
unfolding read_number size_number content_number num zeros every never_fall over
writes_nothing_lem d =
    differ 1 0 (ap (λ (o : Wrote). byte o.output 0) (d.read_then_written (blank 20) (replicate 200 1) (bytes_blank 20) refl (omega arith))) (λ e. omega arith)
