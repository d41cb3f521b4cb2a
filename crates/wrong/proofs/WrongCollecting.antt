-- Each wrong collector, and each responder that it would come to grief on, is refused by a statement; and what is asked of a history can be
-- met. Assumes nothing.
use mathlib.Core.Path.{◌≡◌, refl, ap}
use mathlib.Core.Bool.{true}
use mathlib.Core.List.{List, [], ◌∷◌, ◌++◌}
use Prim.Native.Nat.{ℕ, zero, suc, ◌<◌}
use native.Mathlib.Omega.{arith}
use Rattle.rules.specs.Bytes.{Bytes, byte, num, bytes_of, blank, part, over, every, zeros, same_bytes}
use Rattle.rules.specs.Call.{join, answered, Request, step}
use Rattle.rules.specs.Collector.{Collection, fresh, held_bytes, finished, is_report_reply, portion_number, portion_verdict, grown, collected}
use Rattle.rules.specs.Identity.{same}
use Rattle.rules.specs.Range.{listed, eight_ranges, never_fall}
use Rattle.rules.specs.Record.{offset_ok, lock_ok, ranges_ok, information_ok, record_ok}
use Rattle.rules.specs.Report.{head_of, bytes_of_ranges, information_from, report_bytes, report_of, portion_bytes}
use Rattle.rules.specs.Request.{Lent, header, message, exact_length, legal_in, verdict, get_report, running, start_interface, gets, effect}
use Rattle.rules.specs.Table.{cut, records, all, distinct, length_ok, table_number, find_from}
use Rattle.rules.proofs.Listed.{same_at_lem}
use Rattle.rules.proofs.Numbers.{bytes_append}
use Rattle.demands.specs.Answers.{first_of}
use Rattle.demands.specs.Collected.{calls, AsksNext, collection, no_ask, asked, OneLock, Collects, FinishedIsWhole, EveryReplyTaken}
use Rattle.demands.specs.Collecting.{TakesRightly}
use Rattle.demands.specs.Exactly.{Arrives, in_locked, in_run}
use Rattle.demands.specs.Histories.{Asks}
use Rattle.demands.specs.Machine.{Machine, run}
use Rattle.demands.specs.ReportStays.{no_more, ◌then◌}
use Rattle.wrong.specs.Wrong.{interface}
use Rattle.wrong.specs.WrongInRun.{locked_card, running_card, only_in_locked, shows_byte}
use Rattle.wrong.specs.WrongCollecting.{reply_saying, begun, half, takes_nothing, over_first, refused_moves, before_is_last, sends_nothing, portion_at, ask, three_asks}
use Rattle.demands.proofs.Collected.{finished_is_whole}
use Rattle.wrong.proofs.Wrong.{differ}

-- ---- wrong collectors

-- one that takes nothing: 0/0 is taken
pub takes_nothing_lem : TakesRightly takes_nothing → ⊥
unfolding first_of num same bytes_of
takes_nothing_lem d = differ 30 0 (d.name_is (fresh 0) (reply_saying 0 0 0)) (λ e. omega arith)

-- one that names a total over 200 first: after 0/200 a portion of 128 with 73 left is different
pub over_first_lem : TakesRightly over_first → ⊥
unfolding first_of num same bytes_of
over_first_lem d = differ 34 33 (d.name_is begun (reply_saying 128 73 128)) (λ e. omega arith)

-- one whose count moves by a reply that it refuses: a portion of 10 in 31 bytes
pub refused_moves_lem : TakesRightly refused_moves → ⊥
unfolding portion_verdict is_report_reply num same bytes_of grown
refused_moves_lem d = differ 10 0 (ap (λ (c : Collection). c.held) (d.refused_leaves (fresh 0) (reply_saying 10 0 11) (λ e. cc))) (λ e. omega arith)

-- one whose "before" is the last reply's: of 100 bytes held and 0/100 the total is 200
pub before_is_last_lem : TakesRightly before_is_last → ⊥
unfolding portion_verdict is_report_reply num same bytes_of grown
before_is_last_lem d = differ 100 200 (d.taken_fixes half (reply_saying 0 100 0) refl).1 (λ e. omega arith)

-- ---- a card and its asks

bytes_blank : (n : ℕ) → Bytes (blank n)
bytes_blank n i = rw (same_at_lem {A = ℕ} n i 0) (omega arith)

-- the card's elements are bytes
card_bytes : Bytes locked_card
card_bytes =
    let first : Bytes (1 ∷ 1 ∷ 1 ∷ blank 33) = small 1 (1 ∷ 1 ∷ blank 33) (omega arith) (small 1 (1 ∷ blank 33) (omega arith) (small 1 (blank 33) (omega arith) (bytes_blank 33))) in
    bytes_append (blank 4 ++ (1 ∷ 1 ∷ 1 ∷ blank 33)) (7 ∷ blank 215) (bytes_append (blank 4) (1 ∷ 1 ∷ 1 ∷ blank 33) (bytes_blank 4) first) (small 7 (blank 215) (omega arith) (bytes_blank 215))
  where
    small : (x : ℕ) (s : List ℕ) → x < 256 → Bytes s → Bytes (x ∷ s)
    small x s h b zero = h
    small x s h b (suc i) = b i

-- it is accepted, each portion is asked at the collector's OFFSET, and its lock stands over all five calls
card_collects : Collects step 0 0 three_asks locked_card
unfolding num bytes_of part over every zeros same_bytes join answered is_report_reply portion_verdict grown collected same eight_ranges listed never_fall offset_ok lock_ok ranges_ok information_ok record_ok information_from bytes_of_ranges head_of report_bytes report_of portion_bytes header message exact_length legal_in verdict get_report gets effect start_interface running cut records all distinct length_ok table_number find_from run calls
card_collects =
    let asks : (at long : ℕ) → Asks interface 0x84 20 (portion_at at long) = λ at long. record { version_is = refl; kind_is = refl; length_is = refl; who_is = refl } in
    record {
      accepted = refl;
      in_turn =
          asked (record { asks = asks 0 16; offset_is = refl })
          (asked (record { asks = asks 16 65535; offset_is = refl })
          (asked (record { asks = asks 20 128; offset_is = refl }) no_ask));
      one_lock = record {
        found = refl;
        stands = in_locked refl;
        lasting =
            record { place = 0; found = refl; stands = in_locked refl }
            then record { place = 0; found = refl; stands = in_run refl }
            then record { place = 0; found = refl; stands = in_run refl }
            then record { place = 0; found = refl; stands = in_run refl }
            then record { place = 0; found = refl; stands = in_run refl }
            then no_more;
      };
    }

card_finished : finished (collection step three_asks (fresh 0) locked_card) ≡ true
unfolding num bytes_of part over every zeros same_bytes join answered is_report_reply portion_verdict grown collected same eight_ranges listed never_fall offset_ok lock_ok ranges_ok information_ok record_ok information_from bytes_of_ranges head_of report_bytes report_of portion_bytes header message exact_length legal_in verdict get_report gets effect start_interface running cut records all distinct length_ok table_number find_from run collection
card_finished = refl

-- so what is held is the whole report: INTERFACE_INFO 1, and zeros
pub card_collected : held_bytes (collection step three_asks (fresh 0) locked_card) ≡ 1 ∷ blank 19
unfolding report_bytes report_of head_of bytes_of_ranges information_from eight_ranges listed bytes_of part num records cut
card_collected = (finished_is_whole 0 0 three_asks locked_card card_collects card_bytes).whole card_finished

-- ---- wrong responders

-- all of the report asked for at once, on the card that is locked or that runs
abbrev whole : Lent
whole = portion_at 0 20

asks_whole : AsksNext interface (fresh 0) whole
unfolding num bytes_of same
asks_whole = record { asks = record { version_is = refl; kind_is = refl; length_is = refl; who_is = refl }; offset_is = refl }

-- one whose report shows a byte of the nonce: the collection is finished with a wrong byte
pub nonce_collected : FinishedIsWhole (shows_byte 40) → ⊥
unfolding num bytes_of part over every zeros join answered is_report_reply portion_verdict grown collected same eight_ranges listed never_fall offset_ok lock_ok ranges_ok information_ok record_ok information_from bytes_of_ranges head_of report_bytes report_of portion_bytes header message exact_length legal_in verdict get_report gets effect cut records all distinct length_ok table_number find_from run calls collection
nonce_collected d =
    let lock : OneLock (shows_byte 40) interface 0 (Request whole ∷ []) locked_card = record {
      found = refl;
      stands = in_locked refl;
      lasting = record { place = 0; found = refl; stands = in_locked refl } then no_more;
    } in
    let collects : Collects (shows_byte 40) 0 0 (ask [] whole ∷ []) locked_card = record { accepted = refl; in_turn = asked asks_whole no_ask; one_lock = lock } in
    differ 7 1 (ap (λ (m : List ℕ). byte m 0) ((d 0 0 (ask [] whole ∷ []) locked_card collects card_bytes).whole refl)) (λ e. omega arith)

-- nothing asked yet, of the card that runs
running_begins : (next : Machine) → Collects next 0 0 [] running_card
unfolding table_number length_ok records cut all distinct record_ok lock_ok offset_ok ranges_ok information_ok num zeros every never_fall find_from same calls
running_begins next = record { accepted = refl; in_turn = no_ask; one_lock = record { found = refl; stands = in_run refl; lasting = no_more } }

arrives : Arrives whole running_card
unfolding table_number length_ok records cut all distinct record_ok lock_ok offset_ok ranges_ok information_ok num zeros every never_fall find_from same bytes_of
arrives = record { accepted = refl; room = omega arith; least = omega arith; map_length = refl; nonce_length = refl }

-- one that gives no report in RUN: the reply is not taken
pub refused_in_run : EveryReplyTaken only_in_locked → ⊥
unfolding run calls collection is_report_reply portion_verdict message header part over num bytes_of
refused_in_run d =
    differ 30 0 (ap portion_number (d 0 0 [] [] whole running_card (running_begins only_in_locked) no_more asks_whole arrives refl).taken) (λ e. omega arith)

-- one that sends empty portions: it is taken, and brings nothing
pub sends_nothing_lem : EveryReplyTaken sends_nothing → ⊥
unfolding run calls collection is_report_reply portion_verdict grown collected same message header part over num bytes_of records cut
sends_nothing_lem d = omega (arith, (d 0 0 [] [] whole running_card (running_begins sends_nothing) no_more asks_whole arrives refl).more)
