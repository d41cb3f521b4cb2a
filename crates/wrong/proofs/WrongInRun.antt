-- Each responder that is wrong about the report in RUN is refused by a demand. Assumes nothing.
use Rattle.std.specs.Prelude.{Some}
use mathlib.Core.Path.{◌≡◌, refl, sym, ap, subst, ◌∙◌}
use mathlib.Core.List.{List, [], ◌∷◌}
use Prim.Native.Nat.{ℕ}
use native.Mathlib.Omega.{arith}
use Rattle.rules.specs.Bytes.{byte, num, bytes_of, part, over, every, zeros, same_bytes}
use Rattle.rules.specs.Call.{join, Outcome, answered, Request}
use Rattle.rules.specs.Identity.{same}
use Rattle.rules.specs.Range.{listed, eight_ranges, never_fall}
use Rattle.rules.specs.Record.{offset_ok, lock_ok, ranges_ok, information_ok, record_ok}
use Rattle.rules.specs.Report.{head_of, bytes_of_ranges, information_from, report_bytes, report_of, portion_bytes}
use Rattle.rules.specs.Request.{header, message, exact_length, legal_in, verdict, get_report, running, start_interface, gets, effect}
use Rattle.rules.specs.Table.{cut, records, record_at, all, distinct, length_ok, table_number, find_from, find}
use Rattle.demands.specs.Exactly.{Reaches, LockStands, in_locked, in_run, RequestsExactly}
use Rattle.demands.specs.Machine.{Machine, reply_of, run, seen}
use Rattle.demands.specs.ReportStays.{AcceptedStart, StartLeavesReport, Locked, AsksTwice, SameReply, no_more, ◌then◌, SameWhileLocked, SameOverStart}
use Rattle.wrong.specs.Wrong.{interface}
use Rattle.wrong.specs.WrongInRun.{locked_card, running_card, failed_card, report_asked, start_with_seven, only_in_locked, also_in_error, shows_byte, forgets_flags}
use Rattle.wrong.proofs.Wrong.{differ}

-- the request reaches the card in each state
report_reaches : (t : List ℕ) → table_number t ≡ 0 → find interface (records t) ≡ Some 0 → Reaches report_asked t 0 0x84 20
unfolding num
report_reaches t accepted found = record {
  accepted = accepted;
  room = omega arith;
  map_length = refl;
  nonce_length = refl;
  version_is = refl;
  kind_is = refl;
  length_is = refl;
  found = found;
}

running_reached : Reaches report_asked running_card 0 0x84 20
unfolding table_number length_ok records cut all distinct record_ok lock_ok offset_ok ranges_ok information_ok num zeros every never_fall find_from same
running_reached = report_reaches running_card refl refl

failed_reached : Reaches report_asked failed_card 0 0x84 20
unfolding table_number length_ok records cut all distinct record_ok lock_ok ranges_ok information_ok num zeros every never_fall find_from same
failed_reached = report_reaches failed_card refl refl

locked_reached : Reaches report_asked locked_card 0 0x84 20
unfolding table_number length_ok records cut all distinct record_ok lock_ok offset_ok ranges_ok information_ok num zeros every never_fall find_from same
locked_reached = report_reaches locked_card refl refl

-- and so does the start, which the locked card accepts
accepted_start : (next : Machine) → (next (Request start_with_seven) locked_card).number ≡ 0
    → reply_of (seen next (Request start_with_seven) locked_card) ≡ message 0x06 start_with_seven.request []
    → AcceptedStart interface (seen next (Request start_with_seven) locked_card)
unfolding same num
accepted_start next served reply = record {
  lent = start_with_seven;
  call_is = refl;
  asks = record { version_is = refl; kind_is = refl; length_is = refl; who_is = refl };
  served = served;
  reply_is = reply;
}

-- ---- one that gives it in CONFIG_LOCKED alone breaks demand 2: in RUN it gets 04h

pub only_in_locked_lem : RequestsExactly only_in_locked → ⊥
unfolding over message header records cut num
only_in_locked_lem d =
    differ 0x7f 0x04 (ap (λ (o : Outcome). byte o.reply 1) (d.report report_asked running_card 0 running_reached (in_run refl) (omega arith))) (λ e. omega arith)

-- ---- one that gives it in ERROR breaks demand 2: there it is 04h

no_lock_stands : LockStands (record_at failed_card 0) → ⊥
unfolding records cut
no_lock_stands (in_locked e) = differ 3 1 e (λ x. omega arith)
no_lock_stands (in_run e) = differ 3 2 e (λ x. omega arith)

pub also_in_error_lem : RequestsExactly also_in_error → ⊥
unfolding over message header records cut num get_report
also_in_error_lem d =
    differ 0x04 0x7f (ap (λ (o : Outcome). byte o.reply 1) (d.report_unlocked report_asked failed_card 0 failed_reached no_lock_stands)) (λ e. omega arith)

-- ---- one whose report shows the state, the held mark or the nonce: a start between two portions is seen in them

started_running : (n : ℕ) → (shows_byte n (Request start_with_seven) locked_card).table ≡ running_card
unfolding answered verdict exact_length effect legal_in start_interface running over part table_number length_ok records cut join all distinct record_ok lock_ok offset_ok ranges_ok information_ok num zeros every never_fall find_from same same_bytes
started_running n = refl

asked_twice : AsksTwice report_asked report_asked locked_card 0
asked_twice = record { reaches = locked_reached; again = refl; room = omega arith; map_length = refl; nonce_length = refl }

module _ (n : ℕ) where
  abbrev next : Machine
  next = shows_byte n

  report_kept : (next (Request report_asked) locked_card).table ≡ locked_card
  unfolding answered verdict exact_length effect legal_in gets get_report over table_number length_ok records cut join all distinct record_ok lock_ok offset_ok ranges_ok information_ok num zeros every never_fall find_from same
  report_kept = refl

  shown_locked : byte (reply_of (seen next (Request report_asked) locked_card)) 20 ≡ byte locked_card n
  unfolding answered verdict exact_length effect legal_in gets get_report portion_bytes report_bytes report_of head_of bytes_of_ranges information_from eight_ranges listed message header over part bytes_of table_number length_ok records cut all distinct record_ok lock_ok offset_ok ranges_ok information_ok num zeros every never_fall find_from same
  shown_locked = refl

  shown_running : byte (reply_of (seen next (Request report_asked) running_card)) 20 ≡ byte running_card n
  unfolding answered verdict exact_length effect legal_in gets get_report portion_bytes report_bytes report_of head_of bytes_of_ranges information_from eight_ranges listed message header over part bytes_of table_number length_ok records cut all distinct record_ok lock_ok offset_ok ranges_ok information_ok num zeros every never_fall find_from same
  shown_running = refl

  -- ask, start, ask again
  abbrev then_started : List ℕ
  then_started = run next (Request report_asked ∷ (Request start_with_seven ∷ [])) locked_card

  then_running : then_started ≡ running_card
  unfolding run
  then_running = ap (λ (t : List ℕ). (next (Request start_with_seven) t).table) report_kept ∙ started_running n

  still_locked : Locked interface then_started
  unfolding records cut find_from same num
  still_locked = rw then_running (record { place = 0; found = refl; stands = in_run refl })

  lock_stands : LockStands (record_at locked_card 0)
  unfolding records cut
  lock_stands = in_locked refl

  -- the two replies differ
  told_apart : (byte locked_card n ≡ byte running_card n → ⊥) → SameReply (seen next (Request report_asked) locked_card) (seen next (Request report_asked) then_started) → ⊥
  told_apart differs same =
      differs
      (sym shown_locked
      ∙ sym (ap (λ (m : List ℕ). byte m 20) same.bytes_same)
      ∙ ap (λ (t : List ℕ). byte (reply_of (seen next (Request report_asked) t)) 20) then_running
      ∙ shown_running)

  started_well : AcceptedStart interface (seen next (Request start_with_seven) locked_card)
  unfolding answered verdict exact_length effect legal_in start_interface message header over part table_number length_ok records cut all distinct record_ok lock_ok offset_ok ranges_ok information_ok num zeros every never_fall find_from same same_bytes
  started_well = accepted_start next refl refl

  -- whichever way it is said
  shows_byte_lem : (byte locked_card n ≡ byte running_card n → ⊥) → (SameWhileLocked next → ⊥) × (SameOverStart next → ⊥)
  unfolding run num
  shows_byte_lem differs = (
    λ d. told_apart differs (d report_asked report_asked locked_card 0 (Request start_with_seven ∷ []) asked_twice lock_stands (still_locked then no_more)),
    λ d. told_apart differs (d report_asked report_asked locked_card 0 [] (Request start_with_seven) [] asked_twice no_more
        (subst (λ (t : List ℕ). AcceptedStart interface (seen next (Request start_with_seven) t)) (sym report_kept) started_well) no_more),
  )

pub shows_state : (SameWhileLocked (shows_byte 4) → ⊥) × (SameOverStart (shows_byte 4) → ⊥)
shows_state = shows_byte_lem 4 (λ e. differ 1 2 e (λ x. omega arith))

pub shows_held : (SameWhileLocked (shows_byte 5) → ⊥) × (SameOverStart (shows_byte 5) → ⊥)
shows_held = shows_byte_lem 5 (λ e. differ 1 0 e (λ x. omega arith))

pub shows_nonce : (SameWhileLocked (shows_byte 40) → ⊥) × (SameOverStart (shows_byte 40) → ⊥)
shows_nonce = shows_byte_lem 40 (λ e. differ 7 0 e (λ x. omega arith))

-- ---- one whose start forgets the flags: the report said NO_FW_UPDATE, and no longer does

forgets_well : AcceptedStart interface (seen forgets_flags (Request start_with_seven) locked_card)
unfolding answered verdict exact_length effect legal_in start_interface message header over part table_number length_ok records cut all distinct record_ok lock_ok offset_ok ranges_ok information_ok num zeros every never_fall find_from same same_bytes
forgets_well = accepted_start forgets_flags refl refl

pub forgets_flags_lem : StartLeavesReport forgets_flags → ⊥
unfolding answered verdict exact_length effect legal_in start_interface running report_bytes report_of head_of bytes_of_ranges information_from eight_ranges listed bytes_of over part table_number length_ok records cut join all distinct record_ok lock_ok offset_ok ranges_ok information_ok num zeros every never_fall find_from same same_bytes
forgets_flags_lem d =
    differ 0 1 (ap (λ (m : List ℕ). byte m 0) (d interface (Request start_with_seven) locked_card 0 refl forgets_well).bytes_same) (λ e. omega arith)
