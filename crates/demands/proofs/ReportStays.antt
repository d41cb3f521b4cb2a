-- The bytes of a report are the same in states 1 and 2: of a record, over a start, over histories. Assumes nothing.
use Rattle.std.specs.Prelude.{Some}
use mathlib.Core.Path.{◌≡◌, refl, sym, ap, subst, ◌∙◌}
use mathlib.Core.Bool.{true}
use mathlib.Core.List.{List, [], ◌∷◌, ◌++◌}
use mathlib.Core.Logic.{inl, inr, ⊎_elim}
use Prim.Native.Nat.{ℕ, ◌+◌, ◌≤◌, ◌<◌}
use native.Mathlib.Omega.{arith}
use lib.ListN.{length}
use Rattle.rules.specs.Bytes.{byte, num, over}
use Rattle.rules.specs.Call.{Outcome, Call, Request, step}
use Rattle.rules.specs.Change.{live}
use Rattle.rules.specs.Record.{Rec}
use Rattle.rules.specs.Report.{report_bytes, report_of}
use Rattle.rules.specs.Request.{Lent, Effect, kind_of, exact_length, get_report, effect}
use Rattle.rules.specs.Table.{records, record_at, find, table_number}
use Rattle.rules.proofs.Changes.{state_running}
use Rattle.rules.proofs.Configured.{Configured}
use Rattle.rules.proofs.Overs.{num_same}
use Rattle.rules.proofs.ServedCall.{report_leaves}
use Rattle.rules.proofs.Shown.{report_same, report_running, total_same, portion_same, answer_same}
use Rattle.rules.proofs.Stepped.{stays_accepted}
use Rattle.demands.specs.Exactly.{Reaches, LockStands}
use Rattle.demands.specs.Machine.{Seen, seen, reply_of, run}
use Rattle.demands.specs.ReportStays.{Beside, ShowsTheLock, AcceptedStart, StartLeavesReport, named, AsksTwice, SameReply, Along, ◌then◌, Leaves, PassesBy, SameWhileLocked, SameOverStart}
use Rattle.demands.proofs.Exactly.{asked_in_lock, gets_effect}
use Rattle.demands.proofs.Histories.{found_after}
use Rattle.demands.proofs.Lasting.{live_stands, along_append, lasting_same, passed_live, passed_lasts}
use Rattle.demands.proofs.Lists.{front_is}
use Rattle.demands.proofs.Lookups.{place_stays}
use Rattle.demands.proofs.Tells.{Started, accepted_start}
use Rattle.demands.proofs.Turns.{live_in, wide}

-- ---- of a record

-- bytes beside the state, the held mark and the nonce
first : (k : ℕ) → k < 4 → Beside k
first k h = record { no_state = λ e. omega arith; no_held = λ e. omega arith; no_nonce = inl (omega arith) }

middle : (k : ℕ) → 5 < k → k < 40 → Beside k
middle k g h = record { no_state = λ e. omega arith; no_held = λ e. omega arith; no_nonce = inl (omega arith) }

last : (k : ℕ) → 71 < k → Beside k
last k g = record { no_state = λ e. omega arith; no_held = λ e. omega arith; no_nonce = inr (omega arith) }

configured : (k : ℕ) → Configured k → Beside k
configured k c = ⊎_elim (first k) (λ g. ⊎_elim (middle k (omega arith)) (last k) c.no_nonce) c.no_state

-- the configuration, the flags and the offset are among them
module _ (s r : Rec) (even : length s ≡ length r) (same : (k : ℕ) → Beside k → byte s k ≡ byte r k) where
  within : (at n : ℕ) → 5 < at → at + n ≤ 40 → num s at n ≡ num r at n
  within at n g h = num_same s r at n (λ k l m. same k (middle k (omega arith) (omega arith)))

  alike : report_of s ≡ report_of r
  alike = report_same s r even (λ k c. same k (configured k c)) (within 6 2 (omega arith) (omega arith)) (within 24 8 (omega arith) (omega arith))

pub shows_the_lock : ShowsTheLock
shows_the_lock = record {
  bytes = λ s r e h. ap report_bytes (alike s r e h);
  total = λ s r e h. total_same s r (alike s r e h);
  portion = λ at asked s r e h. portion_same s r (alike s r e h) at asked;
}

-- ---- a start

pub start_leaves : StartLeavesReport step
start_leaves i c t k found a =
    let r = record_at t k in
    let same = ap report_of (accepted_start i t k found c a).record_is ∙ report_running r (wide i t k found) in
    let after = record_at (step c t).table k in
    record { bytes_same = ap report_bytes same; total_same = total_same after r same; portions_same = portion_same after r same }

-- ---- a report asked for

accepted_after : (h : List Call) (t : List ℕ) → table_number t ≡ 0 → table_number (run step h t) ≡ 0
unfolding run
accepted_after [] t z = z
accepted_after (c ∷ h) t z = accepted_after h (step c t).table (stays_accepted c t z)

-- is answered from the report where a lock stands
reply_same : (l m : Lent) (s r : Rec) → kind_of l.request ≡ 0x84 → m.request ≡ l.request → LockStands s → LockStands r → report_of s ≡ report_of r
    → (effect m s).reply ≡ (effect l r).reply
reply_same l m s r kind again a b same =
    ap (λ (e : Effect). e.reply) (asked_in_lock m s (ap kind_of again ∙ kind) a)
    ∙ ap (λ (q : List ℕ). (get_report q s).reply) again
    ∙ answer_same s r same l.request
    ∙ sym (ap (λ (e : Effect). e.reply) (asked_in_lock l r kind b))

module _ (l : Lent) (t : List ℕ) (k : ℕ) (on : Reaches l t k 0x84 20) where
  abbrev message : List ℕ
  message = (effect l (record_at t k)).reply

  is_given : seen step (Request l) t ≡ record { call = Request l; number = 0; value = length message; buffer = over 0 message l.reply }
  unfolding exact_length
  is_given = ap (λ (o : Outcome). record { call = Request l; number = o.number; value = o.value; buffer = o.reply }) (gets_effect l t k 0x84 on (omega arith) refl)

  is_replied : reply_of (seen step (Request l) t) ≡ message
  is_replied = ap reply_of is_given ∙ front_is message l.reply

-- ---- the demand

module _ (l m : Lent) (t : List ℕ) (k : ℕ) (a : AsksTwice l m t k) where
  found_after_all : (h : List Call) → find (named l) (records (run step h t)) ≡ Some k
  found_after_all h = found_after (named l) h t ∙ a.reaches.found

  reaches_again : (h : List Call) → Reaches m (run step h t) k 0x84 20
  reaches_again h = record {
    accepted = accepted_after h t a.reaches.accepted;
    room = a.room;
    map_length = a.map_length;
    nonce_length = a.nonce_length;
    version_is = rw a.again a.reaches.version_is;
    kind_is = rw a.again a.reaches.kind_is;
    length_is = rw a.again a.reaches.length_is;
    found = rw a.again (found_after_all h);
  }

  -- whatever comes between, while the lock stands
  module _ (h : List Call) (s : LockStands (record_at t k)) (lasts : Along step (Leaves step (named l)) h t) where
    replies_same : (effect m (record_at (run step h t) k)).reply ≡ (effect l (record_at t k)).reply
    replies_same =
        let (same, s') = lasting_same (named l) h t k a.reaches.found s lasts in
        reply_same l m (record_at (run step h t) k) (record_at t k) a.reaches.kind_is a.again s' s same

    same_reply : SameReply (seen step (Request l) t) (seen step (Request m) (run step h t))
    same_reply =
        let first = is_given l t k a.reaches in
        let second = is_given m (run step h t) k (reaches_again h) in
        record {
          served = ap (λ (e : Seen). e.number) first;
          served_again = ap (λ (e : Seen). e.number) second;
          length_same = ap (λ (e : Seen). e.value) second ∙ ap length replies_same ∙ sym (ap (λ (e : Seen). e.value) first);
          bytes_same = is_replied m (run step h t) k (reaches_again h) ∙ replies_same ∙ sym (is_replied l t k a.reaches);
        }

  -- a start, and calls that pass the interface by
  module _ (before : List Call) (start : Call) (later : List Call) (passed : Along step (PassesBy step (named l)) before t)
      (accepted : AcceptedStart (named l) (seen step start (run step before t)))
      (then-passed : Along step (PassesBy step (named l)) later (step start (run step before t)).table) where
    abbrev here : List ℕ
    here = run step before t

    started : Started here k start
    started = accepted_start (named l) here k (found_after_all before) start accepted

    live_first : live (record_at t k) ≡ true
    live_first = sym (passed_live (named l) before t k a.reaches.found passed) ∙ live_in _ 1 started.state_was

    runs : live (record_at (step start here).table k) ≡ true
    runs = live_in _ 2 (rw started.record_is (state_running _ (wide (named l) here k (found_after_all before))))

    found_then : find (named l) (records (step start here).table) ≡ Some k
    found_then = place_stays start (named l) here ∙ found_after_all before

    lasts_over : Along step (Leaves step (named l)) (before ++ (start ∷ later)) t
    lasts_over =
        along_append (Leaves step (named l)) before (start ∷ later) t
        (passed_lasts (named l) before t k a.reaches.found live_first passed)
        (record { place = k; found = found_then; stands = live_stands _ runs } then passed_lasts (named l) later _ k found_then runs then-passed)

    same_over : SameReply (seen step (Request l) t) (seen step (Request m) (run step (before ++ (start ∷ later)) t))
    same_over = same_reply (before ++ (start ∷ later)) (live_stands _ live_first) lasts_over

pub same_while_locked : SameWhileLocked step
unfolding run
same_while_locked l m t k h a s =
    subst
    (λ (u : List ℕ). Along step (Leaves step (named l)) h u → SameReply (seen step (Request l) t) (seen step (Request m) (run step h u)))
    (sym (report_leaves l t a.reaches.kind_is))
    (same_reply l m t k a h s)

pub same_over_start : SameOverStart step
unfolding run
same_over_start l m t k before start later a =
    subst
    (λ (u : List ℕ). Along step (PassesBy step (named l)) before u → AcceptedStart (named l) (seen step start (run step before u))
    → Along step (PassesBy step (named l)) later (step start (run step before u)).table
    → SameReply (seen step (Request l) t) (seen step (Request m) (run step (before ++ (start ∷ later)) u)))
    (sym (report_leaves l t a.reaches.kind_is))
    (same_over l m t k a before start later)
