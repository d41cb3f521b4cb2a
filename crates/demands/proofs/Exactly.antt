-- Demand 2, proved of `step`: every request and every event does exactly what 01 calls for. Assumes nothing.
use Rattle.std.specs.Prelude.{if◌then◌else◌, None, Ok, Result, Some}
use mathlib.Core.Path.{◌≡◌, refl, sym, ap, ◌∙◌}
use mathlib.Core.Bool.{Bool, true, false, not}
use mathlib.Core.List.{List, [], ◌∷◌, map}
use Prim.Native.Nat.{ℕ, suc, ◌+◌, ◌≤◌, ◌<◌}
use native.Mathlib.Omega.{arith}
use borrow.Author.Tests.{eq-eqb, ne_eqb, le-leb, le-ltb, lt-leb}
use lib.Dec.{eqb}
use lib.ListN.{length, get_or, set}
use Rattle.rules.specs.Bytes.{byte, num, part, same_bytes}
use Rattle.rules.specs.Call.{join, Outcome, served, carried_out, changed, least_reply, least_request, most_reply, answered, happened, firmware_asked, Request, DeviceWide, FirmwareQuestion, step}
use Rattle.rules.specs.Change.{rule_of, hits, write_hits, moved, differing, lets}
use Rattle.rules.specs.Identity.{identity_at, identity_of}
use Rattle.rules.specs.Lock.{supported}
use Rattle.rules.specs.Record.{Rec, CONFIG_UNLOCKED, CONFIG_LOCKED, RUN, state, nonce, offset_ok}
use Rattle.rules.specs.Report.{most_portion, report_total, portion_length, portion_bytes}
use Rattle.rules.specs.Request.{Lent, Effect, does, fails, message, kind_of, exact_length, legal_in, verdict, capabilities, secure, asked_flags, asked_stream, asked_offset, locked, lock_interface, get_report, running, start_interface, cleared, gets, effect}
use Rattle.rules.specs.Table.{records, record_at, all, find, table_number}
use Rattle.rules.specs.declared.Event.{Event}
use Rattle.rules.specs.declared.Identity.{Identity}
use Rattle.rules.specs.declared.RequestError.{RequestError}
use Rattle.rules.proofs.Accepted.{keeps_rules}
use Rattle.rules.proofs.Changed.{records_after, known_served, unknown_refused}
use Rattle.rules.proofs.Checks.{wrong_version, unlisted, wrong_length, known, unknown}
use Rattle.rules.proofs.Effects.{illegal_stays}
use Rattle.rules.proofs.Locks.{lock_accepted}
use Rattle.rules.proofs.Lookup.{all_at, find_at}
use Rattle.rules.proofs.Messages.{length_message}
use Rattle.rules.proofs.Portions.{length_portion}
use Rattle.rules.proofs.Records.{length_records, length_record}
use Rattle.rules.proofs.Bools.{clash}
use Rattle.rules.proofs.Refusals.{past_table}
use Rattle.rules.proofs.Values.{reply_small}
use Rattle.demands.specs.Exactly.{Arrives, Reaches, LockStands, in_locked, in_run, MayLock, Gets, Errs, RequestsExactly, LongestReply, EventsExactly}

-- ---- requests

-- the least length of a listed request
listed_long : (kind : ℕ) → (exact_length kind ≡ 0 → ⊥) → 16 ≤ exact_length kind
unfolding exact_length
listed_long kind =
    or 16 _ (eqb kind 0x81) (omega arith)
    (or 20 _ (eqb kind 0x82) (omega arith)
    (or 36 _ (eqb kind 0x83) (omega arith)
    (or 20 _ (eqb kind 0x84) (omega arith)
    (or 16 _ (eqb kind 0x85) (omega arith)
    (or 48 _ (eqb kind 0x86) (omega arith)
    (or 16 _ (eqb kind 0x87) (omega arith) (λ n. absurd (n refl))))))))
  where
    or : (n m : ℕ) (b : Bool) → 16 ≤ n → ((m ≡ 0 → ⊥) → 16 ≤ m) → ((if b then n else m) ≡ 0 → ⊥) → 16 ≤ (if b then n else m)
    or n m true h f z = h
    or n m false h f z = f z

-- a request that no refusal stops
module _ (l : Lent) (t : List ℕ) (on : Arrives l t) where
  -- is checked,
  is_checked : step (Request l) t ≡ carried_out (verdict l.request (records t)) l t
  unfolding answered
  is_checked =
      rw (eq-eqb (table_number t) 0 on.accepted, le-ltb (length l.reply) least_reply on.room, le-ltb (length l.request) least_request on.least)
      (rw (eq-eqb (length l.streams) 32 on.map_length, eq-eqb (length l.nonce) 32 on.nonce_length))

  -- gets what the checks tell: an error,
  gets_verdict : (v : Result ℕ RequestError) → v ≡ verdict l.request (records t) → step (Request l) t ≡ carried_out v l t
  gets_verdict v e = is_checked ∙ ap (λ (x : Result ℕ RequestError). carried_out x l t) (sym e)

  abbrev exact : ℕ
  exact = exact_length (kind_of l.request)

  version_errs : (byte l.request 0 ≡ 0x10 → ⊥) → Errs step l t 0x41 0
  version_errs v = gets_verdict _ (wrong_version l.request (records t) v)

  module _ (v : byte l.request 0 ≡ 0x10) where
    unlisted_errs : exact ≡ 0 → Errs step l t 0x07 (kind_of l.request)
    unlisted_errs z = gets_verdict _ (unlisted l.request (records t) exact v refl (kind_of l.request) z refl)

    module _ (listed : exact ≡ 0 → ⊥) where
      length_errs : (length l.request ≡ exact → ⊥) → Errs step l t 0x01 0
      length_errs n = gets_verdict _ (wrong_length l.request (records t) exact v refl listed n)

      module _ (n : length l.request ≡ exact) where
        abbrev who : Identity
        who = identity_at l.request 4

        unknown_errs : find who (records t) ≡ None → Errs step l t 0x101 0
        unknown_errs none = gets_verdict _ (unknown l.request (records t) exact v refl who _ listed n refl refl none)

        -- or is carried out on the record that it names
        is_served : (k : ℕ) → find who (records t) ≡ Some k → step (Request l) t ≡ carried_out (Ok k) l t
        is_served k found = gets_verdict _ (known l.request (records t) exact v refl who _ listed n refl refl k found)

-- so a request of a listed type that no check stops gets what is done to that record
pub gets_effect : (l : Lent) (t : List ℕ) (k kind : ℕ) → Reaches l t k kind (exact_length kind) → 16 ≤ exact_length kind
    → {m : List ℕ} {after : Rec} → effect l (record_at t k) ≡ does m after → Gets step l t k m after
gets_effect l t k kind on long e =
    let exact : exact_length kind ≡ exact_length (kind_of l.request) = sym (ap exact_length on.kind_is) in
    let arrives : Arrives l t = record {
      accepted = on.accepted;
      room = on.room;
      least = omega (arith, on.length_is, long);
      map_length = on.map_length;
      nonce_length = on.nonce_length;
    } in
    is_served l t arrives on.version_is (λ z. omega (arith, exact, long)) (on.length_is ∙ exact) k on.found
    ∙ ap (λ (x : Effect). served x.reply l (join (set (records t) k x.rec))) e

-- what each request does to a record, by its type
module _ (l : Lent) (r : Rec) where
  abbrev q : List ℕ
  q = l.request

  wrong_state_does : (kind : ℕ) → kind_of q ≡ kind → legal_in kind (state r) ≡ false → effect l r ≡ fails 0x04 q r
  wrong_state_does kind e n = illegal_stays l r (rw e n)

  version_does : kind_of q ≡ 0x81 → effect l r ≡ does (message 0x01 q (0x01 ∷ 0x10 ∷ [])) r
  unfolding effect legal_in gets
  version_does e = rw e

  capabilities_does : kind_of q ≡ 0x82 → effect l r ≡ does (message 0x02 q capabilities) r
  unfolding effect legal_in gets
  capabilities_does e = rw e

  module _ (e : kind_of q ≡ 0x83) (s : state r ≡ CONFIG_UNLOCKED) where
    lock_flags_does : supported (asked_flags q) ≡ false → effect l r ≡ fails 0x01 q r
    unfolding effect legal_in lock_interface
    lock_flags_does f = rw (e, s, f)

    lock_offset_does : supported (asked_flags q) ≡ true → offset_ok r (asked_offset q) ≡ false → effect l r ≡ fails 0x01 q r
    unfolding effect legal_in lock_interface
    lock_offset_does f o = rw (e, s, f, o)

    lock_stream_does : supported (asked_flags q) ≡ true → offset_ok r (asked_offset q) ≡ true → secure l.streams (asked_stream q) ≡ false
        → effect l r ≡ fails 0x104 q r
    unfolding effect legal_in lock_interface
    lock_stream_does f o m = rw (e, s, f, o, m)

    lock_nonce_does : supported (asked_flags q) ≡ true → offset_ok r (asked_offset q) ≡ true → secure l.streams (asked_stream q) ≡ true → l.ready ≡ false
        → effect l r ≡ fails 0x103 q r
    unfolding effect legal_in lock_interface
    lock_nonce_does f o m n = rw (e, s, f, o, m, n)

  lock_does : kind_of q ≡ 0x83 → MayLock l r → effect l r ≡ does (message 0x03 q l.nonce) (locked q l.nonce l.session r)
  lock_does e may =
      lock_accepted l r e may.state_is may.bit_1 may.bit_3 may.bit_4 may.whole_pages may.ranges_stay may.stream_secure may.nonce_ready

  -- a report is asked for in states 1 and 2
  report_legal : LockStands r → legal_in 0x84 (state r) ≡ true
  unfolding legal_in
  report_legal (in_locked s) = rw s
  report_legal (in_run s) = rw s

  report_illegal : (LockStands r → ⊥) → legal_in 0x84 (state r) ≡ false
  unfolding legal_in
  report_illegal n = rw (ne_eqb (state r) CONFIG_LOCKED (λ s. n (in_locked s)), ne_eqb (state r) RUN (λ s. n (in_run s)))

  pub asked_in_lock : kind_of q ≡ 0x84 → LockStands r → effect l r ≡ get_report q r
  unfolding effect gets
  asked_in_lock e s = rw (e, report_legal s)

  report_past_does : kind_of q ≡ 0x84 → LockStands r → report_total r ≤ num q 16 2 → effect l r ≡ fails 0x01 q r
  unfolding get_report
  report_past_does e s h = rw (asked_in_lock e s, le-leb (report_total r) (num q 16 2) h)

  report_does : kind_of q ≡ 0x84 → LockStands r → num q 16 2 < report_total r
      → effect l r ≡ does (message 0x04 q (portion_bytes r (num q 16 2) (num q 18 2))) r
  unfolding get_report
  report_does e s h = rw (asked_in_lock e s, lt-leb (report_total r) (num q 16 2) h)

  state_does : kind_of q ≡ 0x85 → effect l r ≡ does (message 0x05 q (state r ∷ [])) r
  unfolding effect legal_in gets
  state_does e = rw e

  wrong_nonce_does : kind_of q ≡ 0x86 → state r ≡ CONFIG_LOCKED → same_bytes (part q 16 32) (nonce r) ≡ false → effect l r ≡ fails 0x102 q r
  unfolding effect legal_in start_interface
  wrong_nonce_does e s n = rw (e, s, n)

  start_does : kind_of q ≡ 0x86 → state r ≡ CONFIG_LOCKED → same_bytes (part q 16 32) (nonce r) ≡ true → effect l r ≡ does (message 0x06 q []) (running r)
  unfolding effect legal_in start_interface
  start_does e s n = rw (e, s, n)

  stop_does : kind_of q ≡ 0x87 → effect l r ≡ does (message 0x07 q []) (cleared CONFIG_UNLOCKED r)
  unfolding effect legal_in
  stop_does e = rw e

-- every request gets exactly its reply and its next record
pub requests : RequestsExactly step
unfolding exact_length
requests = record {
  wrong_version = version_errs;
  unlisted = unlisted_errs;
  wrong_length = length_errs;
  unknown = unknown_errs;
  wrong_state = λ l t k kind on listed n. gets_effect l t k kind on (listed_long kind listed) (wrong_state_does l (record_at t k) kind on.kind_is n);
  version = λ l t k on. gets_effect l t k 0x81 on (omega arith) (version_does l (record_at t k) on.kind_is);
  capabilities_reply = λ l t k on. gets_effect l t k 0x82 on (omega arith) (capabilities_does l (record_at t k) on.kind_is);
  lock_flags = λ l t k on s f. gets_effect l t k 0x83 on (omega arith) (lock_flags_does l (record_at t k) on.kind_is s f);
  lock_offset = λ l t k on s f o. gets_effect l t k 0x83 on (omega arith) (lock_offset_does l (record_at t k) on.kind_is s f o);
  lock_stream = λ l t k on s f o m. gets_effect l t k 0x83 on (omega arith) (lock_stream_does l (record_at t k) on.kind_is s f o m);
  lock_nonce = λ l t k on s f o m n. gets_effect l t k 0x83 on (omega arith) (lock_nonce_does l (record_at t k) on.kind_is s f o m n);
  lock = λ l t k on may. gets_effect l t k 0x83 on (omega arith) (lock_does l (record_at t k) on.kind_is may);
  report_unlocked = λ l t k on n. gets_effect l t k 0x84 on (omega arith) (wrong_state_does l (record_at t k) 0x84 on.kind_is (report_illegal l (record_at t k) n));
  report_past = λ l t k on s h. gets_effect l t k 0x84 on (omega arith) (report_past_does l (record_at t k) on.kind_is s h);
  report = λ l t k on s h. gets_effect l t k 0x84 on (omega arith) (report_does l (record_at t k) on.kind_is s h);
  state_reply = λ l t k on. gets_effect l t k 0x85 on (omega arith) (state_does l (record_at t k) on.kind_is);
  wrong_nonce = λ l t k on s n. gets_effect l t k 0x86 on (omega arith) (wrong_nonce_does l (record_at t k) on.kind_is s n);
  start = λ l t k on s n. gets_effect l t k 0x86 on (omega arith) (start_does l (record_at t k) on.kind_is s n);
  stop = λ l t k on. gets_effect l t k 0x87 on (omega arith) (stop_does l (record_at t k) on.kind_is);
}

-- ---- the longest reply

-- a portion of 128 bytes stands behind the header and two lengths
longest_reached : (l : Lent) (t : List ℕ) (k : ℕ) → Reaches l t k 0x84 20 → LockStands (record_at t k) → most_portion ≤ num l.request 18 2
    → num l.request 16 2 + most_portion ≤ report_total (record_at t k) → (step (Request l) t).value ≡ most_reply
longest_reached l t k on s asks fits =
    let q = l.request in
    let r = record_at t k in
    let at = num q 16 2 in
    let asked = num q 18 2 in
    let within = (find_at (identity_at q 4) k (records t) on.found).within in
    let long = length_record t k (omega (arith, length_records t)) in
    let portion : portion_length (report_total r) at asked ≡ most_portion = omega arith in
    let payload = length_portion r long (keeps_rules t on.accepted k within) at asked (omega arith) in
    ap (λ (o : Outcome). o.value) (requests.report l t k on s (omega arith))
    ∙ length_message 0x04 q (omega (arith, on.length_is)) (portion_bytes r at asked)
    ∙ omega (arith, payload, portion)

pub longest : LongestReply step
longest = record { at_most = reply_small; reached = longest_reached }

-- ---- events

-- an outcome in which the records that p tells are moved
module _ (p : Rec → Bool) (t : List ℕ) (o : Outcome) (is : o ≡ changed p t) where
  moves_exactly : o.table ≡ join (map (moved p) (records t))
  moves_exactly = ap (λ (x : Outcome). x.table) is

  counts_exactly : o.value ≡ differing (records t) (records o.table)
  counts_exactly =
      ap (λ (x : Outcome). x.value) is
      ∙ ap (differing (records t)) (sym (ap (λ (x : Outcome). records x.table) is ∙ records_after p t))

-- a device-wide event on an accepted table is such
event_is : (e : Event) (t : List ℕ) → table_number t ≡ 0 → step (DeviceWide e) t ≡ changed (hits e) t
unfolding happened
event_is e t accepted = past_table t [] (changed (hits e) t) accepted

-- a test of every record passes if it passes at each, and fails if it fails at one
all_true : (p : Rec → Bool) (rs : List Rec) → ((k : ℕ) → k < length rs → p (get_or rs k []) ≡ true) → all p rs ≡ true
unfolding all
all_true p [] f = refl
all_true p (r ∷ rs) f = rw (f 0 (omega arith), all_true p rs (λ k h. f (suc k) (omega arith)))

all_false : (p : Rec → Bool) (rs : List Rec) (k : ℕ) → k < length rs → p (get_or rs k []) ≡ false → all p rs ≡ false
all_false p rs k h e = go (all p rs) refl
  where
    go : (b : Bool) → all p rs ≡ b → b ≡ false
    go true a = clash (sym (all_at p rs k a h) ∙ e)
    go false a = refl

-- the firmware question is that test, and leaves the table
firmware_is : (t : List ℕ) (b : Bool) → table_number t ≡ 0 → all lets (records t) ≡ b → (step FirmwareQuestion t).value ≡ (if b then 1 else 0)
unfolding firmware_asked
firmware_is t b accepted e = rw (eq-eqb (table_number t) 0 accepted, e)

firmware_stays : (t : List ℕ) → (step FirmwareQuestion t).table ≡ t
unfolding firmware_asked
firmware_stays t = go (not (eqb (table_number t) 0)) _ _ refl refl
  where
    go : (b : Bool) (x y : Outcome) → x.table ≡ t → y.table ≡ t → (if b then x else y).table ≡ t
    go true x y p q = p
    go false x y p q = q

-- every event moves exactly the records that 01 names, and counts them
pub events : EventsExactly step
events = record {
  event_moves = λ e t accepted. moves_exactly (hits e) t _ (event_is e t accepted);
  event_counts = λ e t accepted. counts_exactly (hits e) t _ (event_is e t accepted);
  write_moves = λ id class place t accepted found. moves_exactly (write_hits (rule_of class) (identity_of id)) t _ (known_served id class t accepted place found);
  write_counts = λ id class place t accepted found. counts_exactly (write_hits (rule_of class) (identity_of id)) t _ (known_served id class t accepted place found);
  write_unknown = unknown_refused;
  firmware_yes = λ t accepted f. firmware_is t true accepted (all_true lets (records t) f);
  firmware_no = λ t accepted k h e. firmware_is t false accepted (all_false lets (records t) k h e);
  firmware_leaves = firmware_stays;
}
