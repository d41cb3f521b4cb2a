-- What one call does to the record of an interface, and what the caller sees of it. Assumes nothing.
use Rattle.std.specs.Prelude.{if◌then◌else◌, Ok, Some}
use mathlib.Core.Path.{◌≡◌, refl, sym, ap, ◌∙◌}
use mathlib.Core.Bool.{Bool, true, false, not, ◌||◌}
use mathlib.Core.List.{List, []}
use Prim.Native.Nat.{ℕ}
use native.Mathlib.Omega.{arith}
use borrow.Author.Tests.{eqb-true, eqb-false}
use lib.Dec.{eqb}
use lib.ListN.{length}
use Rattle.rules.specs.Bytes.{bit, part, over}
use Rattle.rules.specs.Call.{Outcome, refused, carried_out, changed, answered, register_written, happened, firmware_asked, Call, Request, RegisterWrite, DeviceWide, FirmwareQuestion, step}
use Rattle.rules.specs.Change.{rule_of, hits, rule_hits, write_hits, live, moves, moved, firmware_yes}
use Rattle.rules.specs.Identity.{identity_at, identity_of, same}
use Rattle.rules.specs.Lock.{stored}
use Rattle.rules.specs.Record.{Rec, state, stream, session, nonce, lock_msix}
use Rattle.rules.specs.Request.{Lent, Effect, kind_of, exact_length, message, verdict, asked_flags, effect, locked, running, cleared}
use Rattle.rules.specs.Table.{records, record_at, record_bytes, identity, names, find, table_number, lookup_number}
use Rattle.rules.specs.declared.Event.{Event}
use Rattle.rules.specs.declared.Event.TheVariants.{Multicast, StreamDown, SessionEnd}
use Rattle.rules.specs.declared.Identity.{Identity}
use Rattle.rules.specs.declared.Rule.{Rule}
use Rattle.rules.proofs.Bools.{and_right, and_true, and_false}
use Rattle.rules.proofs.Changed.{record_after}
use Rattle.rules.proofs.Changes.{state_cleared, state_running, flags_running, stream_running, session_running, state_locked, flags_locked, stream_locked, session_locked, nonce_locked}
use Rattle.rules.proofs.Checks.{serves}
use Rattle.rules.proofs.Effects.{Becomes, effect_becomes}
use Rattle.rules.proofs.Identities.{same_sym, same_like}
use Rattle.rules.proofs.Lookup.{find_at}
use Rattle.rules.proofs.Moved.{moved_is, stays_is}
use Rattle.rules.proofs.Records.{length_records, length_record}
use Rattle.rules.proofs.ServedCall.{OnRecord, Answers, answered_is, named_after, other_after}
use Rattle.demands.specs.Machine.{Seen}
use Rattle.demands.specs.Histories.{Terms, terms_of, Asks, AcceptedLock, ServedStart, rule_ends, event_ends, sends_to_error, Ends}
use Rattle.demands.proofs.Lists.{same_then_equal, front_is}
use Rattle.demands.proofs.Lookups.{who_is}

-- ---- a record that is locked, and one that runs

-- the terms that it holds
abbrev pub terms : Rec → Terms
terms r = record { msix = lock_msix r; stream = stream r; session = session r }

pub record Locked (n : List ℕ) (on : Terms) (r : Rec) : Type 0 where
  pub state_is : state r ≡ 1
  pub nonce_is : nonce r ≡ n
  pub terms_are : terms r ≡ on

pub record Runs (on : Terms) (r : Rec) : Type 0 where
  pub state_is : state r ≡ 2
  pub terms_are : terms r ≡ on

pub live_in : (r : Rec) (s : ℕ) → state r ≡ s → live r ≡ (eqb s 1 || eqb s 2)
unfolding live
live_in r s e = rw e

-- ---- what each change makes of it

module _ (r : Rec) (wide : length r ≡ record_bytes) where
  pub locked_is : (l : Lent) → length l.nonce ≡ 32 → Locked l.nonce (terms_of l) (locked l.request l.nonce l.session r)
  locked_is l e =
      let q = l.request in
      let m : bit 2 (stored (asked_flags q)) ≡ bit 2 (asked_flags q) = omega arith in
      record {
        state_is = state_locked r wide q l.nonce l.session e;
        nonce_is = nonce_locked r wide q l.nonce l.session e;
        terms_are = rw (flags_locked r wide q l.nonce l.session e, m, stream_locked r wide q l.nonce l.session e, session_locked r wide q l.nonce l.session e);
      }

  pub running_is : Runs (terms r) (running r)
  running_is = record { state_is = state_running r wide; terms_are = rw (flags_running r wide, stream_running r wide, session_running r wide) }

  pub cleared_dead : (s : ℕ) → eqb s 1 || eqb s 2 ≡ false → live (cleared s r) ≡ false
  cleared_dead s e = live_in (cleared s r) s (state_cleared r wide s) ∙ e

-- ---- a request that is carried out on record k

-- the checks that a request passed
module _ (i : Identity) (l : Lent) (t : List ℕ) (k : ℕ) (found : find i (records t) ≡ Some k) (told : verdict l.request (records t) ≡ Ok k) where
  asks : (kind wide : ℕ) → kind_of l.request ≡ kind → exact_length kind ≡ wide → Asks i kind wide l
  asks kind wide e w =
      let s = serves k (verdict l.request (records t)) l.request t refl told in
      record {
        version_is = s.version;
        kind_is = e;
        length_is = s.exact ∙ ap exact_length e ∙ w;
        who_is = who_is i (identity_at l.request 4) (records t) k found s.found;
      }

-- what the caller sees of what it does
abbrev sees : Lent → Effect → Seen
sees l e = record { call = Request l; number = 0; value = length e.reply; buffer = over 0 e.reply l.reply }

-- ---- one call is one of four things to an interface

pub data Turn (i : Identity) (e : Seen) (r r' : Rec) : Type 0 where
  stays : r' ≡ r → Turn i e r r'
  locks : (n : List ℕ) (on : Terms) → state r ≡ 0 → AcceptedLock i n on e → Locked n on r' → Turn i e r r'
  starts : state r ≡ 1 → ServedStart i (nonce r) e → r' ≡ running r → Runs (terms r) r' → Turn i e r r'
  ends : (live r ≡ true → Ends i (terms r) e) → live r' ≡ false → Turn i e r r'

-- a change that is for the record if `p` says so
moved_turn : (i : Identity) (e : Seen) (r : Rec) (p : Rec → Bool) → length r ≡ record_bytes → e.number ≡ 0 → p r ≡ sends_to_error i (terms r) e.call → Turn i e r (moved p r)
moved_turn i e r p wide z q = by (moves p r) refl
  where
    by : (b : Bool) → moves p r ≡ b → Turn i e r (moved p r)
    by true h = ends (λ l. Ends.changed z (sym q ∙ and_right (live r) (p r) h)) (rw (moved_is p r h) (cleared_dead r wide 3 refl))
    by false h = stays (stays_is p r h)

module _ (i : Identity) (t : List ℕ) (k : ℕ) (found : find i (records t) ≡ Some k) where
  abbrev r : Rec
  r = record_at t k

  pub wide : length r ≡ record_bytes
  wide = length_record t k (omega (arith, length_records t, (find_at i k (records t) found).within))

  -- a write is for the record exactly if it sends its interface to ERROR, told from the terms that the record holds
  named : (who : Identity) → names who r ≡ same i who
  named who =
      same_sym who (identity r) ∙ sym (same_like i (identity r) who (find_at i k (records t) found).here)

  pub write_hits_lem : (rule : Rule) (who : Identity) → write_hits rule who r ≡ rule_ends rule (same i who) (terms r)
  unfolding write_hits rule_hits hits
  write_hits_lem Rule.Allowed who = and_false (names who r)
  write_hits_lem Rule.MsixRule who = rw (named who)
  write_hits_lem Rule.DeviceWide who = refl
  write_hits_lem Rule.Error who = rw (named who) (and_true (same i who))

  pub event_hits : (e : Event) → hits e r ≡ event_ends e (terms r)
  unfolding hits
  event_hits Multicast = refl
  event_hits (StreamDown s) = refl
  event_hits (SessionEnd s) = refl

  -- a request
  effect_turn : (l : Lent) → OnRecord l t k → (e : Effect) → Becomes l r e → Turn i (sees l e) r e.rec
  unfolding exact_length
  effect_turn l on e Becomes.same = stays refl
  effect_turn l on e (Becomes.locks kd z f o s d) =
      locks l.nonce (terms_of l) z
      (record {
        lent = l;
        call_is = refl;
        asks = asks i l t k found on.told 0x83 36 kd refl;
        served = refl;
        reply_is = front_is (message 0x03 l.request l.nonce) l.reply;
        terms_are = refl;
      })
      (locked_is r wide l on.nonce_long)
  effect_turn l on e (Becomes.runs kd z n) =
      starts z
      (record {
        lent = l;
        call_is = refl;
        asks = asks i l t k found on.told 0x86 48 kd refl;
        served = refl;
        carries = same_then_equal (part l.request 16 32) (nonce r) n;
      })
      refl (running_is r wide)
  effect_turn l on e (Becomes.clears kd) =
      ends (λ a. Ends.stopped l refl (asks i l t k found on.told 0x87 16 kd refl) refl (front_is (message 0x07 l.request []) l.reply)) (cleared_dead r wide 0 refl)

  abbrev gives : Call → Outcome → Type 0
  gives c o = Turn i (record { call = c; number = o.number; value = o.value; buffer = o.reply }) r (record_at o.table k)

  request_turn : (l : Lent) → gives (Request l) (answered l t)
  request_turn l = by (answered l t) (answered_is l t)
    where
      by : (o : Outcome) → Answers l t o → gives (Request l) o
      by o (Answers.refuses n z) = stays refl
      by o (Answers.errs code datum) = stays refl
      by o (Answers.carries j on) = go (eqb j k) refl
        where
          go : (b : Bool) → eqb j k ≡ b → gives (Request l) (carried_out (Ok j) l t)
          go true e =
              let q = eqb-true j k e in
              let mine : OnRecord l t k = rw q at on in
              rw (q, named_after l t k mine) (effect_turn l mine (effect l r) (effect_becomes l r))
          go false e = stays (other_after l t j on k (λ q. eqb-false j k e (sym q)))

  -- every call
  pub turn : (c : Call) → gives c (step c t)
  unfolding happened register_written firmware_asked
  turn (Request l) = request_turn l
  turn (RegisterWrite id class) = by (eqb (table_number t) 0) (eqb (lookup_number (find (identity_of id) (records t))) 0)
    where
      by : (a b : Bool) → gives (RegisterWrite id class)
          (if not a then refused (table_number t) [] t else if not b then refused (lookup_number (find (identity_of id) (records t))) [] t else changed (write_hits (rule_of class) (identity_of id)) t)
      by false b = stays refl
      by true false = stays refl
      by true true =
          rw (record_after (write_hits (rule_of class) (identity_of id)) t k)
          (moved_turn i _ r (write_hits (rule_of class) (identity_of id)) wide refl (write_hits_lem (rule_of class) (identity_of id)))
  turn (DeviceWide e) = by (eqb (table_number t) 0)
    where
      by : (a : Bool) → gives (DeviceWide e) (if not a then refused (table_number t) [] t else changed (hits e) t)
      by false = stays refl
      by true = rw (record_after (hits e) t k) (moved_turn i _ r (hits e) wide refl (event_hits e))
  turn FirmwareQuestion = by (eqb (table_number t) 0)
    where
      by : (a : Bool) → gives FirmwareQuestion (if not a then refused (table_number t) [] t else record { number = 0; value = if firmware_yes (records t) then 1 else 0; reply = []; table = t })
      by false = stays refl
      by true = stays refl
