-- What calls leave of an interface's lock: one that stands throughout is one lock, with one report, and calls that pass the interface by leave it
-- standing. Assumes nothing.
use Rattle.std.specs.Prelude.{None, Option, Some}
use mathlib.Core.Path.{◌≡◌, refl, sym, ap, ◌∙◌}
use mathlib.Core.Bool.{Bool, true, false, ◌||◌}
use mathlib.Core.List.{List, [], ◌∷◌, ◌++◌}
use Prim.Native.Nat.{ℕ, ◌≤◌}
use native.Mathlib.Omega.{arith}
use borrow.Author.Tests.{eqb-true}
use lib.Dec.{eqb}
use Rattle.rules.specs.Call.{Call, Request, RegisterWrite, DeviceWide, FirmwareQuestion, step}
use Rattle.rules.specs.Change.{rule_of, device_wide, live}
use Rattle.rules.specs.Identity.{identity_at, identity_of, same}
use Rattle.rules.specs.Record.{Rec, state}
use Rattle.rules.specs.Report.{report_of}
use Rattle.rules.specs.Request.{Lent}
use Rattle.rules.specs.Table.{records, record_at, find}
use Rattle.rules.specs.declared.Identity.{Identity}
use Rattle.rules.specs.declared.Rule.{Rule}
use Rattle.rules.proofs.Bools.{clash, and_left}
use Rattle.rules.proofs.Shown.{report_running}
use Rattle.demands.specs.Collected.{LockLasts}
use Rattle.demands.specs.Exactly.{LockStands, in_locked, in_run}
use Rattle.demands.specs.Histories.{Terms, Asks, AcceptedLock, Ends, Lasts, rule_ends, sends_to_error}
use Rattle.demands.specs.Machine.{seen, run, trace, none_left, ◌and◌}
use Rattle.demands.specs.ReportStays.{is_event, Along, no_more, ◌then◌, Leaves, PassesBy}
use Rattle.demands.specs.Swaps.{Names, asks, writes}
use Rattle.demands.proofs.Lookups.{place_stays, one_place}
use Rattle.demands.proofs.Tells.{locked_by, no_lock}
use Rattle.demands.proofs.Turns.{terms, live_in, wide, Turn, turn}

-- ---- the states in which a lock stands

stands_live : (r : Rec) → LockStands r → live r ≡ true
stands_live r (in_locked e) = live_in r 1 e
stands_live r (in_run e) = live_in r 2 e

pub live_stands : (r : Rec) → live r ≡ true → LockStands r
unfolding live
live_stands r = by (eqb (state r) 1) refl (eqb (state r) 2) refl
  where
    by : (a : Bool) → eqb (state r) 1 ≡ a → (b : Bool) → eqb (state r) 2 ≡ b → a || b ≡ true → LockStands r
    by true p b q e = in_locked (eqb-true (state r) 1 p)
    by false p true q e = in_run (eqb-true (state r) 2 q)
    by false p false q e = clash (sym e)

live_same : (s r : Rec) → state s ≡ state r → live s ≡ live r
unfolding live
live_same s r e = rw e

-- ---- one call

-- what sends an interface to ERROR that it does not name is an event
sends_event : (i : Identity) (on : Terms) (c : Call) → ((j : Identity) → Names j c → same i j ≡ false) → sends_to_error i on c ≡ true → is_event c ≡ true
sends_event i on (Request l) n s = clash (sym s)
sends_event i on (RegisterWrite id class) n s = by (rule_of class) refl s
  where
    by : (rule : Rule) → rule_of class ≡ rule → rule_ends rule (same i (identity_of id)) on ≡ true → device_wide rule ≡ true
    by Rule.Allowed q x = clash (sym x)
    by Rule.MsixRule q x = clash (sym (and_left (same i (identity_of id)) on.msix x) ∙ n (identity_of id) (writes (ap device_wide q) refl))
    by Rule.DeviceWide q x = refl
    by Rule.Error q x = clash (sym x ∙ n (identity_of id) (writes (ap device_wide q) refl))
sends_event i on (DeviceWide e) n s = refl
sends_event i on FirmwareQuestion n s = clash (sym s)

module _ (i : Identity) (t : List ℕ) (k : ℕ) (found : find i (records t) ≡ Some k) (c : Call) where
  abbrev r : Rec
  r = record_at t k

  abbrev r' : Rec
  r' = record_at (step c t).table k

  -- a lock that stands before the call and after it is the same lock, with the same report
  lock_same : live r ≡ true → live r' ≡ true → report_of r' ≡ report_of r
  lock_same a b = by (turn i t k found c)
    where
      by : Turn i (seen step c t) r r' → report_of r' ≡ report_of r
      by (Turn.stays q) = ap report_of q
      by (Turn.locks n on z x y) = clash (sym a ∙ live_in r 0 z)
      by (Turn.starts z x q y) = ap report_of q ∙ report_running r (wide i t k found)
      by (Turn.ends f d) = clash (sym b ∙ d)

  -- a call that passes the interface by names it not,
  module _ (p : PassesBy step i c t) where
    not_asked : {A : Type 0} (l : Lent) (kind long : ℕ) → c ≡ Request l → 16 ≤ long → Asks i kind long l → A
    not_asked l kind long e h a =
        let n : Names (identity_at l.request 4) c = rw e (asks {l = l} (omega (arith, a.length_is)) refl) in
        clash (sym a.who_is ∙ p.not_named (identity_at l.request 4) n)

    -- and leaves its lock, if it has one
    not_ended : Ends i (terms r) (seen step c t) → live r' ≡ live r
    not_ended (Ends.stopped l e a z q) = not_asked l 0x87 16 e (omega arith) a
    not_ended (Ends.changed z s) = live_same r' r (p.not_moved (sends_event i (terms r) c p.not_named s) k found)

    passes_live : live r' ≡ live r
    passes_live = by (turn i t k found c)
      where
        by : Turn i (seen step c t) r r' → live r' ≡ live r
        by (Turn.stays q) = ap live q
        by (Turn.locks n on z a y) = not_asked a.lent 0x83 36 a.call_is (omega arith) a.asks
        by (Turn.starts z a q y) = not_asked a.lent 0x86 48 a.call_is (omega arith) a.asks
        by (Turn.ends f d) = go (live r) refl
          where
            go : (b : Bool) → live r ≡ b → live r' ≡ b
            go true e = not_ended (f e) ∙ e
            go false e = d

-- ---- calls in a row

pub along_append : (P : Call → List ℕ → Type 0) (h g : List Call) (t : List ℕ) → Along step P h t → Along step P g (run step h t) → Along step P (h ++ g) t
unfolding run
along_append P [] g t no_more b = b
along_append P (c ∷ h) g t (x then a) b = x then along_append P h g (step c t).table a b

-- so over a part of them
pub along_front : (P : Call → List ℕ → Type 0) (h g : List Call) (t : List ℕ) → Along step P (h ++ g) t → Along step P h t
along_front P [] g t a = no_more
along_front P (c ∷ h) g t (x then a) = x then along_front P h g (step c t).table a

pub along_back : (P : Call → List ℕ → Type 0) (h g : List Call) (t : List ℕ) → Along step P (h ++ g) t → Along step P g (run step h t)
unfolding run
along_back P [] g t a = a
along_back P (c ∷ h) g t (x then a) = along_back P h g (step c t).table a

module _ (i : Identity) where
  -- a lock that stands from first to last: the report is the same,
  pub lasting_same : (h : List Call) (t : List ℕ) (k : ℕ) → find i (records t) ≡ Some k → LockStands (record_at t k) → Along step (Leaves step i) h t
      → (report_of (record_at (run step h t) k) ≡ report_of (record_at t k)) × LockStands (record_at (run step h t) k)
  unfolding run
  lasting_same [] t k found s no_more = (refl, s)
  lasting_same (c ∷ h) t k found s (x then a) =
      let found' = place_stays c i t ∙ found in
      let s' : LockStands (record_at (step c t).table k) = rw (one_place i _ x.place k x.found found') at x.stands in
      let rest = lasting_same h (step c t).table k found' s' a in
      (rest.0 ∙ lock_same i t k found c (stands_live _ s) (stands_live _ s'), rest.1)

  -- calls that pass it by: it stands at the end if it did at the beginning, and then throughout
  pub passed_live : (h : List Call) (t : List ℕ) (k : ℕ) → find i (records t) ≡ Some k → Along step (PassesBy step i) h t → live (record_at (run step h t) k) ≡ live (record_at t k)
  unfolding run
  passed_live [] t k found no_more = refl
  passed_live (c ∷ h) t k found (x then a) = passed_live h (step c t).table k (place_stays c i t ∙ found) a ∙ passes_live i t k found c x

  pub passed_lasts : (h : List Call) (t : List ℕ) (k : ℕ) → find i (records t) ≡ Some k → live (record_at t k) ≡ true → Along step (PassesBy step i) h t
      → Along step (Leaves step i) h t
  passed_lasts [] t k found s no_more = no_more
  passed_lasts (c ∷ h) t k found s (x then a) =
      let found' = place_stays c i t ∙ found in
      let s' = passes_live i t k found c x ∙ s in
      record { place = k; found = found'; stands = live_stands _ s' } then passed_lasts h (step c t).table k found' s' a

  -- ---- told from the history: nothing ends it

  -- a call that does not end it leaves it standing, on the terms on which it was made
  not_ended_stands : (t : List ℕ) (k : ℕ) (found : find i (records t) ≡ Some k) (c : Call) (on : Terms) → live (record_at t k) ≡ true → terms (record_at t k) ≡ on
      → (Ends i on (seen step c t) → ⊥) → (live (record_at (step c t).table k) ≡ true) × (terms (record_at (step c t).table k) ≡ on)
  not_ended_stands t k found c on l e quiet = by (turn i t k found c)
    where
      by : Turn i (seen step c t) (record_at t k) (record_at (step c t).table k)
          → (live (record_at (step c t).table k) ≡ true) × (terms (record_at (step c t).table k) ≡ on)
      by (Turn.stays q) = (ap live q ∙ l, ap terms q ∙ e)
      by (Turn.locks n o z a x) = clash (sym l ∙ live_in (record_at t k) 0 z)
      by (Turn.starts z a q x) = (live_in _ 2 x.state_is, x.terms_are ∙ e)
      by (Turn.ends f d) = absurd (quiet (rw e at (f l)))

  lasts_stands : (h : List Call) (t : List ℕ) (k : ℕ) (on : Terms) → find i (records t) ≡ Some k → live (record_at t k) ≡ true → terms (record_at t k) ≡ on
      → Lasts i on (trace step h t) → Along step (Leaves step i) h t
  unfolding trace
  lasts_stands [] t k on found l e none_left = no_more
  lasts_stands (c ∷ h) t k on found l e (quiet and rest) =
      let after = not_ended_stands t k found c on l e quiet in
      let found' = place_stays c i t ∙ found in
      record { place = k; found = found'; stands = live_stands _ after.0 } then lasts_stands h (step c t).table k on found' after.0 after.1 rest

  -- from the lock on
  since_lock : (c : Call) (n : List ℕ) (on : Terms) (h : List Call) (t : List ℕ) (f : Option ℕ) → find i (records t) ≡ f → AcceptedLock i n on (seen step c t)
      → Lasts i on (trace step h (step c t).table) → Along step (Leaves step i) (c ∷ h) t
  since_lock c n on h t None found a lasts = absurd (no_lock i t c n on found a)
  since_lock c n on h t (Some k) found a lasts =
      let locked = locked_by i t k found c n on a in
      let found' = place_stays c i t ∙ found in
      let l = live_in (record_at (step c t).table k) 1 locked.state_is in
      record { place = k; found = found'; stands = live_stands _ l } then lasts_stands h (step c t).table k on found' l locked.terms_are lasts

pub lock_lasts : LockLasts step
lock_lasts i c n on h t a lasts = since_lock i c n on h t (find i (records t)) refl a lasts
