-- Document 02, 1/12: "The bytes are the same in both states, because a report shows how the interface was locked." What a report is not told
-- from; a start leaves it; and, while a lock stands, a portion asked for again gets the same reply.
use Rattle.std.specs.Prelude.{◌≡◌, Bool, true, false, List, [], ◌∷◌, ◌++◌, ◌⊎◌, ℕ, ◌≤◌, ◌<◌, length, Some}
use Rattle.rules.specs.Bytes.{byte}
use Rattle.rules.specs.Call.{Call, Request, RegisterWrite, DeviceWide, FirmwareQuestion}
use Rattle.rules.specs.Change.{rule_of, device_wide}
use Rattle.rules.specs.Identity.{identity_at, same}
use Rattle.rules.specs.Record.{Rec, state}
use Rattle.rules.specs.Report.{report_bytes, report_of, report_total, portion_bytes}
use Rattle.rules.specs.Request.{Lent, message}
use Rattle.rules.specs.Table.{records, record_at, find}
use Rattle.rules.specs.declared.Identity.{Identity}
use Rattle.demands.specs.Machine.{Machine, Seen, reply_of, seen, run}
use Rattle.demands.specs.Exactly.{Reaches, LockStands}
use Rattle.demands.specs.Histories.{Asks}
use Rattle.demands.specs.Swaps.{Names}

-- ---- of a record

-- none of the bytes of the state (4), the held mark (5) and the nonce (40-71)
pub record Beside (k : ℕ) : Type 0 where
  pub no_state : k ≡ 4 → ⊥
  pub no_held : k ≡ 5 → ⊥
  pub no_nonce : (k < 40) ⊎ (71 < k)

-- what is the same of any two records, whatever their length, that differ in those bytes alone
abbrev pub Untold : {A : Type 0} → (Rec → A) → Type 0
Untold f = (s r : Rec) → length s ≡ length r → ((k : ℕ) → Beside k → byte s k ≡ byte r k) → f s ≡ f r

-- so is the report: it does not depend on state, held mark or nonce
pub record ShowsTheLock : Type 0 where
  pub bytes : Untold (λ (r : Rec). report_bytes (report_of r))
  pub total : Untold (λ (r : Rec). report_total r)
  pub portion : (at asked : ℕ) → Untold (λ (r : Rec). portion_bytes r at asked)

-- ---- a start

-- an accepted start naming i
pub record AcceptedStart (i : Identity) (e : Seen) : Type 0 where
  pub lent : Lent
  pub call_is : e.call ≡ Request lent
  pub asks : Asks i 0x86 48 lent
  pub served : e.number ≡ 0
  pub reply_is : reply_of e ≡ message 0x06 lent.request []

-- the report, its total and every portion are as they were
pub record SameReport (s r : Rec) : Type 0 where
  pub bytes_same : report_bytes (report_of s) ≡ report_bytes (report_of r)
  pub total_same : report_total s ≡ report_total r
  pub portions_same : (at asked : ℕ) → portion_bytes s at asked ≡ portion_bytes r at asked

abbrev pub StartLeavesReport : Machine → Type 0
StartLeavesReport next =
    (i : Identity) (c : Call) (t : List ℕ) (k : ℕ) → find i (records t) ≡ Some k → AcceptedStart i (seen next c t)
    → SameReport (record_at (next c t).table k) (record_at t k)

-- ---- over histories

-- i is in state 1 or 2 in the table
pub record Locked (i : Identity) (t : List ℕ) : Type 0 where
  pub place : ℕ
  pub found : find i (records t) ≡ Some place
  pub stands : LockStands (record_at t place)

-- stream down, session end, multicast and a register write of class 10
abbrev pub is_event : Call → Bool
is_event (Request l) = false
is_event (RegisterWrite id class) = device_wide (rule_of class)
is_event (DeviceWide e) = true
is_event FirmwareQuestion = false

-- the interface that a request names
abbrev pub named : Lent → Identity
named l = identity_at l.request 4

-- a portion asked for by l, which no refusal and no check of its header stops, and again by m, with buffers of the right lengths
pub record AsksTwice (l m : Lent) (t : List ℕ) (k : ℕ) : Type 0 where
  pub reaches : Reaches l t k 0x84 20
  pub again : m.request ≡ l.request
  pub room : 256 ≤ length m.reply
  pub map_length : length m.streams ≡ 32
  pub nonce_length : length m.nonce ≡ 32

-- both are served, with the same bytes
pub record SameReply (first second : Seen) : Type 0 where
  pub served : first.number ≡ 0
  pub served_again : second.number ≡ 0
  pub length_same : second.value ≡ first.value
  pub bytes_same : reply_of second ≡ reply_of first

module _ (next : Machine) where
  -- calls, one after the other, each with this on the table that it is lent
  infixr 20 ◌then◌
  pub data Along (P : Call → List ℕ → Type 0) : List Call → List ℕ → Type 0 where
    no_more : {t : List ℕ} → Along P [] t
    ◌then◌ : {c : Call} {h : List Call} {t : List ℕ} → P c t → Along P h (next c t).table → Along P (c ∷ h) t

  -- after the call i's lock stands
  abbrev pub Leaves : Identity → Call → List ℕ → Type 0
  Leaves i c t = Locked i (next c t).table

  -- the call does not name i, and is no event that moves it
  pub record PassesBy (i : Identity) (c : Call) (t : List ℕ) : Type 0 where
    pub not_named : (j : Identity) → Names j c → same i j ≡ false
    pub not_moved : is_event c ≡ true → (k : ℕ) → find i (records t) ≡ Some k → state (record_at (next c t).table k) ≡ state (record_at t k)

  -- On any table, so anywhere in any history: asked for twice, a portion gets the same reply, whatever comes between, if the interface is in
  -- state 1 or 2 before it and after each call.
  abbrev pub SameWhileLocked : Type 0
  SameWhileLocked =
      (l m : Lent) (t : List ℕ) (k : ℕ) (between : List Call) → AsksTwice l m t k → LockStands (record_at t k)
      → Along (Leaves (named l)) between (next (Request l) t).table
      → SameReply (seen next (Request l) t) (seen next (Request m) (run next (Request l ∷ between) t))

  -- So before a start and after it, with no call between that names the interface and no event that moves it
  abbrev pub SameOverStart : Type 0
  SameOverStart =
      (l m : Lent) (t : List ℕ) (k : ℕ) (before : List Call) (start : Call) (after : List Call) → AsksTwice l m t k
      → Along (PassesBy (named l)) before (next (Request l) t).table
      → AcceptedStart (named l) (seen next start (run next (Request l ∷ before) t))
      → Along (PassesBy (named l)) after (next start (run next (Request l ∷ before) t)).table
      → SameReply (seen next (Request l) t) (seen next (Request m) (run next (Request l ∷ (before ++ (start ∷ after))) t))
