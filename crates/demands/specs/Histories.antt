-- Demand 3, RUN: from an accepted table with all interfaces in CONFIG_UNLOCKED, after any history of calls, refused ones included, an
-- interface is in RUN exactly when it had an accepted lock, later a served, well-formed start naming it with that lock's nonce, and since
-- that lock no accepted stop naming it and no served change that 01 sends to ERROR. What the history says names no table.
use Rattle.std.specs.Prelude.{◌≡◌, ◌↔◌, Bool, true, false, ◌&&◌, List, [], ◌∷◌, ◌++◌, ℕ, eqb, length, Some}
use Rattle.rules.specs.Bytes.{byte, bit_set, part}
use Rattle.rules.specs.Call.{Call, Request, RegisterWrite, DeviceWide, FirmwareQuestion}
use Rattle.rules.specs.Change.{rule_of}
use Rattle.rules.specs.Identity.{identity_at, identity_of, same}
use Rattle.rules.specs.Record.{Rec, CONFIG_UNLOCKED, RUN, state}
use Rattle.rules.specs.Request.{Lent, kind_of, asked_flags, asked_stream, message}
use Rattle.rules.specs.Table.{records, record_at, all, find, table_number}
use Rattle.rules.specs.declared.Event.{Event}
use Rattle.rules.specs.declared.Event.TheVariants.{Multicast, StreamDown, SessionEnd}
use Rattle.rules.specs.declared.Identity.{Identity}
use Rattle.rules.specs.declared.Rule.{Rule}
use Rattle.demands.specs.Machine.{Machine, Seen, reply_of, run, trace, Each}

-- ---- what a lock's own call gave: LOCK_MSIX of its flags, its default stream, and the session of the call

pub record Terms : Type 0 where
  pub msix : Bool
  pub stream : ℕ
  pub session : ℕ

abbrev pub terms_of : Lent → Terms
terms_of l = record { msix = bit_set 2 (asked_flags l.request); stream = (asked_stream l.request).0; session = l.session.0 }

-- ---- requests for an interface

-- Well-formed means past the version, type and length checks; naming is by 01's rule, on bytes 4-7 as they arrive.
pub record Asks (i : Identity) (kind long : ℕ) (l : Lent) : Type 0 where
  pub version_is : byte l.request 0 ≡ 0x10
  pub kind_is : kind_of l.request ≡ kind
  pub length_is : length l.request ≡ long
  pub who_is : same i (identity_at l.request 4) ≡ true

-- an accepted lock naming i, which replied this nonce, on these terms
pub record AcceptedLock (i : Identity) (nonce : List ℕ) (on : Terms) (e : Seen) : Type 0 where
  pub lent : Lent
  pub call_is : e.call ≡ Request lent
  pub asks : Asks i 0x83 36 lent
  pub served : e.number ≡ 0
  pub reply_is : reply_of e ≡ message 0x03 lent.request nonce
  pub terms_are : on ≡ terms_of lent

-- a served, well-formed start naming i that carries this nonce
pub record ServedStart (i : Identity) (nonce : List ℕ) (e : Seen) : Type 0 where
  pub lent : Lent
  pub call_is : e.call ≡ Request lent
  pub asks : Asks i 0x86 48 lent
  pub served : e.number ≡ 0
  pub carries : part lent.request 16 32 ≡ nonce

-- ---- what ends it

-- the changes that 01 sends an interface to ERROR for, told from what its lock gave
abbrev pub rule_ends : Rule → Bool → Terms → Bool
rule_ends Rule.Allowed named on = false
rule_ends Rule.MsixRule named on = named && on.msix
rule_ends Rule.DeviceWide named on = true
rule_ends Rule.Error named on = named

abbrev pub event_ends : Event → Terms → Bool
event_ends Multicast on = true
event_ends (StreamDown s) on = eqb on.stream s.0
event_ends (SessionEnd s) on = eqb on.session s.0

abbrev pub sends_to_error : Identity → Terms → Call → Bool
sends_to_error i on (Request l) = false
sends_to_error i on (RegisterWrite id class) = rule_ends (rule_of class) (same i (identity_of id)) on
sends_to_error i on (DeviceWide e) = event_ends e on
sends_to_error i on FirmwareQuestion = false

-- an accepted stop naming i, or a served change that sends it to ERROR
pub data Ends (i : Identity) (on : Terms) (e : Seen) : Type 0 where
  stopped : (l : Lent) → e.call ≡ Request l → Asks i 0x87 16 l → e.number ≡ 0 → reply_of e ≡ message 0x07 l.request [] → Ends i on e
  changed : e.number ≡ 0 → sends_to_error i on e.call ≡ true → Ends i on e

abbrev pub Lasts : Identity → Terms → List Seen → Type 0
Lasts i on es = Each (λ (e : Seen). Ends i on e → ⊥) es

-- ---- the demand

-- i had an accepted lock, later a served start with that lock's nonce, and nothing since that lock ended it
pub record RanSince (i : Identity) (es : List Seen) : Type 0 where
  pub before : List Seen
  pub lock : Seen
  pub middle : List Seen
  pub start : Seen
  pub after : List Seen
  pub nonce : List ℕ
  pub on : Terms
  pub whole : es ≡ before ++ (lock ∷ (middle ++ (start ∷ after)))
  pub locked : AcceptedLock i nonce on lock
  pub started : ServedStart i nonce start
  pub lasting : Lasts i on (middle ++ (start ∷ after))

-- i is in RUN in the table
pub record InRun (i : Identity) (t : List ℕ) : Type 0 where
  pub place : ℕ
  pub found : find i (records t) ≡ Some place
  pub running : state (record_at t place) ≡ RUN

abbrev pub unlocked : Rec → Bool
unlocked r = eqb (state r) CONFIG_UNLOCKED

abbrev pub RunExactlyWhen : Machine → Type 0
RunExactlyWhen next =
    (i : Identity) (h : List Call) (t : List ℕ) → table_number t ≡ 0 → all unlocked (records t) ≡ true → InRun i (run next h t) ↔ RanSince i (trace next h t)
