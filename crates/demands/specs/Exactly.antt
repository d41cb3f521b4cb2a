-- Demand 2: every request gets exactly the reply and next record that 01 calls for; every event moves exactly the records 01 names and
-- returns their number; every lock meeting 01's conditions is accepted. (`Reports` has what it says of reports.)
use Rattle.std.specs.Prelude.{◌≡◌, true, false, List, [], ◌∷◌, map, ℕ, ◌+◌, ◌≤◌, ◌<◌, length, set, None, Some}
use Rattle.rules.specs.Bytes.{byte, num, bit_clear, part, same_bytes}
use Rattle.rules.specs.Call.{join, refused, served, most_reply, Request, RegisterWrite, DeviceWide, FirmwareQuestion}
use Rattle.rules.specs.Change.{rule_of, hits, write_hits, moved, differing, lets}
use Rattle.rules.specs.Identity.{identity_at, identity_of}
use Rattle.rules.specs.Lock.{signed, whole_pages, supported, stays, shifted}
use Rattle.rules.specs.Record.{Rec, CONFIG_UNLOCKED, CONFIG_LOCKED, RUN, state, range_count, range_of, nonce, offset_ok}
use Rattle.rules.specs.Report.{most_portion, report_total, portion_bytes}
use Rattle.rules.specs.Request.{Lent, kind_of, exact_length, legal_in, error_message, message, capabilities, asked_flags, asked_stream, asked_offset, secure, locked, running, cleared}
use Rattle.rules.specs.Table.{records, record_at, find, table_number}
use Rattle.rules.specs.declared.Event.{Event}
use Rattle.demands.specs.Machine.{Machine}

-- ---- requests

-- a request that no refusal stops
pub record Arrives (l : Lent) (t : List ℕ) : Type 0 where
  pub accepted : table_number t ≡ 0
  pub room : 256 ≤ length l.reply
  pub least : 16 ≤ length l.request
  pub map_length : length l.streams ≡ 32
  pub nonce_length : length l.nonce ≡ 32

-- a request that no refusal and no check of its header stops: its interface is record k's
pub record Reaches (l : Lent) (t : List ℕ) (k kind long : ℕ) : Type 0 where
  pub accepted : table_number t ≡ 0
  pub room : 256 ≤ length l.reply
  pub map_length : length l.streams ≡ 32
  pub nonce_length : length l.nonce ≡ 32
  pub version_is : byte l.request 0 ≡ 0x10
  pub kind_is : kind_of l.request ≡ kind
  pub length_is : length l.request ≡ long
  pub found : find (identity_at l.request 4) (records t) ≡ Some k

-- 02, 1/12: the states in which a report may be asked for are 1 and 2, those in which a lock stands
pub data LockStands (r : Rec) : Type 0 where
  in_locked : state r ≡ CONFIG_LOCKED → LockStands r
  in_run : state r ≡ RUN → LockStands r

-- what 01 asks of a lock, each condition by itself
pub record MayLock (l : Lent) (r : Rec) : Type 0 where
  pub state_is : state r ≡ CONFIG_UNLOCKED
  pub bit_1 : bit_clear 1 (asked_flags l.request) ≡ true
  pub bit_3 : bit_clear 3 (asked_flags l.request) ≡ true
  pub bit_4 : bit_clear 4 (asked_flags l.request) ≡ true
  pub whole_pages : whole_pages (signed (asked_offset l.request)) ≡ true
  pub ranges_stay : (j : ℕ) → j < range_count r → stays (shifted (signed (asked_offset l.request)) (range_of r j)) ≡ true
  pub stream_secure : secure l.streams (asked_stream l.request) ≡ true
  pub nonce_ready : l.ready ≡ true

module _ (next : Machine) where
  -- served with this reply, and record k afterwards; every other byte of buffer and table stays
  abbrev pub Gets : Lent → List ℕ → ℕ → List ℕ → Rec → Type 0
  Gets l t k m r = next (Request l) t ≡ served m l (join (set (records t) k r))

  -- A TDISP_ERROR reply is served: number 0, table unchanged.
  abbrev pub Errs : Lent → List ℕ → ℕ → ℕ → Type 0
  Errs l t code datum = next (Request l) t ≡ served (error_message code datum l.request) l t

  pub record RequestsExactly : Type 0 where
    -- version not 10h, 41h VERSION_MISMATCH
    pub wrong_version : (l : Lent) (t : List ℕ) → Arrives l t → (byte l.request 0 ≡ 0x10 → ⊥) → Errs l t 0x41 0
    -- type unlisted, 07h UNSUPPORTED_REQUEST (001: its data is the request code)
    pub unlisted : (l : Lent) (t : List ℕ) → Arrives l t → byte l.request 0 ≡ 0x10 → exact_length (kind_of l.request) ≡ 0
        → Errs l t 0x07 (kind_of l.request)
    -- length not exact, 01h INVALID_REQUEST
    pub wrong_length : (l : Lent) (t : List ℕ) → Arrives l t → byte l.request 0 ≡ 0x10 → (exact_length (kind_of l.request) ≡ 0 → ⊥)
        → (length l.request ≡ exact_length (kind_of l.request) → ⊥) → Errs l t 0x01 0
    -- interface unknown, 101h INVALID_INTERFACE
    pub unknown : (l : Lent) (t : List ℕ) → Arrives l t → byte l.request 0 ≡ 0x10 → (exact_length (kind_of l.request) ≡ 0 → ⊥)
        → length l.request ≡ exact_length (kind_of l.request) → find (identity_at l.request 4) (records t) ≡ None → Errs l t 0x101 0
    -- state, 04h INVALID_INTERFACE_STATE
    pub wrong_state : (l : Lent) (t : List ℕ) (k kind : ℕ) → Reaches l t k kind (exact_length kind) → (exact_length kind ≡ 0 → ⊥)
        → legal_in kind (state (record_at t k)) ≡ false → Gets l t k (error_message 0x04 0 l.request) (record_at t k)
    -- then the request's own: version and capabilities
    pub version : (l : Lent) (t : List ℕ) (k : ℕ) → Reaches l t k 0x81 16 → Gets l t k (message 0x01 l.request (0x01 ∷ 0x10 ∷ [])) (record_at t k)
    pub capabilities_reply : (l : Lent) (t : List ℕ) (k : ℕ) → Reaches l t k 0x82 20 → Gets l t k (message 0x02 l.request capabilities) (record_at t k)
    -- lock: any of flag bits 1, 3, 4 set is 01h
    pub lock_flags : (l : Lent) (t : List ℕ) (k : ℕ) → Reaches l t k 0x83 36 → state (record_at t k) ≡ CONFIG_UNLOCKED
        → supported (asked_flags l.request) ≡ false → Gets l t k (error_message 0x01 0 l.request) (record_at t k)
    -- the offset's rule, else 01h
    pub lock_offset : (l : Lent) (t : List ℕ) (k : ℕ) → Reaches l t k 0x83 36 → state (record_at t k) ≡ CONFIG_UNLOCKED
        → supported (asked_flags l.request) ≡ true → offset_ok (record_at t k) (asked_offset l.request) ≡ false
        → Gets l t k (error_message 0x01 0 l.request) (record_at t k)
    -- stream not secure: 104h INVALID_DEVICE_CONFIGURATION
    pub lock_stream : (l : Lent) (t : List ℕ) (k : ℕ) → Reaches l t k 0x83 36 → state (record_at t k) ≡ CONFIG_UNLOCKED
        → supported (asked_flags l.request) ≡ true → offset_ok (record_at t k) (asked_offset l.request) ≡ true
        → secure l.streams (asked_stream l.request) ≡ false → Gets l t k (error_message 0x104 0 l.request) (record_at t k)
    -- nonce bytes not ready: 103h INSUFFICIENT_ENTROPY
    pub lock_nonce : (l : Lent) (t : List ℕ) (k : ℕ) → Reaches l t k 0x83 36 → state (record_at t k) ≡ CONFIG_UNLOCKED
        → supported (asked_flags l.request) ≡ true → offset_ok (record_at t k) (asked_offset l.request) ≡ true
        → secure l.streams (asked_stream l.request) ≡ true → l.ready ≡ false → Gets l t k (error_message 0x103 0 l.request) (record_at t k)
    -- otherwise accepted
    pub lock : (l : Lent) (t : List ℕ) (k : ℕ) → Reaches l t k 0x83 36 → MayLock l (record_at t k)
        → Gets l t k (message 0x03 l.request l.nonce) (locked l.request l.nonce l.session (record_at t k))
    -- report: without a lock 04h; OFFSET at or above the total is 01h; else a portion
    pub report_unlocked : (l : Lent) (t : List ℕ) (k : ℕ) → Reaches l t k 0x84 20 → (LockStands (record_at t k) → ⊥)
        → Gets l t k (error_message 0x04 0 l.request) (record_at t k)
    pub report_past : (l : Lent) (t : List ℕ) (k : ℕ) → Reaches l t k 0x84 20 → LockStands (record_at t k) → report_total (record_at t k) ≤ num l.request 16 2
        → Gets l t k (error_message 0x01 0 l.request) (record_at t k)
    pub report : (l : Lent) (t : List ℕ) (k : ℕ) → Reaches l t k 0x84 20 → LockStands (record_at t k) → num l.request 16 2 < report_total (record_at t k)
        → Gets l t k (message 0x04 l.request (portion_bytes (record_at t k) (num l.request 16 2) (num l.request 18 2))) (record_at t k)
    pub state_reply : (l : Lent) (t : List ℕ) (k : ℕ) → Reaches l t k 0x85 16 → Gets l t k (message 0x05 l.request (state (record_at t k) ∷ [])) (record_at t k)
    -- start: a different nonce is 102h INVALID_NONCE and changes nothing; an equal one is spent
    pub wrong_nonce : (l : Lent) (t : List ℕ) (k : ℕ) → Reaches l t k 0x86 48 → state (record_at t k) ≡ CONFIG_LOCKED
        → same_bytes (part l.request 16 32) (nonce (record_at t k)) ≡ false → Gets l t k (error_message 0x102 0 l.request) (record_at t k)
    pub start : (l : Lent) (t : List ℕ) (k : ℕ) → Reaches l t k 0x86 48 → state (record_at t k) ≡ CONFIG_LOCKED
        → same_bytes (part l.request 16 32) (nonce (record_at t k)) ≡ true → Gets l t k (message 0x06 l.request []) (running (record_at t k))
    -- stop gives state 0 and clears the lock fields and nonce
    pub stop : (l : Lent) (t : List ℕ) (k : ℕ) → Reaches l t k 0x87 16 → Gets l t k (message 0x07 l.request []) (cleared CONFIG_UNLOCKED (record_at t k))

  -- the longest reply is 148 bytes: none is longer, and a portion of 128 bytes makes one so long
  pub record LongestReply : Type 0 where
    pub at_most : (l : Lent) (t : List ℕ) → (next (Request l) t).value ≤ most_reply
    pub reached : (l : Lent) (t : List ℕ) (k : ℕ) → Reaches l t k 0x84 20 → LockStands (record_at t k) → most_portion ≤ num l.request 18 2
        → num l.request 16 2 + most_portion ≤ report_total (record_at t k) → (next (Request l) t).value ≡ most_reply

  -- ---- events

  pub record EventsExactly : Type 0 where
    -- the whole table: each record moves exactly when 01 names it, and keeps every byte otherwise; nothing stands before, between or after them
    pub event_moves : (e : Event) (t : List ℕ) → table_number t ≡ 0 → (next (DeviceWide e) t).table ≡ join (map (moved (hits e)) (records t))
    -- and the count is the number of records whose state differs before and after
    pub event_counts : (e : Event) (t : List ℕ) → table_number t ≡ 0 → (next (DeviceWide e) t).value ≡ differing (records t) (records (next (DeviceWide e) t).table)
    pub write_moves : (id class place : ℕ) (t : List ℕ) → table_number t ≡ 0 → find (identity_of id) (records t) ≡ Some place
        → (next (RegisterWrite id class) t).table ≡ join (map (moved (write_hits (rule_of class) (identity_of id))) (records t))
    pub write_counts : (id class place : ℕ) (t : List ℕ) → table_number t ≡ 0 → find (identity_of id) (records t) ≡ Some place
        → (next (RegisterWrite id class) t).value ≡ differing (records t) (records (next (RegisterWrite id class) t).table)
    pub write_unknown : (id class : ℕ) (t : List ℕ) → table_number t ≡ 0 → find (identity_of id) (records t) ≡ None → next (RegisterWrite id class) t ≡ refused 7 [] t
    -- the firmware question is yes exactly if every record lets it, and leaves the table
    pub firmware_yes : (t : List ℕ) → table_number t ≡ 0 → ((k : ℕ) → k < length (records t) → lets (record_at t k) ≡ true) → (next FirmwareQuestion t).value ≡ 1
    pub firmware_no : (t : List ℕ) → table_number t ≡ 0 → (k : ℕ) → k < length (records t) → lets (record_at t k) ≡ false → (next FirmwareQuestion t).value ≡ 0
    pub firmware_leaves : (t : List ℕ) → (next FirmwareQuestion t).table ≡ t
