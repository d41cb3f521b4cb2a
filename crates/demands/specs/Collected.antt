-- Document 02, 2/12: "However an honest responder's report is cut, if each portion is asked at that OFFSET and one lock stands from first to last,
-- the finished collection equals the whole report and goes straight to the reader of 01."
use Rattle.std.specs.Prelude.{◌≡◌, true, false, List, [], ◌∷◌, ◌++◌, ℕ, ◌+◌, ◌*◌, ◌≤◌, min, length, take, Ok, Some}
use Rattle.rules.specs.Bytes.{Bytes, num}
use Rattle.rules.specs.Call.{Call, Request}
use Rattle.rules.specs.Collector.{Collection, fresh, next_offset, held_bytes, finished, portion_verdict, collected}
use Rattle.rules.specs.Identity.{identity_of}
use Rattle.rules.specs.Record.{Rec}
use Rattle.rules.specs.Report.{most_portion, report_bytes, report_of, report_total, read_number, handed_back}
use Rattle.rules.specs.Request.{Lent}
use Rattle.rules.specs.Table.{records, record_at, find, table_number}
use Rattle.rules.specs.declared.Identity.{Identity}
use Rattle.demands.specs.Machine.{Machine, reply_of, seen, run, trace}
use Rattle.demands.specs.Exactly.{Arrives, LockStands}
use Rattle.demands.specs.Histories.{Terms, Asks, AcceptedLock, Lasts}
use Rattle.demands.specs.ReportStays.{Along, Leaves}

-- ---- a host's asks, among the calls of others

-- any calls of anybody first, and then a request
pub record Ask : Type 0 where
  pub before : List Call
  pub lent : Lent

-- all calls of some asks, in order
unfoldable pub calls : List Ask → List Call
calls [] = []
calls (a ∷ rest) = a.before ++ (Request a.lent ∷ calls rest)

-- the LENGTH of a request for a report
abbrev pub length_asked : Lent → ℕ
length_asked l = num l.request 18 2

-- a request for i's report at the OFFSET that the collector says, of any LENGTH
pub record AsksNext (i : Identity) (c : Collection) (l : Lent) : Type 0 where
  pub asks : Asks i 0x84 20 l
  pub offset_is : num l.request 16 2 ≡ next_offset c

-- ---- what comes of them

module _ (next : Machine) where
  -- the reply to a request, whatever it is: none where the call is refused
  abbrev pub reply_to : Lent → List ℕ → List ℕ
  reply_to l t = reply_of (seen next (Request l) t)

  -- the table that an ask's request finds, the reply that the collector is handed, and the table that is left
  abbrev pub table_at : Ask → List ℕ → List ℕ
  table_at a t = run next a.before t

  abbrev pub handed : Ask → List ℕ → List ℕ
  handed a t = reply_to a.lent (table_at a t)

  abbrev pub table_after : Ask → List ℕ → List ℕ
  table_after a t = (next (Request a.lent) (table_at a t)).table

  -- the collection after some asks
  unfoldable pub collection : List Ask → Collection → List ℕ → Collection
  collection [] c t = c
  collection (a ∷ rest) c t = collection rest (collected c (handed a t)) (table_after a t)

  -- each portion is asked at that OFFSET
  pub data AskedInTurn (i : Identity) : List Ask → Collection → List ℕ → Type 0 where
    no_ask : {c : Collection} {t : List ℕ} → AskedInTurn i [] c t
    asked : {a : Ask} {rest : List Ask} {c : Collection} {t : List ℕ} → AsksNext i c a.lent
        → AskedInTurn i rest (collected c (handed a t)) (table_after a t) → AskedInTurn i (a ∷ rest) c t

  -- One lock stands from first to last: i's record, at place k, is in CONFIG_LOCKED or RUN as the calls begin and after each of them.
  pub record OneLock (i : Identity) (k : ℕ) (h : List Call) (t : List ℕ) : Type 0 where
    pub found : find i (records t) ≡ Some k
    pub stands : LockStands (record_at t k)
    pub lasting : Along next (Leaves next i) h t

  -- In the words of demand 3, told from the history alone: an accepted lock, and since that lock no accepted stop naming the interface and no served
  -- change that 01 sends to ERROR. Then the lock stands after the call that made it and after each that follows. A start is no end.
  abbrev pub LockLasts : Type 0
  LockLasts =
      (i : Identity) (lock : Call) (nonce : List ℕ) (on : Terms) (h : List Call) (t : List ℕ) → AcceptedLock i nonce on (seen next lock t)
      → Lasts i on (trace next h (next lock t).table) → Along next (Leaves next i) (lock ∷ h) t

  -- a collection for the interface of an identity, from nothing, on an accepted table
  pub record Collects (id k : ℕ) (asks : List Ask) (t : List ℕ) : Type 0 where
    pub accepted : table_number t ≡ 0
    pub in_turn : AskedInTurn (identity_of id) asks (fresh id) t
    pub one_lock : OneLock (identity_of id) k (calls asks) t

-- ---- the finished collection equals the whole report

-- the report of a record
abbrev pub whole_report : Rec → List ℕ
whole_report r = report_bytes (report_of r)

-- what is held of r's report
pub record HoldsOf (r : Rec) (c : Collection) : Type 0 where
  -- at any time it is the front of the report
  pub front : held_bytes c ≡ take c.held (whole_report r)
  -- finished it is the whole report,
  pub whole : finished c ≡ true → held_bytes c ≡ whole_report r
  -- which the reader accepts, with the record's fields as they are reported
  pub accepted : finished c ≡ true → read_number (held_bytes c) ≡ 0
  pub fields : finished c ≡ true → handed_back (held_bytes c) ≡ report_of r

-- Any number of asks, of any LENGTHs, with any calls of any kind between them. Nothing is asked of the buffers: a call that is refused hands the
-- collector nothing, an ask past the end a TDISP_ERROR, and neither is taken. The table's elements are bytes, as in a slice of u8.
abbrev pub FinishedIsWhole : Machine → Type 0
FinishedIsWhole next =
    (id k : ℕ) (asks : List Ask) (t : List ℕ) → Collects next id k asks t → Bytes t → HoldsOf (record_at t k) (collection next asks (fresh id) t)

-- ---- every reply is taken, and the collection gets on

-- a reply that is taken, and brings what was asked for: the LENGTH, 128 bytes or what is left, whichever is least
pub record TakesMore (c : Collection) (l : Lent) (total : ℕ) (p : List ℕ) : Type 0 where
  pub taken : portion_verdict c p ≡ Ok tt
  pub more : min (c.held + min (length_asked l) most_portion) total ≤ (collected c p).held

-- After any such asks and any calls more over the lock: while the collection is not finished, the next ask's reply is taken, if no refusal of 01
-- stops the request.
abbrev pub EveryReplyTaken : Machine → Type 0
EveryReplyTaken next =
    (id k : ℕ) (asks : List Ask) (more : List Call) (l : Lent) (t : List ℕ) → Collects next id k asks t
    → Along next (Leaves next (identity_of id)) more (run next (calls asks) t) → AsksNext (identity_of id) (collection next asks (fresh id) t) l
    → Arrives l (run next more (run next (calls asks) t)) → finished (collection next asks (fresh id) t) ≡ false
    → TakesMore (collection next asks (fresh id) t) l (report_total (record_at t k)) (reply_to next l (run next more (run next (calls asks) t)))

-- A reply carries no OFFSET, so what else is asked for in between the collector can tell by the total alone. It does: once a reply is taken, a reply to
-- a request for the same report at any OFFSET but the next is not taken.
abbrev pub ElsewhereRefused : Machine → Type 0
ElsewhereRefused next =
    (id k : ℕ) (asks : List Ask) (more : List Call) (l : Lent) (t : List ℕ) → Collects next id k asks t
    → Along next (Leaves next (identity_of id)) more (run next (calls asks) t) → Asks (identity_of id) 0x84 20 l
    → (collection next asks (fresh id) t).begun ≡ true → (num l.request 16 2 ≡ next_offset (collection next asks (fresh id) t) → ⊥)
    → portion_verdict (collection next asks (fresh id) t) (reply_to next l (run next more (run next (calls asks) t))) ≡ Ok tt → ⊥

-- asks that no refusal stops, of LENGTHs of at least n
pub data Answered (next : Machine) (n : ℕ) : List Ask → List ℕ → Type 0 where
  all_answered : {t : List ℕ} → Answered next n [] t
  answered : {a : Ask} {rest : List Ask} {t : List ℕ} → Arrives a.lent (table_at next a t) → n ≤ length_asked a.lent
      → Answered next n rest (table_after next a t) → Answered next n (a ∷ rest) t

pub record GetsFinished (next : Machine) : Type 0 where
  -- so many asks that their portions come to the total finish it;
  pub enough : (id k n : ℕ) (asks : List Ask) (t : List ℕ) → Collects next id k asks t → Answered next n asks t
      → report_total (record_at t k) ≤ min n most_portion * length asks → finished (collection next asks (fresh id) t) ≡ true
  -- 200 are needed at most where each LENGTH is at least 1,
  pub two_hundred : (id k : ℕ) (asks : List Ask) (t : List ℕ) → Collects next id k asks t → Answered next 1 asks t → 200 ≤ length asks
      → finished (collection next asks (fresh id) t) ≡ true
  -- and two where it is 65,535
  pub two : (id k : ℕ) (asks : List Ask) (t : List ℕ) → Collects next id k asks t → Answered next 65535 asks t → 2 ≤ length asks
      → finished (collection next asks (fresh id) t) ≡ true
