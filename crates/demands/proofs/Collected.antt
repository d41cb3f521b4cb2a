-- The finished collection of `step`'s replies is the whole report, every reply is taken on the way, and it gets on. Assumes nothing.
use Rattle.std.specs.Prelude.{Err, Ok, Result, Some}
use mathlib.Core.Path.{◌≡◌, refl, sym, ap, ◌∙◌}
use mathlib.Core.Bool.{Bool, true, false}
use mathlib.Core.List.{List, [], ◌∷◌, ◌++◌}
use mathlib.Core.Logic.{◌⊎◌, inl, inr}
use Prim.Native.Nat.{ℕ, suc, ◌+◌, ◌*◌, ◌≤◌, ◌<◌, min}
use native.Mathlib.Nat.{mul-suc}
use native.Mathlib.Omega.{arith}
use borrow.Author.Tests.{ltb-true, ltb-false}
use lib.Dec.{ltb}
use lib.ListN.{length}
use Rattle.rules.specs.Bytes.{Bytes, num}
use Rattle.rules.specs.Call.{Call, Request, step}
use Rattle.rules.specs.Collector.{Collection, fresh, next_offset, finished, portion_verdict, collected}
use Rattle.rules.specs.Identity.{identity_of}
use Rattle.rules.specs.Record.{Rec, state, record_ok}
use Rattle.rules.specs.Report.{most_report, most_portion, report_bytes, report_of, report_total, portion_bytes, read_number, handed_back}
use Rattle.rules.specs.Request.{Lent}
use Rattle.rules.specs.Table.{records, record_at, record_bytes, find, table_number}
use Rattle.rules.specs.declared.Identity.{Identity}
use Rattle.rules.specs.declared.PortionRefusal.{PortionRefusal}
use Rattle.rules.specs.declared.PortionRefusal.TheVariants.{NotReport, TotalDifferent}
use Rattle.rules.proofs.Accepted.{keeps_rules}
use Rattle.rules.proofs.Kept.{count_most, information_most}
use Rattle.rules.proofs.Lookup.{find_at}
use Rattle.rules.proofs.Numbers.{bytes_part}
use Rattle.rules.proofs.Portions.{length_of}
use Rattle.rules.proofs.RecordReport.{record_accepted, record_fields}
use Rattle.rules.proofs.Records.{length_records, record_part}
use Rattle.rules.proofs.Shown.{total_same}
use Rattle.demands.specs.Collected.{Ask, calls, length_asked, AsksNext, reply_to, table_at, handed, table_after, collection, AskedInTurn, no_ask, asked, OneLock, Collects, whole_report, FinishedIsWhole, TakesMore, EveryReplyTaken, ElsewhereRefused, Answered, all_answered, answered, GetsFinished}
use Rattle.demands.specs.Exactly.{Arrives, LockStands, in_locked, in_run}
use Rattle.demands.specs.Histories.{Asks}
use Rattle.demands.specs.Machine.{run}
use Rattle.demands.specs.ReportStays.{Along, Leaves}
use Rattle.demands.proofs.Asked.{asked_portion, Gets, reply_gets, reply_portion}
use Rattle.demands.proofs.Histories.{found_after}
use Rattle.demands.proofs.Holding.{Holds, fresh_holds, nothing_left, error_left, portion, nothing_told, error_told, elsewhere, is_taken_lem, still_holds, holds_more, finished_all, not_finished, full_finished}
use Rattle.demands.proofs.Lasting.{along_front, along_back, lasting_same}
use Rattle.demands.proofs.Turns.{wide}

-- ---- a report that a record shows

-- a record whose report it is; its length is the total
record Shows (whole : List ℕ) (r : Rec) : Type 0 where
  report_is : whole_report r ≡ whole
  total_is : report_total r ≡ length whole

shows_still : (whole : List ℕ) (r s : Rec) → Shows whole r → report_of s ≡ report_of r → Shows whole s
shows_still whole r s x same = record { report_is = ap report_bytes same ∙ x.report_is; total_is = total_same s r same ∙ x.total_is }

-- ---- one lock: over the first part of a history, and over the rest of it

module _ (i : Identity) (k : ℕ) (g h : List Call) (t : List ℕ) (o : OneLock step i k (g ++ h) t) where
  first_lasts : (report_of (record_at (run step g t) k) ≡ report_of (record_at t k)) × LockStands (record_at (run step g t) k)
  first_lasts = lasting_same i g t k o.found o.stands (along_front (Leaves step i) g h t o.lasting)

  rest_stands : OneLock step i k h (run step g t)
  rest_stands = record { found = found_after i g t ∙ o.found; stands = first_lasts.1; lasting = along_back (Leaves step i) g h t o.lasting }

-- ---- one ask

module _ (id : ℕ) (whole : List ℕ) (small : length whole ≤ most_report) where
  abbrev i : Identity
  i = identity_of id

  module _ (c : Collection) (h : Holds id whole c) (l : Lent) (asks : AsksNext i c l) (r : Rec) (x : Shows whole r) where
    abbrev q : List ℕ
    q = l.request

    q_long : 16 ≤ length q
    q_long = omega (arith, asks.asks.length_is)

    -- its portion, as the collector's OFFSET and the report say it
    portion_is : (inside : c.held < length whole) → asked_portion q r ≡ portion whole small q q_long c.held (length_asked l) inside
    unfolding portion_bytes
    portion_is inside = rw (asks.offset_is, x.total_is, x.report_is)

    inside_told : num q 16 2 < report_total r → c.held < length whole
    inside_told a = omega (arith, asks.offset_is, x.total_is)

    below_told : c.held < length whole → num q 16 2 < report_total r
    below_told a = omega (arith, asks.offset_is, x.total_is)

    -- whatever the reply is, what is held stays the front of the report
    reply_holds : (p : List ℕ) → Gets q r p → Holds id whole (collected c p)
    reply_holds p Gets.nothing = rw (nothing_left c) h
    reply_holds p (Gets.error code datum) = rw (error_left c code datum q) h
    reply_holds p (Gets.portion a) =
        let inside = inside_told a in
        rw (portion_is inside) (still_holds id whole small c h q q_long asks.asks.who_is (length_asked l) inside)

    -- and nothing that is held is lost
    reply_keeps : (p : List ℕ) → Gets q r p → length whole ≤ c.held → length whole ≤ (collected c p).held
    reply_keeps p Gets.nothing full = rw (nothing_left c) full
    reply_keeps p (Gets.error code datum) full = rw (error_left c code datum q) full
    reply_keeps p (Gets.portion a) full = absurd (omega (arith, inside_told a))

    portion_takes : c.held < length whole → (p : List ℕ) → p ≡ asked_portion q r → TakesMore c l (length whole) p
    portion_takes inside p e =
        rw (e ∙ portion_is inside)
        (record {
          taken = is_taken_lem id whole small c h q q_long asks.asks.who_is (length_asked l) inside;
          more = holds_more id whole small c h q q_long asks.asks.who_is (length_asked l) inside;
        })

  -- ---- all of them

  -- what one ask finds and leaves
  record Turned (k : ℕ) (a : Ask) (rest : List Ask) (t : List ℕ) : Type 0 where
    here : Shows whole (record_at (table_at step a t) k)
    stands : LockStands (record_at (table_at step a t) k)
    found : find i (records (table_at step a t)) ≡ Some k
    after : Shows whole (record_at (table_after step a t) k)
    then : OneLock step i k (calls rest) (table_after step a t)

  turned : (k : ℕ) (a : Ask) (rest : List Ask) (t : List ℕ) → Shows whole (record_at t k) → OneLock step i k (calls (a ∷ rest)) t → Turned k a rest t
  unfolding run calls
  turned k a rest t x o =
      let u = table_at step a t in
      let next = Request a.lent in
      let lock = rest_stands i k a.before (next ∷ calls rest) t o in
      let here = shows_still whole (record_at t k) (record_at u k) x (first_lasts i k a.before (next ∷ calls rest) t o).0 in
      record {
        here = here;
        stands = lock.stands;
        found = lock.found;
        after = shows_still whole (record_at u k) (record_at (step next u).table k) here (first_lasts i k (next ∷ []) (calls rest) u lock).0;
        then = rest_stands i k (next ∷ []) (calls rest) u lock;
      }

  collects : (k : ℕ) (asks : List Ask) (c : Collection) (t : List ℕ) → Holds id whole c → Shows whole (record_at t k) → AskedInTurn step i asks c t
      → OneLock step i k (calls asks) t → Holds id whole (collection step asks c t)
  unfolding collection
  collects k [] c t h x no_ask o = h
  collects k (a ∷ rest) c t h x (asked n more) o =
      let w = turned k a rest t x o in
      let reply = reply_gets i a.lent (table_at step a t) k n.asks w.found in
      collects k rest (collected c (handed step a t)) (table_after step a t)
      (reply_holds c h a.lent n (record_at (table_at step a t) k) w.here (handed step a t) reply) w.after more w.then

  -- an ask less, and its bytes more
  still_enough : (m n held left : ℕ) → (held < length whole → min (held + m) (length whole) ≤ n) → (length whole ≤ held → length whole ≤ n)
      → length whole ≤ held + m * suc left → length whole ≤ n + m * left
  still_enough m n held left f g e = by (ltb held (length whole)) refl
    where
      by : (b : Bool) → ltb held (length whole) ≡ b → length whole ≤ n + m * left
      by true l = omega (arith, f (ltb-true held (length whole) l), mul-suc m left)
      by false l = omega (arith, g (ltb-false held (length whole) l))

  -- the ask that comes next, if no refusal stops it
  next_taken : (k : ℕ) (c : Collection) (t : List ℕ) (l : Lent) → Holds id whole c → AsksNext i c l → Shows whole (record_at t k) → LockStands (record_at t k)
      → find i (records t) ≡ Some k → Arrives l t → c.held < length whole → TakesMore c l (length whole) (reply_to step l t)
  next_taken k c t l h n x s found on inside =
      portion_takes c h l n (record_at t k) x inside (reply_to step l t)
      (reply_portion i l t k n.asks found on s (below_told c h l n (record_at t k) x inside))

  gets_on : (k n : ℕ) (asks : List Ask) (c : Collection) (t : List ℕ) → Holds id whole c → Shows whole (record_at t k) → AskedInTurn step i asks c t
      → OneLock step i k (calls asks) t → Answered step n asks t → length whole ≤ c.held + min n most_portion * length asks → length whole ≤ (collection step asks c t).held
  unfolding collection
  gets_on k n [] c t h x no_ask o all_answered enough = omega arith
  gets_on k n (a ∷ rest) c t h x (asked m more) o (answered on long all) enough =
      let u = table_at step a t in
      let p = handed step a t in
      let w = turned k a rest t x o in
      let reply = reply_gets i a.lent u k m.asks w.found in
      let brings : c.held < length whole → min (c.held + min n most_portion) (length whole) ≤ (collected c p).held =
      λ inside. omega (arith, long, (next_taken k c u a.lent h m w.here w.stands w.found on inside).more) in
      gets_on k n rest (collected c p) (table_after step a t) (reply_holds c h a.lent m (record_at u k) w.here p reply) w.after more w.then all
      (still_enough (min n most_portion) (collected c p).held c.held (length rest) brings (reply_keeps c h a.lent m (record_at u k) w.here p reply) enough)

  -- one asked elsewhere is not taken, once a reply was
  refused : (v : Result Unit PortionRefusal) (why : PortionRefusal) → v ≡ Err why → v ≡ Ok tt → ⊥
  refused v why e t = cc

  asked_elsewhere : (c : Collection) (h : Holds id whole c) (l : Lent) (asks : Asks i 0x84 20 l) (r : Rec) (x : Shows whole r) → c.begun ≡ true
      → (num l.request 16 2 ≡ next_offset c → ⊥) → (p : List ℕ) → Gets l.request r p → portion_verdict c p ≡ Ok tt → ⊥
  unfolding portion_bytes
  asked_elsewhere c h l asks r x b n p Gets.nothing = refused _ NotReport (nothing_told c)
  asked_elsewhere c h l asks r x b n p (Gets.error code datum) = refused _ NotReport (error_told c code datum l.request)
  asked_elsewhere c h l asks r x b n p (Gets.portion a) =
      let q = l.request in
      let inside : num q 16 2 < length whole = omega (arith, x.total_is) in
      let told = elsewhere id whole small c h q (omega (arith, asks.length_is)) asks.who_is (length_asked l) (num q 16 2) inside b n in
      refused _ TotalDifferent (rw (x.total_is, x.report_is) told)

-- ---- the report of i's record, in an accepted table

either : (r : Rec) → LockStands r → (state r ≡ 1) ⊎ (state r ≡ 2)
either r (in_locked e) = inl e
either r (in_run e) = inr e

module _ (i : Identity) (k : ℕ) (t : List ℕ) (accepted : table_number t ≡ 0) (found : find i (records t) ≡ Some k) where
  abbrev r : Rec
  r = record_at t k

  inside : k < length (records t)
  inside = (find_at i k (records t) found).within

  ok : record_ok r ≡ true
  ok = keeps_rules t accepted k inside

  long : length r ≡ record_bytes
  long = wide i t k found

  own_report : Shows (whole_report r) r
  own_report = record { report_is = refl; total_is = sym (length_of r long ok) }

  -- 20 to 200 bytes
  report_small : length (whole_report r) ≤ most_report
  report_small = omega (arith, length_of r long ok, count_most r ok, information_most r ok)

  report_some : 0 < length (whole_report r)
  report_some = omega (arith, length_of r long ok)

  module _ (b : Bytes t) (s : LockStands r) where
    r_bytes : Bytes r
    r_bytes = rw (← record_part t k (omega (arith, length_records t, inside))) (bytes_part t (k * record_bytes) record_bytes b)

    read_accepts : read_number (whole_report r) ≡ 0
    read_accepts = record_accepted r long r_bytes ok (either r s)

    read_fields_lem : handed_back (whole_report r) ≡ report_of r
    read_fields_lem = record_fields r long r_bytes ok (either r s)

-- ---- the claims

module _ (id k : ℕ) (asks : List Ask) (t : List ℕ) (a : Collects step id k asks t) where
  abbrev whole : List ℕ
  whole = whole_report (record_at t k)

  abbrev c : Collection
  c = collection step asks (fresh id) t

  small : length whole ≤ most_report
  small = report_small (identity_of id) k t a.accepted a.one_lock.found

  some : 0 < length whole
  some = report_some (identity_of id) k t a.accepted a.one_lock.found

  own : Shows whole (record_at t k)
  own = own_report (identity_of id) k t a.accepted a.one_lock.found

  holds : Holds id whole c
  holds = collects id whole small k asks (fresh id) t (fresh_holds id whole) own a.in_turn a.one_lock

  enough : (n : ℕ) → Answered step n asks t → report_total (record_at t k) ≤ min n most_portion * length asks → finished c ≡ true
  enough n all e =
      full_finished id whole small c holds some
      (gets_on id whole small k n asks (fresh id) t (fresh_holds id whole) own a.in_turn a.one_lock all (omega (arith, own.total_is)))

  -- after any calls more over the lock
  later : (more : List Call) → Along step (Leaves step (identity_of id)) more (run step (calls asks) t)
      → Shows whole (record_at (run step more (run step (calls asks) t)) k) × LockStands (record_at (run step more (run step (calls asks) t)) k)
      × (find (identity_of id) (records (run step more (run step (calls asks) t))) ≡ Some k)
  later more lasts =
      let i = identity_of id in
      let u = run step (calls asks) t in
      let (same, s) = lasting_same i (calls asks) t k a.one_lock.found a.one_lock.stands a.one_lock.lasting in
      let found = found_after i (calls asks) t ∙ a.one_lock.found in
      let (same', s') = lasting_same i more u k found s lasts in
      (shows_still whole (record_at t k) (record_at (run step more u) k) own (same' ∙ same), s', found_after i more u ∙ found)

-- However an honest responder's report is cut
pub finished_is_whole : FinishedIsWhole step
finished_is_whole id k asks t a b =
    let i = identity_of id in
    let h = holds id k asks t a in
    let all = finished_all id (whole_report (record_at t k)) (small id k asks t a) (collection step asks (fresh id) t) h in
    record {
      front = h.front;
      whole = all;
      accepted = λ f. rw (all f) (read_accepts i k t a.accepted a.one_lock.found b a.one_lock.stands);
      fields = λ f. rw (all f) (read_fields_lem i k t a.accepted a.one_lock.found b a.one_lock.stands);
    }

pub every_reply_taken : EveryReplyTaken step
every_reply_taken id k asks more l t a lasts n on f =
    let whole = whole_report (record_at t k) in
    let c = collection step asks (fresh id) t in
    let h = holds id k asks t a in
    let inside = not_finished id whole (small id k asks t a) c h (some id k asks t a) f in
    let (x, s, found) = later id k asks t a more lasts in
    rw (own id k asks t a).total_is
    (next_taken id whole (small id k asks t a) k c (run step more (run step (calls asks) t)) l h n x s found on inside)

pub elsewhere_refused : ElsewhereRefused step
elsewhere_refused id k asks more l t a lasts n b other =
    let i = identity_of id in
    let (x, s, found) = later id k asks t a more lasts in
    asked_elsewhere id (whole_report (record_at t k)) (small id k asks t a) (collection step asks (fresh id) t) (holds id k asks t a) l n
    (record_at (run step more (run step (calls asks) t)) k) x b other (reply_to step l (run step more (run step (calls asks) t))) (reply_gets i l _ k n found)

pub gets_finished : GetsFinished step
gets_finished = record {
  enough = λ id k n asks t a. enough id k asks t a n;
  two_hundred = λ id k asks t a all e. enough id k asks t a 1 all (omega (arith, small id k asks t a, (own id k asks t a).total_is));
  two = λ id k asks t a all e. enough id k asks t a 65535 all (omega (arith, small id k asks t a, (own id k asks t a).total_is));
}
