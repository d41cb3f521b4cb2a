-- What the caller sees decides what became of the record: a lock, a start, and what ends it. Assumes nothing.
use Rattle.std.specs.Prelude.{if◌then◌else◌, Err, None, Ok, Result, Some}
use mathlib.Core.Path.{◌≡◌, refl, sym, ap, ◌∙◌}
use mathlib.Core.Bool.{Bool, true, false, not, ◌&&◌}
use mathlib.Core.List.{List, []}
use Prim.Native.Nat.{ℕ}
use native.Mathlib.Omega.{arith}
use borrow.Author.Tests.{eq-eqb, ne_eqb, eqb-true, eqb-false}
use lib.Dec.{eqb, ltb}
use lib.ListN.{length}
use Rattle.rules.specs.Bytes.{byte, part, same_bytes}
use Rattle.rules.specs.Call.{Outcome, refused, carried_out, changed, least_reply, least_request, answered, register_written, happened, Call, Request, RegisterWrite, DeviceWide, FirmwareQuestion, step}
use Rattle.rules.specs.Change.{rule_of, hits, write_hits, live, moved}
use Rattle.rules.specs.Identity.{identity_at, identity_of}
use Rattle.rules.specs.Lock.{supported}
use Rattle.rules.specs.Record.{Rec, state, nonce, offset_ok}
use Rattle.rules.specs.Request.{Lent, Effect, does, fails, kind_of, exact_length, legal_in, message, error_message, verdict, asked_flags, asked_stream, asked_offset, secure, effect, locked, lock_interface, start_interface, running, cleared}
use Rattle.rules.specs.Table.{records, record_at, record_bytes, find, table_number, lookup_number}
use Rattle.rules.specs.declared.Identity.{Identity}
use Rattle.rules.specs.declared.RequestError.{RequestError}
use Rattle.rules.specs.declared.RequestError.TheVariants.{InvalidInterface}
use Rattle.rules.proofs.Bools.{clash, and_right}
use Rattle.rules.proofs.Changed.{record_after}
use Rattle.rules.proofs.Checks.{serves}
use Rattle.rules.proofs.Moved.{moved_is}
use Rattle.rules.proofs.ServedCall.{OnRecord, named_after}
use Rattle.demands.specs.Machine.{reply_of, seen}
use Rattle.demands.specs.ReportStays.{AcceptedStart}
use Rattle.demands.specs.Histories.{Terms, terms_of, Asks, AcceptedLock, ServedStart, sends_to_error, Ends}
use Rattle.demands.proofs.Lists.{equal_then_same, front_is, payload_same, kind_same}
use Rattle.demands.proofs.Lookups.{found_too, nowhere_too}
use Rattle.demands.proofs.Turns.{terms, Locked, Runs, locked_is, running_is, cleared_dead, wide, write_hits_lem, event_hits}

-- ---- a request that is served, well-formed and names the interface is carried out on its record

verdict_serves : (q : List ℕ) (rs : List Rec) (k kind long : ℕ) → byte q 0 ≡ 0x10 → kind_of q ≡ kind → exact_length kind ≡ long → (long ≡ 0 → ⊥) → length q ≡ long
    → find (identity_at q 4) rs ≡ Some k → verdict q rs ≡ Ok k
unfolding verdict
verdict_serves q rs k kind long v e w n h f = rw (v, e, w, ne_eqb long 0 n, h, eq-eqb long long refl, f)

-- a request that is served has passed refusals 1 to 6
module _ (l : Lent) (t : List ℕ) where
  pub record Past (o : Outcome) : Type 0 where
    pub accepted : table_number t ≡ 0
    pub nonce_long : length l.nonce ≡ 32
    pub is : o ≡ carried_out (verdict l.request (records t)) l t

  pub past : (answered l t).number ≡ 0 → Past (answered l t)
  unfolding answered
  past =
      go (eqb (table_number t) 0) refl (ltb (length l.reply) least_reply) (ltb (length l.request) least_request) (eqb (length l.streams) 32 && eqb (length l.nonce) 32) refl
      (carried_out (verdict l.request (records t)) l t) refl
    where
      go : (a : Bool) → eqb (table_number t) 0 ≡ a → (b c d : Bool) → eqb (length l.streams) 32 && eqb (length l.nonce) 32 ≡ d
          → (o : Outcome) → o ≡ carried_out (verdict l.request (records t)) l t
          → (if not a then refused (table_number t) l.reply t else if b then refused 4 l.reply t else if c then refused 5 l.reply t else if not d then refused 6 l.reply t else o).number ≡ 0
          → Past (if not a then refused (table_number t) l.reply t else if b then refused 4 l.reply t else if c then refused 5 l.reply t else if not d then refused 6 l.reply t else o)
      go false p b c d q o e z = absurd (eqb-false (table_number t) 0 p z)
      go true p true c d q o e z = absurd (omega arith)
      go true p false true d q o e z = absurd (omega arith)
      go true p false false false q o e z = absurd (omega arith)
      go true p false false true q o e z = record {
        accepted = eqb-true (table_number t) 0 p;
        nonce_long = eqb-true (length l.nonce) 32 (and_right (eqb (length l.streams) 32) (eqb (length l.nonce) 32) q);
        is = e;
      }

  served_is : (v : Result ℕ RequestError) → verdict l.request (records t) ≡ v → (answered l t).number ≡ 0 → answered l t ≡ carried_out v l t
  served_is v e z = (past z).is ∙ ap (λ (x : Result ℕ RequestError). carried_out x l t) e

-- record k was in CONFIG_LOCKED, and runs
pub record Started (t : List ℕ) (k : ℕ) (c : Call) : Type 0 where
  pub state_was : state (record_at t k) ≡ 1
  pub record_is : record_at (step c t).table k ≡ running (record_at t k)

module _ (i : Identity) (t : List ℕ) (k : ℕ) (found : find i (records t) ≡ Some k) where
  abbrev r : Rec
  r = record_at t k

  long : length r ≡ record_bytes
  long = wide i t k found

  -- what a request of a type leaves of the record
  module _ (l : Lent) (kind length_of : ℕ) (asks : Asks i kind length_of l) (listed : exact_length kind ≡ length_of) (not_none : length_of ≡ 0 → ⊥)
      (served-it : (answered l t).number ≡ 0) where
    told : verdict l.request (records t) ≡ Ok k
    told =
        verdict_serves l.request (records t) k kind length_of asks.version_is asks.kind_is listed not_none asks.length_is
        (found_too i (identity_at l.request 4) (records t) k found asks.who_is)

    on_record : OnRecord l t k
    on_record =
        let p = past l t served-it in
        record { accepted = p.accepted; found = (serves k (verdict l.request (records t)) l.request t refl told).found; nonce_long = p.nonce_long; told = told }

    is_carried : answered l t ≡ carried_out (Ok k) l t
    is_carried = served_is l t (Ok k) told served-it

    -- the record afterwards, and the reply
    record_is : record_at (answered l t).table k ≡ (effect l r).rec
    record_is = rw is_carried (named_after l t k on_record)

    reply_is : reply_of (seen step (Request l) t) ≡ (effect l r).reply
    reply_is = rw is_carried (front_is (effect l r).reply l.reply)

  -- ---- a lock that replied 03h

  data LockGives (l : Lent) : Effect → Type 0 where
    failed : (code : ℕ) → LockGives l (fails code l.request r)
    accepted : LockGives l (does (message 0x03 l.request l.nonce) (locked l.request l.nonce l.session r))

  lock_gives : (l : Lent) → kind_of l.request ≡ 0x83 → LockGives l (effect l r)
  unfolding effect lock_interface
  lock_gives l e = rw e (go (legal_in 0x83 (state r)) (supported (asked_flags l.request)) (offset_ok r (asked_offset l.request)) (secure l.streams (asked_stream l.request)) l.ready)
    where
      go : (a b c d f : Bool)
          → LockGives l (if not a then fails 0x04 l.request r
          else if not b then fails 0x01 l.request r
          else if not c then fails 0x01 l.request r
          else if not d then fails 0x104 l.request r
          else if not f then fails 0x103 l.request r
          else does (message 0x03 l.request l.nonce) (locked l.request l.nonce l.session r))
      go false b c d f = failed 0x04
      go true false c d f = failed 0x01
      go true true false d f = failed 0x01
      go true true true false f = failed 0x104
      go true true true true false = failed 0x103
      go true true true true true = accepted

  lock_told : (l : Lent) (n : List ℕ) (e : Effect) → length l.nonce ≡ 32 → LockGives l e → e.reply ≡ message 0x03 l.request n → Locked n (terms_of l) e.rec
  lock_told l n e w (failed code) q = absurd (omega (arith, kind_same 0x7f 0x03 l.request l.request _ n q))
  lock_told l n e w accepted q = rw (sym (payload_same 0x03 l.request l.nonce n q)) (locked_is r long l w)

  locked_request : (l : Lent) (n : List ℕ) → Asks i 0x83 36 l → (answered l t).number ≡ 0 → reply_of (seen step (Request l) t) ≡ message 0x03 l.request n
      → Locked n (terms_of l) (record_at (answered l t).table k)
  unfolding exact_length
  locked_request l n a z q =
      let z36 : ◌≡◌ {A = ℕ} 36 0 → ⊥ = λ e. omega arith in
      rw (record_is l 0x83 36 a refl z36 z)
      (lock_told l n (effect l r) (on_record l 0x83 36 a refl z36 z).nonce_long (lock_gives l a.kind_is) (sym (reply_is l 0x83 36 a refl z36 z) ∙ q))

  pub locked_by : (c : Call) (n : List ℕ) (on : Terms) → AcceptedLock i n on (seen step c t) → Locked n on (record_at (step c t).table k)
  locked_by c n on a =
      let l = a.lent in
      let e = a.call_is in
      rw (a.terms_are, e) (locked_request l n a.asks (rw e at a.served) (rw e at a.reply_is))

  -- ---- a start that carries the nonce of a record in CONFIG_LOCKED

  start_gives : (l : Lent) → kind_of l.request ≡ 0x86 → state r ≡ 1 → part l.request 16 32 ≡ nonce r → effect l r ≡ does (message 0x06 l.request []) (running r)
  unfolding effect legal_in start_interface
  start_gives l e s n = rw (e, s, equal_then_same (part l.request 16 32) (nonce r) n)

  started_request : (l : Lent) (n : List ℕ) (on : Terms) → Asks i 0x86 48 l → (answered l t).number ≡ 0 → part l.request 16 32 ≡ n → Locked n on r
      → Runs on (record_at (answered l t).table k)
  unfolding exact_length
  started_request l n on a z c locked =
      let z48 : ◌≡◌ {A = ℕ} 48 0 → ⊥ = λ e. omega arith in
      rw (record_is l 0x86 48 a refl z48 z, start_gives l a.kind_is locked.state_is (c ∙ sym locked.nonce_is), ← locked.terms_are) (running_is r long)

  pub started_by : (c : Call) (n : List ℕ) (on : Terms) → ServedStart i n (seen step c t) → Locked n on r → Runs on (record_at (step c t).table k)
  started_by c n on a locked =
      let e = a.call_is in
      rw e (started_request a.lent n on a.asks (rw e at a.served) a.carries locked)

  -- ---- a start that replied 06h

  data StartGives (l : Lent) : Effect → Type 0 where
    failed : (code : ℕ) → StartGives l (fails code l.request r)
    accepted : state r ≡ 1 → StartGives l (does (message 0x06 l.request []) (running r))

  start_either : (l : Lent) → kind_of l.request ≡ 0x86 → StartGives l (effect l r)
  unfolding effect legal_in start_interface
  start_either l e = rw e (go (eqb (state r) 1) refl (same_bytes (part l.request 16 32) (nonce r)))
    where
      go : (a : Bool) → eqb (state r) 1 ≡ a → (b : Bool)
          → StartGives l (if not a then fails 0x04 l.request r
          else if not b then fails 0x102 l.request r
          else does (message 0x06 l.request []) (running r))
      go false p b = failed 0x04
      go true p false = failed 0x102
      go true p true = accepted (eqb-true (state r) 1 p)

  start_told : (l : Lent) (e : Effect) → StartGives l e → e.reply ≡ message 0x06 l.request [] → record_at (answered l t).table k ≡ e.rec → Started t k (Request l)
  start_told l e (failed code) q is = absurd (omega (arith, kind_same 0x7f 0x06 l.request l.request _ [] q))
  start_told l e (accepted z) q is = record { state_was = z; record_is = is }

  accepted_request : (l : Lent) → Asks i 0x86 48 l → (answered l t).number ≡ 0 → reply_of (seen step (Request l) t) ≡ message 0x06 l.request [] → Started t k (Request l)
  unfolding exact_length
  accepted_request l a z q =
      let z48 : ◌≡◌ {A = ℕ} 48 0 → ⊥ = λ e. omega arith in
      start_told l (effect l r) (start_either l a.kind_is) (sym (reply_is l 0x86 48 a refl z48 z) ∙ q) (record_is l 0x86 48 a refl z48 z)

  pub accepted_start : (c : Call) → AcceptedStart i (seen step c t) → Started t k c
  accepted_start c a =
      let e = a.call_is in
      rw e (accepted_request a.lent a.asks (rw e at a.served) (rw e at a.reply_is))

  -- ---- what ends it

  stop_gives : (l : Lent) → kind_of l.request ≡ 0x87 → effect l r ≡ does (message 0x07 l.request []) (cleared 0 r)
  unfolding effect legal_in
  stop_gives l e = rw e

  stopped_request : (l : Lent) → Asks i 0x87 16 l → (answered l t).number ≡ 0 → live (record_at (answered l t).table k) ≡ false
  unfolding exact_length
  stopped_request l a z =
      let z16 : ◌≡◌ {A = ℕ} 16 0 → ⊥ = λ e. omega arith in
      rw (record_is l 0x87 16 a refl z16 z, stop_gives l a.kind_is) (cleared_dead r long 0 refl)

  -- a change that is for the record
  moved_dead : (p : Rec → Bool) → live r ≡ true → p r ≡ true → live (moved p r) ≡ false
  moved_dead p a b = rw (moved_is p r (rw (a, b))) (cleared_dead r long 3 refl)

  changed_dead : (c : Call) → live r ≡ true → (step c t).number ≡ 0 → sends_to_error i (terms r) c ≡ true → live (record_at (step c t).table k) ≡ false
  unfolding register_written happened
  changed_dead (Request l) a z s = clash (sym s)
  changed_dead (RegisterWrite id class) a z s =
      by (write_hits (rule_of class) (identity_of id)) (write_hits_lem i t k found (rule_of class) (identity_of id) ∙ s) (lookup_number (find (identity_of id) (records t)))
      (eqb (table_number t) 0) refl (eqb (lookup_number (find (identity_of id) (records t))) 0) refl z
    where
      by : (p : Rec → Bool) → p r ≡ true → (known : ℕ) (x : Bool) → eqb (table_number t) 0 ≡ x → (y : Bool) → eqb known 0 ≡ y
          → (if not x then refused (table_number t) [] t else if not y then refused known [] t else changed p t).number ≡ 0
          → live (record_at (if not x then refused (table_number t) [] t else if not y then refused known [] t else changed p t).table k) ≡ false
      by p b known false e y f w = absurd (eqb-false (table_number t) 0 e w)
      by p b known true e false f w = absurd (eqb-false known 0 f w)
      by p b known true e true f w = rw (record_after p t k) (moved_dead p a b)
  changed_dead (DeviceWide e) a z s = by (eqb (table_number t) 0) refl z
    where
      by : (x : Bool) → eqb (table_number t) 0 ≡ x → (if not x then refused (table_number t) [] t else changed (hits e) t).number ≡ 0
          → live (record_at (if not x then refused (table_number t) [] t else changed (hits e) t).table k) ≡ false
      by false q w = absurd (eqb-false (table_number t) 0 q w)
      by true q w = rw (record_after (hits e) t k) (moved_dead (hits e) a (event_hits i t k found e ∙ s))
  changed_dead FirmwareQuestion a z s = clash (sym s)

  pub ended_by : (c : Call) → live r ≡ true → Ends i (terms r) (seen step c t) → live (record_at (step c t).table k) ≡ false
  ended_by c a (Ends.stopped l e asks z q) = rw e (stopped_request l asks (rw e at z))
  ended_by c a (Ends.changed z s) = changed_dead c a z s

-- ---- an interface that is no record's is never locked

verdict_unknown : (q : List ℕ) (rs : List Rec) → byte q 0 ≡ 0x10 → kind_of q ≡ 0x83 → length q ≡ 36 → find (identity_at q 4) rs ≡ None → verdict q rs ≡ Err InvalidInterface
unfolding verdict exact_length
verdict_unknown q rs v e h f = rw (v, e, h, f)

no_lock_request : (i : Identity) (t : List ℕ) (l : Lent) (n : List ℕ) → find i (records t) ≡ None → Asks i 0x83 36 l → (answered l t).number ≡ 0
    → reply_of (seen step (Request l) t) ≡ message 0x03 l.request n → ⊥
no_lock_request i t l n f a z q =
    let unknown = verdict_unknown l.request (records t) a.version_is a.kind_is a.length_is (nowhere_too i (identity_at l.request 4) (records t) f a.who_is) in
    let errs = served_is l t (Err InvalidInterface) unknown z in
    omega (arith, kind_same 0x7f 0x03 l.request l.request _ n (sym (front_is (error_message 0x101 0 l.request) l.reply) ∙ (rw errs at q)))

pub no_lock : (i : Identity) (t : List ℕ) (c : Call) (n : List ℕ) (on : Terms) → find i (records t) ≡ None → AcceptedLock i n on (seen step c t) → ⊥
no_lock i t c n on f a = let e = a.call_is in no_lock_request i t a.lent n f a.asks (rw e at a.served) (rw e at a.reply_is)
