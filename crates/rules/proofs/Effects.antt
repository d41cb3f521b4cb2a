-- What becomes of the record that a request names: its length, and the bytes that stay. Assumes nothing.
use Rattle.std.specs.Prelude.{if◌then◌else◌}
use mathlib.Core.Path.{◌≡◌, refl}
use mathlib.Core.Bool.{Bool, true, false, not}
use mathlib.Core.List.{List, []}
use Prim.Native.Nat.{ℕ, ◌<◌}
use native.Mathlib.Omega.{arith}
use lib.Dec.{eqb, leb}
use lib.ListN.{length}
use borrow.Author.Tests.{eqb-true}
use Rattle.rules.specs.Bytes.{byte, Bytes, num, part, same_bytes}
use Rattle.rules.specs.Lock.{supported}
use Rattle.rules.specs.Record.{Rec, state, nonce, offset_ok}
use Rattle.rules.specs.Report.{report_total, portion_bytes}
use Rattle.rules.specs.Request.{Lent, kind_of, header, message, legal_in, Effect, does, fails, get_version, get_capabilities, get_state, stop_interface, secure, asked_flags, asked_stream, asked_offset, locked, lock_interface, get_report, running, start_interface, cleared, gets, effect}
use Rattle.rules.specs.Table.{record_bytes, identity}
use Rattle.rules.proofs.Changes.{length_cleared, length_running, length_locked, kept_cleared, kept_running, kept_locked, bytes_cleared, bytes_running, bytes_locked}
use Rattle.rules.proofs.Configured.{Configured, identity_same}

-- ---- what a request does is one of four

-- with what was tested on the way
pub data Becomes (l : Lent) (r : Rec) : Effect → Type 0 where
  same : {m : List ℕ} → Becomes l r (does m r)
  locks : kind_of l.request ≡ 0x83 → state r ≡ 0 → supported (asked_flags l.request) ≡ true → offset_ok r (asked_offset l.request) ≡ true
      → secure l.streams (asked_stream l.request) ≡ true → l.ready ≡ true
      → Becomes l r (does (message 0x03 l.request l.nonce) (locked l.request l.nonce l.session r))
  runs : kind_of l.request ≡ 0x86 → state r ≡ 1 → same_bytes (part l.request 16 32) (nonce r) ≡ true
      → Becomes l r (does (message 0x06 l.request []) (running r))
  clears : kind_of l.request ≡ 0x87 → Becomes l r (does (message 0x07 l.request []) (cleared 0 r))

-- the states in which LOCK and START are legal
legal_lock : (s : ℕ) → legal_in 0x83 s ≡ true → s ≡ 0
unfolding legal_in
legal_lock s e = eqb-true s 0 e

legal_start : (s : ℕ) → legal_in 0x86 s ≡ true → s ≡ 1
unfolding legal_in
legal_start s e = eqb-true s 1 e

module _ (l : Lent) (r : Rec) where
  abbrev q : List ℕ
  q = l.request

  abbrev kind : ℕ
  kind = kind_of q

  -- each of the requests that tests something
  lock_becomes : kind ≡ 0x83 → state r ≡ 0 → Becomes l r (lock_interface l r)
  unfolding lock_interface
  lock_becomes k z = go (supported (asked_flags q)) refl (offset_ok r (asked_offset q)) refl (secure l.streams (asked_stream q)) refl l.ready refl
    where
      go : (a : Bool) → supported (asked_flags q) ≡ a → (b : Bool) → offset_ok r (asked_offset q) ≡ b → (c : Bool) → secure l.streams (asked_stream q) ≡ c → (d : Bool) → l.ready ≡ d
          → Becomes l r (if not a then fails 0x01 q r else if not b then fails 0x01 q r else if not c then fails 0x104 q r else if not d then fails 0x103 q r
          else does (message 0x03 q l.nonce) (locked q l.nonce l.session r))
      go false p b o c s d t = same
      go true p false o c s d t = same
      go true p true o false s d t = same
      go true p true o true s false t = same
      go true p true o true s true t = locks k z p o s t

  start_becomes : kind ≡ 0x86 → state r ≡ 1 → Becomes l r (start_interface q r)
  unfolding start_interface
  start_becomes k z = go (same_bytes (part q 16 32) (nonce r)) refl
    where
      go : (b : Bool) → same_bytes (part q 16 32) (nonce r) ≡ b
          → Becomes l r (if not b then fails 0x102 q r else does (message 0x06 q []) (running r))
      go false e = same
      go true e = runs k z e

  report_becomes : Becomes l r (get_report q r)
  unfolding get_report
  report_becomes = go (leb (report_total r) (num q 16 2))
    where
      go : (b : Bool) → Becomes l r (if b then fails 0x01 q r else does (message 0x04 q (portion_bytes r (num q 16 2) (num q 18 2))) r)
      go true = same
      go false = same

  gets_becomes : Becomes l r (gets q r)
  unfolding gets
  gets_becomes = go (eqb kind 0x81) (eqb kind 0x82) (eqb kind 0x84)
    where
      go : (a b c : Bool) → Becomes l r (if a then get_version q r else if b then get_capabilities q r else if c then get_report q r else get_state q r)
      go true b c = same
      go false true c = same
      go false false true = report_becomes
      go false false false = same

  -- the record stays, is locked, runs or is cleared
  pub effect_becomes : Becomes l r (effect l r)
  unfolding effect
  effect_becomes = go (legal_in kind (state r)) refl (eqb kind 0x83) refl (eqb kind 0x86) refl (eqb kind 0x87) refl
    where
      go : (a : Bool) → legal_in kind (state r) ≡ a → (b : Bool) → eqb kind 0x83 ≡ b → (c : Bool) → eqb kind 0x86 ≡ c → (d : Bool) → eqb kind 0x87 ≡ d
          → Becomes l r (if not a then fails 0x04 q r else if b then lock_interface l r else if c then start_interface q r else if d then stop_interface q r else gets q r)
      go false p b x c y d w = same
      go true p true x c y d w = let k = eqb-true kind 0x83 x in lock_becomes k (legal_lock (state r) (rw k at p))
      go true p false x true y d w = let k = eqb-true kind 0x86 y in start_becomes k (legal_start (state r) (rw k at p))
      go true p false x false y true w = clears (eqb-true kind 0x87 w)
      go true p false x false y false w = gets_becomes

-- ---- so of each of them

module _ (l : Lent) (r : Rec) (long : length r ≡ record_bytes) (n-long : length l.nonce ≡ 32) where
  -- the length, and the configuration
  becomes_length : (e : Effect) → Becomes l r e → length e.rec ≡ record_bytes
  becomes_length e same = long
  becomes_length e (locks c z f o s t) = length_locked r long l.request l.nonce l.session n-long
  becomes_length e (runs c z n) = length_running r long
  becomes_length e (clears c) = length_cleared r long 0

  becomes_kept : (e : Effect) → Becomes l r e → (k : ℕ) → Configured k → byte e.rec k ≡ byte r k
  becomes_kept e same k h = refl
  becomes_kept e (locks c z f o s t) k h = kept_locked r long l.request l.nonce l.session n-long k h
  becomes_kept e (runs c z n) k h = kept_running r long k h
  becomes_kept e (clears c) k h = kept_cleared r long 0 k h

-- the record's length stays
pub length_effect : (l : Lent) (r : Rec) → length r ≡ record_bytes → length l.nonce ≡ 32 → length (effect l r).rec ≡ record_bytes
length_effect l r long n-long = becomes_length l r long n-long (effect l r) (effect_becomes l r)

-- its configuration stays: all bytes but 4-9, 24-31 and 40-71
pub kept_bytes : (l : Lent) (r : Rec) → length r ≡ record_bytes → length l.nonce ≡ 32 → (k : ℕ) → Configured k → byte (effect l r).rec k ≡ byte r k
kept_bytes l r long n-long = becomes_kept l r long n-long (effect l r) (effect_becomes l r)

-- so it is for the same interface
pub same_identity : (l : Lent) (r : Rec) → length r ≡ record_bytes → length l.nonce ≡ 32 → identity (effect l r).rec ≡ identity r
same_identity l r long n-long = identity_same (effect l r).rec r (kept_bytes l r long n-long)

-- its bytes stay bytes
pub bytes_effect : (l : Lent) (r : Rec) → Bytes r → Bytes l.request → Bytes l.nonce → l.session.0 < 256 → Bytes (effect l r).rec
bytes_effect l r b c d h = by (effect l r) (effect_becomes l r)
  where
    by : (e : Effect) → Becomes l r e → Bytes e.rec
    by e same = b
    by e (locks k z f o s t) = bytes_locked r b l.request l.nonce l.session c d h
    by e (runs k z n) = bytes_running r b
    by e (clears k) = bytes_cleared r b 0 (omega arith)

-- ---- errors

-- an error, a reply 7Fh, leaves the record as it was
becomes_error : (l : Lent) (r : Rec) (e : Effect) → Becomes l r e → byte e.reply 1 ≡ 0x7f → e.rec ≡ r
unfolding message header
becomes_error l r e same h = refl
becomes_error l r e (locks c z f o s t) h = absurd (omega arith)
becomes_error l r e (runs c z n) h = absurd (omega arith)
becomes_error l r e (clears c) h = absurd (omega arith)

pub error_keeps : (l : Lent) (r : Rec) → byte (effect l r).reply 1 ≡ 0x7f → (effect l r).rec ≡ r
error_keeps l r h = becomes_error l r (effect l r) (effect_becomes l r) h

-- a request that is illegal in the record's state is 04h
pub illegal_stays : (l : Lent) (r : Rec) → legal_in (kind_of l.request) (state r) ≡ false → effect l r ≡ fails 0x04 l.request r
unfolding effect
illegal_stays l r e = rw e

-- ---- a report asked for

-- leaves the record as it was, whatever is replied
pub report_keeps : (l : Lent) (r : Rec) → kind_of l.request ≡ 0x84 → (effect l r).rec ≡ r
report_keeps l r kind = by (effect l r) (effect_becomes l r)
  where
    by : (e : Effect) → Becomes l r e → e.rec ≡ r
    by e same = refl
    by e (locks c z f o s t) = absurd (omega arith)
    by e (runs c z n) = absurd (omega arith)
    by e (clears c) = absurd (omega arith)
