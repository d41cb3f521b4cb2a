-- A record that keeps its rules keeps them after every request. Assumes nothing.
use mathlib.Core.Path.{◌≡◌, refl, ap, ◌∙◌}
use mathlib.Core.Bool.{true, false, ◌&&◌, ◌||◌}
use mathlib.Core.List.{List}
use Prim.Native.Nat.{ℕ, ◌+◌, ◌*◌, ◌/◌, ◌^◌, ◌<◌}
use native.Mathlib.Omega.{arith}
use lib.Dec.{eqb, leb}
use lib.ListN.{length}
use borrow.Author.Tests.{eq-eqb}
use Rattle.rules.specs.Bytes.{byte, bit}
use Rattle.rules.specs.Lock.{stored, signed, whole_pages}
use Rattle.rules.specs.Record.{Rec, function_id, state, flags, offset, identity_ok, state_ok, nonce_ok, flags_ok, offset_ok, lock_ok, record_ok}
use Rattle.rules.specs.Request.{Lent, asked_flags, asked_offset, Effect, locked, running, cleared, effect}
use Rattle.rules.specs.Table.{record_bytes}
use Rattle.rules.specs.declared.Session.{Session}
use Rattle.rules.proofs.Bools.{and_left}
use Rattle.rules.proofs.Changes.{kept_cleared, kept_running, kept_locked, state_cleared, held_cleared, nonce_cleared, head_cleared, offset_cleared, state_running, held_running, nonce_running, flags_running, offset_running, state_locked, held_locked, flags_locked, offset_locked}
use Rattle.rules.proofs.Configured.{Configured, function_id_same, count_ok_same, interface_ok_same, unused_ok_same, offset_ok_same, ranges_ok_same, information_ok_same}
use Rattle.rules.proofs.Effects.{Becomes, effect_becomes}
use Rattle.rules.proofs.Kept.{keeps}
use Rattle.rules.proofs.Offsets.{fits}

-- a record with the configuration of one that keeps its rules keeps them, if it keeps those on the state, the nonce and the lock
configured_keeps : (t r : Rec) → ((k : ℕ) → Configured k → byte t k ≡ byte r k) → record_ok r ≡ true → state_ok t ≡ true → nonce_ok t ≡ true → lock_ok t ≡ true → record_ok t ≡ true
unfolding record_ok
configured_keeps t r same ok s n l =
    let k = keeps r ok in
    let a : identity_ok (function_id t) ≡ true = ap identity_ok (function_id_same t r same) ∙ k.identity_ok in
    let b = count_ok_same t r same ∙ k.count_ok in
    let c = interface_ok_same t r same ∙ k.interface_ok in
    let d = unused_ok_same t r same ∙ k.unused_ok in
    let e = ranges_ok_same t r same ∙ k.ranges_ok in
    let f = information_ok_same t r same ∙ k.information_ok in
    rw (a, s, n, b, c, d, l, e, f)

-- flags stored are stored as they are
stored_bits : (p q : ℕ) → p < 2 → q < 2 → stored (p + q * 4) ≡ p + q * 4
stored_bits p q h l =
    let low : bit 0 (p + q * 4) ≡ p = omega arith in
    let high : (p + q * 4) / 4 ≡ q = omega arith in
    rw (low, high) (omega arith)

stored_stored : (f : ℕ) → stored (stored f) ≡ stored f
stored_stored f = stored_bits (bit 0 f) (bit 2 f) (omega arith) (omega arith)

-- an offset that keeps the lock's rule is an 8-byte number
offset_fits : (r : Rec) (x : ℕ) → offset_ok r x ≡ true → x < 2 ^ 64
unfolding offset_ok
offset_fits r x o = fits x (and_left (whole_pages (signed x)) _ o)

-- ---- each change

module _ (r : Rec) (long : length r ≡ record_bytes) (ok : record_ok r ≡ true) where
  -- a cleared record keeps its rules in a state of 0 to 3 in which no nonce is held and the lock fields are zero: CONFIG_UNLOCKED and ERROR
  pub cleared_keeps : (s : ℕ) → leb s 3 ≡ true → eqb s 1 ≡ false → eqb s 0 || eqb s 3 ≡ true → record_ok (cleared s r) ≡ true
  unfolding lock_ok
  cleared_keeps s known unheld unlocked =
      configured_keeps (cleared s r) r (kept_cleared r long s) ok
      (rw (state_cleared r long s, known))
      (rw (state_cleared r long s, unheld, held_cleared r long s, nonce_cleared r long s))
      (rw (state_cleared r long s, unlocked, head_cleared r long s, offset_cleared r long s))

  -- a record that was locked keeps its rules in RUN
  pub running_keeps : state r ≡ 1 → record_ok (running r) ≡ true
  unfolding lock_ok
  running_keeps z =
      let was : flags_ok (flags r) && offset_ok r (offset r) ≡ true = rw z at (keeps r ok).lock_ok in
      let same : offset_ok (running r) (offset r) ≡ offset_ok r (offset r) = offset_ok_same (running r) r (kept_running r long) (offset r) in
      configured_keeps (running r) r (kept_running r long) ok
      (rw (state_running r long))
      (rw (state_running r long, held_running r long, nonce_running r long))
      (rw (state_running r long, flags_running r long, offset_running r long, same) was)

  -- a record locked with an offset that keeps the lock's rule keeps its rules
  pub locked_keeps : (q n : List ℕ) (s : Session) → length n ≡ 32 → offset_ok r (asked_offset q) ≡ true → record_ok (locked q n s r) ≡ true
  unfolding lock_ok
  locked_keeps q n s e o =
      let legal : flags_ok (stored (asked_flags q)) ≡ true = eq-eqb (stored (stored (asked_flags q))) (stored (asked_flags q)) (stored_stored (asked_flags q)) in
      let stays : offset_ok (locked q n s r) (asked_offset q) ≡ true = offset_ok_same (locked q n s r) r (kept_locked r long q n s e) (asked_offset q) ∙ o in
      configured_keeps (locked q n s r) r (kept_locked r long q n s e) ok
      (rw (state_locked r long q n s e))
      (rw (state_locked r long q n s e, held_locked r long q n s e))
      (rw (state_locked r long q n s e, flags_locked r long q n s e, offset_locked r long q n s e (offset_fits r (asked_offset q) o), legal, stays))

-- ---- every request

-- a record that keeps its rules keeps them after every request
pub effect_keeps : (l : Lent) (r : Rec) → length r ≡ record_bytes → length l.nonce ≡ 32 → record_ok r ≡ true → record_ok (effect l r).rec ≡ true
effect_keeps l r long n-long ok = by (effect l r) (effect_becomes l r)
  where
    by : (e : Effect) → Becomes l r e → record_ok e.rec ≡ true
    by e Becomes.same = ok
    by e (Becomes.locks k z f o s t) = locked_keeps r long ok l.request l.nonce l.session n-long o
    by e (Becomes.runs k z n) = running_keeps r long ok z
    by e (Becomes.clears k) = cleared_keeps r long ok 0 refl refl refl
