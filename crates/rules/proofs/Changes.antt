-- What the three changes of a record, cleared, running and locked, leave in its fields. Assumes nothing.
use mathlib.Core.Path.{◌≡◌, refl, ◌∙◌}
use mathlib.Core.Bool.{true}
use mathlib.Core.List.{List, [], ◌∷◌, ◌++◌}
use Prim.Native.Nat.{ℕ, zero, suc, ◌+◌, ◌^◌, ◌≤◌, ◌<◌}
use native.Mathlib.Omega.{arith}
use lib.ListN.{length}
use Rattle.rules.specs.Bytes.{byte, Bytes, num, bytes_of, blank, zeros}
use Rattle.rules.specs.Lock.{stored}
use Rattle.rules.specs.Record.{Rec, RUN, state, held, flags, stream, session, offset, nonce}
use Rattle.rules.specs.Request.{asked_flags, asked_stream, asked_offset, locked, running, cleared}
use Rattle.rules.specs.Table.{record_bytes}
use Rattle.rules.specs.declared.Session.{Session}
use Rattle.rules.proofs.Configured.{Configured}
use Rattle.rules.proofs.Listed.{same_at_lem}
use Rattle.rules.proofs.Numbers.{length_bytes, num_bytes, num_append, num_past, bytes_append}
use Rattle.rules.proofs.Overs.{bytes_of_lem}
use Rattle.rules.proofs.Rewritten.{Fits, length_rewritten, configured_stays, state_byte, state_num, state_zeros, state_stays, offset_num, offset_zeros, offset_stays, nonce_zeros, nonce_part, bytes_rewritten, lock_head, length_head, cleared_is, running_is, locked_is, cleared_fits, running_fits, locked_fits}

-- ---- all of them

module _ (r : Rec) (long : length r ≡ record_bytes) where
  -- the record's length stays
  pub length_cleared : (s : ℕ) → length (cleared s r) ≡ record_bytes
  length_cleared s = rw cleared_is (length_rewritten (cleared_fits s) r long)

  pub length_running : length (running r) ≡ record_bytes
  length_running = rw running_is (length_rewritten running_fits r long)

  pub length_locked : (q n : List ℕ) (s : Session) → length n ≡ 32 → length (locked q n s r) ≡ record_bytes
  length_locked q n s e = rw locked_is (length_rewritten (locked_fits q n s e) r long)

  -- and so does its configuration
  pub kept_cleared : (s k : ℕ) → Configured k → byte (cleared s r) k ≡ byte r k
  kept_cleared s k h = rw cleared_is (configured_stays (cleared_fits s) r long k h)

  pub kept_running : (k : ℕ) → Configured k → byte (running r) k ≡ byte r k
  kept_running k h = rw running_is (configured_stays running_fits r long k h)

  pub kept_locked : (q n : List ℕ) (s : Session) → length n ≡ 32 → (k : ℕ) → Configured k → byte (locked q n s r) k ≡ byte r k
  kept_locked q n s e k h = rw locked_is (configured_stays (locked_fits q n s e) r long k h)

-- what is written is bytes
pub bytes_blank : (n : ℕ) → Bytes (blank n)
bytes_blank n i = rw (same_at_lem {A = ℕ} n i 0) (omega arith)

bytes_state : (s : ℕ) → s < 256 → Bytes (s ∷ blank 5)
bytes_state s h zero = h
bytes_state s h (suc i) = bytes_blank 5 i

bytes_two : (x y : ℕ) → x < 256 → y < 256 → Bytes (x ∷ y ∷ [])
bytes_two x y h l zero = h
bytes_two x y h l (suc zero) = l
bytes_two x y h l (suc (suc i)) = omega arith

-- so bytes stay bytes
module _ (r : Rec) (b : Bytes r) where
  pub bytes_cleared : (s : ℕ) → s < 256 → Bytes (cleared s r)
  bytes_cleared s h = rw cleared_is (bytes_rewritten (s ∷ blank 5) (blank 8) (blank 32) r (bytes_state s h) (bytes_blank 8) (bytes_blank 32) b)

  pub bytes_running : Bytes (running r)
  bytes_running = rw running_is (bytes_rewritten (RUN ∷ 0 ∷ []) [] (blank 32) r (bytes_two RUN 0 (omega arith) (omega arith)) (bytes_blank 0) (bytes_blank 32) b)

  pub bytes_locked : (q n : List ℕ) (s : Session) → Bytes q → Bytes n → s.0 < 256 → Bytes (locked q n s r)
  bytes_locked q n s f g h =
      let flag = bytes_of 2 (stored (asked_flags q)) in
      let rest = (asked_stream q).0 ∷ s.0 ∷ [] in
      let head : Bytes (lock_head q s) =
      bytes_append (1 ∷ 1 ∷ []) (flag ++ rest) (bytes_two 1 1 (omega arith) (omega arith)) (bytes_append flag rest (bytes_of_lem 2 (stored (asked_flags q))) (bytes_two (byte q 18) s.0 (f 18) h)) in
      rw locked_is (bytes_rewritten (lock_head q s) (bytes_of 8 (asked_offset q)) n r head (bytes_of_lem 8 (asked_offset q)) g b)

-- a number of one byte is the byte
one_byte : (s t : List ℕ) (at : ℕ) → num s at 1 ≡ num t at 1 → byte s at ≡ byte t at
unfolding num
one_byte s t at e = omega (arith, e)

-- zero past the state
past_state : (s k : ℕ) → 6 ≤ 4 + k → byte (s ∷ blank 5) k ≡ 0
past_state s zero h = absurd (omega arith)
past_state s (suc k) h = same_at_lem 5 k 0

module _ (r : Rec) (long : length r ≡ record_bytes) where
  -- ---- cleared

  module _ (s : ℕ) where
    -- state s, held 0
    pub state_cleared : state (cleared s r) ≡ s
    state_cleared = rw cleared_is (state_byte (cleared_fits s) r long 0 (omega arith))

    pub held_cleared : held (cleared s r) ≡ 0
    held_cleared = rw cleared_is (state_byte (cleared_fits s) r long 1 (omega arith))

    -- lock fields and nonce zero
    pub head_cleared : zeros (cleared s r) 6 9 ≡ true
    head_cleared = rw cleared_is (state_zeros (cleared_fits s) r long 6 9 (past_state s) (omega arith) (omega arith))

    pub offset_cleared : zeros (cleared s r) 24 31 ≡ true
    offset_cleared = rw cleared_is (offset_zeros (cleared_fits s) r long (λ k. same_at_lem 8 k 0) refl)

    pub nonce_cleared : zeros (cleared s r) 40 71 ≡ true
    nonce_cleared = rw cleared_is (nonce_zeros (cleared_fits s) r long (λ k. same_at_lem 32 k 0) refl)

  -- ---- running

  -- state 2, held 0, nonce zero
  pub state_running : state (running r) ≡ 2
  state_running = rw running_is (state_byte running_fits r long 0 (omega arith))

  pub held_running : held (running r) ≡ 0
  held_running = rw running_is (state_byte running_fits r long 1 (omega arith))

  pub nonce_running : zeros (running r) 40 71 ≡ true
  nonce_running = rw running_is (nonce_zeros running_fits r long (λ k. same_at_lem 32 k 0) refl)

  -- flags, stream, session and offset stay
  pub flags_running : flags (running r) ≡ flags r
  flags_running = rw running_is (state_stays running_fits r long 6 2 (omega arith) (omega arith))

  pub stream_running : stream (running r) ≡ stream r
  stream_running = one_byte (running r) r 8 (rw running_is (state_stays running_fits r long 8 1 (omega arith) (omega arith)))

  pub session_running : session (running r) ≡ session r
  session_running = one_byte (running r) r 9 (rw running_is (state_stays running_fits r long 9 1 (omega arith) (omega arith)))

  pub offset_running : offset (running r) ≡ offset r
  offset_running = rw running_is (offset_stays running_fits r long refl)

  -- ---- locked

  module _ (q n : List ℕ) (s : Session) (n-long : length n ≡ 32) where
    fits : Fits (lock_head q s) (bytes_of 8 (asked_offset q)) n
    fits = locked_fits q n s n-long

    -- state 1, held 1
    pub state_locked : state (locked q n s r) ≡ 1
    state_locked = rw locked_is (state_byte fits r long 0 (omega (arith, length_head q s)))

    pub held_locked : held (locked q n s r) ≡ 1
    held_locked = rw locked_is (state_byte fits r long 1 (omega (arith, length_head q s)))

    -- the flags are those stored
    pub flags_locked : flags (locked q n s r) ≡ stored (asked_flags q)
    flags_locked =
        let f = bytes_of 2 (stored (asked_flags q)) in
        let rest = (asked_stream q).0 ∷ s.0 ∷ [] in
        rw locked_is (state_num fits r long 2 2 (omega (arith, length_head q s)))
        ∙ num_past (1 ∷ 1 ∷ []) (f ++ rest) 2 0 2 refl
        ∙ num_append f rest 0 2 (omega (arith, length_bytes 2 (stored (asked_flags q))))
        ∙ num_bytes 2 (stored (asked_flags q)) (omega arith)

    -- the stream is the one asked, and the session the call's
    pub stream_locked : stream (locked q n s r) ≡ (asked_stream q).0
    unfolding bytes_of
    stream_locked = rw locked_is (state_byte fits r long 4 (omega (arith, length_head q s)))

    pub session_locked : session (locked q n s r) ≡ s.0
    unfolding bytes_of
    session_locked = rw locked_is (state_byte fits r long 5 (omega (arith, length_head q s)))

    -- the offset is the one asked
    pub offset_locked : asked_offset q < 2 ^ 64 → offset (locked q n s r) ≡ asked_offset q
    offset_locked h = rw locked_is (offset_num fits r long (length_bytes 8 (asked_offset q))) ∙ num_bytes 8 (asked_offset q) (omega arith)

    -- the nonce is the one drawn
    pub nonce_locked : nonce (locked q n s r) ≡ n
    nonce_locked = rw locked_is (nonce_part fits r long n-long)
