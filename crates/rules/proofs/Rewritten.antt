-- A record of which only the state, the lock fields and the nonce were written: bytes 4-9, 24-31 and 40-71. Assumes nothing.
use mathlib.Core.Path.{◌≡◌, refl, ◌∙◌}
use mathlib.Core.Bool.{true}
use mathlib.Core.List.{List, [], ◌∷◌, ◌++◌}
use mathlib.Core.Logic.{◌⊎◌, inl, inr}
use Prim.Native.Nat.{ℕ, ◌+◌, ◌≤◌, ◌<◌}
use native.Mathlib.Omega.{arith}
use lib.ListN.{length, length-append}
use Rattle.rules.specs.Bytes.{byte, Bytes, num, bytes_of, blank, part, over, zeros}
use Rattle.rules.specs.Lock.{stored}
use Rattle.rules.specs.Record.{Rec, CONFIG_LOCKED, RUN}
use Rattle.rules.specs.Request.{asked_flags, asked_stream, asked_offset, locked, running, cleared}
use Rattle.rules.specs.Table.{record_bytes}
use Rattle.rules.specs.declared.Session.{Session}
use Rattle.rules.proofs.Configured.{Configured}
use Rattle.rules.proofs.Numbers.{length_bytes}
use Rattle.rules.proofs.Overs.{over_below, over_beside, over_within, num_over, num_within, zeros_over, zeros_within, bytes_over}
use Rattle.rules.proofs.Parts.{length_over, over_nothing, part_over}

-- a from byte 4 on, b from 24 on, c from 40 on
unfoldable pub rewritten : List ℕ → List ℕ → List ℕ → Rec → Rec
rewritten a b c r = over 40 c (over 24 b (over 4 a r))

-- no more of them than there is room for
pub record Fits (a b c : List ℕ) : Type 0 where
  pub state_fits : length a ≤ 6
  pub offset_fits : length b ≤ 8
  pub nonce_fits : length c ≤ 32

-- beside m bytes is beside fewer
past : (at n m k : ℕ) → n ≤ m → (k < at) ⊎ (at + m ≤ k) → (k < at) ⊎ (at + n ≤ k)
past at n m k l (inl h) = inl h
past at n m k l (inr h) = inr (omega arith)

module _ {a b c : List ℕ} (f : Fits a b c) (r : Rec) (long : length r ≡ record_bytes) where
  abbrev one : Rec
  one = over 4 a r

  abbrev two : Rec
  two = over 24 b one

  length_one : length one ≡ record_bytes
  length_one = length_over 4 a r (omega arith) ∙ long

  length_two : length two ≡ record_bytes
  length_two = length_over 24 b one (omega (arith, length_one)) ∙ length_one

  -- the length stays
  pub length_rewritten : length (rewritten a b c r) ≡ record_bytes
  unfolding rewritten
  length_rewritten = length_over 40 c two (omega (arith, length_two)) ∙ length_two

  fits_one : 24 ≤ length one
  fits_one = omega (arith, length_one)

  fits_two : 40 ≤ length two
  fits_two = omega (arith, length_two)

  -- the configuration stays
  pub configured_stays : (k : ℕ) → Configured k → byte (rewritten a b c r) k ≡ byte r k
  unfolding rewritten
  configured_stays k h =
      over_beside 40 c two fits_two k (past 40 (length c) 32 k f.nonce_fits h.no_nonce)
      ∙ over_beside 24 b one fits_one k (past 24 (length b) 8 k f.offset_fits h.no_offset)
      ∙ over_beside 4 a r (omega arith) k (past 4 (length a) 6 k f.state_fits h.no_state)

  -- ---- the state and the lock fields before the offset

  -- a byte is what was written
  pub state_byte : (k : ℕ) → k < length a → byte (rewritten a b c r) (4 + k) ≡ byte a k
  unfolding rewritten
  state_byte k h =
      over_below 40 c two fits_two (4 + k) (omega arith) ∙ over_below 24 b one fits_one (4 + k) (omega arith) ∙ over_within 4 a r (omega arith) k h

  -- a number is what was written
  below_24 : (at n : ℕ) → at + n ≤ 24 → num (rewritten a b c r) at n ≡ num one at n
  unfolding rewritten
  below_24 at n h = num_over 40 c two fits_two at n (inl (omega arith)) ∙ num_over 24 b one fits_one at n (inl h)

  pub state_num : (at n : ℕ) → at + n ≤ length a → num (rewritten a b c r) (4 + at) n ≡ num a at n
  state_num at n h = below_24 (4 + at) n (omega arith) ∙ num_within 4 a r (omega arith) at n h

  -- zeros were written
  pub state_zeros : (first last : ℕ) → ((k : ℕ) → first ≤ 4 + k → byte a k ≡ 0) → 4 ≤ first → last < 4 + length a → zeros (rewritten a b c r) first last ≡ true
  unfolding rewritten
  state_zeros first last z g h =
      zeros_over 40 c two fits_two first last (inl (omega arith)) ∙ zeros_over 24 b one fits_one first last (inl (omega arith)) ∙ zeros_within 4 a r (omega arith) first last z g h

  -- a number past what was written stays
  pub state_stays : (at n : ℕ) → 4 + length a ≤ at → at + n ≤ 24 → num (rewritten a b c r) at n ≡ num r at n
  state_stays at n g h = below_24 at n h ∙ num_over 4 a r (omega arith) at n (inr g)

  -- ---- the offset

  -- it is what was written; zeros, if zeros were; and it stays, if nothing was
  pub offset_num : length b ≡ 8 → num (rewritten a b c r) 24 8 ≡ num b 0 8
  unfolding rewritten
  offset_num e = num_over 40 c two fits_two 24 8 (inl (omega arith)) ∙ num_within 24 b one fits_one 0 8 (omega arith)

  pub offset_zeros : ((k : ℕ) → byte b k ≡ 0) → length b ≡ 8 → zeros (rewritten a b c r) 24 31 ≡ true
  unfolding rewritten
  offset_zeros z e = zeros_over 40 c two fits_two 24 31 (inl (omega arith)) ∙ zeros_within 24 b one fits_one 24 31 (λ k l. z k) (omega arith) (omega arith)

  pub offset_stays : length b ≡ 0 → num (rewritten a b c r) 24 8 ≡ num r 24 8
  unfolding rewritten
  offset_stays e =
      num_over 40 c two fits_two 24 8 (inl (omega arith)) ∙ num_over 24 b one fits_one 24 8 (inr (omega arith)) ∙ num_over 4 a r (omega arith) 24 8 (inr (omega arith))

  -- ---- the nonce

  -- it is zeros, if zeros were written
  pub nonce_zeros : ((k : ℕ) → byte c k ≡ 0) → length c ≡ 32 → zeros (rewritten a b c r) 40 71 ≡ true
  unfolding rewritten
  nonce_zeros z e = zeros_within 40 c two fits_two 40 71 (λ k l. z k) (omega arith) (omega arith)

  -- it is what was written, if all of it was
  pub nonce_part : length c ≡ 32 → part (rewritten a b c r) 40 32 ≡ c
  unfolding rewritten
  nonce_part e = part_over 40 32 c two fits_two e

-- bytes stay bytes
pub bytes_rewritten : (a b c : List ℕ) (r : Rec) → Bytes a → Bytes b → Bytes c → Bytes r → Bytes (rewritten a b c r)
unfolding rewritten
bytes_rewritten a b c r f g h k = bytes_over 40 c (over 24 b (over 4 a r)) h (bytes_over 24 b (over 4 a r) g (bytes_over 4 a r f k))

-- ---- the three changes

-- bytes 4-9 of a record that is locked: state 1, held 1, the flags, the stream and the session
abbrev pub lock_head : List ℕ → Session → List ℕ
lock_head q s = CONFIG_LOCKED ∷ 1 ∷ bytes_of 2 (stored (asked_flags q)) ++ ((asked_stream q).0 ∷ s.0 ∷ [])

-- six bytes
pub length_head : (q : List ℕ) (s : Session) → length (lock_head q s) ≡ 6
length_head q s = simp (length-append, length_bytes)

-- each is one of these
pub cleared_is : (s : ℕ) (r : Rec) → cleared s r ≡ rewritten (s ∷ blank 5) (blank 8) (blank 32) r
unfolding cleared rewritten
cleared_is s r = refl

pub running_is : (r : Rec) → running r ≡ rewritten (RUN ∷ 0 ∷ []) [] (blank 32) r
unfolding running rewritten
running_is r = rw over_nothing

pub locked_is : (q n : List ℕ) (s : Session) (r : Rec) → locked q n s r ≡ rewritten (lock_head q s) (bytes_of 8 (asked_offset q)) n r
unfolding locked rewritten
locked_is q n s r = refl

-- and fits
pub cleared_fits : (s : ℕ) → Fits (s ∷ blank 5) (blank 8) (blank 32)
cleared_fits s = record { state_fits = omega arith; offset_fits = omega arith; nonce_fits = omega arith }

pub running_fits : Fits (RUN ∷ 0 ∷ []) [] (blank 32)
running_fits = record { state_fits = omega arith; offset_fits = omega arith; nonce_fits = omega arith }

pub locked_fits : (q n : List ℕ) (s : Session) → length n ≡ 32 → Fits (lock_head q s) (bytes_of 8 (asked_offset q)) n
locked_fits q n s e = record {
  state_fits = omega (arith, length_head q s);
  offset_fits = omega (arith, length_bytes 8 (asked_offset q));
  nonce_fits = omega arith;
}
