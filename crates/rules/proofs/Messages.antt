-- Replies written piece by piece. Assumes nothing.
use mathlib.Core.Path.{◌≡◌, refl, ◌∙◌}
use mathlib.Core.List.{List, [], ◌∷◌, ◌++◌}
use Prim.Native.Nat.{ℕ, ◌+◌, ◌≤◌}
use native.Mathlib.Omega.{arith}
use lib.ListN.{length, take, drop, length-append}
use Rattle.rules.specs.Bytes.{byte, num, bytes_of, blank, part, over}
use Rattle.rules.specs.Lock.{stored}
use Rattle.rules.specs.Record.{CONFIG_LOCKED}
use Rattle.rules.specs.Request.{header, message, cleared, running, locked}
use Rattle.rules.specs.declared.Session.{Session}
use Rattle.rules.proofs.Numbers.{length_bytes}
use Rattle.rules.proofs.Parts.{length_part, over_all}
use Rattle.rules.proofs.Written.{next_piece}

module _ (kind : ℕ) (q : List ℕ) (long : 16 ≤ length q) where
  pub length_header : length (header kind q) ≡ 16
  unfolding header
  length_header = rw (length-append, length_part q 4 12 (omega arith))

  pub length_message : (payload : List ℕ) → length (message kind q payload) ≡ 16 + length payload
  unfolding message
  length_message payload = rw (length-append, length_header)

-- a payload written behind a header that is written
module _ (kind : ℕ) (q payload : List ℕ) (head : length (header kind q) ≡ 16) where
  pub message_length : 16 + length payload ≡ length (message kind q payload)
  unfolding message
  message_length = simp (length-append, head)

  pub message_written : (s a b : List ℕ) → a ≡ over 0 (header kind q) s → b ≡ over 16 payload a → b ≡ over 0 (message kind q payload) s
  unfolding message
  message_written s a b p r = next_piece 0 16 _ _ s a b p r (omega arith) (simp head)

pub header_written : (kind : ℕ) (q s a b : List ℕ) → a ≡ over 0 (0x10 ∷ kind ∷ 0 ∷ 0 ∷ []) s → b ≡ over 4 (take 12 (drop 4 q)) a → b ≡ over 0 (header kind q) s
unfolding header part
header_written kind q s a b p r = next_piece 0 4 (0x10 ∷ kind ∷ 0 ∷ 0 ∷ []) _ s a b p r (omega arith) refl

pub eight_bytes : (code datum : ℕ) (a b : List ℕ) → a ≡ over 0 (bytes_of 4 code) (blank 8) → b ≡ over 4 (bytes_of 4 datum) a → b ≡ bytes_of 4 code ++ bytes_of 4 datum
eight_bytes code datum a b p r =
    next_piece 0 4 _ _ (blank 8) a b p r (omega arith) (simp length_bytes) ∙ over_all (bytes_of 4 code ++ bytes_of 4 datum) (blank 8) (simp (length-append, length_bytes))

-- ---- a record written piece by piece

pub cleared_written : (s : ℕ) (r a b c : List ℕ) → a ≡ over 4 (s ∷ 0 ∷ 0 ∷ 0 ∷ 0 ∷ 0 ∷ []) r → b ≡ over 24 (bytes_of 8 0) a → c ≡ over 40 (blank 32) b → c ≡ cleared s r
unfolding bytes_of cleared
cleared_written s r a b c x y z = rw (z, y, x)

pub running_written : (r a b : List ℕ) → a ≡ over 4 (2 ∷ 0 ∷ []) r → b ≡ over 40 (blank 32) a → b ≡ running r
unfolding running
running_written r a b x y = rw (y, x)

-- state 1 and nonce held, flags, stream and session, offset, nonce
pub locked_written : (q n r a b c d e : List ℕ) (s : Session) (f x o : ℕ) → 10 ≤ length r → f ≡ num q 16 2 → x ≡ stored f → o ≡ num q 20 8 → a ≡ over 4 (CONFIG_LOCKED ∷ 1 ∷ []) r
    → b ≡ over 6 (bytes_of 2 x) a → c ≡ over 8 (byte q 18 ∷ s.0 ∷ []) b → d ≡ over 24 (bytes_of 8 o) c → e ≡ over 40 n d → e ≡ locked q n s r
unfolding bytes_of locked
locked_written q n r a b c d e s f x o long f-is x-is o_is a-is b-is c-is d-is e-is =
    let two = next_piece 4 6 _ _ r a b a-is b-is (omega arith) refl in
    let head = next_piece 4 8 _ _ r b c two c-is (omega arith) refl in
    rw (e-is, d-is, head, x-is, f-is, o_is)
