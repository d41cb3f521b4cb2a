-- What a reply of type 04h says of itself: the lengths that were written into it, its interface, its portion. Assumes nothing.
use mathlib.Core.Path.{◌≡◌, refl, sym, ap, ◌∙◌}
use mathlib.Core.Bool.{true, false}
use mathlib.Core.List.{List, [], ◌∷◌, ◌++◌, append_assoc}
use Prim.Native.Nat.{ℕ, ◌+◌, ◌≤◌, ◌<◌}
use native.Mathlib.Omega.{arith}
use borrow.Author.Tests.{le-leb}
use lib.Dec.{leb}
use lib.ListN.{length, drop, length-append}
use lib.Seq.{drop_at}
use Rattle.rules.specs.Bytes.{num, bytes_of, part}
use Rattle.rules.specs.Collector.{least_report_reply, portion_said, remainder_said, portion_in, is_report_reply}
use Rattle.rules.specs.Identity.{identity_at, identity_of}
use Rattle.rules.specs.Request.{header, message, error_message}
use Rattle.rules.proofs.Bools.{and_false}
use Rattle.rules.proofs.Messages.{length_header, length_message}
use Rattle.rules.proofs.Numbers.{length_bytes, num_append, num_past, num_part, num_bytes}

-- an error is none
pub error_none : (code datum : ℕ) (q : List ℕ) → is_report_reply (error_message code datum q) ≡ false
unfolding is_report_reply message header
error_none code datum q = and_false (leb least_report_reply (length (error_message code datum q)))

module _ (q : List ℕ) (q_long : 16 ≤ length q) (P R : ℕ) (bytes : List ℕ) (P_fits : P < 65536) (R_fits : R < 65536) where
  abbrev sizes : List ℕ
  sizes = bytes_of 2 P ++ bytes_of 2 R

  abbrev reply : List ℕ
  reply = message 0x04 q (sizes ++ bytes)

  length_sizes : length sizes ≡ 4
  length_sizes = rw (length-append, length_bytes 2 P, length_bytes 2 R)

  pub length_reply : length reply ≡ least_report_reply + length bytes
  length_reply = length_message 0x04 q q_long (sizes ++ bytes) ∙ rw (length-append, length_sizes) (omega arith)

  -- a number behind the header, in the sizes
  size_at : (at : ℕ) → at + 2 ≤ 4 → num reply (16 + at) 2 ≡ num sizes at 2
  unfolding message
  size_at at h =
      num_past (header 0x04 q) (sizes ++ bytes) 16 at 2 (length_header 0x04 q q_long) ∙ num_append sizes bytes at 2 (omega (arith, length_sizes))

  pub portion_said_lem : portion_said reply ≡ P
  portion_said_lem = size_at 0 (omega arith) ∙ num_append (bytes_of 2 P) (bytes_of 2 R) 0 2 (omega (arith, length_bytes 2 P)) ∙ num_bytes 2 P P_fits

  pub remainder_said_lem : remainder_said reply ≡ R
  remainder_said_lem = size_at 2 (omega arith) ∙ num_past (bytes_of 2 P) (bytes_of 2 R) 2 0 2 (length_bytes 2 P) ∙ num_bytes 2 R R_fits

  -- the interface as received
  pub interface_said : identity_at reply 4 ≡ identity_at q 4
  unfolding message header
  interface_said =
      ap identity_of
      (num_append (header 0x04 q) (sizes ++ bytes) 4 4 (omega (arith, length_header 0x04 q q_long))
      ∙ num_past (0x10 ∷ 0x04 ∷ 0 ∷ 0 ∷ []) (part q 4 12) 4 0 4 refl
      ∙ num_part q 4 12 0 4 (omega arith))

  pub portion_in_lem : portion_in reply ≡ bytes
  unfolding message
  portion_in_lem =
      let front : length (header 0x04 q ++ sizes) ≡ 20 = rw (length-append, length_header 0x04 q q_long, length_sizes) in
      ap (drop 20) (sym (append_assoc (header 0x04 q) sizes bytes)) ∙ drop_at (header 0x04 q ++ sizes) bytes 20 front

  pub is_report : is_report_reply reply ≡ true
  unfolding is_report_reply message header
  is_report = rw (le-leb least_report_reply (length reply) (omega (arith, length_reply)))
