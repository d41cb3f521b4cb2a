-- The longest reply is 148 bytes. Assumes nothing.
use Rattle.std.specs.Prelude.{if◌then◌else◌}
use mathlib.Core.Path.{◌≡◌}
use mathlib.Core.Bool.{Bool, true, false, not}
use mathlib.Core.List.{List, [], ◌∷◌}
use Prim.Native.Nat.{ℕ, ◌≤◌}
use native.Mathlib.Omega.{arith}
use lib.Dec.{eqb, leb}
use lib.ListN.{length, length-append, length-take}
use Rattle.rules.specs.Bytes.{num, bytes_of, part, same_bytes}
use Rattle.rules.specs.Call.{most_reply}
use Rattle.rules.specs.Lock.{supported}
use Rattle.rules.specs.Record.{Rec, CONFIG_UNLOCKED, state, nonce, offset_ok}
use Rattle.rules.specs.Report.{report_bytes, report_of, report_total, portion_length, remainder_length, portion_bytes}
use Rattle.rules.specs.Request.{Lent, Effect, does, fails, header, message, error_message, capabilities, legal_in, kind_of, secure, asked_flags, asked_stream, asked_offset, locked, running, cleared, lock_interface, get_report, start_interface, gets, effect}
use Rattle.rules.proofs.Numbers.{length_bytes}

-- ---- messages

-- a part has at most the bytes that are asked for
part_short : (s : List ℕ) (at n : ℕ) → length (part s at n) ≤ n
unfolding part
part_short s at n = rw length-take (omega arith)

-- a message is a header of at most 16 bytes and its payload
message_short : (kind : ℕ) (q payload : List ℕ) → length payload ≤ 132 → length (message kind q payload) ≤ most_reply
unfolding message header
message_short kind q payload h = rw (length-append, length-append) (omega (arith, part_short q 4 12))

-- an error's payload has 8 bytes,
pub error_short : (code datum : ℕ) (q : List ℕ) → length (error_message code datum q) ≤ most_reply
error_short code datum q = message_short 0x7f q _ (rw (length-append, length_bytes 4 code, length_bytes 4 datum) (omega arith))

-- a portion's two lengths of 2 bytes and at most 128 of the report,
portion_short : (r : Rec) (at asked : ℕ) → length (portion_bytes r at asked) ≤ 132
unfolding portion_bytes
portion_short r at asked =
    let n = portion_length (report_total r) at asked in
    let m = remainder_length (report_total r) at asked in
    rw (length-append, length-append, length_bytes 2 n, length_bytes 2 m) (omega (arith, part_short (report_bytes (report_of r)) at n))

-- and the capabilities' 28
capabilities_short : length capabilities ≤ 132
unfolding bytes_of
capabilities_short = omega arith

-- ---- what a request that is carried out replies

-- an effect whose reply is so short
data Short : Effect → Type 0 where
  short : {m : List ℕ} {r : Rec} → length m ≤ most_reply → Short (does m r)

either : (b : Bool) {x y : Effect} → Short x → Short y → Short (if b then x else y)
either true p q = p
either false p q = q

module _ (l : Lent) (r : Rec) (nonce_long : length l.nonce ≡ 32) where
  abbrev q : List ℕ
  q = l.request

  error : (code : ℕ) → Short (fails code q r)
  error code = short (error_short code 0 q)

  reply : (kind : ℕ) (payload : List ℕ) (after : Rec) → length payload ≤ 132 → Short (does (message kind q payload) after)
  reply kind payload after h = short (message_short kind q payload h)

  lock_short : Short (lock_interface l r)
  unfolding lock_interface
  lock_short =
      either (not (supported (asked_flags q))) (error 0x01)
      (either (not (offset_ok r (asked_offset q))) (error 0x01)
      (either (not (secure l.streams (asked_stream q))) (error 0x104)
      (either (not l.ready) (error 0x103) (reply 0x03 l.nonce (locked q l.nonce l.session r) (omega arith)))))

  report_short : Short (get_report q r)
  unfolding get_report
  report_short =
      let at = num q 16 2 in
      let asked = num q 18 2 in
      either (leb (report_total r) at) (error 0x01) (reply 0x04 (portion_bytes r at asked) r (portion_short r at asked))

  start_short : Short (start_interface q r)
  unfolding start_interface
  start_short = either (not (same_bytes (part q 16 32) (nonce r))) (error 0x102) (reply 0x06 [] (running r) (omega arith))

  gets_short : Short (gets q r)
  unfolding gets
  gets_short =
      either (eqb (kind_of q) 0x81) (reply 0x01 (0x01 ∷ 0x10 ∷ []) r (omega arith))
      (either (eqb (kind_of q) 0x82) (reply 0x02 capabilities r capabilities_short)
      (either (eqb (kind_of q) 0x84) report_short (reply 0x05 (state r ∷ []) r (omega arith))))

  carried_short : Short (effect l r)
  unfolding effect
  carried_short =
      either (not (legal_in (kind_of q) (state r))) (error 0x04)
      (either (eqb (kind_of q) 0x83) lock_short
      (either (eqb (kind_of q) 0x86) start_short
      (either (eqb (kind_of q) 0x87) (reply 0x07 [] (cleared CONFIG_UNLOCKED r) (omega arith)) gets_short)))

  -- whatever the request and the record are
  pub effect_short : length (effect l r).reply ≤ most_reply
  effect_short = by (effect l r) carried_short
    where
      by : (e : Effect) → Short e → length e.reply ≤ most_reply
      by e (short h) = h
