-- Demand 1, proved of `step`: every call ends with the answer that 01 fixes. Assumes nothing.
use Rattle.std.specs.Prelude.{if◌then◌else◌, Err, None, Ok, Option, Result, Some}
use mathlib.Core.Path.{◌≡◌, refl}
use mathlib.Core.Bool.{Bool, true, false, not, ◌&&◌}
use mathlib.Core.List.{List, []}
use Prim.Native.Nat.{ℕ, ◌≤◌}
use native.Mathlib.Omega.{arith}
use borrow.Author.Tests.{eqb-true, ltb-false, not-false}
use lib.Dec.{eqb, ltb}
use lib.ListN.{length, drop}
use Rattle.rules.specs.Bytes.{over}
use Rattle.rules.specs.Call.{Outcome, refused, carried_out, on_accepted, changed, least_reply, least_request, answered, register_written, happened, firmware_asked, Call, Request, RegisterWrite, DeviceWide, FirmwareQuestion, step}
use Rattle.rules.specs.Change.{rule_of, write_hits}
use Rattle.rules.specs.Identity.{identity_of}
use Rattle.rules.specs.Record.{record_ok}
use Rattle.rules.specs.Request.{Lent, effect, error_message, error_code, error_datum, verdict}
use Rattle.rules.specs.Table.{records, record_at, all, distinct, length_ok, find, nothing, lookup_number, table_number}
use Rattle.rules.specs.declared.RequestError.{RequestError}
use Rattle.rules.proofs.Bools.{and_right}
use Rattle.rules.proofs.Parts.{length_over}
use Rattle.rules.proofs.ReplyLengths.{error_short, effect_short}
use Rattle.demands.specs.Answers.{lines, first_of, Fixed, AnswersFixed}
use Rattle.demands.specs.Machine.{buffer_of}
use Rattle.demands.proofs.Lists.{rest_stays}

-- ---- a call's answer, where the lines give the number

module _ (c : Call) (t : List ℕ) where
  abbrev number : ℕ
  number = first_of (lines c t)

  abbrev buffer : List ℕ
  buffer = buffer_of c

  -- refused
  refuses : (n : ℕ) → n ≡ number → Fixed c t (refused n buffer t)
  refuses n e = record {
    number_is = e;
    refused_value = λ z. refl;
    refused_buffer = λ z. refl;
    refused_table = λ z. refl;
    buffer_length = refl;
    buffer_rest = refl;
  }

  -- served, whatever is returned and left as a table
  serves : (value : ℕ) (reply after : List ℕ) → length reply ≡ length buffer → drop value reply ≡ drop value buffer → 0 ≡ number
      → Fixed c t (record { number = 0; value = value; reply = reply; table = after })
  serves value reply after long rest e = record {
    number_is = e;
    refused_value = λ z. absurd (z refl);
    refused_buffer = λ z. absurd (z refl);
    refused_table = λ z. absurd (z refl);
    buffer_length = long;
    buffer_rest = rest;
  }

  -- with a reply that the buffer has room for,
  replies : (m after : List ℕ) → length m ≤ length buffer → 0 ≡ number
      → Fixed c t (record { number = 0; value = length m; reply = over 0 m buffer; table = after })
  replies m after h = serves (length m) (over 0 m buffer) after (length_over 0 m buffer (omega arith)) (rest_stays m buffer (length m) (omega arith))

  -- and with none
  counts : (n : ℕ) (after : List ℕ) → 0 ≡ number → Fixed c t (record { number = 0; value = n; reply = buffer; table = after })
  counts n after = serves n buffer after refl refl

  -- a line in front of others
  line_first : (n m : ℕ) (b : Bool) (o : Outcome) → (b ≡ false → m ≡ number → Fixed c t o) → (if b then n else m) ≡ number
      → Fixed c t (if b then refused n buffer t else o)
  line_first n m true o f = refuses n
  line_first n m false o f = f refl

  -- the table's three lines in front of others
  table_first : (m : ℕ) (o : Outcome) → (m ≡ number → Fixed c t o)
      → (if not (length_ok (length t)) then 1 else if not (all record_ok (records t)) then 2 else if not (distinct (records t)) then 3 else m) ≡ number
      → Fixed c t (on_accepted buffer t o)
  unfolding table_number
  table_first m o f = by (length_ok (length t)) (all record_ok (records t)) (distinct (records t))
    where
      first : Bool → Bool → Bool → ℕ → ℕ
      first x y z n = if not x then 1 else if not y then 2 else if not z then 3 else n

      by : (x y z : Bool) → first x y z m ≡ number → Fixed c t (if not (eqb (first x y z 0) 0) then refused (first x y z 0) buffer t else o)
      by false y z = refuses 1
      by true false z = refuses 2
      by true true false = refuses 3
      by true true true = f

-- ---- requests

-- an error or what the named record gets, in a buffer of 256 bytes or more
module _ (l : Lent) (t : List ℕ) (room : least_reply ≤ length l.reply) (nonce_long : length l.nonce ≡ 32) where
  carried : (v : Result ℕ RequestError) → 0 ≡ first_of (lines (Request l) t) → Fixed (Request l) t (carried_out v l t)
  carried (Err why) =
      let code = error_code why in
      let datum = error_datum why in
      replies (Request l) t (error_message code datum l.request) t (omega (arith, error_short code datum l.request))
  carried (Ok k) =
      let r = record_at t k in
      replies (Request l) t (effect l r).reply _ (omega (arith, effect_short l r nonce_long))

-- the table's lines, then 4, 5 and 6
asked : (l : Lent) (t : List ℕ) → Fixed (Request l) t (answered l t)
unfolding answered first_of
asked l t =
    table_first (Request l) t _ _
    (line_first (Request l) t 4 _ (ltb (length l.reply) least_reply) _ (λ p.
    line_first (Request l) t 5 _ (ltb (length l.request) least_request) _ (λ q.
    line_first (Request l) t 6 _ (not (eqb (length l.streams) 32 && eqb (length l.nonce) 32)) _ (λ s.
    carried l t
    (ltb-false (length l.reply) least_reply p)
    (eqb-true (length l.nonce) 32 (and_right (eqb (length l.streams) 32) (eqb (length l.nonce) 32) (not-false _ s)))
    (verdict l.request (records t)))))) refl

-- ---- changes and the firmware question

-- a register write's line 7
module _ (id class : ℕ) (t : List ℕ) where
  abbrev write : Call
  write = RegisterWrite id class

  written : (f : Option ℕ) → (if nothing f then 7 else 0) ≡ first_of (lines write t)
      → Fixed write t (if not (eqb (lookup_number f) 0) then refused (lookup_number f) [] t else changed (write_hits (rule_of class) (identity_of id)) t)
  written (Some k) = counts write t _ _
  written None = refuses write t 7

-- ---- the demand

-- for every call on every table, with no premise
pub answers : AnswersFixed step
unfolding first_of register_written happened firmware_asked
answers (Request l) t = asked l t
answers (RegisterWrite id class) t = table_first (RegisterWrite id class) t _ _ (written id class t (find (identity_of id) (records t))) refl
answers (DeviceWide e) t = table_first (DeviceWide e) t _ _ (counts (DeviceWide e) t _ _) refl
answers FirmwareQuestion t = table_first FirmwareQuestion t _ _ (counts FirmwareQuestion t _ _) refl
