-- A call, made: a law for each way out. Assumes nothing.
use Rattle.std.specs.Prelude.{if◌then◌else◌, Result}
use Rattle.std.proofs.Common.{ℕ, List, ◌++◌, length, take, drop, min, Bool, true, false, eqb, ◌≡◌, refl, arith}
use mathlib.Core.Bool.{not}
use lib.ListN.{length-take}
use native.Mathlib.Nat.{zero-add}
use Rattle.rules.specs.Bytes.{blank, over}
use Rattle.rules.specs.Call as rules
use Rattle.rules.specs.Call.{Outcome, firmware_asked, step, Gives}
use Rattle.rules.specs.declared.Refusal.{Refusal}
use Rattle.rules.specs.Table.{table_number}
use Rattle.rules.proofs.Parts.{take_least}
use Rattle.script.specs.declared.line.Call.{Call}
use Rattle.script.specs.declared.settings.Settings.{Settings}
use Rattle.calls.specs.Made.{lent_by, Gets, table_left}

-- the reply buffer stands at the front of 512 blank bytes
pub asked : (request reply table table' : List ℕ) (room n : ℕ) (s : Settings) (r : Result ℕ Refusal) → room ≡ min n 512
    → length reply ≡ length (take room (blank 512))
    → Gives (step (rules.Request (lent_by request (take room (blank 512)) s)) table) r reply table'
    → Gets (step (rules.Request (lent_by request (take n (blank 512)) s)) table) r (reply ++ drop room (blank 512)) table'
unfolding over
asked request reply table table' room n s r e long g =
    let h = rw (take_least (blank 512) n room e) at g in
    let all : length reply ≡ room = omega (arith, length-take room (blank 512)) in
    record {
      number_is = h.number_is;
      value_is = h.value_is;
      buffer_is = rw (← all, ← h.reply_is, zero-add);
      table_is = h.table_is;
    }

-- the firmware question leaves the table
firmware_stays : (t : List ℕ) → t ≡ (step rules.FirmwareQuestion t).table
unfolding firmware_asked
firmware_stays t = go (not (eqb (table_number t) 0)) _ _ refl refl
  where
    go : (b : Bool) (o p : Outcome) → o.table ≡ t → p.table ≡ t → t ≡ (if b then o else p).table
    go true o p e f = rw e
    go false o p e f = rw f

pub made_firmware : (call : Call) (bytes table : List ℕ) (s : Settings) → call ≡ Call.Firmware → table ≡ table_left call bytes s table
made_firmware call bytes table s e = rw e (firmware_stays table)
