-- Every reply has at most 148 bytes, and every length and count is at most 256, so that it fits 32 bits. Assumes nothing.
use Rattle.std.specs.Prelude.{if◌then◌else◌}
use mathlib.Core.Path.{◌≡◌, refl}
use mathlib.Core.Bool.{Bool, true, false, not}
use mathlib.Core.List.{List, [], ◌∷◌, map}
use Prim.Native.Nat.{ℕ, ◌+◌, ◌≤◌}
use native.Mathlib.Omega.{arith}
use borrow.Author.Tests.{eqb-true}
use lib.Dec.{eqb}
use lib.ListN.{length}
use Rattle.rules.specs.Call.{Outcome, refused, changed, most_reply, answered, register_written, happened, firmware_asked, Call, Request, RegisterWrite, DeviceWide, FirmwareQuestion, step}
use Rattle.rules.specs.Change.{rule_of, hits, write_hits, moved, differing, firmware_yes}
use Rattle.rules.specs.Identity.{identity_of}
use Rattle.rules.specs.declared.Event.{Event}
use Rattle.rules.specs.Record.{Rec, state}
use Rattle.rules.specs.Request.{Lent}
use Rattle.rules.specs.Table.{records, record_at, find, table_number, lookup_number}
use Rattle.rules.proofs.Accepted.{at_most}
use Rattle.rules.proofs.ServedCall.{Answers, refuses, errs, carries, answered_is}
use Rattle.rules.proofs.ReplyLengths.{error_short, effect_short}

-- at most as many states differ as there are records
differing_most : (rs ss : List Rec) → differing rs ss ≤ length rs
unfolding differing
differing_most [] ss = omega arith
differing_most (r ∷ rs) [] = omega arith
differing_most (r ∷ rs) (s ∷ ss) = by (eqb (state r) (state s)) (differing_most rs ss)
  where
    by : (b : Bool) → differing rs ss ≤ length rs → (if b then 0 else 1) + differing rs ss ≤ length (r ∷ rs)
    by true h = omega arith
    by false h = omega arith

count_small : (p : Rec → Bool) (t : List ℕ) → table_number t ≡ 0 → (changed p t).value ≤ 256
count_small p t accepted = omega (arith, differing_most (records t) (map (moved p) (records t)), at_most t accepted)

-- the longest reply is 148 bytes; a request that is refused has length 0
pub reply_small : (l : Lent) (t : List ℕ) → (answered l t).value ≤ most_reply
reply_small l t = by (answered l t) (answered_is l t)
  where
    by : (o : Outcome) → Answers l t o → o.value ≤ most_reply
    by o (refuses n z) = omega arith
    by o (errs code datum) = error_short code datum l.request
    by o (carries k on) = effect_short l (record_at t k) on.nonce_long

-- so of every call
pub written_small : (id class : ℕ) (t : List ℕ) → (register_written id class t).value ≤ 256
unfolding register_written
written_small id class t = by (eqb (table_number t) 0) refl (eqb (lookup_number (find (identity_of id) (records t))) 0)
  where
    by : (a : Bool) → eqb (table_number t) 0 ≡ a → (b : Bool)
        → (if not a then refused (table_number t) [] t else if not b then refused (lookup_number (find (identity_of id) (records t))) [] t else changed (write_hits (rule_of class) (identity_of id)) t).value ≤ 256
    by false e b = omega arith
    by true e false = omega arith
    by true e true = count_small (write_hits (rule_of class) (identity_of id)) t (eqb-true (table_number t) 0 e)

pub happened_small : (e : Event) (t : List ℕ) → (happened e t).value ≤ 256
unfolding happened
happened_small e t = by (eqb (table_number t) 0) refl
  where
    by : (a : Bool) → eqb (table_number t) 0 ≡ a → (if not a then refused (table_number t) [] t else changed (hits e) t).value ≤ 256
    by false q = omega arith
    by true q = count_small (hits e) t (eqb-true (table_number t) 0 q)

pub asked_small : (t : List ℕ) → (firmware_asked t).value ≤ 256
unfolding firmware_asked
asked_small t = by (eqb (table_number t) 0) (firmware_yes (records t))
  where
    by : (a b : Bool) → (if not a then refused (table_number t) [] t else record { number = 0; value = if b then 1 else 0; reply = []; table = t }).value ≤ 256
    by false b = omega arith
    by true true = omega arith
    by true false = omega arith

pub value_small : (c : Call) (t : List ℕ) → (step c t).value ≤ 256
value_small (Request l) t = omega (arith, reply_small l t)
value_small (RegisterWrite id class) t = written_small id class t
value_small (DeviceWide e) t = happened_small e t
value_small FirmwareQuestion t = asked_small t
