-- What every call leaves of a table, whatever it is. Assumes nothing.
use Rattle.std.specs.Prelude.{if◌then◌else◌}
use mathlib.Core.Path.{◌≡◌, refl}
use mathlib.Core.Bool.{Bool, true, false, not}
use mathlib.Core.List.{List, []}
use Prim.Native.Nat.{ℕ}
use borrow.Author.Tests.{eqb-true}
use lib.Dec.{eqb}
use lib.ListN.{length}
use Rattle.rules.specs.Bytes.{byte}
use Rattle.rules.specs.Call.{Outcome, refused, on_accepted, changed, written_by, register_written, happened, firmware_asked, Call, Request, RegisterWrite, DeviceWide, FirmwareQuestion, step}
use Rattle.rules.specs.Change.{rule_of, hits, write_hits}
use Rattle.rules.specs.Identity.{identity_of}
use Rattle.rules.specs.Table.{records, record_at, identity, find, lookup_number, table_number}
use Rattle.rules.proofs.Changed.{kept_after, count_stays, accepted_after}
use Rattle.rules.proofs.Configured.{Configured, identity_same}
use Rattle.rules.proofs.ServedCall as request

-- what holds of the table as it was, and of one that is accepted after a change, holds after every call but a request
module _ (P : List ℕ → Type 0) (t : List ℕ) (was : P t) where
  if_accepted : (o : Outcome) → (table_number t ≡ 0 → P o.table) → P (on_accepted [] t o).table
  if_accepted o f = by (eqb (table_number t) 0) refl
    where
      by : (b : Bool) → eqb (table_number t) 0 ≡ b → P (if not b then refused (table_number t) [] t else o).table
      by true e = f (eqb-true (table_number t) 0 e)
      by false e = was

  after_write : (id class : ℕ) → (table_number t ≡ 0 → P (changed (write_hits (rule_of class) (identity_of id)) t).table) → P (register_written id class t).table
  unfolding register_written
  after_write id class f =
      if_accepted (written_by (rule_of class) (identity_of id) t) (λ accepted. by (eqb (lookup_number (find (identity_of id) (records t))) 0) accepted)
    where
      by : (b : Bool) → table_number t ≡ 0
          → P (if not b then refused (lookup_number (find (identity_of id) (records t))) [] t else changed (write_hits (rule_of class) (identity_of id)) t).table
      by true accepted = f accepted
      by false accepted = was

-- an accepted table stays accepted
pub stays_accepted : (c : Call) (t : List ℕ) → table_number t ≡ 0 → table_number (step c t).table ≡ 0
unfolding happened firmware_asked
stays_accepted (Request l) t accepted = request.stays_accepted l t accepted
stays_accepted (RegisterWrite id class) t accepted =
    after_write (λ (s : List ℕ). table_number s ≡ 0) t accepted id class (accepted_after (write_hits (rule_of class) (identity_of id)) t)
stays_accepted (DeviceWide e) t accepted =
    if_accepted (λ (s : List ℕ). table_number s ≡ 0) t accepted (changed (hits e) t) (accepted_after (hits e) t)
stays_accepted FirmwareQuestion t accepted = if_accepted (λ (s : List ℕ). table_number s ≡ 0) t accepted _ (λ a. a)

-- no configuration changes, in any record: identity, ranges, information
pub configuration_stays : (c : Call) (t : List ℕ) (j k : ℕ) → Configured k → byte (record_at (step c t).table j) k ≡ byte (record_at t j) k
unfolding happened firmware_asked
configuration_stays (Request l) t j k h = request.configuration_stays l t j k h
configuration_stays (RegisterWrite id class) t j k h =
    after_write (λ (s : List ℕ). byte (record_at s j) k ≡ byte (record_at t j) k) t refl id class (λ a. kept_after (write_hits (rule_of class) (identity_of id)) t j k h)
configuration_stays (DeviceWide e) t j k h =
    if_accepted (λ (s : List ℕ). byte (record_at s j) k ≡ byte (record_at t j) k) t refl (changed (hits e) t) (λ a. kept_after (hits e) t j k h)
configuration_stays FirmwareQuestion t j k h =
    if_accepted (λ (s : List ℕ). byte (record_at s j) k ≡ byte (record_at t j) k) t refl _ (λ a. refl)

-- so identities never change
pub identity_stays : (c : Call) (t : List ℕ) (j : ℕ) → identity (record_at (step c t).table j) ≡ identity (record_at t j)
identity_stays c t j = identity_same (record_at (step c t).table j) (record_at t j) (configuration_stays c t j)

-- and no record comes or goes
pub length_stays : (c : Call) (t : List ℕ) → length (records (step c t).table) ≡ length (records t)
unfolding happened firmware_asked
length_stays (Request l) t = request.length_stays l t
length_stays (RegisterWrite id class) t =
    after_write (λ (s : List ℕ). length (records s) ≡ length (records t)) t refl id class (λ a. count_stays (write_hits (rule_of class) (identity_of id)) t)
length_stays (DeviceWide e) t = if_accepted (λ (s : List ℕ). length (records s) ≡ length (records t)) t refl (changed (hits e) t) (λ a. count_stays (hits e) t)
length_stays FirmwareQuestion t = if_accepted (λ (s : List ℕ). length (records s) ≡ length (records t)) t refl _ (λ a. refl)
