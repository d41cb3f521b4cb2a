-- The firmware question of an accepted table. Assumes nothing.
use Rattle.std.proofs.Common.{◌≡◌, refl, true, List, ℕ}
use Rattle.std.specs.Prelude.{Ok}
use borrow.Author.Tests.{eq-eqb}
use Rattle.rules.specs.Call.{firmware_asked, Says}
use Rattle.rules.specs.Change.{firmware_yes}
use Rattle.rules.specs.Table.{records, table_number}

pub firmware_yes_lem : (t : List ℕ) → table_number t ≡ 0 → firmware_yes (records t) ≡ true → Says (firmware_asked t) (Ok true)
unfolding firmware_asked
firmware_yes_lem t accepted e = rw (eq-eqb (table_number t) 0 accepted, e) (record { number_is = refl; value_is = refl })
