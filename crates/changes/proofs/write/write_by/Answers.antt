use Rattle.std.proofs.Common.{◌≡◌, false, refl, arith}
use Rattle.rules.specs.Change.{device_wide}
use Rattle.changes.proofs.Sweeping.{whole_now}
use Rattle.changes.proofs.Writing.{in_table, for_all, for_one}
use Rattle.changes.proofs.write.write_by.Goals as goal

pub change_at-requires : goal.change_at-requires
change_at-requires c = record { whole = whole_now _ _ c.requires.accepted refl; within = search in_table }

pub returns-in-DeviceWide : goal.returns-in-DeviceWide
returns-in-DeviceWide c = search for_all

pub returns-in-Allowed : goal.returns-in-Allowed
returns-in-Allowed c =
    let narrow : device_wide c.args.rule ≡ false = grind arith in
    search for_one
