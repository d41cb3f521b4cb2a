use Rattle.std.proofs.Common.{refl, rules, arith}
use Rattle.table.proofs.Slots.{none_met, unmarked, looked_up, alike}
use Rattle.table.proofs.judge.identities_differ.Goals as goal
use Rattle.table.proofs.judge.identities_differ.Goals.{else-marks-slot-via-then-marks-slot+else-not-none_for, else-marks-slot-via-else-marks-slot}

pub loop-k-init : goal.loop-k-init
loop-k-init c = none_met _ _ refl

pub returns-then-not-none_for : goal.returns-then-not-none_for
returns-then-not-none_for c = search (rules, alike)

pub loop-k-preserved : goal.loop-k-preserved
loop-k-preserved c =
    let who-is = c.identity-who.ensures in
    let slot = c.slot_of-slot.ensures in
    elim c.else-marks-slot.branch [
      | else-marks-slot-via-then-marks-slot+else-not-none_for w ↦
          looked_up _ _ _ _ _ _ c.loop-k.invariant who-is slot.slot (omega arith) (omega arith) _ w.none_for.ensures w.if-not-none_for.false slot.within
      | else-marks-slot-via-else-marks-slot w ↦ unmarked _ _ _ _ _ _ c.loop-k.invariant who-is slot.slot (omega arith) (omega arith) w.if-marks-slot.false slot.within
    ]
