use Rattle.std.proofs.Common.{◌≡◌, take}
use Rattle.compare.specs.Full.{put_each}
use Rattle.compare.proofs.record.put_each.Given as goal

abbrev pub invariant-loop-at : goal.invariant-loop-at
invariant-loop-at l = l.s ≡ put_each l.initial.s (take l.at-index l.bytes)
