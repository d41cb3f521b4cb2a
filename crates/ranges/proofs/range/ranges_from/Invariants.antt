-- The first k ranges are filled.
use Rattle.std.proofs.Common.{◌≡◌}
use Rattle.rules.specs.Range.{ranges_from, eight_ranges}
use Rattle.ranges.proofs.range.ranges_from.Given as goal

abbrev pub invariant-loop-k : goal.invariant-loop-k
invariant-loop-k l = l.ranges ≡ eight_ranges l.k (ranges_from l.s l.base)
