-- No ID of the ranges passed falls, and `least` stands for them all.
use Rattle.std.proofs.Common.{◌≡◌, true}
use Rattle.rules.specs.Range.{range_in, ids_of, never_fall}
use Rattle.ranges.proofs.Falls.{StandsFor}
use Rattle.ranges.proofs.range.never_fall.Given as goal

abbrev pub invariant-loop-range : goal.invariant-loop-range
invariant-loop-range l =
    let ids = ids_of (range_in l.ranges) in
    (true ≡ never_fall l.range-index ids) × StandsFor ids l.least l.range-index
