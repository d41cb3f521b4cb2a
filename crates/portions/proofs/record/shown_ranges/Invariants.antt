-- The ranges passed are shown.
use Rattle.std.proofs.Common.{◌≡◌}
use Rattle.rules.specs.Lock.{signed}
use Rattle.rules.specs.Range.{eight_ranges, range_in}
use Rattle.rules.specs.Report.{shown_range}
use Rattle.portions.proofs.record.shown_ranges.Given as goal

abbrev pub invariant-loop-k : goal.invariant-loop-k
invariant-loop-k l = l.shown ≡ eight_ranges l.k (λ k. shown_range (signed l.offset) l.msix (range_in l.ranges k))
