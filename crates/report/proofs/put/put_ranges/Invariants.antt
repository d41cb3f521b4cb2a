-- The ranges passed are written.
use Rattle.std.proofs.Common.{◌≡◌}
use Rattle.rules.specs.Bytes.{over}
use Rattle.rules.specs.Range.{range_in}
use Rattle.rules.specs.Report.{bytes_of_ranges}
use Rattle.report.proofs.put.put_ranges.Given as goal

abbrev pub invariant-loop-k : goal.invariant-loop-k
invariant-loop-k l = l.out ≡ over 16 (bytes_of_ranges l.k (range_in l.ranges)) l.initial.out
