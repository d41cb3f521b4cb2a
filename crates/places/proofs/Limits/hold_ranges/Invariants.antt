-- What is known of the ranges passed.
use Rattle.rules.specs.Record.{range_of}
use Rattle.places.proofs.OnePass.{Passed}
use Rattle.places.proofs.Limits.hold_ranges.Given as goal

abbrev pub invariant-loop-k : goal.invariant-loop-k
invariant-loop-k l = Passed l.self.low l.self.top (range_of l.r) l.k l.gathered l.least
