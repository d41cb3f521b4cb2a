-- Every range before the k-th stays.
use Rattle.std.proofs.Common.{◌≡◌, true}
use Rattle.rules.specs.Lock.{signed, all_stay}
use Rattle.rules.specs.Record.{range_of}
use Rattle.ranges.proofs.offset.all_stay.Given as goal

abbrev pub invariant-loop-k : goal.invariant-loop-k
invariant-loop-k l = true ≡ all_stay (signed l.x) l.k (range_of l.r)
