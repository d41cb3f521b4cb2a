-- The first k records are changed, and counted.
use Rattle.rules.specs.Change.{hits}
use Rattle.changes.proofs.Sweeping.{Sweeps}
use Rattle.changes.proofs.event.sweep.Given as goal

abbrev pub invariant-loop-k : goal.invariant-loop-k
invariant-loop-k l = Sweeps (hits l.event) l.initial.table l.k l.count l.table
