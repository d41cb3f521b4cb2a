-- The records from k on are met.
use Rattle.table.proofs.Slots.{Met}
use Rattle.table.proofs.judge.identities_differ.Given as goal

abbrev pub invariant-loop-k : goal.invariant-loop-k
invariant-loop-k l = Met l.rs l.marks l.k
