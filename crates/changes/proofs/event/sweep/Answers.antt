use Rattle.std.proofs.Common.{arith}
use Rattle.changes.proofs.Sweeping.{one_most, whole_now, sweep_start, sweep_next, sweep_done}
use Rattle.changes.proofs.event.sweep.Goals as goal

pub loop-k-init : goal.loop-k-init
loop-k-init c = search sweep_start

pub change_at-count-requires-clause-whole : goal.change_at-count-requires-clause-whole
change_at-count-requires-clause-whole c = whole_now _ _ c.requires c.loop-k.auto.table

pub overflow_add-count : goal.overflow_add-count
overflow_add-count c = omega (arith, c.change_at-count.ensures.counts, one_most)

pub loop-k-preserved : goal.loop-k-preserved
loop-k-preserved c = search sweep_next

pub returns : goal.returns
returns c = search sweep_done
