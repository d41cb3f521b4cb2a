-- A reply that is taken fits behind the bytes held; one that is refused leaves the collector.
use Rattle.std.proofs.Common.{◌≤◌, ap, arith, length, rules}
use Rattle.rules.specs.Collector.{least_report_reply, is_taken}
use Rattle.rules.proofs.Collections.{takes, taken_fits, grows, left}
use Rattle.collector.proofs.Collector.take.Goals as goal

pub returns-in-Err-clause-collected : goal.returns-in-Err-clause-collected
returns-in-Err-clause-collected c = left _ _ _ c.in-Err.ensures.refused

pub slice_bounds-copy_over-count : goal.slice_bounds-copy_over-count
slice_bounds-copy_over-count c = let t = takes _ _ (ap is_taken c.in-Ok.ensures.taken.1) in t.long

pub slice_bounds-copy_over-start : goal.slice_bounds-copy_over-start
slice_bounds-copy_over-start c =
    let t = takes _ _ (ap is_taken c.in-Ok.ensures.taken.1) in
    let h : least_report_reply ≤ length c.args.reply.now = t.long in
    search rules

pub copy_over-requires : goal.copy_over-requires
copy_over-requires c = taken_fits _ _ (ap is_taken c.in-Ok.ensures.taken.1) (search rules)

pub overflow_add-self : goal.overflow_add-self
overflow_add-self c = let t = takes _ _ (ap is_taken c.in-Ok.ensures.taken.1) in let s = c.in-Ok.ensures.taken.0 in omega (arith, s.portion_is)

pub overflow_add-self-in-Ok : goal.overflow_add-self-in-Ok
overflow_add-self-in-Ok c =
    let t = takes _ _ (ap is_taken c.in-Ok.ensures.taken.1) in
    let s = c.in-Ok.ensures.taken.0 in
    omega (arith, s.portion_is, s.remainder_is)

pub returns-in-Ok-clause-collected : goal.returns-in-Ok-clause-collected
returns-in-Ok-clause-collected c =
    let s = c.in-Ok.ensures.taken.0 in
    grows _ _ (ap is_taken c.in-Ok.ensures.taken.1) _ _ _ c.copy_over.ensures (omega (arith, s.portion_is)) (omega (arith, s.portion_is, s.remainder_is))
