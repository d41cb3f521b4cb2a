-- Every ask leaves the table, and what is held grows up to 200.
use mathlib.Core.Path.{◌≡◌}
use Prim.Native.Nat.{◌≤◌, ◌-◌}
use Rattle.collector.specs.Kept.{kept}
use Rattle.rules.specs.Collector.{fresh}
use Rattle.rules.specs.Report.{most_report}
use Rattle.calls.proofs.Collecting.{Left}
use Rattle.calls.proofs.collect.ask_all.Given as goal

abbrev pub invariant-loop-c : goal.invariant-loop-c
invariant-loop-c g l = record {
  most : l.c.held ≤ most_report;
  stays : l.table ≡ l.initial.table;
  left : Left l.length l.s l.initial.table (fresh l.function_id) (kept l.c);
}

abbrev pub decreases-loop-c : goal.decreases-loop-c
decreases-loop-c g l = most_report - l.c.held
