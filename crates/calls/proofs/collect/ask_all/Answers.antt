use Rattle.std.proofs.Common.{refl, ◌∙◌, ◌≤◌, rules}
use Rattle.rules.specs.Report.{most_report}
use Rattle.calls.proofs.Collecting.{holds_most, starts_empty, at_first, stood, ended, went_on}
use Rattle.calls.proofs.collect.ask_all.Goals as goal

pub loop-c-init : goal.loop-c-init
loop-c-init g c = record { most = search starts_empty; stays = refl; left = search at_first }

-- An ask moved nothing,
pub returns-then-c-before-clause-collector : goal.returns-then-c-before-clause-collector
returns-then-c-before-clause-collector g c =
    let inv = c.loop-c.invariant in
    stood _ _ _ _ _ _ _ inv.stays inv.left c.ask-c.ensures.collector (search rules)

-- or it finished the collection,
pub returns-then-finished-clause-collector : goal.returns-then-finished-clause-collector
returns-then-finished-clause-collector g c =
    let inv = c.loop-c.invariant in
    ended _ _ _ _ _ _ _ inv.stays inv.left c.ask-c.ensures.collector _ c.finished.ensures (search rules)

pub loop-c-smaller : goal.loop-c-smaller
loop-c-smaller g c = let h : c.ask-c.result.held ≤ most_report = search holds_most in search rules

-- or there is more to ask.
pub loop-c-preserved : goal.loop-c-preserved
loop-c-preserved g c =
    let inv = c.loop-c.invariant in
    record {
      most = search holds_most;
      stays = c.ask-c.ensures.table ∙ inv.stays;
      left = went_on _ _ _ _ _ _ _ inv.stays inv.left c.ask-c.ensures.collector (search rules) _ c.finished.ensures (search rules);
    }
