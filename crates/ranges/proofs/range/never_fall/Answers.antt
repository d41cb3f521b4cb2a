use Rattle.std.proofs.Common.{rules}
use Rattle.ranges.proofs.Falls.{none_yet, no_fall_yet, falls, no_fall_lem, one_more}
use Rattle.ranges.proofs.range.never_fall.Goals as goal

pub loop-range-init : goal.loop-range-init
loop-range-init c = (no_fall_yet _, none_yet _)

pub returns-then-range-least : goal.returns-then-range-least
returns-then-range-least c = search (rules, falls)

pub loop-range-preserved : goal.loop-range-preserved
loop-range-preserved c = (search (rules, no_fall_lem), search (rules, one_more))
