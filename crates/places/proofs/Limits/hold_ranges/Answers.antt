use Rattle.std.proofs.Common.{rules}
use Rattle.places.proofs.OnePass.{none_passed, outside, id_falls, one_passed, all_passed}
use Rattle.places.proofs.Limits.hold_ranges.Goals as goal

pub loop-k-init : goal.loop-k-init
loop-k-init c = none_passed _ _ _

pub returns-then-not-hold : goal.returns-then-not-hold
returns-then-not-hold c = search (rules, outside)

pub returns-then-range-least : goal.returns-then-range-least
returns-then-range-least c = search (rules, id_falls)

pub loop-k-preserved : goal.loop-k-preserved
loop-k-preserved c = search (rules, one_passed)

pub returns : goal.returns
returns c = search (rules, all_passed)
