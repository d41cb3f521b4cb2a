use Rattle.std.proofs.Common.{rules, sym, ◌∙◌, tests}
use Rattle.std.proofs.lemmas.Iterator.{YieldsList-from_slice}
use Rattle.std.proofs.lemmas.Iterator.Search.{all_from_yields_List}
use Rattle.rules.specs.Range.{zero_range, pages_ok}
use Rattle.ranges.proofs.Alls.{all_every}
use Rattle.ranges.proofs.range.all_pages.Goals as goal

pub returns : goal.returns
returns c =
    all_from_yields_List pages_ok _ _ _ c.all.ensures.ran (YieldsList-from_slice c.args.ranges.now cc) (λ x b q k. search (rules, tests))
    ∙ sym (all_every pages_ok zero_range c.args.ranges.now)
