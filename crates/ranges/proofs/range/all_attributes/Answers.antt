use Rattle.std.proofs.Common.{rules, sym, ◌∙◌, tests}
use Rattle.std.proofs.lemmas.Iterator.{YieldsList-from_slice}
use Rattle.std.proofs.lemmas.Iterator.Search.{all_from_yields_List}
use Rattle.rules.specs.Range.{zero_range, attributes_ok}
use Rattle.ranges.proofs.Alls.{all_every}
use Rattle.ranges.proofs.range.all_attributes.Goals as goal

pub returns : goal.returns
returns c =
    all_from_yields_List attributes_ok _ _ _ c.all.ensures.ran (YieldsList-from_slice c.args.ranges.now cc) (λ x b q k. search (rules, tests))
    ∙ sym (all_every attributes_ok zero_range c.args.ranges.now)
