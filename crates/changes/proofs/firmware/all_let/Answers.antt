use Rattle.std.proofs.Common.{ap, rules, tests, ◌∙◌}
use Rattle.std.proofs.lemmas.Iterator.{YieldsList-from_slice}
use Rattle.std.proofs.lemmas.Iterator.Search.{all_from_yields_List}
use Rattle.rules.specs.Change.{lets}
use Rattle.rules.specs.Table.{all}
use Rattle.table.proofs.Scans.{all_listed}
use Rattle.changes.proofs.firmware.all_let.Goals as goal

pub returns : goal.returns
returns c =
    all_from_yields_List lets _ _ _ c.all.ensures.ran (YieldsList-from_slice c.records.result.now cc) (λ x b q k. search (rules, tests))
    ∙ all_listed lets c.records.result.now
    ∙ ap (all lets) c.records.ensures
