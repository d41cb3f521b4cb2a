use Rattle.std.proofs.Common.{rules, tests, ◌∙◌}
use Rattle.std.proofs.lemmas.Iterator.{YieldsList-from_slice}
use Rattle.std.proofs.lemmas.Iterator.Search.{position_from_yields_List}
use Rattle.rules.specs.Table.{names}
use Rattle.table.proofs.Scans.{position_found}
use Rattle.table.proofs.find.find_in.Goals as goal

pub returns : goal.returns
returns c =
    position_from_yields_List (names c.args.who) _ _ _ c.position.ensures.ran (YieldsList-from_slice c.args.rs.now (search rules)) (λ x b q k. search (rules, tests))
    ∙ position_found c.args.who c.args.rs.now
