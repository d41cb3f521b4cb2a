use Rattle.std.proofs.Common.{rules, tests, ◌∙◌}
use Rattle.std.proofs.lemmas.Iterator.{YieldsList-from_slice}
use Rattle.std.proofs.lemmas.Iterator.Search.{all_from_yields_List}
use Rattle.rules.specs.Record.{record_ok}
use Rattle.table.proofs.Scans.{all_listed}
use Rattle.table.proofs.judge.records_ok.Goals as goal

pub returns : goal.returns
returns c =
    all_from_yields_List record_ok _ _ _ c.all.ensures.ran (YieldsList-from_slice c.args.rs.now (search rules)) (λ x b q k. search (rules, tests))
    ∙ all_listed record_ok c.args.rs.now
