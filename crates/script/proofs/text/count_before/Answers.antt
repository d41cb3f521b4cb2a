use Rattle.std.proofs.Common.{rules, tests}
use Rattle.std.proofs.lemmas.Iterator.{YieldsList-from_slice}
use Rattle.std.proofs.lemmas.Iterator.Search.{position_from_yields_List}
use Rattle.script.proofs.Places.{before_is}
use Rattle.script.proofs.text.count_before.Goals as goal

pub returns-clause-count : goal.returns-clause-count
returns-clause-count g c = λ p h.
    let found = position_from_yields_List p _ _ c.position.result c.position.ensures.ran (YieldsList-from_slice c.args.s.now cc) (λ x b q k. search (rules, tests)) in
    rw (before_is, ← found) (search rules)
