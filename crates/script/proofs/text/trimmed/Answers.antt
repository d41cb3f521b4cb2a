use Rattle.std.proofs.Common.{rules}
use Rattle.script.proofs.Places.{trimmed_last, trimmed_none}
use Rattle.script.proofs.text.trimmed.Goals as goal

pub returns-in-Some-clause-value : goal.returns-in-Some-clause-value
returns-in-Some-clause-value c = trimmed_last c.args.s.now c.in-Some.n (search rules) (search rules) (search rules)

pub returns-in-None-clause-value : goal.returns-in-None-clause-value
returns-in-None-clause-value c = trimmed_none c.args.s.now (search rules)
