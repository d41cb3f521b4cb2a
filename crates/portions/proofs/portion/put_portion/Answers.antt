use Rattle.rules.proofs.Portions.{portion_written}
use Rattle.portions.proofs.portion.put_portion.Goals as goal

pub returns-clause-bytes : goal.returns-clause-bytes
returns-clause-bytes c = let a = c.args in cc (portion_written a.r.bytes.now a.r.long a.r.keeps_rules a.at a.asked a.out.now c.requires.inside)
