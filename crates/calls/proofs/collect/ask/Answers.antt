use Rattle.calls.proofs.Collecting.{table_stays}
use Rattle.calls.proofs.collect.ask.Goals as goal

pub returns-clause-table : goal.returns-clause-table
returns-clause-table g c = search table_stays
