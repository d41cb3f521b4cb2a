-- The record is the first chunk of what stands behind the records before it.
use Rattle.std.proofs.Common.{◌≡◌, take, arith}
use Rattle.std.proofs.lemmas.Grind.{common_steps}
use Rattle.changes.proofs.Lent.{record_back, record_counts}
use Rattle.changes.proofs.record.change_at.Goals as goal

pub returns-clause-moves : goal.returns-clause-moves
returns-clause-moves g c =
    let lent : c.unwrap.result.now ≡ take 256 c.split_at_mut-rest.result.1.now = grind (arith, common_steps) in
    search record_back

pub returns-clause-counts : goal.returns-clause-counts
returns-clause-counts g c =
    let lent : c.unwrap.result.now ≡ take 256 c.split_at_mut-rest.result.1.now = grind (arith, common_steps) in
    search record_counts
