-- The record is the first chunk of what stands behind the records before it.
use Rattle.std.proofs.Common.{◌≡◌, take, arith}
use Rattle.std.proofs.lemmas.Grind.{common_steps}
use Rattle.responder.proofs.Lent.{lent_kept, record_back}
use Rattle.responder.proofs.serve_at.Goals as goal

pub serve-requires-clause-kept : goal.serve-requires-clause-kept
serve-requires-clause-kept c =
    let lent : c.unwrap.result.now ≡ take 256 c.split_at_mut-rest.result.1.now = grind (arith, common_steps) in
    search lent_kept

pub returns : goal.returns
returns c =
    let lent : c.unwrap.result.now ≡ take 256 c.split_at_mut-rest.result.1.now = grind (arith, common_steps) in
    search record_back
