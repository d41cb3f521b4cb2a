use Rattle.calls.proofs.Making.{asked}
use Rattle.calls.proofs.given.reply_to.Goals as goal

pub returns : goal.returns
returns c = search asked
