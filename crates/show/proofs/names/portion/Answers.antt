-- Each name is computed.
use Rattle.show.proofs.names.portion.Goals as goal

pub returns-in-Ok : goal.returns-in-Ok
returns-in-Ok c = rw c.in-Ok.is
