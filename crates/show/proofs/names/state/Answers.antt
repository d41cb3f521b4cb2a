-- Each name is computed.
use Rattle.show.proofs.names.state.Goals as goal

pub returns-in-0 : goal.returns-in-0
returns-in-0 c = rw c.in-0.is

pub returns-in-1 : goal.returns-in-1
returns-in-1 c = rw c.in-1.is

pub returns-in-2 : goal.returns-in-2
returns-in-2 c = rw c.in-2.is

pub returns-in-3 : goal.returns-in-3
returns-in-3 c = rw c.in-3.is
