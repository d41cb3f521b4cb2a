-- Each name is computed.
use Rattle.show.proofs.names.error.Goals as goal

pub returns-in-1 : goal.returns-in-1
returns-in-1 c = rw c.in-1.is

pub returns-in-4 : goal.returns-in-4
returns-in-4 c = rw c.in-4.is

pub returns-in-7 : goal.returns-in-7
returns-in-7 c = rw c.in-7.is

pub returns-in-65 : goal.returns-in-65
returns-in-65 c = rw c.in-65.is

pub returns-in-257 : goal.returns-in-257
returns-in-257 c = rw c.in-257.is

pub returns-in-258 : goal.returns-in-258
returns-in-258 c = rw c.in-258.is

pub returns-in-259 : goal.returns-in-259
returns-in-259 c = rw c.in-259.is
