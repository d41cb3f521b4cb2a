-- Each name is computed.
use Rattle.show.proofs.names.request.Goals as goal

pub returns-in-129 : goal.returns-in-129
returns-in-129 c = rw c.in-129.is

pub returns-in-130 : goal.returns-in-130
returns-in-130 c = rw c.in-130.is

pub returns-in-131 : goal.returns-in-131
returns-in-131 c = rw c.in-131.is

pub returns-in-132 : goal.returns-in-132
returns-in-132 c = rw c.in-132.is

pub returns-in-133 : goal.returns-in-133
returns-in-133 c = rw c.in-133.is

pub returns-in-134 : goal.returns-in-134
returns-in-134 c = rw c.in-134.is

pub returns-in-135 : goal.returns-in-135
returns-in-135 c = rw c.in-135.is
