-- Each name is computed.
use Rattle.show.proofs.names.refusal.Goals as goal

pub returns-in-TableLength : goal.returns-in-TableLength
returns-in-TableLength c = rw c.in-TableLength.is

pub returns-in-TableRecord : goal.returns-in-TableRecord
returns-in-TableRecord c = rw c.in-TableRecord.is

pub returns-in-TableIdentities : goal.returns-in-TableIdentities
returns-in-TableIdentities c = rw c.in-TableIdentities.is

pub returns-in-ReplyShort : goal.returns-in-ReplyShort
returns-in-ReplyShort c = rw c.in-ReplyShort.is

pub returns-in-RequestShort : goal.returns-in-RequestShort
returns-in-RequestShort c = rw c.in-RequestShort.is

pub returns-in-Inputs : goal.returns-in-Inputs
returns-in-Inputs c = rw c.in-Inputs.is

pub returns-in-Interface : goal.returns-in-Interface
returns-in-Interface c = rw c.in-Interface.is
