-- Each name is computed.
use Rattle.show.proofs.names.untaken.Goals as goal

pub returns-in-NotReport : goal.returns-in-NotReport
returns-in-NotReport c = rw c.in-NotReport.is

pub returns-in-OtherInterface : goal.returns-in-OtherInterface
returns-in-OtherInterface c = rw c.in-OtherInterface.is

pub returns-in-OtherLength : goal.returns-in-OtherLength
returns-in-OtherLength c = rw c.in-OtherLength.is

pub returns-in-TotalDifferent : goal.returns-in-TotalDifferent
returns-in-TotalDifferent c = rw c.in-TotalDifferent.is

pub returns-in-TotalOver : goal.returns-in-TotalOver
returns-in-TotalOver c = rw c.in-TotalOver.is
