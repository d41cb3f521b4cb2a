-- Each name is computed.
use Rattle.show.proofs.names.wrong.Goals as goal

pub returns-in-LongLine : goal.returns-in-LongLine
returns-in-LongLine c = rw c.in-LongLine.is

pub returns-in-Word : goal.returns-in-Word
returns-in-Word c = rw c.in-Word.is

pub returns-in-Missing : goal.returns-in-Missing
returns-in-Missing c = rw c.in-Missing.is

pub returns-in-Extra : goal.returns-in-Extra
returns-in-Extra c = rw c.in-Extra.is

pub returns-in-DecimalDigit : goal.returns-in-DecimalDigit
returns-in-DecimalDigit c = rw c.in-DecimalDigit.is

pub returns-in-HexDigit : goal.returns-in-HexDigit
returns-in-HexDigit c = rw c.in-HexDigit.is

pub returns-in-Odd : goal.returns-in-Odd
returns-in-Odd c = rw c.in-Odd.is

pub returns-in-Large : goal.returns-in-Large
returns-in-Large c = rw c.in-Large.is

pub returns-in-Long : goal.returns-in-Long
returns-in-Long c = rw c.in-Long.is
