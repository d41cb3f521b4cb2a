-- The header is 16 long, and the payload stands behind it.
use Rattle.rules.proofs.Messages.{message_length, message_written}
use Rattle.replies.proofs.put_message.Goals as goal

pub returns : goal.returns
returns c = record { length_is = search message_length; bytes_are = search message_written }
