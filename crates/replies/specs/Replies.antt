-- What a function that writes a reply returns and leaves.
use Rattle.std.specs.Prelude.{◌≡◌, List, ℕ, length}
use Rattle.rules.specs.Bytes.{over}

-- a message at the front of the buffer, the rest of it as it was, and the message's length returned
pub record Replies (m : List ℕ) (n : ℕ) (reply reply' : List ℕ) : Type 0 where
  pub length_is : n ≡ length m
  pub bytes_are : reply' ≡ over 0 m reply
