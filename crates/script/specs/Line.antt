-- A line of a script, read: the table of docs/CARD.md. Assumes nothing.
use Rattle.std.specs.Prelude.{List, [], ◌∷◌, ℕ, eqb, ltb, length, take, find, codes, bytes_eq, Option, Some, None, Result, Ok, Err, if◌then◌else◌}
use Rattle.rules.specs.declared.Event.{Event}
use Rattle.script.specs.Digits.{◌>>=◌, spelled, hex_bytes}
use Rattle.script.specs.Text.{before, without_space, first_word, after_word, trim}
use Rattle.script.specs.declared.digits.Wrong.{Wrong}
use Rattle.script.specs.declared.line.Call.{Call}
use Rattle.script.specs.declared.line.Line.{Line}
use Rattle.script.specs.declared.settings.Setting.{Setting}
use Rattle.script.specs.declared.word.Word.{Word}

-- ---- the word that a line begins with

-- how it is written
abbrev pub name_of : Word → List ℕ
name_of Word.Request = codes "request"
name_of Word.Nonce = codes "nonce"
name_of Word.Streams = codes "streams"
name_of Word.StreamDown = codes "stream-down"
name_of Word.SessionEnd = codes "session-end"
name_of Word.Session = codes "session"
name_of Word.Ready = codes "ready"
name_of Word.ReplyLength = codes "reply-length"
name_of Word.RegisterWrite = codes "register-write"
name_of Word.Collect = codes "collect"
name_of Word.Multicast = codes "multicast"
name_of Word.Firmware = codes "firmware"

abbrev pub all_words : List Word
all_words =
    Word.Request ∷ Word.Nonce ∷ Word.Streams ∷ Word.StreamDown ∷ Word.SessionEnd ∷ Word.Session ∷ Word.Ready ∷ Word.ReplyLength
    ∷ Word.RegisterWrite ∷ Word.Collect ∷ Word.Multicast ∷ Word.Firmware ∷ []

-- the word that a text is, if it is one
abbrev pub word_of : List ℕ → Option Word
word_of text = find (λ w. bytes_eq (name_of w) text) all_words

-- what follows it: bytes, at most so many; a number, at most a most; a FUNCTION_ID and a number, at most a most; nothing
pub data Follows : Type 0 where
  Bytes : ℕ → Follows
  Number : ℕ → Follows
  IdAndNumber : ℕ → Follows
  Nothing : Call → Follows

abbrev pub follows_of : Word → Follows
follows_of Word.Request = Bytes 512
follows_of Word.Nonce = Bytes 64
follows_of Word.Streams = Bytes 64
follows_of Word.StreamDown = Number 255
follows_of Word.SessionEnd = Number 255
follows_of Word.Session = Number 255
follows_of Word.Ready = Number 1
follows_of Word.ReplyLength = Number 512
follows_of Word.RegisterWrite = IdAndNumber 255
follows_of Word.Collect = IdAndNumber 65535
follows_of Word.Multicast = Nothing (Call.Happen Event.Multicast)
follows_of Word.Firmware = Nothing Call.Firmware

-- ---- what a line says, or what is wrong with it

-- by its word, the FUNCTION_ID that it gives, 0 where it gives none, and the number, or the number of bytes
abbrev pub says_of : Word → ℕ → ℕ → Result Line Wrong
says_of Word.Request id n = Ok (Line.Do (Call.Request n))
says_of Word.Nonce id n = Ok (Line.Set (Setting.Nonce n))
says_of Word.Streams id n = Ok (Line.Set (Setting.Streams n))
says_of Word.StreamDown id n = Ok (Line.Do (Call.Happen (Event.StreamDown (record { 0 = n }))))
says_of Word.SessionEnd id n = Ok (Line.Do (Call.Happen (Event.SessionEnd (record { 0 = n }))))
says_of Word.Session id n = Ok (Line.Set (Setting.Session n))
says_of Word.Ready id n = Ok (Line.Set (Setting.Ready (eqb n 1)))
says_of Word.ReplyLength id n = Ok (Line.Set (Setting.ReplyLength n))
says_of Word.RegisterWrite id n = Ok (Line.Do (Call.RegisterWrite id n))
says_of Word.Collect id n = Ok (Line.Do (Call.Collect id n))
says_of Word.Multicast id n = Err Wrong.Word
says_of Word.Firmware id n = Err Wrong.Word

-- a number, at most a most
abbrev pub capped_to : ℕ → Wrong → ℕ → Result ℕ Wrong
capped_to most wrong n = if ltb most n then Err wrong else Ok n

-- a decimal number that must be there
unfoldable pub size_of : ℕ → List ℕ → Result ℕ Wrong
size_of most rest =
    if eqb (length rest) 0 then Err Wrong.Missing
    else (spelled 10 65535 Wrong.DecimalDigit 0 rest >>= capped_to most Wrong.Large)

-- the number of bytes of two hex digits each, at most a most
abbrev pub bytes_of : ℕ → List ℕ → List ℕ → Result ℕ Wrong
bytes_of most rest out = (hex_bytes rest out).number >>= capped_to most Wrong.Long

-- a FUNCTION_ID, a hex number, and a decimal number after it, at most a most
unfoldable pub id_and_size : ℕ → List ℕ → Result (ℕ × ℕ) Wrong
id_and_size most rest =
    if eqb (length rest) 0 then Err Wrong.Missing
    else do
      id ← spelled 16 4294967295 Wrong.HexDigit 0 (first_word rest)
      n ← size_of most (after_word rest)
      Ok (id, n)

abbrev pub id_and_number : Word → ℕ → List ℕ → Result Line Wrong
id_and_number word most rest = id_and_size most rest >>= (λ both. says_of word both.0 both.1)

-- a word that stands alone
abbrev pub alone_of : Call → List ℕ → Result Line Wrong
alone_of call rest = if ltb 0 (length rest) then Err Wrong.Extra else Ok (Line.Do call)

-- ---- a line, read: what it says, and what the buffer for its bytes holds afterwards

pub record Reading : Type 0 where
  pub line : Result Line Wrong
  pub out : List ℕ

abbrev pub followed_by : Follows → Word → List ℕ → List ℕ → Reading
followed_by (Bytes most) word rest out = record {
  line = bytes_of most rest out >>= says_of word 0;
  out = (hex_bytes rest out).out;
}
followed_by (Number most) word rest out = record { line = size_of most rest >>= says_of word 0; out = out }
followed_by (IdAndNumber most) word rest out = record { line = id_and_number word most rest; out = out }
followed_by (Nothing call) word rest out = record { line = alone_of call rest; out = out }

abbrev pub line_by : Word → List ℕ → List ℕ → Reading
line_by word rest out = followed_by (follows_of word) word rest out

-- by its first word, where that is one
abbrev pub named_by : Option Word → List ℕ → List ℕ → Reading
named_by None rest out = record { line = Err Wrong.Word; out = out }
named_by (Some word) rest out = line_by word rest out

-- the first word of a text, and what follows it
unfoldable pub words_of : List ℕ → List ℕ → Reading
words_of text out =
    let said = without_space text in
    if eqb (length said) 0 then record { line = Ok Line.Empty; out = out }
    else named_by (word_of (first_word said)) (after_word said) out

-- at most 1,024 bytes; # starts a comment
unfoldable pub line_of : List ℕ → List ℕ → Reading
line_of line out =
    if ltb 1024 (length line) then record { line = Err Wrong.LongLine; out = out }
    else words_of (trim (take (before (λ c. eqb c 35) line) line)) out
