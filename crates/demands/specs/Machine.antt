-- A machine, its histories, and what a caller sees of them.
use Rattle.std.specs.Prelude.{List, [], ◌∷◌, ℕ, take}
use Rattle.rules.specs.Call.{Outcome, Call, Request, RegisterWrite, DeviceWide, FirmwareQuestion}

-- what a call gives on a table: `step` of rules is the right one
abbrev pub Machine : Type 0
Machine = Call → List ℕ → Outcome

-- the reply buffer that a call is lent; only a request is lent one
abbrev pub buffer_of : Call → List ℕ
buffer_of (Request l) = l.reply
buffer_of (RegisterWrite id class) = []
buffer_of (DeviceWide e) = []
buffer_of FirmwareQuestion = []

-- an outcome over another table
abbrev pub leaving : Outcome → List ℕ → Outcome
leaving o t = record { number = o.number; value = o.value; reply = o.reply; table = t }

-- a call with what came back: number, length or count or answer, and the reply buffer
pub record Seen : Type 0 where
  pub call : Call
  pub number : ℕ
  pub value : ℕ
  pub buffer : List ℕ

-- the reply
abbrev pub reply_of : Seen → List ℕ
reply_of e = take e.value e.buffer

module _ (next : Machine) where
  abbrev pub seen : Call → List ℕ → Seen
  seen c t = record { call = c; number = (next c t).number; value = (next c t).value; buffer = (next c t).reply }

  -- each call is lent the table as the last one left it
  unfoldable pub run : List Call → List ℕ → List ℕ
  run [] t = t
  run (c ∷ h) t = run h (next c t).table

  unfoldable pub trace : List Call → List ℕ → List Seen
  trace [] t = []
  trace (c ∷ h) t = seen c t ∷ trace h (next c t).table

-- of every element of a list
infixr 20 ◌and◌
pub data Each {A : Type 0} (P : A → Type 0) : List A → Type 0 where
  none_left : Each P []
  ◌and◌ : {x : A} {xs : List A} → P x → Each P xs → Each P (x ∷ xs)
