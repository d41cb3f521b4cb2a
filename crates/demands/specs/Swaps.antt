-- Demand 3, the swap: neighbouring calls that name different interfaces may be swapped: same replies, same final table.
use Rattle.std.specs.Prelude.{◌≡◌, false, List, ◌∷◌, ◌++◌, ℕ, ◌≤◌, ◌<◌, length}
use Rattle.rules.specs.Call.{Call, Request, RegisterWrite}
use Rattle.rules.specs.Change.{rule_of, device_wide}
use Rattle.rules.specs.Identity.{identity_at, identity_of, same}
use Rattle.rules.specs.Request.{Lent}
use Rattle.rules.specs.declared.Identity.{Identity}
use Rattle.demands.specs.Machine.{Machine, Seen, seen, run, trace}

-- a call that names one interface: a request of 16 bytes or more its bytes 4-7, whatever else is wrong with it; a register write of a
-- class that is not device-wide its FUNCTION_ID
pub data Names (i : Identity) : Call → Type 0 where
  asks : {l : Lent} → 16 ≤ length l.request → i ≡ identity_at l.request 4 → Names i (Request l)
  writes : {id class : ℕ} → device_wide (rule_of class) ≡ false → i ≡ identity_of id → Names i (RegisterWrite id class)

-- a shorter request names nobody: it is refused, whatever the table
pub data NamesNobody : Call → Type 0 where
  short : {l : Lent} → length l.request < 16 → NamesNobody (Request l)

-- two calls that name different interfaces; or any two of which one is a request that names nobody
pub data Apart (c d : Call) : Type 0 where
  different : (i j : Identity) → Names i c → Names j d → same i j ≡ false → Apart c d
  nobody_first : NamesNobody c → Apart c d
  nobody_second : NamesNobody d → Apart c d

-- in either order each call is given the same, number, length, reply bytes and rest of its buffer, and the table ends the same
pub record Swap (next : Machine) (c d : Call) (t : List ℕ) : Type 0 where
  pub first_same : seen next c (next d t).table ≡ seen next c t
  pub second_same : seen next d (next c t).table ≡ seen next d t
  pub table_same : (next d (next c t).table).table ≡ (next c (next d t).table).table

-- anywhere in any history, on any table: it need not be accepted
pub record Swapped (next : Machine) (before : List Call) (c d : Call) (after : List Call) (t : List ℕ) : Type 0 where
  pub table_same : run next (before ++ (d ∷ (c ∷ after))) t ≡ run next (before ++ (c ∷ (d ∷ after))) t
  pub first : Seen
  pub second : Seen
  pub rest : List Seen
  pub one_way : trace next (before ++ (c ∷ (d ∷ after))) t ≡ trace next before t ++ (first ∷ (second ∷ rest))
  pub other_way : trace next (before ++ (d ∷ (c ∷ after))) t ≡ trace next before t ++ (second ∷ (first ∷ rest))

abbrev pub DifferentInterfacesSwap : Machine → Type 0
DifferentInterfacesSwap next =
    (before : List Call) (c d : Call) (after : List Call) (t : List ℕ) → Apart c d → Swapped next before c d after t
