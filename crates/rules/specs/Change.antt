-- Document 01, "Changes": which records a change moves, and what moving does to a record.
use Rattle.std.specs.Prelude.{Bool, true, false, not, ◌&&◌, ◌||◌, List, [], ◌∷◌, ℕ, ◌+◌, eqb, if◌then◌else◌}
use Rattle.rules.specs.Record.{Rec, CONFIG_LOCKED, RUN, ERROR, state, stream, session, no_fw_update, lock_msix}
use Rattle.rules.specs.Request.{cleared}
use Rattle.rules.specs.Table.{all, names}
use Rattle.rules.specs.declared.Event.{Event}
use Rattle.rules.specs.declared.Event.TheVariants.{Multicast, StreamDown, SessionEnd}
use Rattle.rules.specs.declared.Identity.{Identity}
use Rattle.rules.specs.declared.Rule.{Rule}

-- ---- classes

abbrev pub is_in : ℕ → List ℕ → Bool
is_in x [] = false
is_in x (y ∷ ys) = eqb x y || is_in x ys

-- Allowed: 1 MSI, 3 AER, 9 virtual channel, 11 L1 PM, 12 link status, 13 ACS, 14 LTR, 15 power allocation. Class 2 MSI-X: ERROR only
-- under LOCK_MSIX. Class 10 multicast: a device-wide event. ERROR: 4 to 8, 16 vendor, 17 TPH; and any other class.
unfoldable pub rule_of : ℕ → Rule
rule_of class =
    if is_in class (1 ∷ 3 ∷ 9 ∷ 11 ∷ 12 ∷ 13 ∷ 14 ∷ 15 ∷ []) then Rule.Allowed
    else if eqb class 2 then Rule.MsixRule
    else if eqb class 10 then Rule.DeviceWide
    else Rule.Error

-- ---- the records that a change is for

-- Device-wide: multicast (all), stream down (default stream equal), session end (session equal).
unfoldable pub hits : Event → Rec → Bool
hits Multicast r = true
hits (StreamDown s) r = eqb (stream r) s.0
hits (SessionEnd s) r = eqb (session r) s.0

-- A register write names an interface and a class: by its rule,
unfoldable pub rule_hits : Rule → Rec → Bool
rule_hits Rule.Allowed r = false
rule_hits Rule.MsixRule r = lock_msix r
rule_hits Rule.DeviceWide r = hits Multicast r
rule_hits Rule.Error r = true

-- it is for the record that it names; class 10 for all, though it names one
abbrev pub device_wide : Rule → Bool
device_wide Rule.DeviceWide = true
device_wide Rule.Allowed = false
device_wide Rule.MsixRule = false
device_wide Rule.Error = false

unfoldable pub write_hits : Rule → Identity → Rec → Bool
write_hits rule who r = (device_wide rule || names who r) && rule_hits rule r

-- ---- moving

-- CONFIG_LOCKED or RUN
unfoldable pub live : Rec → Bool
live r = eqb (state r) CONFIG_LOCKED || eqb (state r) RUN

-- Only CONFIG_LOCKED and RUN move; nonce and lock fields are cleared. `p` tells whether a change is for a record.
abbrev pub moves : (Rec → Bool) → Rec → Bool
moves p r = live r && p r

unfoldable pub moved : (Rec → Bool) → Rec → Rec
moved p r = if moves p r then cleared ERROR r else r

-- Every event returns how many records moved: the number of records whose state differs before and after.
unfoldable pub differing : List Rec → List Rec → ℕ
differing [] after = 0
differing (r ∷ before) [] = 0
differing (r ∷ before) (s ∷ after) = (if eqb (state r) (state s) then 0 else 1) + differing before after

-- ---- the firmware question

-- yes exactly if no interface in state 1 or 2 holds NO_FW_UPDATE
unfoldable pub lets : Rec → Bool
lets r = not (live r && eqb (no_fw_update r) 1)

abbrev pub firmware_yes : List Rec → Bool
firmware_yes rs = all lets rs
