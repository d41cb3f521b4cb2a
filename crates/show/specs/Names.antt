-- The names that are printed. Those of states, requests, replies and error codes are 001's, those of a collector's refusals 02's. Assumes nothing.
use Rattle.std.specs.Prelude.{ℕ, eqb, Result, Ok, Err, if◌then◌else◌}
use Prim.Native.String.{String}
use Rattle.rules.specs.declared.PortionRefusal.{PortionRefusal}
use Rattle.rules.specs.declared.Refusal.{Refusal}
use Rattle.script.specs.declared.digits.Wrong.{Wrong}

-- a state's
abbrev pub state_name : ℕ → String
state_name x =
    if eqb x 0 then "CONFIG_UNLOCKED"
    else if eqb x 1 then "CONFIG_LOCKED"
    else if eqb x 2 then "RUN"
    else if eqb x 3 then "ERROR"
    else "no state:"

-- a request's, by its type
abbrev pub request_name : ℕ → String
request_name x =
    if eqb x 0x81 then "GET_TDISP_VERSION"
    else if eqb x 0x82 then "GET_TDISP_CAPABILITIES"
    else if eqb x 0x83 then "LOCK_INTERFACE"
    else if eqb x 0x84 then "GET_DEVICE_INTERFACE_REPORT"
    else if eqb x 0x85 then "GET_DEVICE_INTERFACE_STATE"
    else if eqb x 0x86 then "START_INTERFACE"
    else if eqb x 0x87 then "STOP_INTERFACE"
    else "of an unlisted type"

-- a reply's, by its type
abbrev pub reply_name : ℕ → String
reply_name x =
    if eqb x 0x01 then "TDISP_VERSION"
    else if eqb x 0x02 then "TDISP_CAPABILITIES"
    else if eqb x 0x03 then "LOCK_INTERFACE_RESPONSE"
    else if eqb x 0x04 then "DEVICE_INTERFACE_REPORT"
    else if eqb x 0x05 then "DEVICE_INTERFACE_STATE"
    else if eqb x 0x06 then "START_INTERFACE_RESPONSE"
    else if eqb x 0x07 then "STOP_INTERFACE_RESPONSE"
    else "TDISP_ERROR"

-- an error code's
abbrev pub error_name : ℕ → String
error_name x =
    if eqb x 0x01 then "INVALID_REQUEST"
    else if eqb x 0x04 then "INVALID_INTERFACE_STATE"
    else if eqb x 0x07 then "UNSUPPORTED_REQUEST"
    else if eqb x 0x41 then "VERSION_MISMATCH"
    else if eqb x 0x101 then "INVALID_INTERFACE"
    else if eqb x 0x102 then "INVALID_NONCE"
    else if eqb x 0x103 then "INSUFFICIENT_ENTROPY"
    else "INVALID_DEVICE_CONFIGURATION"

-- why a call is refused
abbrev pub refusal_name : Refusal → String
refusal_name Refusal.TableLength = "the table's length"
refusal_name Refusal.TableRecord = "a record breaks its rules"
refusal_name Refusal.TableIdentities = "two equal FUNCTION_IDs"
refusal_name Refusal.ReplyShort = "reply buffer under 256 bytes"
refusal_name Refusal.RequestShort = "request under 16 bytes"
refusal_name Refusal.Inputs = "stream map or nonce not 32 bytes"
refusal_name Refusal.Interface = "no record's interface"

-- what a collector finds of a reply
abbrev pub untaken_name : PortionRefusal → String
untaken_name PortionRefusal.NotReport = "not a report reply"
untaken_name PortionRefusal.OtherInterface = "other interface"
untaken_name PortionRefusal.OtherLength = "length not as the portion says"
untaken_name PortionRefusal.TotalDifferent = "total different from before"
untaken_name PortionRefusal.TotalOver = "total over 200"

abbrev pub portion_name : Result Unit PortionRefusal → String
portion_name (Ok taken) = "taken"
portion_name (Err why) = untaken_name why

-- what is wrong with a line
abbrev pub wrong_name : Wrong → String
wrong_name Wrong.LongLine = "longer than 1024 bytes"
wrong_name Wrong.Word = "an unknown word"
wrong_name Wrong.Missing = "something is missing"
wrong_name Wrong.Extra = "something stands after it"
wrong_name Wrong.DecimalDigit = "no decimal digit"
wrong_name Wrong.HexDigit = "no hex digit"
wrong_name Wrong.Odd = "an odd number of hex digits"
wrong_name Wrong.Large = "the number is too large"
wrong_name Wrong.Long = "too many bytes"
