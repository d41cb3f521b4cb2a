-- Document 01, "Requests (001)": the checks, and what each request does to the record that it names.
use Rattle.std.specs.Prelude.{Bool, true, not, ◌||◌, List, [], ◌∷◌, ◌++◌, ℕ, ◌/◌, ◌%◌, eqb, leb, length, Option, Some, None, Result, Ok, Err, if◌then◌else◌}
use Rattle.rules.specs.Bytes.{byte, num, bytes_of, bit_set, blank, part, over, same_bytes}
use Rattle.rules.specs.Identity.{identity_at}
use Rattle.rules.specs.Lock.{supported, stored}
use Rattle.rules.specs.Record.{Rec, CONFIG_UNLOCKED, CONFIG_LOCKED, RUN, state, nonce, offset_ok}
use Rattle.rules.specs.Report.{report_total, portion_bytes}
use Rattle.rules.specs.Table.{find}
use Rattle.rules.specs.declared.RequestError.{RequestError}
use Rattle.rules.specs.declared.RequestError.TheVariants.{InvalidRequest, InvalidInterfaceState, UnsupportedRequest, VersionMismatch, InvalidInterface, InvalidNonce, InsufficientEntropy, InvalidDeviceConfiguration}
use Rattle.rules.specs.declared.Session.{Session}
use Rattle.rules.specs.declared.Stream.{Stream}

-- what a request is lent beside the table
pub record Lent : Type 0 where
  pub request : List ℕ
  pub reply : List ℕ
  pub nonce : List ℕ
  pub ready : Bool
  pub streams : List ℕ
  pub session : Session

abbrev pub lent : List ℕ → List ℕ → List ℕ → Bool → List ℕ → Session → Lent
lent q p n b m s = record { request = q; reply = p; nonce = n; ready = b; streams = m; session = s }

-- ---- messages

-- Header: version 10h, type, two reserved bytes, INTERFACE_ID of 12 (FUNCTION_ID, then 8 reserved).
abbrev pub kind_of : List ℕ → ℕ
kind_of q = byte q 1

-- Replies carry version 10h, reserved zero, and the request's 12 bytes as received.
unfoldable pub header : ℕ → List ℕ → List ℕ
header kind q = (0x10 ∷ kind ∷ 0 ∷ 0 ∷ []) ++ part q 4 12

unfoldable pub message : ℕ → List ℕ → List ℕ → List ℕ
message kind q payload = header kind q ++ payload

-- Errors are 7Fh with code (4) and data (4), 24 bytes in all.
abbrev pub error_message : ℕ → ℕ → List ℕ → List ℕ
error_message code datum q = message 0x7f q (bytes_of 4 code ++ bytes_of 4 datum)

-- the codes
abbrev pub error_code : RequestError → ℕ
error_code InvalidRequest = 0x01
error_code InvalidInterfaceState = 0x04
error_code (UnsupportedRequest kind) = 0x07
error_code VersionMismatch = 0x41
error_code InvalidInterface = 0x101
error_code InvalidNonce = 0x102
error_code InsufficientEntropy = 0x103
error_code InvalidDeviceConfiguration = 0x104

-- and the data: 0, but 07h has the type (001: its data is the request code)
abbrev pub error_datum : RequestError → ℕ
error_datum InvalidRequest = 0
error_datum InvalidInterfaceState = 0
error_datum (UnsupportedRequest kind) = kind
error_datum VersionMismatch = 0
error_datum InvalidInterface = 0
error_datum InvalidNonce = 0
error_datum InsufficientEntropy = 0
error_datum InvalidDeviceConfiguration = 0

-- ---- the checks

-- the request table: the exact length of a request; 0 where the type is unlisted
unfoldable pub exact_length : ℕ → ℕ
exact_length kind =
    if eqb kind 0x81 then 16
    else if eqb kind 0x82 then 20
    else if eqb kind 0x83 then 36
    else if eqb kind 0x84 then 20
    else if eqb kind 0x85 then 16
    else if eqb kind 0x86 then 48
    else if eqb kind 0x87 then 16
    else 0

-- and the states in which it is legal; 02, 1/12, of 84h: allow states 1 and 2
unfoldable pub legal_in : ℕ → ℕ → Bool
legal_in kind s =
    if eqb kind 0x83 then eqb s CONFIG_UNLOCKED
    else if eqb kind 0x84 then eqb s CONFIG_LOCKED || eqb s RUN
    else if eqb kind 0x86 then eqb s CONFIG_LOCKED
    else true

abbrev pub looked_up : Option ℕ → Result ℕ RequestError
looked_up None = Err InvalidInterface
looked_up (Some k) = Ok k

-- Checks in order: version not 10h, 41h VERSION_MISMATCH; type unlisted, 07h UNSUPPORTED_REQUEST (001: its data is the request code);
-- length not exact, 01h INVALID_REQUEST; interface unknown, 101h INVALID_INTERFACE;
unfoldable pub verdict : List ℕ → List Rec → Result ℕ RequestError
verdict q rs =
    if not (eqb (byte q 0) 0x10) then Err VersionMismatch
    else if eqb (exact_length (kind_of q)) 0 then Err (UnsupportedRequest (kind_of q))
    else if not (eqb (length q) (exact_length (kind_of q))) then Err InvalidRequest
    else looked_up (find (identity_at q 4) rs)

-- ---- what a request does: the reply, and the record afterwards

pub record Effect : Type 0 where
  pub reply : List ℕ
  pub rec : Rec

abbrev pub does : List ℕ → Rec → Effect
does m r = record { reply = m; rec = r }

-- an error, data 0: the record stays
abbrev pub fails : ℕ → List ℕ → Rec → Effect
fails code q r = does (error_message code 0 q) r

-- 81h GET_TDISP_VERSION: 01h: 01 10
abbrev pub get_version : List ℕ → Rec → Effect
get_version q r = does (message 0x01 q (0x01 ∷ 0x10 ∷ [])) r

-- 82h GET_TDISP_CAPABILITIES: 02h: DSM_CAPS 0; sixteen mask bytes, FE then zeros; flags supported 0005h; three reserved; address
-- width 64; 1; 1
abbrev pub capabilities : List ℕ
capabilities = blank 4 ++ (0xfe ∷ []) ++ blank 15 ++ bytes_of 2 5 ++ blank 3 ++ (64 ∷ 1 ∷ 1 ∷ [])

abbrev pub get_capabilities : List ℕ → Rec → Effect
get_capabilities q r = does (message 0x02 q capabilities) r

-- a stream map: bit k of byte j: stream 8j+k is secure
abbrev pub secure : List ℕ → Stream → Bool
secure streams s = bit_set (s.0 % 8) (byte streams (s.0 / 8))

-- Payload: flags 2, default stream 1, reserved 1, offset 8, P2P mask 8.
abbrev pub asked_flags : List ℕ → ℕ
asked_flags q = num q 16 2

abbrev pub asked_stream : List ℕ → Stream
asked_stream q = record { 0 = byte q 18 }

abbrev pub asked_offset : List ℕ → ℕ
asked_offset q = num q 20 8

-- flag bits 0 and 2 (all others as zero), stream, session and offset stored, state 1, nonce held
unfoldable pub locked : List ℕ → List ℕ → Session → Rec → Rec
locked q n s r =
    over 40 n
    (over 24 (bytes_of 8 (asked_offset q)) (over 4 (CONFIG_LOCKED ∷ 1 ∷ bytes_of 2 (stored (asked_flags q)) ++ ((asked_stream q).0 ∷ s.0 ∷ [])) r))

-- 83h LOCK_INTERFACE: any of flag bits 1, 3, 4 set is 01h; the offset's rule, else 01h; stream not secure: 104h
-- INVALID_DEVICE_CONFIGURATION; nonce bytes not ready: 103h INSUFFICIENT_ENTROPY; otherwise accepted, nonce replied
unfoldable pub lock_interface : Lent → Rec → Effect
lock_interface l r =
    if not (supported (asked_flags l.request)) then fails 0x01 l.request r
    else if not (offset_ok r (asked_offset l.request)) then fails 0x01 l.request r
    else if not (secure l.streams (asked_stream l.request)) then fails 0x104 l.request r
    else if not l.ready then fails 0x103 l.request r
    else does (message 0x03 l.request l.nonce) (locked l.request l.nonce l.session r)

-- 84h GET_DEVICE_INTERFACE_REPORT: OFFSET 2, LENGTH 2. OFFSET at or above the total is 01h; else a portion
unfoldable pub get_report : List ℕ → Rec → Effect
get_report q r =
    if leb (report_total r) (num q 16 2) then fails 0x01 q r
    else does (message 0x04 q (portion_bytes r (num q 16 2) (num q 18 2))) r

-- 85h GET_DEVICE_INTERFACE_STATE: 05h: state byte
abbrev pub get_state : List ℕ → Rec → Effect
get_state q r = does (message 0x05 q (state r ∷ [])) r

-- RUN, the nonce spent: state 2, held 0, nonce zero
unfoldable pub running : Rec → Rec
running r = over 40 (blank 32) (over 4 (RUN ∷ 0 ∷ []) r)

-- 86h START_INTERFACE: a different nonce is 102h INVALID_NONCE and changes nothing. An equal one is spent.
unfoldable pub start_interface : List ℕ → Rec → Effect
start_interface q r =
    if not (same_bytes (part q 16 32) (nonce r)) then fails 0x102 q r
    else does (message 0x06 q []) (running r)

-- a state in which lock fields and nonce are cleared: record bytes 4-9, 24-31 and 40-71
unfoldable pub cleared : ℕ → Rec → Rec
cleared s r = over 40 (blank 32) (over 24 (blank 8) (over 4 (s ∷ blank 5) r))

-- 87h STOP_INTERFACE: state 0, lock fields and nonce cleared
abbrev pub stop_interface : List ℕ → Rec → Effect
stop_interface q r = does (message 0x07 q []) (cleared CONFIG_UNLOCKED r)

-- the requests that change no record, by type: 81h, 82h, 84h and, as the last that is listed, 85h
unfoldable pub gets : List ℕ → Rec → Effect
gets q r =
    if eqb (kind_of q) 0x81 then get_version q r
    else if eqb (kind_of q) 0x82 then get_capabilities q r
    else if eqb (kind_of q) 0x84 then get_report q r
    else get_state q r

-- state, 04h INVALID_INTERFACE_STATE; then the request's own, by its type
unfoldable pub effect : Lent → Rec → Effect
effect l r =
    if not (legal_in (kind_of l.request) (state r)) then fails 0x04 l.request r
    else if eqb (kind_of l.request) 0x83 then lock_interface l r
    else if eqb (kind_of l.request) 0x86 then start_interface l.request r
    else if eqb (kind_of l.request) 0x87 then stop_interface l.request r
    else gets l.request r
