-- Document 01, "Pages, nonces and bytes worked through": the lines marked (P), as one list. `proofs/Worked.antt` has its one theorem.
use Rattle.std.specs.Prelude.{true, ◌≡◌, List, [], ◌∷◌, ◌++◌, ℕ, ◌-◌, ◌^◌, ◌≤◌, length}
use Rattle.rules.specs.Bytes.{bytes_of, blank, over}
use Rattle.rules.specs.Record.{Rec, state, record_ok}
use Rattle.rules.specs.Report.{field_range, read_number, handed_back, report_of}
use Rattle.rules.specs.Request.{Lent, lent, kind_of, message, does, fails, locked, effect}
use Rattle.rules.specs.Table.{record_bytes, table_number}
use Rattle.rules.specs.Call.{least_reply, served, answered}

-- each statement of a list holds
abbrev pub Hold : List (Type 0) → Type 0
Hold [] = Unit {0}
Hold (P ∷ Ps) = P × Hold Ps

-- a record in state 0, with one range
unfoldable pub one_range : ℕ → ℕ → Rec
one_range first pages = over 72 (bytes_of 8 first ++ bytes_of 4 pages) (over 10 (1 ∷ []) (blank record_bytes))

-- the 8-byte number of -n, by two's complement
abbrev pub minus : ℕ → ℕ
minus n = 2 ^ 64 - n

-- a lock of it, without flags, on stream 0, with an 8-byte number as its offset; the stream is secure, and 32 zero bytes are ready
abbrev pub locking : ℕ → Lent
locking x = lent (0x10 ∷ 0x83 ∷ blank 18 ++ bytes_of 8 x ++ blank 8) (blank 256) (blank 32) true (1 ∷ blank 31) (record { 0 = 0 })

-- it is accepted: 03h and the nonce, and the record is locked
abbrev pub LockAccepted : ℕ → Rec → Type 0
LockAccepted x r = effect (locking x) r ≡ does (message 0x03 (locking x).request (blank 32)) (locked (locking x).request (blank 32) (record { 0 = 0 }) r)

-- it gets 01h, and the record stays
abbrev pub LockInvalid : ℕ → Rec → Type 0
LockInvalid x r = effect (locking x) r ≡ fails 0x01 (locking x).request r

-- the first page that the record's report then shows of its range
abbrev pub first_reported : ℕ → Rec → ℕ
first_reported x r = (field_range (report_of (effect (locking x) r).rec) 0).first

-- the request of version 11h and type 81h, requester 0100h, and its reply
abbrev pub other_version : List ℕ
other_version = 0x11 ∷ 0x81 ∷ 0 ∷ 0 ∷ 0x00 ∷ 0x01 ∷ blank 10

abbrev pub version_mismatch : List ℕ
version_mismatch = 0x10 ∷ 0x7f ∷ 0 ∷ 0 ∷ 0x00 ∷ 0x01 ∷ blank 10 ++ (0x41 ∷ blank 7)

abbrev pub examples : List (Type 0)
examples =
    -- First 16, offset -65536: reports 0. -69632: 01h. Offset 1: 01h.
    LockAccepted (minus 65536) (one_range 16 1)
    ∷ (first_reported (minus 65536) (one_range 16 1) ≡ 0)
    ∷ LockInvalid (minus 69632) (one_range 16 1)
    ∷ LockInvalid 1 (one_range 16 1)
    -- First 2^52-1, pages 1, offset 0: accepted; 4096: 01h.
    ∷ LockAccepted 0 (one_range (2 ^ 52 - 1) 1)
    ∷ LockInvalid 4096 (one_range (2 ^ 52 - 1) 1)
    -- Empty report: 20. Twenty zero bytes: accepted, N 0, L 0.
    ∷ (read_number [] ≡ 20)
    ∷ (read_number (blank 20) ≡ 0)
    ∷ ((handed_back (blank 20)).n ≡ 0)
    ∷ ((handed_back (blank 20)).l ≡ 0)
    -- Version 11h, type 81h, requester 0100h: 10 7F 00 00 00 01 then ten zeros, 41 00 00 00 00 00 00 00.
    ∷ ((l : Lent) (t : List ℕ) → table_number t ≡ 0 → least_reply ≤ length l.reply → length l.streams ≡ 32 → length l.nonce ≡ 32
    → l.request ≡ other_version → answered l t ≡ served version_mismatch l t)
    -- Stop in state 0: reply 07h, unchanged.
    ∷ ((l : Lent) (r : Rec) → length r ≡ record_bytes → record_ok r ≡ true → kind_of l.request ≡ 0x87 → state r ≡ 0 → effect l r ≡ does (message 0x07 l.request []) r)
    -- Start in state 2: 04h.
    ∷ ((l : Lent) (r : Rec) → kind_of l.request ≡ 0x86 → state r ≡ 2 → effect l r ≡ fails 0x04 l.request r)
    ∷ []
