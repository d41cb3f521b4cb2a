-- Every lock that meets 01's conditions is accepted. Assumes nothing.
use mathlib.Core.Path.{◌≡◌, ◌∙◌}
use mathlib.Core.Bool.{true}
use Prim.Native.Nat.{ℕ, ◌<◌}
use Rattle.rules.specs.Bytes.{bit_clear}
use Rattle.rules.specs.Lock.{signed, whole_pages, shifted, stays}
use Rattle.rules.specs.Record.{Rec, state, range_count, range_of, offset_ok}
use Rattle.rules.specs.Request.{Lent, kind_of, message, legal_in, does, secure, asked_flags, asked_stream, asked_offset, locked, lock_interface, effect}
use Rattle.rules.proofs.Every.{every_true}

-- a LOCK in state 0 is looked at
lock_looked : (l : Lent) (r : Rec) → kind_of l.request ≡ 0x83 → state r ≡ 0 → effect l r ≡ lock_interface l r
unfolding effect legal_in
lock_looked l r k z = rw (k, z)

-- no flag of 1, 3 and 4; a multiple of 4096 with which every range stays; a secure stream; a nonce that is ready
pub lock_accepted : (l : Lent) (r : Rec) → kind_of l.request ≡ 0x83 → state r ≡ 0
    → bit_clear 1 (asked_flags l.request) ≡ true
    → bit_clear 3 (asked_flags l.request) ≡ true
    → bit_clear 4 (asked_flags l.request) ≡ true
    → whole_pages (signed (asked_offset l.request)) ≡ true
    → ((k : ℕ) → k < range_count r → stays (shifted (signed (asked_offset l.request)) (range_of r k)) ≡ true)
    → secure l.streams (asked_stream l.request) ≡ true
    → l.ready ≡ true
    → effect l r ≡ does (message 0x03 l.request l.nonce) (locked l.request l.nonce l.session r)
unfolding lock_interface offset_ok
lock_accepted l r k z one three four whole stay safe ready =
    lock_looked l r k z ∙ rw (one, three, four, whole, every_true _ (range_count r) stay, safe, ready)
