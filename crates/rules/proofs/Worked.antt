-- The worked lines hold of the definitions. Assumes nothing.
use Rattle.std.specs.Prelude.{Err}
use mathlib.Core.Path.{◌≡◌, refl, ap}
use mathlib.Core.Bool.{true, ◌&&◌}
use mathlib.Core.List.{List, []}
use Prim.Native.Nat.{ℕ, ◌+◌, ◌≤◌}
use native.Mathlib.Omega.{arith}
use borrow.Author.Tests.{eqb-true, le-ltb}
use lib.Dec.{eqb}
use lib.ListN.{length}
use Rattle.rules.specs.Bytes.{num, bytes_of, blank, part, over, every, zero_at, zeros}
use Rattle.rules.specs.Lock.{shifted}
use Rattle.rules.specs.Range.{listed, eight_ranges, never_fall}
use Rattle.rules.specs.Record.{Rec, state, held, offset_ok, lock_ok, record_ok}
use Rattle.rules.specs.Report.{size_number, content_number, read_number, read_fields, handed_back, report_of}
use Rattle.rules.specs.Request.{Lent, kind_of, header, message, error_message, legal_in, does, fails, locked, lock_interface, cleared, verdict, effect}
use Rattle.rules.specs.Table.{records, record_bytes, table_number}
use Rattle.rules.specs.Call.{least_reply, least_request, served, answered}
use Rattle.rules.specs.Worked.{Hold, examples, one_range, other_version, version_mismatch}
use Rattle.rules.proofs.Bools.{and_left, and_right}
use Rattle.rules.proofs.Kept.{keeps}
use Rattle.rules.proofs.Parts.{over_part}
use Rattle.rules.proofs.WriteBack.{blank_part}
use Rattle.rules.specs.declared.RequestError.TheVariants.{VersionMismatch}

-- ---- a version that is not 10h

mismatch : (q : List ℕ) (t : List ℕ) → q ≡ other_version → verdict q (records t) ≡ Err VersionMismatch
unfolding verdict
mismatch q t e = rw e

mismatch_bytes : (q : List ℕ) → q ≡ other_version → error_message 0x41 0 q ≡ version_mismatch
unfolding message header part bytes_of
mismatch_bytes q e = rw e

mismatch_answered : (l : Lent) (t : List ℕ) → table_number t ≡ 0 → least_reply ≤ length l.reply → length l.streams ≡ 32 → length l.nonce ≡ 32
    → l.request ≡ other_version → answered l t ≡ served version_mismatch l t
unfolding answered
mismatch_answered l t accepted room s n e =
    let enough : least_request ≤ length l.request = rw e (omega arith) in
    rw (accepted, le-ltb _ _ room, le-ltb _ _ enough, s, n, mismatch l.request t e) (ap (λ (m : List ℕ). served m l t) (mismatch_bytes l.request e))

-- ---- a record in state 0

-- zeros written where zeros stand
blank_over : (at n : ℕ) (r : Rec) → every n (zero_at r at) ≡ true → at + n ≤ length r → over at (blank n) r ≡ r
blank_over at n r z h = rw (blank_part r at n z h) (over_part at n r h)

-- a record in state 0 is cleared already
cleared_already : (r : Rec) → length r ≡ record_bytes → record_ok r ≡ true → state r ≡ 0 → cleared 0 r ≡ r
unfolding cleared lock_ok zeros every
cleared_already r long ok z =
    let k = keeps r ok in
    let n : eqb (held r) 0 && zeros r 40 71 ≡ true = rw z at k.nonce_ok in
    let f : zeros r 6 9 && zeros r 24 31 ≡ true = rw z at k.lock_ok in
    let h : held r ≡ 0 = eqb-true (held r) 0 (and_left (eqb (held r) 0) (zeros r 40 71) n) in
    let head : every 6 (zero_at r 4) ≡ true = rw (z, h) (and_left (zeros r 6 9) (zeros r 24 31) f) in
    let a = blank_over 4 6 r head (omega arith) in
    let b = blank_over 24 8 r (and_right (zeros r 6 9) (zeros r 24 31) f) (omega arith) in
    let c = blank_over 40 32 r (and_right (eqb (held r) 0) (zeros r 40 71) n) (omega arith) in
    rw (a, b, c)

stop_unlocked : (l : Lent) (r : Rec) → length r ≡ record_bytes → record_ok r ≡ true → kind_of l.request ≡ 0x87 → state r ≡ 0 → effect l r ≡ does (message 0x07 l.request []) r
unfolding effect legal_in
stop_unlocked l r long ok k z = rw (k, cleared_already r long ok z)

-- ---- a record in state 2

start_running : (l : Lent) (r : Rec) → kind_of l.request ≡ 0x86 → state r ≡ 2 → effect l r ≡ fails 0x04 l.request r
unfolding effect legal_in
start_running l r k z = rw (k, z)

-- ---- all of them

pub worked : Hold examples
unfolding num bytes_of over every zeros shifted offset_ok legal_in lock_interface effect locked listed eight_ranges report_of never_fall size_number content_number read_number read_fields handed_back one_range
worked = (refl, (refl, (refl, (refl, (refl, (refl, (refl, (refl, (refl, (refl, (mismatch_answered, (stop_unlocked, (start_running, tt)))))))))))))
