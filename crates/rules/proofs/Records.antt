-- A table's bytes and its records. The laws of `cut` hold at any width. Assumes nothing.
use mathlib.Core.Path.{◌≡◌, refl, sym, ap}
use mathlib.Core.List.{List, []}
use Prim.Native.Nat.{ℕ, zero, suc, ◌*◌, ◌/◌, ◌<◌}
use native.Mathlib.Nat.{le_of_suc-le-suc, not-suc-le-zero, suc-mul, zero-mul, add_comm}
use native.Mathlib.Omega.{arith}
use lib.ListN.{length, drop, get_or}
use lib.Seq.{drop-drop}
use Rattle.rules.specs.Bytes.{part}
use Rattle.rules.specs.Table.{cut, records, record_at, record_bytes}
use Rattle.rules.proofs.Parts.{length_part}

-- ---- at any width

module _ (w : ℕ) where
  pub length_cut : (n : ℕ) (t : List ℕ) → length (cut w n t) ≡ n
  unfolding cut
  length_cut zero t = refl
  length_cut (suc n) t = ap suc (length_cut n (drop w t))

  pub cut_at : (n k : ℕ) (t : List ℕ) → k < n → get_or (cut w n t) k [] ≡ part t (k * w) w
  unfolding cut part
  cut_at zero k t h = absurd (not-suc-le-zero h)
  cut_at (suc n) zero t h = rw zero-mul
  cut_at (suc n) (suc k) t h = rw (cut_at n k (drop w t) (le_of_suc-le-suc h), drop-drop (k * w) w t, suc-mul, add_comm (k * w) w)

-- ---- at a record's

pub length_records : (t : List ℕ) → length (records t) ≡ length t / record_bytes
unfolding records
length_records t = length_cut record_bytes (length t / record_bytes) t

pub record_part : (t : List ℕ) (k : ℕ) → k < length t / record_bytes → part t (k * record_bytes) record_bytes ≡ record_at t k
unfolding records
record_part t k h = sym (cut_at record_bytes (length t / record_bytes) k t h)

pub length_record : (t : List ℕ) (k : ℕ) → k < length t / record_bytes → length (record_at t k) ≡ record_bytes
length_record t k h = rw (← record_part t k h) (length_part t (k * record_bytes) record_bytes (omega arith))
