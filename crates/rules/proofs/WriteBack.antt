-- A report read and written again gives back its bytes. Assumes nothing.
use mathlib.Core.Path.{◌≡◌, refl, sym, ◌∙◌}
use mathlib.Core.Bool.{true}
use mathlib.Core.List.{List, ◌++◌}
use Prim.Native.Nat.{ℕ, zero, suc, ◌+◌, ◌-◌, ◌*◌, ◌≤◌, ◌<◌}
use native.Mathlib.Nat.{zero-add, suc-mul}
use native.Mathlib.Omega.{arith}
use lib.ListN.{length, take, length-replicate, get_or-replicate}
use lib.Seq.{take_at, get_or-take, get_or-drop, ext_get_or}
use borrow.Author.Tests.{eqb-true, le-ltb}
use Rattle.rules.specs.Bytes.{byte, Bytes, num, blank, part, every, zero_at, zeros}
use Rattle.rules.specs.Range.{most_ranges, range_bytes, range_from, ranges_from, bytes_of_range}
use Rattle.rules.specs.Record.{most_information}
use Rattle.rules.specs.Report.{most_report, information_from, bytes_of_ranges, field_range, head_of, report_bytes, read_count, read_range, length_place, read_length, read_number, read_fields, write_number, written_length}
use Rattle.rules.proofs.Every.{every_at}
use Rattle.rules.proofs.Parts.{length_part, part_join, part_all}
use Rattle.rules.proofs.Numbers.{bytes_num}
use Rattle.rules.proofs.Listed.{eight_at}
use Rattle.rules.proofs.Written.{ranges_same}
use Rattle.rules.proofs.Sizes.{Sized, read_accepted, content_same}

-- ---- zero bytes

-- where a test finds zeros, zero bytes are the part
pub blank_part : (s : List ℕ) (at n : ℕ) → every n (zero_at s at) ≡ true → at + n ≤ length s → blank n ≡ part s at n
unfolding part
blank_part s at n e h =
    let count : length (blank n) ≡ n = length-replicate n 0 in
    ext_get_or 0 (blank n) (part s at n) (count ∙ sym (length_part s at n h)) (λ i l.
    let m : i < n = omega arith in
    rw (get_or-replicate, get_or-take, get_or-drop) (sym (eqb-true (byte s (at + i)) 0 (every_at (zero_at s at) n i e m))))

-- ---- ranges

module _ (s : List ℕ) (b : Bytes s) where
  -- a range read and written
  range_part : (at : ℕ) → at + range_bytes ≤ length s → bytes_of_range (range_from s at) ≡ part s at range_bytes
  unfolding bytes_of_range
  range_part at h =
      rw (bytes_num s at 8 b (omega arith), bytes_num s (at + 8) 4 b (omega arith), bytes_num s (at + 12) 2 b (omega arith), bytes_num s (at + 14) 2 b (omega arith))
      (rw (part_join s at 8 4, part_join s at 12 2, part_join s at 14 2))

  -- n ranges read and written
  ranges_part : (at n : ℕ) → at + n * range_bytes ≤ length s → bytes_of_ranges n (ranges_from s at) ≡ part s at (n * range_bytes)
  unfolding bytes_of_ranges part
  ranges_part at zero h = refl
  ranges_part at (suc n) h =
      rw (ranges_part at n (omega arith), range_part (at + n * range_bytes) (omega arith), part_join s at (n * range_bytes) range_bytes, suc-mul)

-- ---- the whole report

-- a part from the start on, and the next
front_join : (s : List ℕ) (m n : ℕ) → part s 0 m ++ part s m n ≡ part s 0 (m + n)
front_join s m n = rw zero-add at (part_join s 0 m n)

-- information read and written
information_part : (s : List ℕ) (at l : ℕ) → at + l ≤ length s → take l (information_from s at l) ≡ part s at l
unfolding information_from
information_part s at l h = take_at (part s at l) (blank (most_information - l)) l (length_part s at l h)

-- a range that counts is read from its place
field_range_lem : (s : List ℕ) (k : ℕ) → k < read_count s → field_range (read_fields s) k ≡ read_range s k
unfolding read_fields
field_range_lem s k h = eight_at (read_count s) k (read_range s) h

module _ (s : List ℕ) (b : Bytes s) (z : Sized s) where
  -- the head
  head_part : zeros s 2 3 ≡ true → head_of (read_fields s) ≡ part s 0 16
  unfolding head_of read_fields zeros
  head_part e =
      rw (blank_part s 2 2 e (omega arith), bytes_num s 0 2 b (omega arith), bytes_num s 4 2 b (omega arith), bytes_num s 6 2 b (omega arith))
      (rw (bytes_num s 8 4 b (omega arith), bytes_num s 12 4 b (omega arith))
      (rw (front_join s 2 2, front_join s 4 2, front_join s 6 2, front_join s 8 4, front_join s 12 4)))

  -- the ranges
  count_part : bytes_of_ranges (read_count s) (field_range (read_fields s)) ≡ part s 16 (read_count s * range_bytes)
  count_part = ranges_same (read_count s) _ _ (field_range_lem s) ∙ ranges_part s b 16 (read_count s) (omega arith)

  -- the whole
  whole_back : zeros s 2 3 ≡ true → report_bytes (read_fields s) ≡ s
  unfolding report_bytes read_fields
  whole_back e =
      let n = read_count s in
      let l = read_length s in
      let place = length_place s in
      let whole : place + 4 + l ≡ length s = omega arith in
      rw (head_part e, count_part, bytes_num s place 4 b (omega arith), information_part s (place + 4) l (omega arith))
      (rw (front_join s 16 (n * range_bytes), front_join s place 4, front_join s (place + 4) l, whole) (part_all s))

-- a report read and written gives back its bytes
pub bytes_back : (s : List ℕ) → Bytes s → read_number s ≡ 0 → report_bytes (read_fields s) ≡ s
bytes_back s b e =
    let a = read_accepted s e in
    whole_back s b a.0 a.1

module _ (s : List ℕ) (output : ℕ) (e : read_number s ≡ 0) (room : most_report ≤ output) where
  -- a report read is accepted by the writer
  number_back : write_number (read_fields s) output ≡ 0
  unfolding write_number read_fields
  number_back =
      let a = read_accepted s e in
      let content = content_same (num s 0 2) (read_count s) _ _ (field_range_lem s) ∙ a.2 in
      rw (le-ltb output most_report room, le-ltb most_ranges (read_count s) a.0.few, le-ltb most_information (read_length s) a.0.little) content

  -- and its length is the report's
  total_back : written_length (read_fields s) output ≡ length s
  unfolding written_length read_fields
  total_back = rw number_back (read_accepted s e).0.exact

-- a report read is accepted by the writer, and written gives the bytes
pub write_read : (s : List ℕ) (output : ℕ) → Bytes s → read_number s ≡ 0 → most_report ≤ output
    → (write_number (read_fields s) output ≡ 0) × (written_length (read_fields s) output ≡ length s) × (report_bytes (read_fields s) ≡ s)
write_read s output b e room = (number_back s output e room, total_back s output e room, bytes_back s b e)
