-- A report written and read gives back its fields. Assumes nothing.
use mathlib.Core.Path.{◌≡◌, refl, ap, ◌∙◌}
use mathlib.Core.Bool.{true}
use mathlib.Core.List.{List, ◌++◌}
use mathlib.Core.Logic.{⊎_elim}
use Prim.Native.Nat.{ℕ, zero, suc, ◌+◌, ◌*◌, ◌≤◌, ◌<◌}
use native.Mathlib.Nat.{add_assoc, not-suc-le-zero, le_of_suc-le-suc, eq-or-lt_of_le}
use native.Mathlib.Omega.{arith}
use lib.ListN.{length, take, length-append}
use lib.Seq.{drop_at, take-take, length-take-le}
use borrow.Author.Tests.{le-ltb}
use Rattle.rules.specs.Bytes.{num, bytes_of, part, every, zeros}
use Rattle.rules.specs.Range.{most_ranges, range_bytes, listed, eight_ranges, range_from, bytes_of_range}
use Rattle.rules.specs.Record.{most_information}
use Rattle.rules.specs.Report.{least_report, total_of, information_from, bytes_of_ranges, field_range, head_of, report_bytes, content_number, read_count, read_range, length_place, read_length, size_number, read_number, read_fields, TypedRange, Typed, normal, write_number}
use Rattle.rules.specs.declared.Range.{Range}
use Rattle.rules.specs.declared.ReportFields.{ReportFields}
use Rattle.rules.proofs.Listed.{listed_same}
use Rattle.rules.proofs.Numbers.{length_bytes, num_append, num_past, num_last}
use Rattle.rules.proofs.Sizes.{content_same}
use Rattle.rules.proofs.Writes.{writer_accepts}
use Rattle.rules.proofs.Written.{length_ranges, length_head}

-- ---- reading what was put together

-- a range that ends within the first of two lists is read there
pub range_append : (a b : List ℕ) (at : ℕ) → at + range_bytes ≤ length a → range_from (a ++ b) at ≡ range_from a at
range_append a b at h =
    rw (num_append a b at 8 (omega arith), num_append a b (at + 8) 4 (omega arith), num_append a b (at + 12) 2 (omega arith), num_append a b (at + 14) 2 (omega arith))

-- a range past the first list is read in the second
pub range_past : (a b : List ℕ) (k at : ℕ) → length a ≡ k → range_from (a ++ b) (k + at) ≡ range_from b at
range_past a b k at e =
    rw (add_assoc k at 8, add_assoc k at 12, add_assoc k at 14, num_past a b k at 8 e, num_past a b k (at + 8) 4 e, num_past a b k (at + 12) 2 e, num_past a b k (at + 14) 2 e)

-- ---- one range

module _ (x : Range) (t : TypedRange x) where
  first_read : num (bytes_of_range x) 0 8 ≡ x.first
  unfolding bytes_of_range bytes_of num
  first_read = omega arith

  pages_read : num (bytes_of_range x) 8 4 ≡ x.pages
  unfolding bytes_of_range bytes_of num
  pages_read = omega arith

  attributes_read : num (bytes_of_range x) 12 2 ≡ x.attributes
  unfolding bytes_of_range bytes_of num
  attributes_read = omega arith

  id_read : num (bytes_of_range x) 14 2 ≡ x.id
  unfolding bytes_of_range bytes_of num
  id_read = omega arith

  -- a range written and read
  pub range_read : range_from (bytes_of_range x) 0 ≡ x
  range_read = rw (first_read, pages_read, attributes_read, id_read)

-- ---- n ranges

-- the last range and those before it
module _ (n k : ℕ) (p : ℕ → Range) where
  abbrev whole : List ℕ
  whole = bytes_of_ranges n p ++ bytes_of_range (p n)

  last_read : TypedRange (p n) → k ≡ n → range_from whole (k * range_bytes) ≡ p k
  last_read t e =
      let z : n * range_bytes ≡ n * range_bytes + 0 = omega arith in
      rw e (ap (range_from whole) z ∙ range_past (bytes_of_ranges n p) (bytes_of_range (p n)) (n * range_bytes) 0 (length_ranges n p) ∙ range_read (p n) t)

  before_read : k < n → range_from whole (k * range_bytes) ≡ range_from (bytes_of_ranges n p) (k * range_bytes)
  before_read l = range_append (bytes_of_ranges n p) (bytes_of_range (p n)) (k * range_bytes) (omega (arith, length_ranges n p))

-- ranges written, and one of them read
ranges_read : (n k : ℕ) (p : ℕ → Range) → ((i : ℕ) → TypedRange (p i)) → k < n → range_from (bytes_of_ranges n p) (k * range_bytes) ≡ p k
unfolding bytes_of_ranges
ranges_read zero k p t h = absurd (not-suc-le-zero h)
ranges_read (suc n) k p t h =
    ⊎_elim (last_read n k p (t n)) (λ l. before_read n k p l ∙ ranges_read n k p t l) (eq-or-lt_of_le (le_of_suc-le-suc h))

-- ---- the whole report

-- a report's length is the total
pub length_report : (f : ReportFields) → f.l ≤ length f.information → length (report_bytes f) ≡ total_of f.n f.l
unfolding report_bytes
length_report f h = rw (length-append, length-append, length-append, length_head, length_ranges, length_bytes, length-take-le) (omega arith)

-- the head and the ranges; L behind them
module _ (f : ReportFields) where
  abbrev front : List ℕ
  front = head_of f ++ bytes_of_ranges f.n (field_range f)

  length_front : length front ≡ 16 + f.n * range_bytes
  length_front = rw (length-append, length_head, length_ranges)

  length_behind : length (front ++ bytes_of 4 f.l) ≡ 16 + f.n * range_bytes + 4
  length_behind = rw (length-append, length_front, length_bytes)

  -- bytes 2-3 are zero
  pub zeros_read : zeros (report_bytes f) 2 3 ≡ true
  unfolding report_bytes head_of bytes_of zeros every
  zeros_read = refl

-- each field read, if all fit
module _ (f : ReportFields) (t : Typed f) where
  -- the numbers of the head
  pub info_read : num (report_bytes f) 0 2 ≡ f.info
  unfolding report_bytes head_of bytes_of num
  info_read = omega (arith, t.info_fits)

  pub msix_read : num (report_bytes f) 4 2 ≡ f.msix
  unfolding report_bytes head_of bytes_of num
  msix_read = omega (arith, t.msix_fits)

  pub lnr_read : num (report_bytes f) 6 2 ≡ f.lnr
  unfolding report_bytes head_of bytes_of num
  lnr_read = omega (arith, t.lnr_fits)

  pub tph_read : num (report_bytes f) 8 4 ≡ f.tph
  unfolding report_bytes head_of bytes_of num
  tph_read = omega (arith, t.tph_fits)

  -- N
  pub count_read : read_count (report_bytes f) ≡ f.n
  unfolding report_bytes head_of bytes_of num
  count_read = omega (arith, t.n_fits)

  -- each range
  pub range_back : (k : ℕ) → k < f.n → read_range (report_bytes f) k ≡ field_range f k
  unfolding report_bytes
  range_back k h =
      let at = 16 + k * range_bytes in
      range_append (front f ++ bytes_of 4 f.l) (take f.l f.information) at (omega (arith, length_behind f))
      ∙ range_append (front f) (bytes_of 4 f.l) at (omega (arith, length_front f))
      ∙ range_past (head_of f) (bytes_of_ranges f.n (field_range f)) 16 (k * range_bytes) (length_head f)
      ∙ ranges_read f.n k (field_range f) t.ranges_typed h

  -- the information's length
  pub length_back : read_length (report_bytes f) ≡ f.l
  unfolding report_bytes
  length_back =
      let at = 16 + f.n * range_bytes in
      rw count_read
      (num_append (front f ++ bytes_of 4 f.l) (take f.l f.information) at 4 (omega (arith, length_behind f))
      ∙ num_last (front f) at 4 f.l (length_front f) t.l_fits)

  -- the information
  pub information_back : part (report_bytes f) (length_place (report_bytes f) + 4) f.l ≡ take f.l f.information
  unfolding report_bytes part
  information_back =
      rw (count_read, drop_at (front f ++ bytes_of 4 f.l) (take f.l f.information) (16 + f.n * range_bytes + 4) (length_behind f))
      (take-take f.l f.l f.information (omega arith))

-- ---- there and back

-- the fields of a report written
pub fields_back : (f : ReportFields) → Typed f → read_fields (report_bytes f) ≡ normal f
unfolding read_fields normal eight_ranges information_from
fields_back f t =
    let ranges : listed f.n (read_range (report_bytes f)) ≡ listed f.n (field_range f) = listed_same f.n _ _ (range_back f t) in
    rw (length_back f t, information_back f t, count_read f t, ranges, info_read f t, msix_read f t, lnr_read f t, tph_read f t)

module _ (f : ReportFields) (t : Typed f) (few : f.n ≤ most_ranges) (short : f.l ≤ most_information) where
  -- the reader's size tests, each passed
  size_read : size_number (report_bytes f) ≡ 0
  unfolding size_number
  size_read =
      let long = length_report f (omega (arith, t.information_length)) in
      let total = total_of f.n f.l in
      let least = least_report + f.n * range_bytes in
      rw (length_back f t, count_read f t, long)
      (rw (le-ltb total least_report (omega arith), le-ltb most_ranges f.n few, le-ltb total least (omega arith), le-ltb most_information f.l short, le-ltb total total (omega arith)))

-- a report written is accepted by the reader, and read gives the fields
pub read_written : (f : ReportFields) (output : ℕ) → Typed f → write_number f output ≡ 0 → (read_number (report_bytes f) ≡ 0) × (read_fields (report_bytes f) ≡ normal f)
unfolding read_number
read_written f output t e =
    let a = writer_accepts f output e in
    let content : content_number f.info f.n (read_range (report_bytes f)) ≡ 0 = content_same f.info f.n _ _ (range_back f t) ∙ a.3 in
    (rw (size_read f t a.1 a.2, zeros_read f, info_read f t, count_read f t) content, fields_back f t)
