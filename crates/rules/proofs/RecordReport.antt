-- The report of every record that keeps its rules in state 1 or 2 is accepted by the reader. Assumes nothing.
use Rattle.std.specs.Prelude.{if◌then◌else◌, None, Option, Some}
use Rattle.std.specs.Option.{unwrap_or}
use mathlib.Core.Path.{◌≡◌, refl, sym, ap, ◌∙◌}
use mathlib.Core.Bool.{Bool, true, false, ◌&&◌}
use mathlib.Core.List.{List}
use mathlib.Core.Logic.{◌⊎◌, inl, inr}
use Prim.Native.Nat.{ℕ, ◌+◌, ◌-◌, ◌*◌, ◌/◌, ◌^◌, ◌≤◌, ◌<◌}
use native.Mathlib.Omega.{arith}
use lib.Dec.{eqb, leb, ltb}
use lib.IntN.{ℤ, pos, negsuc, ◌+ℤ◌}
use lib.Signed.{quot_z}
use lib.ListN.{length, get_or, take}
use lib.Seq.{take_at, get_or-take}
use borrow.Author.Tests.{leb-true, le-leb, ltb-true, ltb-false, le-ltb, eqb-true, eq-eqb}
use Rattle.rules.specs.Bytes.{Bytes, bits, bit, bit_clear, blank, part}
use Rattle.rules.specs.Lock.{contains, signed, page_bytes, whole_pages, fitted, shifted, stays, all_stay}
use Rattle.rules.specs.Range.{most_ranges, range_bytes, eight_ranges, range_in, pages_end, zero_range, pages_ok, attributes_ok}
use Rattle.rules.specs.Record.{Rec, state, flags, lock_msix, range_count, interface_info, msix_control, lnr_control, tph_control, offset, most_information, ranges_place, range_of, information_length, flags_ok, offset_ok, lock_ok, record_ok}
use Rattle.rules.specs.Report.{most_report, information_from, field_range, report_bytes, content_number, read_number, handed_back, write_number, normal, page_of, shown_attributes, shown_range, reported_range, report_of, TypedRange, Typed}
use Rattle.rules.specs.Table.{record_bytes}
use Rattle.rules.specs.declared.Range.{Range}
use Rattle.rules.specs.declared.ReportFields.{ReportFields}
use Rattle.rules.proofs.Bits.{lock_msix_bit}
use Rattle.rules.proofs.Bools.{clash, and_left, and_right}
use Rattle.rules.proofs.Every.{every_at, every_true}
use Rattle.rules.proofs.Kept.{keeps, count_most, information_most}
use Rattle.rules.proofs.Listed.{listed_same, eight_at, eight_past, length_eight, bytes_information, length_information}
use Rattle.rules.proofs.Numbers.{num_lt}
use Rattle.rules.proofs.Parts.{length_part}
use Rattle.rules.proofs.Ranges.{range_read, pages_ok_lem, attributes_ok_lem, ids_ok}
use Rattle.rules.proofs.ReadBack.{read_written}
use Rattle.rules.proofs.Sizes.{content_same}

-- ---- a shifted page

pub page_is : (x : Option ℕ) → unwrap_or x 0 ≡ page_of x
page_is (Some first) = refl
page_is None = refl

-- a page is at most where the pages end
page_most : (z : ℤ) (pages : ℕ) → page_of (fitted z pages) ≤ pages_end
page_most (pos page) pages = go (leb (page + pages) pages_end) refl
  where
    go : (b : Bool) → leb (page + pages) pages_end ≡ b → page_of (if b then Some page else None) ≤ pages_end
    go true e = omega (arith, leb-true (page + pages) pages_end e)
    go false e = omega arith
page_most (negsuc below) pages = omega arith

-- a page that stays is the sum z, and the range ends where the pages end or before
abbrev Stayed : ℤ → ℕ → Option ℕ → Type 0
Stayed z pages x = (pos (page_of x) ≡ z) × (page_of x + pages ≤ pages_end)

page_stays : (z : ℤ) (pages : ℕ) → stays (fitted z pages) ≡ true → Stayed z pages (fitted z pages)
page_stays (pos page) pages = go (leb (page + pages) pages_end) refl
  where
    go : (b : Bool) → leb (page + pages) pages_end ≡ b → stays (if b then Some page else None) ≡ true → Stayed (pos page) pages (if b then Some page else None)
    go true e s = (refl, leb-true (page + pages) pages_end e)
    go false e s = clash (sym s)
page_stays (negsuc below) pages = λ s. clash (sym s)

abbrev moved : ℤ → Range → ℤ
moved o x = pos x.first +ℤ quot_z o (pos page_bytes)

-- the same of a range's first page moved by an offset
shifted_stays : (o : ℤ) (x : Range) → stays (shifted o x) ≡ true → Stayed (moved o x) x.pages (shifted o x)
unfolding shifted
shifted_stays o x e = page_stays (moved o x) x.pages e

shifted_most : (o : ℤ) (x : Range) → page_of (shifted o x) ≤ pages_end
unfolding shifted
shifted_most o x = page_most (moved o x) x.pages

-- ---- what is shown

-- attributes shown are at most the record's, and bits 15:4 stay zero
shown_most : (m : Bool) (a : ℕ) → shown_attributes m a ≤ a
shown_most true a = omega arith
shown_most false a = omega arith

shown_bits : (m : Bool) (a : ℕ) → eqb (bits 15 4 a) 0 ≡ true → eqb (bits 15 4 (shown_attributes m a)) 0 ≡ true
shown_bits true a e = e
shown_bits false a e = eq-eqb (bits 15 4 (a / 4 * 4)) 0 (omega (arith, eqb-true (bits 15 4 a) 0 e))

-- MSI-X control shown is at most the record's
msix_most : (m : Bool) (x : ℕ) → (if m then x else 0) ≤ x
msix_most true x = omega arith
msix_most false x = omega arith

-- INTERFACE_INFO with another bit 0 keeps bits 15:5 zero
info_bits : (x y : ℕ) → x < 2 ^ 16 → eqb (bits 15 5 x) 0 ≡ true → eqb (bits 15 5 (x / 2 * 2 + bit 0 y)) 0 ≡ true
info_bits x y h e = eq-eqb (bits 15 5 (x / 2 * 2 + bit 0 y)) 0 (omega (arith, eqb-true (bits 15 5 x) 0 e))

-- ---- the record's report

-- in states 1 and 2 the lock's rules hold
locked : (r : Rec) → lock_ok r ≡ true → (state r ≡ 1) ⊎ (state r ≡ 2) → flags_ok (flags r) && offset_ok r (offset r) ≡ true
unfolding lock_ok
locked r h (inl e) = rw e at h
locked r h (inr e) = rw e at h

module _ (r : Rec) (long : length r ≡ record_bytes) (b : Bytes r) (ok : record_ok r ≡ true) (s : (state r ≡ 1) ⊎ (state r ≡ 2)) where
  -- each range stays, with the offset
  stays_at : (k : ℕ) → k < range_count r → stays (shifted (signed (offset r)) (range_of r k)) ≡ true
  unfolding offset_ok
  stays_at k h =
      let o = and_right (flags_ok (flags r)) (offset_ok r (offset r)) (locked r (keeps r ok).lock_ok s) in
      every_at _ (range_count r) k (and_right (whole_pages (signed (offset r))) (all_stay (signed (offset r)) (range_count r) (range_of r)) o) h

  -- each range of the report fits, and zero past them does
  range_typed : (k : ℕ) → TypedRange (reported_range r k)
  range_typed k = record {
    first_fits = omega (arith, shifted_most (signed (offset r)) (range_of r k));
    pages_fit = num_lt r _ 4 b;
    attributes_fit = omega (arith, shown_most (lock_msix r) (range_of r k).attributes, num_lt r (ranges_place + k * range_bytes + 12) 2 b);
    id_fits = num_lt r _ 2 b;
  }

  field_typed : (k : ℕ) → TypedRange (field_range (report_of r) k)
  unfolding report_of
  field_typed k = go (ltb k (range_count r)) refl
    where
      go : (t : Bool) → ltb k (range_count r) ≡ t → TypedRange (get_or (eight_ranges (range_count r) (reported_range r)) k zero_range)
      go true e = rw (eight_at _ k _ (ltb-true k (range_count r) e)) (range_typed k)
      go false e = rw (eight_past _ k _ (ltb-false k (range_count r) e)) (record { first_fits = omega arith; pages_fit = omega arith; attributes_fit = omega arith; id_fits = omega arith })

  -- the report's fields fit their widths
  pub report_typed : Typed (report_of r)
  unfolding report_of
  report_typed = record {
    info_fits = omega (arith, num_lt r 12 2 b);
    msix_fits = omega (arith, msix_most (lock_msix r) (msix_control r), num_lt r 14 2 b);
    lnr_fits = num_lt r _ 2 b;
    tph_fits = num_lt r _ 4 b;
    n_fits = omega (arith, count_most r ok);
    l_fits = num_lt r 200 4 b;
    ranges_typed = field_typed;
    ranges_length = length_eight (range_count r) (reported_range r) (count_most r ok);
    information_length = length_information r 204 (information_length r) (information_most r ok) (omega (arith, information_most r ok));
    information_typed = bytes_information r 204 (information_length r) b;
  }

  -- the ranges of the report keep their rules
  pages_shown : (k : ℕ) → k < range_count r → pages_ok (reported_range r k) ≡ true
  unfolding pages_ok
  pages_shown k h =
      let x = range_of r k in
      let one = and_left (leb 1 x.pages) _ (every_at _ (range_count r) k (pages_ok_lem r (keeps r ok).ranges_ok) h) in
      rw (one, le-leb _ pages_end (shifted_stays (signed (offset r)) x (stays_at k h)).1)

  attributes_shown : (k : ℕ) → k < range_count r → attributes_ok (reported_range r k) ≡ true
  unfolding attributes_ok
  attributes_shown k h = shown_bits (lock_msix r) (range_of r k).attributes (every_at _ (range_count r) k (attributes_ok_lem r (keeps r ok).ranges_ok) h)

  -- so nothing in the report is refused
  content_kept : content_number (report_of r).info (range_count r) (reported_range r) ≡ 0
  unfolding content_number report_of
  content_kept =
      let x = interface_info r in
      let i = info_bits x (flags r) (num_lt r 12 2 b) (and_right (bit_clear 0 x) (eqb (bits 15 5 x) 0) (keeps r ok).interface_ok) in
      rw (i, every_true _ (range_count r) attributes_shown, every_true _ (range_count r) pages_shown, ids_ok r (keeps r ok).ranges_ok)

  field_shown : (k : ℕ) → k < range_count r → field_range (report_of r) k ≡ reported_range r k
  unfolding report_of
  field_shown k h = eight_at (range_count r) k (reported_range r) h

  -- the writer accepts the fields
  write_kept : write_number (report_of r) most_report ≡ 0
  unfolding write_number report_of
  write_kept =
      rw (le-ltb most_ranges (range_count r) (count_most r ok), le-ltb most_information (information_length r) (information_most r ok))
      (content_same (report_of r).info (range_count r) (field_range (report_of r)) (reported_range r) field_shown ∙ content_kept)

  -- the reader accepts the report
  pub record_accepted : read_number (report_bytes (report_of r)) ≡ 0
  record_accepted = (read_written (report_of r) most_report report_typed write_kept).0

  -- and hands back its fields: places past N and L are zero in them as they are
  record_normal : normal (report_of r) ≡ report_of r
  unfolding normal report_of eight_ranges information_from
  record_normal =
      let l = information_length r in
      let fits : 204 + l ≤ length r = omega (arith, information_most r ok) in
      rw (listed_same (range_count r) _ _ field_shown, take_at (part r 204 l) (blank (most_information - l)) l (length_part r 204 l fits))

  pub record_fields : handed_back (report_bytes (report_of r)) ≡ report_of r
  unfolding handed_back
  record_fields =
      rw (eq-eqb (read_number (report_bytes (report_of r))) 0 record_accepted)
      ((read_written (report_of r) most_report report_typed write_kept).1 ∙ record_normal)

  -- its pages are the record's, moved by the offset
  pub record_pages : (k : ℕ) → k < range_count r → pos (field_range (report_of r) k).first ≡ pos (range_of r k).first +ℤ quot_z (signed (offset r)) (pos page_bytes)
  record_pages k h =
      ap (λ (x : Range). pos x.first) (field_shown k h) ∙ (shifted_stays (signed (offset r)) (range_of r k) (stays_at k h)).0

-- ---- the fields, from what is read of the record

module _ (r : Rec) (flag x info control n l : ℕ) (msix : Bool) (raw : List Range) (flag_is : flag ≡ flags r) (msix-is : msix ≡ contains flag 4) (n-is : n ≡ range_count r) where
  msix_told : msix ≡ lock_msix r
  msix_told = rw (msix-is, flag_is) (lock_msix_bit (flags r))

  ranges_told : (shown : List Range) → x ≡ offset r → raw ≡ eight_ranges n (range_of r) → n ≡ length (take n raw)
      → shown ≡ eight_ranges (length (take n raw)) (λ k. shown_range (signed x) msix (range_in (take n raw) k))
      → shown ≡ eight_ranges (range_count r) (reported_range r)
  unfolding eight_ranges
  ranges_told shown x-is raw_is n-long shown-is =
      let same : (k : ℕ) → k < n → shown_range (signed x) msix (range_in (take n raw) k) ≡ reported_range r k =
      λ k h. rw (get_or-take n raw k zero_range h, range_read raw n (range_of r) raw_is k h, x-is, msix_told) in
      rw (← n-is, shown-is, ← n-long, listed_same n _ _ same)

  pub fields_told : (i m lnr tph : ℕ) (shown : List Range) (information : List ℕ)
      → l ≡ information_length r
      → x ≡ offset r
      → raw ≡ eight_ranges n (range_of r)
      → n ≡ length (take n raw)
      → shown ≡ eight_ranges (length (take n raw)) (λ k. shown_range (signed x) msix (range_in (take n raw) k))
      → information ≡ information_from r 204 l
      → info ≡ interface_info r
      → i ≡ info / 2 * 2 + bit 0 flag
      → control ≡ msix_control r
      → m ≡ (if msix then control else 0)
      → lnr ≡ lnr_control r
      → tph ≡ tph_control r
      → ◌≡◌ {A = ReportFields} (record { info = i; msix = m; lnr = lnr; tph = tph; n = n; ranges = shown; l = l; information = information }) (report_of r)
  unfolding report_of
  fields_told i m lnr tph shown information l-is x-is raw_is n-long shown-is information-is info-is i-is control-is m-is lnr-is tph-is =
      rw (ranges_told shown x-is raw_is n-long shown-is, information-is, l-is, i-is, info-is, flag_is, m-is, control-is, msix_told, lnr-is, tph-is, n-is)
