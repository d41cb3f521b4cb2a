-- Document 01, "Report" and "Report reader".
use Rattle.std.specs.Prelude.{◌≡◌, Bool, not, ◌&&◌, ◌||◌, List, [], ◌++◌, ℕ, zero, suc, ◌+◌, ◌-◌, ◌*◌, ◌/◌, ◌^◌, ◌<◌, min, eqb, ltb, ℤ, length, take, replicate, Option, Some, None, Result, Ok, Err, if◌then◌else◌}
use Rattle.rules.specs.Bytes.{Bytes, num, bytes_of, bits, blank, part, over, zeros}
use Rattle.rules.specs.Lock.{signed, shifted}
use Rattle.rules.specs.Range.{most_ranges, range_bytes, ranges_from, bytes_of_range, zero_range, eight_ranges, range_in, all_pages, all_attributes, never_fall, ids_of}
use Rattle.rules.specs.Record.{Rec, most_information, no_fw_update, lock_msix, interface_info, msix_control, lnr_control, tph_control, offset, range_count, range_of, information_length}
use Rattle.rules.specs.Table.{number_or_0}
use Rattle.rules.specs.declared.Range.{Range}
use Rattle.rules.specs.declared.ReportFields.{ReportFields}
use Rattle.rules.specs.declared.ReportRefusal.{ReportRefusal}
use Rattle.rules.specs.declared.ReportRefusal.TheVariants.{Short, TooMany, Longer, Reserved, BadPages, FallingIds, SmallOutput}

-- this paper's numbers
abbrev pub report_refusal_number : ReportRefusal → ℕ
report_refusal_number Short = 20
report_refusal_number TooMany = 21
report_refusal_number Longer = 22
report_refusal_number Reserved = 23
report_refusal_number BadPages = 24
report_refusal_number FallingIds = 25
report_refusal_number SmallOutput = 26

-- 0 where a report is accepted
abbrev pub report_number : {T : Type 0} → Result T ReportRefusal → ℕ
report_number = number_or_0 report_refusal_number

-- Total is 20 + 16N + L, at most 200.
abbrev pub least_report : ℕ
least_report = 20

abbrev pub most_report : ℕ
most_report = 200

abbrev pub total_of : ℕ → ℕ → ℕ
total_of n l = least_report + n * range_bytes + l

-- ---- the bytes of a report

-- 52 bytes, of which those l from a place on count: places past them zero
unfoldable pub information_from : List ℕ → ℕ → ℕ → List ℕ
information_from s at l = part s at l ++ blank (most_information - l)

-- N ranges
unfoldable pub bytes_of_ranges : ℕ → (ℕ → Range) → List ℕ
bytes_of_ranges zero ranges = []
bytes_of_ranges (suc n) ranges = bytes_of_ranges n ranges ++ bytes_of_range (ranges n)

-- range k of some fields
abbrev pub field_range : ReportFields → ℕ → Range
field_range f k = range_in f.ranges k

-- INTERFACE_INFO, two zero bytes, MSI-X control, LNR, TPH, N in 4 bytes,
unfoldable pub head_of : ReportFields → List ℕ
head_of f =
    bytes_of 2 f.info ++ blank 2 ++ bytes_of 2 f.msix ++ bytes_of 2 f.lnr ++ bytes_of 4 f.tph ++ bytes_of 4 f.n

-- N ranges,
abbrev pub front_of : ReportFields → List ℕ
front_of f = head_of f ++ bytes_of_ranges f.n (field_range f)

-- L in 4 bytes, information
unfoldable pub report_bytes : ReportFields → List ℕ
report_bytes f = front_of f ++ bytes_of 4 f.l ++ take f.l f.information

-- ---- what is in a report: 23 to 25

-- 23 a reserved bit set (INTERFACE_INFO 15:5, attributes 15:4); 24 pages 0, or first + pages above 2^52; 25 IDs 0 to 7 that fall
unfoldable pub content_number : ℕ → ℕ → (ℕ → Range) → ℕ
content_number info n ranges =
    if not (eqb (bits 15 5 info) 0 && all_attributes n ranges) then 23
    else if not (all_pages n ranges) then 24
    else if not (never_fall n (ids_of ranges)) then 25
    else 0

-- ---- the reader

-- where N and the ranges stand, and L behind the ranges
abbrev pub read_count : List ℕ → ℕ
read_count s = num s 12 4

abbrev pub read_range : List ℕ → ℕ → Range
read_range s k = ranges_from s 16 k

abbrev pub length_place : List ℕ → ℕ
length_place s = 16 + read_count s * range_bytes

abbrev pub read_length : List ℕ → ℕ
read_length s = num s (length_place s) 4

-- 20 under 20 bytes; 21 N over 8; 20 under 20 + 16N; 21 L over 52; 20 under 20 + 16N + L; 22 longer;
unfoldable pub size_number : List ℕ → ℕ
size_number s =
    if ltb (length s) least_report then 20
    else if ltb most_ranges (read_count s) then 21
    else if ltb (length s) (least_report + read_count s * range_bytes) then 20
    else if ltb most_information (read_length s) then 21
    else if ltb (length s) (total_of (read_count s) (read_length s)) then 20
    else if ltb (total_of (read_count s) (read_length s)) (length s) then 22
    else 0

-- 23 a reserved bit set (bytes 2-3 too), and then what is in the report
unfoldable pub read_number : List ℕ → ℕ
read_number s =
    if not (eqb (size_number s) 0) then size_number s
    else if not (zeros s 2 3) then 23
    else content_number (num s 0 2) (read_count s) (read_range s)

-- all fields, N ranges, and L bytes, places past them zero
unfoldable pub read_fields : List ℕ → ReportFields
read_fields s = record {
  info = num s 0 2;
  msix = num s 4 2;
  lnr = num s 6 2;
  tph = num s 8 4;
  n = read_count s;
  ranges = eight_ranges (read_count s) (read_range s);
  l = read_length s;
  information = information_from s (length_place s + 4) (read_length s);
}

abbrev pub zero_fields : ReportFields
zero_fields = record {
  info = 0;
  msix = 0;
  lnr = 0;
  tph = 0;
  n = 0;
  ranges = replicate most_ranges zero_range;
  l = 0;
  information = blank most_information;
}

-- Refusals hand back zeros.
unfoldable pub handed_back : List ℕ → ReportFields
handed_back s = if eqb (read_number s) 0 then read_fields s else zero_fields

-- what a reader's result hands back: its fields, or zeros beside a refusal
abbrev pub fields_or_0 : Result ReportFields ReportRefusal → ReportFields
fields_or_0 (Ok f) = f
fields_or_0 (Err why) = zero_fields

-- ---- the writer

-- 26 for a short output, tested first; 21 covers N over 8 and L over 52; then 23 to 25
unfoldable pub write_number : ReportFields → ℕ → ℕ
write_number f output =
    if ltb output most_report then 26
    else if ltb most_ranges f.n || ltb most_information f.l then 21
    else content_number f.info f.n (field_range f)

-- A written report's length is returned and the rest of the output stays; a refusal writes nothing and returns length 0.
unfoldable pub written_length : ReportFields → ℕ → ℕ
written_length f output = if eqb (write_number f output) 0 then total_of f.n f.l else 0

-- the length that a writer's result returns
abbrev pub value_or_0 : {E : Type 0} → Result ℕ E → ℕ
value_or_0 (Ok n) = n
value_or_0 (Err why) = 0

unfoldable pub written : ReportFields → List ℕ → List ℕ
written f output = if eqb (write_number f (length output)) 0 then over 0 (report_bytes f) output else output

-- Fields as the code's types hold them: a range's numbers fit their widths,
pub record TypedRange (x : Range) : Type 0 where
  pub first_fits : x.first < 2 ^ 64
  pub pages_fit : x.pages < 2 ^ 32
  pub attributes_fit : x.attributes < 2 ^ 16
  pub id_fits : x.id < 2 ^ 16

-- and so do all fields; there are eight ranges and 52 bytes of information.
pub record Typed (f : ReportFields) : Type 0 where
  pub info_fits : f.info < 2 ^ 16
  pub msix_fits : f.msix < 2 ^ 16
  pub lnr_fits : f.lnr < 2 ^ 16
  pub tph_fits : f.tph < 2 ^ 32
  pub n_fits : f.n < 2 ^ 32
  pub l_fits : f.l < 2 ^ 32
  pub ranges_typed : (k : ℕ) → TypedRange (field_range f k)
  pub ranges_length : length f.ranges ≡ most_ranges
  pub information_length : length f.information ≡ most_information
  pub information_typed : Bytes f.information

-- The round trip is of these: fields with zero in the places past N and L.
unfoldable pub normal : ReportFields → ReportFields
normal f = record {
  info = f.info;
  msix = f.msix;
  lnr = f.lnr;
  tph = f.tph;
  n = f.n;
  ranges = eight_ranges f.n (field_range f);
  l = f.l;
  information = take f.l f.information ++ blank (most_information - f.l);
}

-- ---- the report of a record

-- with shifted first page
abbrev pub page_of : Option ℕ → ℕ
page_of (Some first) = first
page_of None = 0

-- Attribute bits 0 and 1 are cleared unless LOCK_MSIX.
abbrev pub shown_attributes : Bool → ℕ → ℕ
shown_attributes msix a = if msix then a else a / 4 * 4

abbrev pub shown_range : ℤ → Bool → Range → Range
shown_range offset msix range = record {
  first = page_of (shifted offset range);
  pages = range.pages;
  attributes = shown_attributes msix range.attributes;
  id = range.id;
}

abbrev pub reported_range : Rec → ℕ → Range
reported_range r k = shown_range (signed (offset r)) (lock_msix r) (range_of r k)

-- INTERFACE_INFO with bit 0 from NO_FW_UPDATE, MSI-X control (0 unless LOCK_MSIX), LNR, TPH, N, the ranges, L, information
unfoldable pub report_of : Rec → ReportFields
report_of r = record {
  info = interface_info r / 2 * 2 + no_fw_update r;
  msix = if lock_msix r then msix_control r else 0;
  lnr = lnr_control r;
  tph = tph_control r;
  n = range_count r;
  ranges = eight_ranges (range_count r) (reported_range r);
  l = information_length r;
  information = information_from r 204 (information_length r);
}

-- ---- a portion of it

-- The portion is the least of LENGTH, total - OFFSET and 128;
abbrev pub most_portion : ℕ
most_portion = 128

abbrev pub report_total : Rec → ℕ
report_total r = total_of (range_count r) (information_length r)

abbrev pub portion_length : ℕ → ℕ → ℕ → ℕ
portion_length total at asked = min asked (min (total - at) most_portion)

-- The remainder is total - OFFSET - portion.
abbrev pub remainder_length : ℕ → ℕ → ℕ → ℕ
remainder_length total at asked = total - at - portion_length total at asked

-- portion length 2, remainder length 2, bytes
unfoldable pub portion_bytes : Rec → ℕ → ℕ → List ℕ
portion_bytes r at asked =
    bytes_of 2 (portion_length (report_total r) at asked)
    ++ bytes_of 2 (remainder_length (report_total r) at asked)
    ++ part (report_bytes (report_of r)) at (portion_length (report_total r) at asked)
