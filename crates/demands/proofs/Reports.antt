-- Demands 1 and 2 of reports, proved of the right reader and writer. Assumes nothing.
use Rattle.std.specs.Prelude.{if◌then◌else◌}
use mathlib.Core.Path.{◌≡◌, refl}
use mathlib.Core.Bool.{Bool, true, false, not, ◌&&◌}
use mathlib.Core.List.{List}
use Prim.Native.Nat.{ℕ, ◌+◌, ◌*◌, ◌≤◌}
use native.Mathlib.Omega.{arith}
use borrow.Author.Tests.{eq-eqb, ne_eqb, eqb-true, eqb-false}
use lib.Dec.{eqb, ltb}
use lib.ListN.{length, take, length-append, length-take}
use Rattle.rules.specs.Bytes.{Bytes, num, bits, over, zeros}
use Rattle.rules.specs.Range.{all_pages, all_attributes, never_fall, ids_of}
use Rattle.rules.specs.Report.{most_report, total_of, field_range, report_bytes, content_number, read_count, read_range, read_length, size_number, read_number, zero_fields, handed_back, write_number, written_length, written, Typed, normal}
use Rattle.rules.specs.declared.ReportFields.{ReportFields}
use Rattle.rules.proofs.Numbers.{length_bytes}
use Rattle.rules.proofs.Parts.{length_over}
use Rattle.rules.proofs.ReadBack.{length_report, read_written}
use Rattle.rules.proofs.WriteBack.{write_read}
use Rattle.rules.proofs.Writes.{writer_accepts}
use Rattle.rules.proofs.Written.{length_head, length_ranges}
use Rattle.demands.specs.Answers.{first_of}
use Rattle.demands.specs.Reports.{reader, writer, reader_lines, writer_lines, WriteFixed, ReportsFixed, ReportsSurvive}
use Rattle.demands.proofs.Lists.{front_is, rest_stays}

-- ---- demand 1: the reader

reader_number : (s : List ℕ) → read_number s ≡ first_of (reader_lines s)
unfolding read_number size_number content_number first_of
reader_number s =
    by (ltb (length s) 20) (ltb 8 n) (ltb (length s) (20 + n * 16)) (ltb 52 l) (ltb (length s) (20 + n * 16 + l)) (ltb (20 + n * 16 + l) (length s)) (zeros s 2 3)
    (eqb (bits 15 5 (num s 0 2)) 0 && all_attributes n (read_range s))
  where
    n : ℕ
    n = read_count s

    l : ℕ
    l = read_length s

    size : Bool → Bool → Bool → Bool → Bool → Bool → ℕ → ℕ
    size a b c d e f x = if a then 20 else if b then 21 else if c then 20 else if d then 21 else if e then 20 else if f then 22 else x

    rest : ℕ
    rest = if not (all_pages n (read_range s)) then 24 else if not (never_fall n (ids_of (read_range s))) then 25 else 0

    by : (a b c d e f z i : Bool)
        → (if not (eqb (size a b c d e f 0) 0) then size a b c d e f 0 else if not z then 23 else if not i then 23 else rest)
        ≡ size a b c d e f (if not (z && i) then 23 else rest)
    by true b c d e f z i = refl
    by false true c d e f z i = refl
    by false false true d e f z i = refl
    by false false false true e f z i = refl
    by false false false false true f z i = refl
    by false false false false false true z i = refl
    by false false false false false false true i = refl
    by false false false false false false false i = refl

reader_zeros : (s : List ℕ) → (read_number s ≡ 0 → ⊥) → handed_back s ≡ zero_fields
unfolding handed_back
reader_zeros s n = rw (ne_eqb (read_number s) 0 n)

-- ---- demand 1: the writer

writer_number : (f : ReportFields) (output : ℕ) → write_number f output ≡ first_of (writer_lines f output)
unfolding write_number content_number first_of
writer_number f output = refl

-- a report is no longer than its total
report_short : (f : ReportFields) → length (report_bytes f) ≤ total_of f.n f.l
unfolding report_bytes
report_short f =
    rw (length-append, length-append, length-append, length_head f, length_ranges f.n (field_range f), length_bytes 4 f.l, length-take) (omega arith)

module _ (f : ReportFields) (output : List ℕ) where
  abbrev number : ℕ
  number = write_number f (length output)

  refused : (number ≡ 0 → ⊥) → WriteFixed f output (writer f output)
  unfolding written_length written
  refused n =
      let test = ne_eqb number 0 n in
      record {
        number_is = writer_number f (length output);
        refused_length = λ z. rw test;
        refused_output = λ z. rw test;
        output_length = rw test;
        output_rest = rw test;
      }

  accepted : number ≡ 0 → WriteFixed f output (writer f output)
  unfolding written_length written
  accepted z =
      let test = eq-eqb number 0 z in
      let short = report_short f in
      let room = writer_accepts f (length output) z in
      record {
        number_is = writer_number f (length output);
        refused_length = λ n. absurd (n z);
        refused_output = λ n. absurd (n z);
        output_length = rw test (length_over 0 (report_bytes f) output (omega (arith, room.0, room.1, room.2)));
        output_rest = rw test (rest_stays (report_bytes f) output (total_of f.n f.l) short);
      }

  writer_fixed : WriteFixed f output (writer f output)
  writer_fixed = by (eqb number 0) refl
    where
      by : (b : Bool) → eqb number 0 ≡ b → WriteFixed f output (writer f output)
      by true e = accepted (eqb-true number 0 e)
      by false e = refused (eqb-false number 0 e)

-- whatever bytes and fields arrive
pub reports : ReportsFixed reader writer
reports = record { reads = λ s. record { number_is = reader_number s; refused_fields = reader_zeros s }; writes = writer_fixed }

-- ---- demand 2

-- the first bytes of what was written are the report
front_written : (f : ReportFields) (output : List ℕ) → Typed f → write_number f (length output) ≡ 0
    → take (written_length f (length output)) (written f output) ≡ report_bytes f
unfolding written_length written
front_written f output t z =
    let little = (writer_accepts f (length output) z).2 in
    let long = length_report f (omega (arith, t.information_length)) in
    rw (eq-eqb (write_number f (length output)) 0 z, ← long) (front_is (report_bytes f) output)

survives_writing : (f : ReportFields) (output : List ℕ) → Typed f → write_number f (length output) ≡ 0
    → reader (take (written_length f (length output)) (written f output)) ≡ record { number = 0; fields = normal f }
unfolding handed_back
survives_writing f output t z =
    let back = read_written f (length output) t z in
    rw (front_written f output t z, back.0, back.1)

survives_reading : (s output : List ℕ) → Bytes s → read_number s ≡ 0 → most_report ≤ length output
    → writer (handed_back s) output ≡ record { number = 0; value = length s; output = over 0 s output }
unfolding handed_back written
survives_reading s output b z room =
    let back = write_read s (length output) b z room in
    rw (eq-eqb (read_number s) 0 z, back.0, back.1, back.2)

-- both ways round
pub survive : ReportsSurvive reader writer
survive = record { written_then_read = survives_writing; read_then_written = survives_reading }
