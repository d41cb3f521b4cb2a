-- Demands 1 and 2 of reports, stated of any reader and writer: whatever bytes or fields arrive, the call ends with an answer that 01 fixes, and
-- a refused one leaves the output as it was; reports survive writing and reading, both ways round.
use Rattle.std.specs.Prelude.{◌≡◌, Bool, not, ◌&&◌, ◌||◌, List, [], ◌∷◌, ℕ, ◌+◌, ◌*◌, ◌≤◌, eqb, ltb, length, take, drop}
use Rattle.rules.specs.Bytes.{Bytes, num, bits, over, zeros}
use Rattle.rules.specs.Range.{all_pages, all_attributes, never_fall, ids_of}
use Rattle.rules.specs.Report.{most_report, field_range, read_count, read_range, read_length, read_number, zero_fields, handed_back, write_number, written_length, written, Typed, normal}
use Rattle.rules.specs.declared.Range.{Range}
use Rattle.rules.specs.declared.ReportFields.{ReportFields}
use Rattle.demands.specs.Answers.{Line, line, first_of}

-- ---- readers and writers

-- what a reader returns; what a writer returns, number and length, and the output afterwards
pub record Read : Type 0 where
  pub number : ℕ
  pub fields : ReportFields

pub record Wrote : Type 0 where
  pub number : ℕ
  pub value : ℕ
  pub output : List ℕ

abbrev pub Reader : Type 0
Reader = List ℕ → Read

abbrev pub Writer : Type 0
Writer = ReportFields → List ℕ → Wrote

-- the right ones: what the entries promise to return and to leave
abbrev pub reader : Reader
reader s = record { number = read_number s; fields = handed_back s }

abbrev pub writer : Writer
writer f output = record { number = write_number f (length output); value = written_length f (length output); output = written f output }

-- ---- demand 1

-- 23 a reserved bit set (`clear`: none is); 24 pages 0, or first + pages above 2^52; 25 IDs 0 to 7 that fall
abbrev pub content_lines : Bool → ℕ → (ℕ → Range) → List Line
content_lines clear n ranges = line 23 (not clear) ∷ line 24 (not (all_pages n ranges)) ∷ line 25 (not (never_fall n (ids_of ranges))) ∷ []

-- In this order: 20 under 20 bytes; 21 N over 8; 20 under 20 + 16N; 21 L over 52; 20 under 20 + 16N + L; 22 longer; 23 a reserved bit set
-- (INTERFACE_INFO 15:5, bytes 2-3, attributes 15:4); 24; 25
abbrev pub reader_lines : List ℕ → List Line
reader_lines s =
    line 20 (ltb (length s) 20)
    ∷ line 21 (ltb 8 (read_count s))
    ∷ line 20 (ltb (length s) (20 + read_count s * 16))
    ∷ line 21 (ltb 52 (read_length s))
    ∷ line 20 (ltb (length s) (20 + read_count s * 16 + read_length s))
    ∷ line 22 (ltb (20 + read_count s * 16 + read_length s) (length s))
    ∷ content_lines (zeros s 2 3 && (eqb (bits 15 5 (num s 0 2)) 0 && all_attributes (read_count s) (read_range s))) (read_count s) (read_range s)

-- 26 for a short output, tested first; 21 covers N over 8 and L over 52; 23 to 25
abbrev pub writer_lines : ReportFields → ℕ → List Line
writer_lines f output =
    line 26 (ltb output 200)
    ∷ line 21 (ltb 8 f.n || ltb 52 f.l)
    ∷ content_lines (eqb (bits 15 5 f.info) 0 && all_attributes f.n (field_range f)) f.n (field_range f)

-- Refusals hand back zeros.
pub record ReadFixed (s : List ℕ) (o : Read) : Type 0 where
  pub number_is : o.number ≡ first_of (reader_lines s)
  pub refused_fields : (o.number ≡ 0 → ⊥) → o.fields ≡ zero_fields

-- A refusal writes nothing and returns length 0; a written report leaves the rest of the output.
pub record WriteFixed (f : ReportFields) (output : List ℕ) (o : Wrote) : Type 0 where
  pub number_is : o.number ≡ first_of (writer_lines f (length output))
  pub refused_length : (o.number ≡ 0 → ⊥) → o.value ≡ 0
  pub refused_output : (o.number ≡ 0 → ⊥) → o.output ≡ output
  pub output_length : length o.output ≡ length output
  pub output_rest : drop o.value o.output ≡ drop o.value output

-- for bytes and fields of any kind, with no premise
pub record ReportsFixed (read : Reader) (write : Writer) : Type 0 where
  pub reads : (s : List ℕ) → ReadFixed s (read s)
  pub writes : (f : ReportFields) (output : List ℕ) → WriteFixed f output (write f output)

-- ---- demand 2

pub record ReportsSurvive (read : Reader) (write : Writer) : Type 0 where
  -- fields that the writer accepts: what was written is read as those fields, zero in the places past N and L
  pub written_then_read : (f : ReportFields) (output : List ℕ) → Typed f → (write f output).number ≡ 0
      → read (take (write f output).value (write f output).output) ≡ record { number = 0; fields = normal f }
  -- bytes that the reader accepts: what was read is written as those bytes, with their length
  pub read_then_written : (s output : List ℕ) → Bytes s → (read s).number ≡ 0 → most_report ≤ length output
      → write (read s).fields output ≡ record { number = 0; value = length s; output = over 0 s output }
