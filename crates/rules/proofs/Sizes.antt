-- A report's size, test by test. Assumes nothing.
use Rattle.std.specs.Prelude.{if◌then◌else◌}
use mathlib.Core.Path.{◌≡◌, refl, sym}
use mathlib.Core.Bool.{Bool, true, false, not}
use mathlib.Core.List.{List}
use Prim.Native.Nat.{ℕ, ◌+◌, ◌*◌, ◌≤◌, ◌<◌}
use native.Mathlib.Omega.{arith}
use borrow.Author.Tests.{ltb-false, eqb-true, ne_eqb}
use lib.Dec.{eqb, ltb}
use lib.ListN.{length, take}
use lib.Seq.{get_or-take}
use Rattle.rules.specs.Bytes.{num, zeros}
use Rattle.rules.specs.Range.{most_ranges, range_bytes, eight_ranges, range_in, zero_range}
use Rattle.rules.specs.Record.{most_information}
use Rattle.rules.specs.Report.{least_report, total_of, read_count, read_length, read_range, size_number, read_number, content_number, report_refusal_number, read_fields, zero_fields, handed_back}
use Rattle.rules.specs.declared.Range.{Range}
use Rattle.rules.specs.declared.ReportRefusal.{ReportRefusal}
use Rattle.rules.specs.declared.ReportRefusal.TheVariants.{Short, TooMany, Longer, Reserved, BadPages, FallingIds, SmallOutput}
use Rattle.rules.proofs.Ranges.{range_read, pages_agree, attributes_agree, ids_agree}
use Rattle.rules.proofs.Bools.{clash}

-- ---- what number 0 tells

pub record Sized (s : List ℕ) : Type 0 where
  pub few : read_count s ≤ most_ranges
  pub little : read_length s ≤ most_information
  pub exact : total_of (read_count s) (read_length s) ≡ length s

passed : (a b c d e f : Bool) → ◌≡◌ {A = ℕ} (if a then 20 else if b then 21 else if c then 20 else if d then 21 else if e then 20 else if f then 22 else 0) 0
    → (b ≡ false) × (d ≡ false) × (e ≡ false) × (f ≡ false)
passed false false false false false false h = (refl, refl, refl, refl)
passed false false false false false true h = absurd (omega arith)
passed false false false false true f h = absurd (omega arith)
passed false false false true e f h = absurd (omega arith)
passed false false true d e f h = absurd (omega arith)
passed false true c d e f h = absurd (omega arith)
passed true b c d e f h = absurd (omega arith)

pub sized : (s : List ℕ) → size_number s ≡ 0 → Sized s
unfolding size_number
sized s h =
    let n = read_count s in
    let l = read_length s in
    let t = passed (ltb (length s) least_report) (ltb most_ranges n) (ltb (length s) (least_report + n * range_bytes)) (ltb most_information l) (ltb (length s) (total_of n l)) (ltb (total_of n l) (length s)) h in
    record {
      few = ltb-false most_ranges n t.0;
      little = ltb-false most_information l t.1;
      exact = omega (arith, ltb-false (length s) (total_of n l) t.2, ltb-false (total_of n l) (length s) t.3);
    }

-- ---- verdicts and numbers

-- no reason has number 0
pub reason_some : (why : ReportRefusal) → 0 < report_refusal_number why
reason_some Short = omega arith
reason_some TooMany = omega arith
reason_some Longer = omega arith
reason_some Reserved = omega arith
reason_some BadPages = omega arith
reason_some FallingIds = omega arith
reason_some SmallOutput = omega arith

pub some_not_0 : (n : ℕ) → 0 < n → eqb n 0 ≡ false
some_not_0 n h = ne_eqb n 0 (λ (e : n ≡ 0). omega arith)

-- ---- what is in a report

-- ranges that agree below n
pub content_same : (info n : ℕ) (p q : ℕ → Range) → ((k : ℕ) → k < n → p k ≡ q k) → content_number info n p ≡ content_number info n q
unfolding content_number
content_same info n p q h = rw (attributes_agree n p q h, pages_agree n p q h, ids_agree n p q h)

-- of the first n of a list, as the code passes them on
pub content_front : (info n : ℕ) (ranges : List Range) → n ≡ length (take n ranges)
    → content_number info (length (take n ranges)) (range_in (take n ranges)) ≡ content_number info n (range_in ranges)
content_front info n ranges h = rw (← h) (content_same info n _ _ (λ k l. get_or-take n ranges k zero_range l))

-- of n that were read into eight places
pub content_eight : (info n : ℕ) (f : ℕ → Range) → content_number info n (range_in (eight_ranges n f)) ≡ content_number info n f
content_eight info n f = content_same info n _ _ (range_read (eight_ranges n f) n f refl)

-- ---- the ways out of the reader's verdict

module _ (s : List ℕ) where
  pub wrong_size : (why : ReportRefusal) → report_refusal_number why ≡ size_number s → report_refusal_number why ≡ read_number s
  unfolding read_number
  wrong_size why e = rw (← e, some_not_0 _ (reason_some why))

  module _ (right : 0 ≡ size_number s) where
    pub is_sized : Sized s
    is_sized = sized s (sym right)

    pub has_head : least_report ≤ length s
    has_head = let z = is_sized in omega arith

    pub not_zero : zeros s 2 3 ≡ false → 23 ≡ read_number s
    unfolding read_number
    not_zero e = rw (← right, e)

    pub by_content : zeros s 2 3 ≡ true → read_number s ≡ content_number (num s 0 2) (read_count s) (read_range s)
    unfolding read_number
    by_content e = rw (← right, e)

-- ---- what the reader hands back

-- the reader's tests, each passed
read_passed : (n : ℕ) (z : Bool) (m : ℕ) → (if not (eqb n 0) then n else if not z then 23 else m) ≡ 0 → (n ≡ 0) × (z ≡ true) × (m ≡ 0)
read_passed n z m e = by (eqb n 0) z refl e
  where
    by : (t u : Bool) → eqb n 0 ≡ t → (if not t then n else if not u then 23 else m) ≡ 0 → (n ≡ 0) × (u ≡ true) × (m ≡ 0)
    by true true p q = (eqb-true n 0 p, refl, q)
    by true false p q = absurd (omega arith)
    by false u p q = clash (rw q at p)

-- what the reader accepts
pub read_accepted : (s : List ℕ) → read_number s ≡ 0 → Sized s × (zeros s 2 3 ≡ true) × (content_number (num s 0 2) (read_count s) (read_range s) ≡ 0)
unfolding read_number
read_accepted s e =
    let p = read_passed (size_number s) (zeros s 2 3) (content_number (num s 0 2) (read_count s) (read_range s)) e in
    (sized s p.0, p.1, p.2)

module _ (s : List ℕ) where
  pub read_sized : 0 ≡ read_number s → Sized s
  read_sized e = (read_accepted s (sym e)).0

  pub handed_fields : 0 ≡ read_number s → handed_back s ≡ read_fields s
  unfolding handed_back
  handed_fields e = rw (← e)

  pub handed_zeros : 0 < read_number s → handed_back s ≡ zero_fields
  unfolding handed_back
  handed_zeros h = rw (some_not_0 _ h)
