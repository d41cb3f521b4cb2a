-- The writer's tests, one by one. Assumes nothing.
use Rattle.std.specs.Prelude.{if◌then◌else◌}
use mathlib.Core.Path.{◌≡◌, refl, sym}
use mathlib.Core.Bool.{Bool, true, false, ◌||◌}
use mathlib.Core.List.{List}
use Prim.Native.Nat.{ℕ, ◌≤◌, ◌<◌}
use native.Mathlib.Omega.{arith}
use borrow.Author.Tests.{le-ltb, ltb-false}
use lib.Dec.{ltb}
use lib.ListN.{length, take}
use Rattle.rules.specs.Bytes.{over}
use Rattle.rules.specs.Range.{most_ranges, range_in}
use Rattle.rules.specs.Record.{most_information}
use Rattle.rules.specs.Report.{most_report, total_of, field_range, report_bytes, content_number, write_number, written_length, written}
use Rattle.rules.specs.declared.ReportFields.{ReportFields}
use Rattle.rules.proofs.Sizes.{some_not_0, content_front}

-- ---- the way out of the writer's verdict where the sizes are right

pub by_fields : (f : ReportFields) (output w : ℕ) → most_report ≤ output → f.n ≤ most_ranges → f.l ≤ most_information → f.n ≡ length (take f.n f.ranges)
    → w ≡ content_number f.info (length (take f.n f.ranges)) (range_in (take f.n f.ranges)) → w ≡ write_number f output
unfolding write_number
by_fields f output w room few little long e = rw (le-ltb _ _ room, le-ltb _ _ few, le-ltb _ _ little, e) (content_front f.info f.n f.ranges long)

-- ---- what number 0 tells

tests_passed : (a b c : Bool) (x : ℕ) → (if a then 26 else if b || c then 21 else x) ≡ 0 → (a ≡ false) × (b ≡ false) × (c ≡ false) × (x ≡ 0)
tests_passed true b c x e = absurd (omega arith)
tests_passed false true c x e = absurd (omega arith)
tests_passed false false true x e = absurd (omega arith)
tests_passed false false false x e = (refl, refl, refl, e)

pub writer_accepts : (f : ReportFields) (output : ℕ) → write_number f output ≡ 0
    → (most_report ≤ output) × (f.n ≤ most_ranges) × (f.l ≤ most_information) × (content_number f.info f.n (field_range f) ≡ 0)
unfolding write_number
writer_accepts f output e =
    let p = tests_passed (ltb output most_report) (ltb most_ranges f.n) (ltb most_information f.l) (content_number f.info f.n (field_range f)) e in
    (ltb-false output most_report p.0, ltb-false most_ranges f.n p.1, ltb-false most_information f.l p.2, p.3)

-- ---- what the writer returns and leaves

module _ (f : ReportFields) (s : List ℕ) where
  module _ (no : 0 < write_number f (length s)) where
    pub no_length : written_length f (length s) ≡ 0
    unfolding written_length
    no_length = rw (some_not_0 _ no)

    pub nothing_written : written f s ≡ s
    unfolding written
    nothing_written = rw (some_not_0 _ no)

  module _ (yes : 0 ≡ write_number f (length s)) where
    pub few_ranges : f.n ≤ most_ranges
    few_ranges = (writer_accepts f (length s) (sym yes)).1

    pub little_information : f.l ≤ most_information
    little_information = (writer_accepts f (length s) (sym yes)).2

    pub room_for : most_report ≤ length s
    room_for = (writer_accepts f (length s) (sym yes)).0

    pub whole_length : written_length f (length s) ≡ total_of f.n f.l
    unfolding written_length
    whole_length = rw (← yes)

    pub whole_written : written f s ≡ over 0 (report_bytes f) s
    unfolding written
    whole_written = rw (← yes)
