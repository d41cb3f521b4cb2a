-- Lengths fit 32 bits. Assumes nothing.
use Rattle.std.proofs.Common.{◌≡◌, refl, Bool, true, false, ℕ, ◌≤◌, eqb, arith}
use Rattle.std.specs.Prelude.{if◌then◌else◌}
use borrow.Author.Tests.{eqb-true}
use Rattle.rules.specs.Report.{total_of, write_number, written_length}
use Rattle.rules.specs.declared.ReportFields.{ReportFields}
use Rattle.rules.proofs.Writes.{writer_accepts}

-- a written report's: at most 200 bytes
pub report_fits : (f : ReportFields) (output : ℕ) → written_length f output ≤ 200
unfolding written_length
report_fits f output = by (eqb (write_number f output) 0) refl
  where
    by : (b : Bool) → eqb (write_number f output) 0 ≡ b → (if b then total_of f.n f.l else 0) ≤ 200
    by true e = let a = writer_accepts f output (eqb-true (write_number f output) 0 e) in omega (arith, a.1, a.2)
    by false e = omega arith
