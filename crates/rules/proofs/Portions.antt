-- A portion of a record's report, cut from the whole. Assumes nothing.
use mathlib.Core.Path.{◌≡◌, refl, sym}
use mathlib.Core.Bool.{true}
use mathlib.Core.List.{List, ◌++◌}
use Prim.Native.Nat.{ℕ, ◌+◌, ◌-◌, ◌≤◌, ◌<◌, min}
use native.Mathlib.Omega.{arith}
use lib.ListN.{length, take, drop, length-append}
use Rattle.rules.specs.Bytes.{bytes_of, blank, part, over}
use Rattle.rules.specs.Record.{Rec, information_length, record_ok}
use Rattle.rules.specs.Report.{most_report, most_portion, report_bytes, report_of, report_total, portion_length, remainder_length, portion_bytes}
use Rattle.rules.specs.Table.{record_bytes}
use Rattle.rules.proofs.Kept.{information_most}
use Rattle.rules.proofs.Listed.{length_information}
use Rattle.rules.proofs.Numbers.{length_bytes, part_append}
use Rattle.rules.proofs.Parts.{lent_part, length_part}
use Rattle.rules.proofs.ReadBack.{length_report}
use Rattle.rules.proofs.Written.{next_piece}

-- LENGTH 0 gives portion 0, and all from OFFSET on remains
pub nothing_asked : (total at : ℕ) → (portion_length total at 0 ≡ 0) × (remainder_length total at 0 ≡ total - at)
nothing_asked total at = (omega arith, omega arith)

-- what a portion takes: what was asked, of what is left
pub portion_length_lem : (r : Rec) (at asked total q p : ℕ) → total ≡ report_total r → q ≡ min (total - at) most_portion → p ≡ min asked q
    → 4 + p ≡ 4 + portion_length (report_total r) at asked
portion_length_lem r at asked total q p t q-is p-is = rw (p-is, q-is, t)

-- a portion's lengths, one behind the other
pub lengths_written : (p q : ℕ) (s : List ℕ) → over 2 (bytes_of 2 q) (over 0 (bytes_of 2 p) s) ≡ over 0 (bytes_of 2 p ++ bytes_of 2 q) s
lengths_written p q s = next_piece 0 2 (bytes_of 2 p) (bytes_of 2 q) s (over 0 (bytes_of 2 p) s) _ refl refl (omega arith) (simp length_bytes)

module _ (r : Rec) (long : length r ≡ record_bytes) (ok : record_ok r ≡ true) where
  -- the whole has its length
  pub length_of : length (report_bytes (report_of r)) ≡ report_total r
  unfolding report_of
  length_of =
      let l = information_most r ok in
      let i = length_information r 204 (information_length r) l (omega arith) in
      length_report (report_of r) (omega arith)

  -- and so does a portion's reply
  pub length_portion : (at asked : ℕ) → at ≤ report_total r → length (portion_bytes r at asked) ≡ 4 + portion_length (report_total r) at asked
  unfolding portion_bytes
  length_portion at asked h =
      let n = portion_length (report_total r) at asked in
      rw (length-append, length-append, length_bytes 2 n, length_bytes 2 (remainder_length (report_total r) at asked), length_part (report_bytes (report_of r)) at n (omega (arith, length_of)))

  -- a portion of the whole, at the front of a buffer of zeros, is a portion of the report
  abbrev whole : List ℕ
  whole = over 0 (report_bytes (report_of r)) (blank most_report)

  cut_portion : (at p : ℕ) → at + p ≤ report_total r → take (at + p - at) (drop at whole) ≡ part (report_bytes (report_of r)) at p
  unfolding over
  cut_portion at p h = rw (lent_part at p whole) (part_append (report_bytes (report_of r)) _ at p (rw length_of h))

  module _ (at asked : ℕ) where
    abbrev total : ℕ
    total = report_total r

    abbrev portion : ℕ
    portion = portion_length total at asked

    pub portion_written : (out : List ℕ) → at < total
        → over 0 (portion_bytes r at asked) out ≡ over 4 (take (at + portion - at) (drop at whole)) (over 0 (bytes_of 2 portion ++ bytes_of 2 (total - at - portion)) out)
    unfolding portion_bytes
    portion_written out inside =
        let front = over 0 (bytes_of 2 portion ++ bytes_of 2 (total - at - portion)) out in
        rw (cut_portion at portion (omega arith))
        (sym (next_piece 0 4 _ (part (report_bytes (report_of r)) at portion) out front _ refl refl (omega arith) (simp (length-append, length_bytes))))
