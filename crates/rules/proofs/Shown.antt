-- A report is told from a record's configuration, its flags and its offset alone: not from the state, the held mark, the stream, the session or
-- the nonce. So a start leaves it. Assumes nothing.
use Rattle.std.specs.Prelude.{if◌then◌else◌}
use mathlib.Core.Path.{◌≡◌, refl, ap, sym, ◌∙◌}
use mathlib.Core.Bool.{Bool, true, false}
use mathlib.Core.List.{List}
use Prim.Native.Nat.{ℕ, ◌+◌, ◌≤◌}
use native.Mathlib.Omega.{arith}
use lib.Dec.{leb}
use lib.ListN.{length}
use Rattle.rules.specs.Bytes.{byte, num}
use Rattle.rules.specs.Lock.{signed}
use Rattle.rules.specs.Range.{eight_ranges}
use Rattle.rules.specs.Record.{Rec, flags, lock_msix, range_count, offset, information_length}
use Rattle.rules.specs.Report.{total_of, information_from, shown_range, reported_range, report_of, report_total, portion_bytes}
use Rattle.rules.specs.Request.{message, does, fails, get_report, running}
use Rattle.rules.specs.Table.{record_bytes}
use Rattle.rules.specs.declared.Range.{Range}
use Rattle.rules.specs.declared.ReportFields.{ReportFields}
use Rattle.rules.proofs.Changes.{length_running, kept_running, flags_running, offset_running}
use Rattle.rules.proofs.Configured.{Configured, in_controls, in_ranges, count_same, range_same, information_same}
use Rattle.rules.proofs.Listed.{listed_same}
use Rattle.rules.proofs.Overs.{num_same, part_same}

-- fields that are the same one by one
abbrev fields : ℕ → ℕ → ℕ → ℕ → ℕ → List Range → ℕ → List ℕ → ReportFields
fields info msix lnr tph n x l y = record { info = info; msix = msix; lnr = lnr; tph = tph; n = n; ranges = x; l = l; information = y }

fields_same : (f g : ReportFields) → f.info ≡ g.info → f.msix ≡ g.msix → f.lnr ≡ g.lnr → f.tph ≡ g.tph → f.n ≡ g.n → f.ranges ≡ g.ranges → f.l ≡ g.l
    → f.information ≡ g.information → f ≡ g
fields_same f g a b c d e h i j =
    let all : fields f.info f.msix f.lnr f.tph f.n f.ranges f.l f.information
    ≡ fields g.info g.msix g.lnr g.tph g.n g.ranges g.l g.information = rw (a, b, c, d, e, h, i, j) in
    all

-- ---- two records with the same of these

module _ (s r : Rec) (even : length s ≡ length r) (same : (k : ℕ) → Configured k → byte s k ≡ byte r k) (flags-same : flags s ≡ flags r)
    (offset-same : offset s ≡ offset r) where
  control_same : (at n : ℕ) → 10 ≤ at → at + n ≤ 24 → num s at n ≡ num r at n
  control_same at n g h = num_same s r at n (λ k l m. same k (in_controls k (omega arith) (omega arith)))

  reported_same : (j : ℕ) → reported_range s j ≡ reported_range r j
  reported_same j = ap (λ (x : Range). shown_range (signed (offset s)) (lock_msix s) x) (range_same s r same j) ∙ rw (offset-same, flags-same)

  ranges_same : eight_ranges (range_count s) (reported_range s) ≡ eight_ranges (range_count r) (reported_range r)
  unfolding eight_ranges
  ranges_same = rw (count_same s r same, listed_same (range_count r) (reported_range s) (reported_range r) (λ j h. reported_same j))

  shown_same : information_from s 204 (information_length s) ≡ information_from r 204 (information_length r)
  unfolding information_from
  shown_same =
      rw (information_same s r same, part_same s r 204 (information_length r) even (λ k g h. same k (in_ranges k (omega arith))))

  -- they have the same report
  pub report_same : report_of s ≡ report_of r
  unfolding report_of
  report_same =
      fields_same (report_of s) (report_of r)
      (rw (flags-same, control_same 12 2 (omega arith) (omega arith)))
      (rw (flags-same, control_same 14 2 (omega arith) (omega arith)))
      (control_same _ _ (omega arith) (omega arith))
      (control_same _ _ (omega arith) (omega arith))
      (count_same s r same)
      ranges_same
      (information_same s r same)
      shown_same

-- so a start leaves it
pub report_running : (r : Rec) → length r ≡ record_bytes → report_of (running r) ≡ report_of r
report_running r long =
    report_same (running r) r (length_running r long ∙ sym long) (kept_running r long) (flags_running r long) (offset_running r long)

-- ---- two records with the same report

module _ (s r : Rec) (same : report_of s ≡ report_of r) where
  -- have the same total
  pub total_same : report_total s ≡ report_total r
  unfolding report_of
  total_same = ap (λ (f : ReportFields). total_of f.n f.l) same

  -- and the same portions
  pub portion_same : (at asked : ℕ) → portion_bytes s at asked ≡ portion_bytes r at asked
  unfolding portion_bytes
  portion_same at asked = rw (same, total_same)

  -- so one that is asked for is answered alike
  pub answer_same : (q : List ℕ) → (get_report q s).reply ≡ (get_report q r).reply
  unfolding get_report
  answer_same q = rw (total_same, portion_same (num q 16 2) (num q 18 2)) (by (leb (report_total r) (num q 16 2)))
    where
      by : (b : Bool) → (if b then fails 0x01 q s else does (message 0x04 q (portion_bytes r (num q 16 2) (num q 18 2))) s).reply
          ≡ (if b then fails 0x01 q r else does (message 0x04 q (portion_bytes r (num q 16 2) (num q 18 2))) r).reply
      by true = refl
      by false = refl
