-- A portion behind the header.
use Rattle.std.proofs.Common.{◌≡◌, true, List, ℕ, ◌+◌, ◌-◌, ◌<◌, length, take, drop, arith, length-append}
use borrow.Author.Tests.{lt-leb}
use borrow.Rule.Slice.PartMut.{put_mid}
use Rattle.rules.specs.Bytes.{num, over}
use Rattle.rules.specs.Record.{Rec, record_ok}
use Rattle.rules.specs.Report.{report_bytes, report_of, report_total, portion_length, portion_bytes}
use Rattle.rules.specs.Request.{header, get_report}
use Rattle.rules.specs.Table.{record_bytes}
use Rattle.rules.proofs.Messages.{message_length, message_written}
use Rattle.rules.proofs.Numbers.{length_bytes}
use Rattle.rules.proofs.Parts.{length_part}
use Rattle.rules.proofs.Portions.{length_of}
use Rattle.replies.specs.Replies.{Replies}
use Rattle.handlers.proofs.Lent.{tail_back}
use Rattle.handlers.proofs.get.get_report.Goals as goal

module _ (r : Rec) (long : length r ≡ record_bytes) (ok : record_ok r ≡ true) (at asked : ℕ) where
  length_portion : at < report_total r → length (portion_bytes r at asked) ≡ 4 + portion_length (report_total r) at asked
  unfolding portion_bytes
  length_portion inside =
      let whole = length_of r long ok in
      let cut = length_part (report_bytes (report_of r)) at (portion_length (report_total r) at asked) (omega arith) in
      simp (length-append, length_bytes, cut)

  a_portion : (q p one x : List ℕ) (total n : ℕ) → total ≡ report_total r → at < total → at ≡ num q 16 2 → asked ≡ num q 18 2 → length (header 0x04 q) ≡ 16
      → one ≡ over 0 (header 0x04 q) p → n ≡ 4 + portion_length (report_total r) at asked → x ≡ over 0 (portion_bytes r at asked) (take (length one - 16) (drop 16 one))
      → Replies (get_report q r).reply (16 + n) p (put_mid 16 (length one - 16) one x)
  unfolding get_report
  a_portion q p one x total n total_is h at-is asked-is head one-is n-is x-is =
      let inside : at < report_total r = omega arith in
      let bytes = portion_bytes r at asked in
      rw (← at-is, ← asked-is, lt-leb (report_total r) at inside)
      (record {
        length_is = rw (← message_length 0x04 q bytes head, length_portion inside, n-is);
        bytes_are = message_written 0x04 q bytes head p one _ one-is (tail_back 16 bytes one x x-is);
      })

pub returns : goal.returns
returns c =
    let at_is : c.from-at.result ≡ num c.args.request.now 16 2 = cc in
    let asked_is : c.from-asked.result ≡ num c.args.request.now 18 2 = cc in
    search a_portion
