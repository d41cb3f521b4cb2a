-- A report written piece by piece. Assumes nothing.
use mathlib.Core.Path.{◌≡◌, refl, sym}
use mathlib.Core.List.{List, ◌++◌}
use Prim.Native.Nat.{ℕ, zero, suc, ◌+◌, ◌*◌, ◌≤◌, ◌<◌}
use native.Mathlib.Numerals.{add-one}
use native.Mathlib.Omega.{arith}
use lib.ListN.{length, take, length-append}
use lib.Seq.{get_or-take}
use Rattle.rules.specs.Bytes.{bytes_of, over}
use Rattle.rules.specs.Range.{range_bytes, bytes_of_range, range_in, zero_range}
use Rattle.rules.specs.Report.{bytes_of_ranges, field_range, head_of, front_of, report_bytes}
use Rattle.rules.specs.declared.Range.{Range}
use Rattle.rules.specs.declared.ReportFields.{ReportFields}
use Rattle.rules.proofs.Numbers.{length_bytes}
use Rattle.rules.proofs.Parts.{over_nothing, over_next}

-- ---- lengths

pub length_range : (x : Range) → length (bytes_of_range x) ≡ range_bytes
unfolding bytes_of_range
length_range x = simp (length-append, length_bytes)

pub length_ranges : (n : ℕ) (f : ℕ → Range) → length (bytes_of_ranges n f) ≡ n * range_bytes
unfolding bytes_of_ranges
length_ranges zero f = refl
length_ranges (suc n) f = rw (length-append, length_ranges n f, length_range (f n)) (omega arith)

pub length_head : (f : ReportFields) → length (head_of f) ≡ 16
unfolding head_of
length_head f = simp (length-append, length_bytes)

-- ---- one more piece: `b` written at the end of `a`

module _ (at m : ℕ) (a b s one two : List ℕ) where
  pub next_piece : one ≡ over at a s → two ≡ over m b one → at ≤ length s → m ≡ at + length a → two ≡ over at (a ++ b) s
  next_piece p q h e = rw (q, p, e) (over_next at (length a) a b s h refl)

-- ---- a range

pub range_written : (x : Range) (at : ℕ) (s a b c d : List ℕ) → at + range_bytes ≤ length s → a ≡ over at (bytes_of 8 x.first) s → b ≡ over (at + 8) (bytes_of 4 x.pages) a
    → c ≡ over (at + 12) (bytes_of 2 x.attributes) b → d ≡ over (at + 14) (bytes_of 2 x.id) c → d ≡ over at (bytes_of_range x) s
unfolding bytes_of_range
range_written x at s a b c d room p q r t =
    let h : at ≤ length s = omega arith in
    let one = next_piece at (at + 8) _ _ s a b p q h (simp length_bytes) in
    let two = next_piece at (at + 12) _ _ s b c one r h (simp (length-append, length_bytes)) in
    next_piece at (at + 14) _ _ s c d two t h (simp (length-append, length_bytes))

-- ---- n ranges, one after the other

-- ranges that agree below n
pub ranges_same : (n : ℕ) (p q : ℕ → Range) → ((k : ℕ) → k < n → p k ≡ q k) → bytes_of_ranges n p ≡ bytes_of_ranges n q
unfolding bytes_of_ranges
ranges_same zero p q h = refl
ranges_same (suc n) p q h = rw (ranges_same n p q (λ k l. h k (omega arith)), h n (omega arith))

-- the first n of a list, as the code passes them on
pub ranges_front : (n : ℕ) (ranges : List Range) → n ≡ length (take n ranges)
    → bytes_of_ranges (length (take n ranges)) (range_in (take n ranges)) ≡ bytes_of_ranges n (range_in ranges)
ranges_front n ranges h = rw (← h) (ranges_same n _ _ (λ k l. get_or-take n ranges k zero_range l))

module _ (f : ℕ → Range) (at : ℕ) (s : List ℕ) where
  pub ranges_none : s ≡ over at (bytes_of_ranges 0 f) s
  unfolding bytes_of_ranges
  ranges_none = sym (over_nothing at s)

  pub ranges_more : (k : ℕ) (x : Range) → at ≤ length s → x ≡ f k
      → over (at + k * range_bytes) (bytes_of_range x) (over at (bytes_of_ranges k f) s) ≡ over at (bytes_of_ranges (k + 1) f) s
  unfolding bytes_of_ranges
  ranges_more k x h e =
      rw (add-one, e) (next_piece at (at + k * range_bytes) (bytes_of_ranges k f) (bytes_of_range (f k)) s _ _ refl refl h (rw length_ranges))

-- ---- the head, and the whole

pub head_written : (f : ReportFields) (s a b c d e g : List ℕ) → a ≡ over 0 (bytes_of 2 f.info) s → b ≡ over 2 (bytes_of 2 0) a → c ≡ over 4 (bytes_of 2 f.msix) b
    → d ≡ over 6 (bytes_of 2 f.lnr) c → e ≡ over 8 (bytes_of 4 f.tph) d → g ≡ over 12 (bytes_of 4 f.n) e → g ≡ over 0 (head_of f) s
unfolding head_of bytes_of
head_written f s a b c d e g p q r t u v =
    let one = next_piece 0 2 _ _ s a b p q (omega arith) refl in
    let two = next_piece 0 4 _ _ s b c one r (omega arith) refl in
    let three = next_piece 0 6 _ _ s c d two t (omega arith) refl in
    let four = next_piece 0 8 _ _ s d e three u (omega arith) refl in
    next_piece 0 12 _ _ s e g four v (omega arith) refl

pub front_written : (f : ReportFields) (s : List ℕ) → over 16 (bytes_of_ranges f.n (field_range f)) (over 0 (head_of f) s) ≡ over 0 (front_of f) s
front_written f s = next_piece 0 16 _ _ s _ _ refl refl (omega arith) (simp length_head)

pub report_written : (f : ReportFields) (s : List ℕ)
    → over (16 + f.n * range_bytes + 4) (take f.l f.information) (over (16 + f.n * range_bytes) (bytes_of 4 f.l) (over 0 (front_of f) s)) ≡ over 0 (report_bytes f) s
unfolding report_bytes
report_written f s =
    let at = 16 + f.n * range_bytes in
    let a = over 0 (front_of f) s in
    let b = over at (bytes_of 4 f.l) a in
    let one = next_piece 0 at (front_of f) (bytes_of 4 f.l) s a b refl refl (omega arith) (simp (length-append, length_head, length_ranges) (omega arith)) in
    next_piece 0 (at + 4) _ (take f.l f.information) s b _ one refl (omega arith) (simp (length-append, length_head, length_ranges, length_bytes) (omega arith))
