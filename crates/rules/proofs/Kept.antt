-- What a record that keeps its rules keeps, rule by rule. Assumes nothing.
use mathlib.Core.Path.{◌≡◌, ◌∙◌}
use mathlib.Core.Bool.{true, ◌&&◌}
use mathlib.Core.List.{List}
use Prim.Native.Nat.{ℕ, ◌≤◌, ◌<◌}
use borrow.Author.Tests.{leb-true}
use lib.Dec.{eqb, leb}
use lib.ListN.{length, take}
use lib.Seq.{get_or-take}
use Rattle.rules.specs.Bytes.{byte, Bytes}
use Rattle.rules.specs.Identity.{same}
use Rattle.rules.specs.Range.{most_ranges, eight_ranges, range_in, zero_range, all_pages}
use Rattle.rules.specs.Record.{Rec, most_information, function_id, range_count, range_of, information_length, identity_ok, state_ok, nonce_ok, count_ok, interface_ok, unused_ok, lock_ok, ranges_ok, information_ok, record_ok}
use Rattle.rules.specs.Table.{identity}
use Rattle.rules.specs.declared.Range.{Range}
use Rattle.rules.proofs.Bools.{and_left, and_right}
use Rattle.rules.proofs.Identities.{same_equal}
use Rattle.rules.proofs.Numbers.{num_lt}
use Rattle.rules.proofs.Ranges.{range_read, pages_agree, pages_ok_lem}

pub record Keeps (r : Rec) : Type 0 where
  pub identity_ok : identity_ok (function_id r) ≡ true
  pub state_ok : state_ok r ≡ true
  pub nonce_ok : nonce_ok r ≡ true
  pub count_ok : count_ok r ≡ true
  pub interface_ok : interface_ok r ≡ true
  pub unused_ok : unused_ok r ≡ true
  pub lock_ok : lock_ok r ≡ true
  pub ranges_ok : ranges_ok r ≡ true
  pub information_ok : information_ok r ≡ true

pub keeps : (r : Rec) → record_ok r ≡ true → Keeps r
unfolding record_ok
keeps r e =
    let a = identity_ok (function_id r) in
    let b = a && state_ok r in
    let c = b && nonce_ok r in
    let d = c && count_ok r in
    let f = d && interface_ok r in
    let g = f && unused_ok r in
    let h = g && lock_ok r in
    let i = h && ranges_ok r in
    let i-ok = and_left i (information_ok r) e in
    let h-ok = and_left h (ranges_ok r) i-ok in
    let g-ok = and_left g (lock_ok r) h-ok in
    let f-ok = and_left f (unused_ok r) g-ok in
    let d-ok = and_left d (interface_ok r) f-ok in
    let c-ok = and_left c (count_ok r) d-ok in
    let b-ok = and_left b (nonce_ok r) c-ok in
    record {
      identity_ok = and_left a (state_ok r) b-ok;
      state_ok = and_right a (state_ok r) b-ok;
      nonce_ok = and_right b (nonce_ok r) c-ok;
      count_ok = and_right c (count_ok r) d-ok;
      interface_ok = and_right d (interface_ok r) f-ok;
      unused_ok = and_right f (unused_ok r) g-ok;
      lock_ok = and_right g (lock_ok r) h-ok;
      ranges_ok = and_right h (ranges_ok r) i-ok;
      information_ok = and_right i (information_ok r) e;
    }

module _ (r : Rec) (ok : record_ok r ≡ true) where
  pub ranges_kept : ranges_ok r ≡ true
  ranges_kept = (keeps r ok).ranges_ok

  -- at most eight ranges, and at most 52 bytes of information
  pub count_most : range_count r ≤ most_ranges
  count_most = leb-true (range_count r) most_ranges (and_left (leb (range_count r) most_ranges) (eqb (byte r 11) 0) (keeps r ok).count_ok)

  pub information_most : information_length r ≤ most_information
  unfolding information_ok
  information_most = leb-true (information_length r) most_information (and_left (leb (information_length r) most_information) _ (keeps r ok).information_ok)

  -- and the pages of the ranges keep their rule, once read and passed on
  pub pages_known : (n : ℕ) (ranges : List Range) → n ≡ range_count r → ranges ≡ eight_ranges n (range_of r) → n ≡ length (take n ranges)
      → all_pages (length (take n ranges)) (range_in (take n ranges)) ≡ true
  pages_known n ranges p e long =
      let same : (k : ℕ) → k < n → range_in (take n ranges) k ≡ range_of r k = λ k h. get_or-take n ranges k zero_range h ∙ range_read ranges n (range_of r) e k h in
      rw (← long) (pages_agree n _ _ same ∙ rw p (pages_ok_lem r (keeps r ok).ranges_ok))

-- refusal 3 is of equal FUNCTION_IDs: in records that keep their rules the identities are the same exactly if the four bytes are
pub same_function_id : (r s : Rec) → Bytes r → Bytes s → record_ok r ≡ true → record_ok s ≡ true → same (identity r) (identity s) ≡ eqb (function_id r) (function_id s)
same_function_id r s b d e f =
    same_equal (function_id r) (function_id s) (num_lt r 0 4 b) (num_lt s 0 4 d) (keeps r e).identity_ok (keeps s f).identity_ok
