-- A record's rules in the groups and the order in which they are tested. Assumes nothing.
use Rattle.std.proofs.Common.{◌≡◌, refl, sym, Bool, true, false, ◌&&◌, ◌||◌, ℕ, ◌+◌, ◌≤◌, ◌<◌, eqb, leb, arith, if◌then◌else◌}
use borrow.Author.Tests.{eqb-true, eqb-false, lt-leb}
use Rattle.rules.specs.Bytes.{byte, every, zeros}
use Rattle.rules.specs.Range.{most_ranges}
use Rattle.rules.specs.Record.{Rec, CONFIG_UNLOCKED, ERROR, function_id, state, flags, offset, range_count, most_information, information_length, identity_ok, state_ok, nonce_ok, interface_ok, unused_ok, flags_ok, offset_ok, lock_ok, ranges_ok, information_ok, record_ok}
use Rattle.wire.proofs.Zeros.{number_zero}
use Rattle.places.proofs.Moved.{unmoved}

-- ---- the ranges and the lock: where the offset must be zero, it meets the lock's rule

zero_offset : (r : Rec) → zeros r 24 31 ≡ eqb (offset r) 0
unfolding zeros
zero_offset r = sym (number_zero r 24 8)

module _ (r : Rec) where
  abbrev unlocked : Bool
  unlocked = eqb (state r) CONFIG_UNLOCKED || eqb (state r) ERROR

  -- the lock's fields without the lock's rule
  abbrev fields : Bool
  fields = if unlocked then zeros r 6 9 && eqb (offset r) 0 else flags_ok (flags r)

  abbrev count : Bool
  count = leb (range_count r) most_ranges

  -- `still`: the offset meets the lock's rule
  joined : (ranges still none head flags u : Bool) → (none ≡ true → ranges ≡ true → still ≡ true)
      → count && ranges && (if u then head && none else flags && still) ≡ (if u then head && none else flags) && (count && ranges && still)
  joined false still none head flags true f = grind arith
  joined true still false head flags true f = grind arith
  joined true still true head flags true f = let s = f refl refl in grind arith
  joined ranges still none head flags false f = grind arith

  no_move : eqb (offset r) 0 ≡ true → ranges_ok r ≡ true → offset_ok r (offset r) ≡ true
  no_move e ok = rw (eqb-true (offset r) 0 e) (unmoved r ok)

  pub in_two : count && ranges_ok r && lock_ok r ≡ fields && (count && ranges_ok r && offset_ok r (offset r))
  unfolding lock_ok
  in_two = rw zero_offset (joined (ranges_ok r) (offset_ok r (offset r)) (eqb (offset r) 0) (zeros r 6 9) (flags_ok (flags r)) unlocked no_move)

-- ---- nothing stands past 52 bytes of information

pub full : (r : Rec) (l : ℕ) → l ≡ information_length r → most_information ≤ l → information_ok r ≡ eqb l most_information
unfolding information_ok zeros every
full r l is h = rw (← is) (by (eqb l most_information) refl)
  where
    by : (b : Bool) → eqb l most_information ≡ b → (leb l most_information && zeros r (204 + l) 255) ≡ b
    by true e = rw (eqb-true l most_information e)
    by false e = let n : most_information < l = omega (arith, eqb-false l most_information e) in rw (lt-leb l most_information n)

-- ---- the whole: 01's order, and the code's

regroup : (identity state nonce count eleven interface unused lock ranges information : Bool)
    → identity && state && nonce && (count && eleven) && interface && unused && lock && ranges && information
    ≡ (identity && state && nonce && eleven) && ((interface && unused) && (information && (count && ranges && lock)))
regroup identity state nonce count eleven interface unused lock ranges information = grind arith

pub whole : (r : Rec) → record_ok r
    ≡ (identity_ok (function_id r) && state_ok r && nonce_ok r && eqb (byte r 11) 0) && ((interface_ok r && unused_ok r) && (information_ok r && (leb (range_count r) most_ranges && ranges_ok r && lock_ok r)))
unfolding record_ok
whole r = regroup (identity_ok (function_id r)) (state_ok r) (nonce_ok r) (leb (range_count r) most_ranges) (eqb (byte r 11) 0) (interface_ok r) (unused_ok r) (lock_ok r) (ranges_ok r) (information_ok r)
