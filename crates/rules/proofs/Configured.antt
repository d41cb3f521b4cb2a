-- A record's configuration: the bytes that no request and no event changes, and what is read from them alone. Assumes nothing.
use mathlib.Core.Path.{◌≡◌}
use mathlib.Core.Logic.{◌⊎◌, inl, inr}
use Prim.Native.Nat.{ℕ, ◌+◌, ◌*◌, ◌≤◌, ◌<◌}
use native.Mathlib.Omega.{arith}
use Rattle.rules.specs.Bytes.{byte, num, zeros}
use Rattle.rules.specs.Lock.{signed}
use Rattle.rules.specs.Range.{range_bytes}
use Rattle.rules.specs.Record.{Rec, function_id, range_count, ranges_place, range_of, information_length, count_ok, interface_ok, unused_ok, offset_ok, ranges_ok, information_ok}
use Rattle.rules.specs.Table.{identity}
use Rattle.rules.proofs.Overs.{num_same, zeros_same}
use Rattle.rules.proofs.Ranges.{pages_agree, attributes_agree, ids_agree, stay_agree}

-- none of the bytes from first to last, both counted
abbrev pub Beside : ℕ → ℕ → ℕ → Type 0
Beside first last k = (k < first) ⊎ (last < k)

-- none of the state, the lock fields and the nonce: bytes 4-9, 24-31 and 40-71
pub record Configured (k : ℕ) : Type 0 where
  pub no_state : Beside 4 9 k
  pub no_offset : Beside 24 31 k
  pub no_nonce : Beside 40 71 k

-- so it is one of these
pub in_identity : (k : ℕ) → k < 4 → Configured k
in_identity k h = record { no_state = inl h; no_offset = inl (omega arith); no_nonce = inl (omega arith) }

pub in_controls : (k : ℕ) → 10 ≤ k → k < 24 → Configured k
in_controls k g h = record { no_state = inr g; no_offset = inl h; no_nonce = inl (omega arith) }

pub in_unused : (k : ℕ) → 32 ≤ k → k < 40 → Configured k
in_unused k g h = record { no_state = inr (omega arith); no_offset = inr g; no_nonce = inl h }

pub in_ranges : (k : ℕ) → 72 ≤ k → Configured k
in_ranges k g = record { no_state = inr (omega arith); no_offset = inr (omega arith); no_nonce = inr g }

-- ---- two records with the same configuration

module _ (t r : Rec) (same : (k : ℕ) → Configured k → byte t k ≡ byte r k) where
  -- they have the same FUNCTION_ID
  pub function_id_same : function_id t ≡ function_id r
  function_id_same = num_same t r 0 4 (λ k g h. same k (in_identity k h))

  -- so they are for the same interface
  pub identity_same : identity t ≡ identity r
  identity_same = rw function_id_same

  -- they have the same range count
  pub count_same : range_count t ≡ range_count r
  count_same = same 10 (in_controls 10 (omega arith) (omega arith))

  -- the same ranges
  pub range_same : (j : ℕ) → range_of t j ≡ range_of r j
  range_same j =
      let at = ranges_place + j * range_bytes in
      let here : (b n : ℕ) → 72 ≤ b → num t b n ≡ num r b n = λ b n l. num_same t r b n (λ k g h. same k (in_ranges k (omega arith))) in
      rw (here at 8 (omega arith), here (at + 8) 4 (omega arith), here (at + 12) 2 (omega arith), here (at + 14) 2 (omega arith))

  -- the same information length
  pub information_same : information_length t ≡ information_length r
  information_same = num_same t r 200 4 (λ k g h. same k (in_ranges k (omega arith)))

  -- and the same zeros past byte 71
  zeros_past : (first last : ℕ) → 72 ≤ first → zeros t first last ≡ zeros r first last
  zeros_past first last l = zeros_same t r first last (λ k g h. same k (in_ranges k (omega arith)))

  -- ---- and each keeps the rules on it if the other does

  -- range count, INTERFACE_INFO, and the bytes unused
  pub count_ok_same : count_ok t ≡ count_ok r
  count_ok_same = rw (count_same, same 11 (in_controls 11 (omega arith) (omega arith)))

  pub interface_ok_same : interface_ok t ≡ interface_ok r
  interface_ok_same = rw (num_same t r 12 2 (λ k g h. same k (in_controls k (omega arith) (omega arith))))

  pub unused_ok_same : unused_ok t ≡ unused_ok r
  unused_ok_same =
      rw (zeros_same t r 18 19 (λ k g h. same k (in_controls k (omega arith) (omega arith))), zeros_same t r 32 39 (λ k g h. same k (in_unused k g (omega arith))))

  -- an offset keeps the lock's rule in the one if it does in the other
  pub offset_ok_same : (x : ℕ) → offset_ok t x ≡ offset_ok r x
  unfolding offset_ok
  offset_ok_same x = rw (count_same, stay_agree (range_count r) (range_of t) (range_of r) (λ j l. range_same j) (signed x))

  -- ranges, and information
  pub ranges_ok_same : ranges_ok t ≡ ranges_ok r
  unfolding ranges_ok
  ranges_ok_same =
      let n = range_count r in
      let agree : (j : ℕ) → j < n → range_of t j ≡ range_of r j = λ j l. range_same j in
      rw (count_same, pages_agree n (range_of t) (range_of r) agree, attributes_agree n (range_of t) (range_of r) agree, ids_agree n (range_of t) (range_of r) agree, zeros_past (ranges_place + n * range_bytes) 199 (omega arith))

  pub information_ok_same : information_ok t ≡ information_ok r
  unfolding information_ok
  information_ok_same = rw (information_same, zeros_past (204 + information_length r) 255 (omega arith))
