-- The one equality of identities. Assumes nothing.
use Rattle.std.specs.Prelude.{if◌then◌else◌}
use mathlib.Core.Path.{◌≡◌, refl, sym, ap, ◌∙◌}
use mathlib.Core.Bool.{Bool, true, false, not, ◌&&◌, ◌||◌}
use Prim.Native.Nat.{ℕ, ◌+◌, ◌*◌, ◌/◌, ◌%◌, ◌^◌, ◌<◌}
use native.Mathlib.Omega.{arith}
use lib.Dec.{eqb}
use lib.Pow.{shr-shr}
use borrow.Author.Tests.{eq-eqb, ne_eqb, eqb-true, eqb-false}
use Rattle.rules.specs.Bytes.{bit, bits, bit_set}
use Rattle.rules.specs.Identity.{identity_of, same}
use Rattle.rules.specs.Record.{identity_ok}
use Rattle.rules.specs.declared.Identity.{Identity}
use Rattle.rules.proofs.Bools.{clash, and_left, and_right}

eqb_sym : (a b : ℕ) → eqb a b ≡ eqb b a
eqb_sym a b = go (eqb b a) refl
  where
    go : (t : Bool) → eqb b a ≡ t → eqb a b ≡ eqb b a
    go true e = rw e (eq-eqb a b (sym (eqb-true b a e)))
    go false e = rw e (ne_eqb a b (λ q. eqb-false b a e (sym q)))

eqb_refl : (a : ℕ) → eqb a a ≡ true
eqb_refl a = eq-eqb a a refl

abbrev segments : Bool → Bool → ℕ → ℕ → Bool
segments v w s t = if v then w && eqb s t else not w

segments_sym : (v w : Bool) (s t : ℕ) → segments v w s t ≡ segments w v t s
segments_sym true true s t = eqb_sym s t
segments_sym true false s t = refl
segments_sym false true s t = refl
segments_sym false false s t = refl

pub same_sym : (a b : Identity) → same a b ≡ same b a
unfolding same
same_sym a b = rw (eqb_sym a.requester.0, segments_sym a.valid b.valid a.segment b.segment)

segments_refl : (v : Bool) (s : ℕ) → segments v v s s ≡ true
segments_refl true s = eqb_refl s
segments_refl false s = refl

pub same_refl : (a : Identity) → same a a ≡ true
unfolding same
same_refl a = rw (eqb_refl a.requester.0) (segments_refl a.valid a.segment)

segments_like : (u v w : Bool) (r s t : ℕ) → segments u v r s ≡ true → segments u w r t ≡ segments v w s t
segments_like true true w r s t e = rw (eqb-true r s e)
segments_like true false w r s t e = clash (sym e)
segments_like false true w r s t e = clash (sym e)
segments_like false false w r s t e = refl

-- the same as one, the same as all that it is the same as
pub same_like : (a b c : Identity) → same a b ≡ true → same a c ≡ same b c
unfolding same
same_like a b c e =
    let low = eqb a.requester.0 b.requester.0 in
    let rest = segments a.valid b.valid a.segment b.segment in
    rw (eqb-true a.requester.0 b.requester.0 (and_left low rest e), segments_like a.valid b.valid c.valid a.segment b.segment c.segment (and_right low rest e))

-- ---- what arrives: bits 31:25, and a segment that is not marked valid, do not matter

low_kept : (id : ℕ) → bits 15 0 (id % 2 ^ 25) ≡ bits 15 0 id
low_kept id = omega arith

segment_kept : (id : ℕ) → bits 23 16 (id % 2 ^ 25) ≡ bits 23 16 id
segment_kept id = omega arith

mark_kept : (id : ℕ) → bit 24 (id % 2 ^ 25) ≡ bit 24 id
mark_kept id = omega arith

pub top_ignored : (id : ℕ) → identity_of (id % 2 ^ 25) ≡ identity_of id
top_ignored id = rw (low_kept id, segment_kept id, mark_kept id)

pub unmarked_ignored : (a b : Identity) (s : ℕ) → a.valid ≡ false → same (record { requester = a.requester; segment = s; valid = a.valid }) b ≡ same a b
unfolding same
unmarked_ignored a b s e = rw e

-- ---- in records that keep their rules, the same identity is an equal FUNCTION_ID

last_bit : (q : ℕ) → q / 2 ≡ 0 → q % 2 ≡ q
last_bit q e = omega arith

-- a number below 2^32 with bits 31:25 zero is its three fields
fields : (x : ℕ) → x < 2 ^ 32 → identity_ok x ≡ true → x ≡ bits 15 0 x + 2 ^ 16 * bits 23 16 x + 2 ^ 24 * bit 24 x
fields x h e =
    let top = eqb-true (bits 31 25 x) 0 (and_left (eqb (bits 31 25 x) 0) (bit_set 24 x || eqb (bits 23 16 x) 0) e) in
    let above : x / 2 ^ 25 ≡ 0 = omega arith in
    let mark : bit 24 x ≡ x / 2 ^ 24 = last_bit (x / 2 ^ 24) (shr-shr x 24 1 ∙ above) in
    let segment : x / 2 ^ 16 ≡ bits 23 16 x + 2 ^ 8 * (x / 2 ^ 24) = rw (← shr-shr x 16 8) (omega arith) in
    rw mark (omega (arith, segment))

equal_fields : (a b c d e f : ℕ) → a ≡ b → c ≡ d → e ≡ f → a + 2 ^ 16 * c + 2 ^ 24 * e ≡ b + 2 ^ 16 * d + 2 ^ 24 * f
equal_fields a b c d e f p q r = rw (p, q, r)

no_segment : (x : ℕ) → identity_ok x ≡ true → bit_set 24 x ≡ false → bits 23 16 x ≡ 0
no_segment x e u = eqb-true _ _ (rw u at (and_right (eqb (bits 31 25 x) 0) (bit_set 24 x || eqb (bits 23 16 x) 0) e))

no_mark : (x : ℕ) → bit_set 24 x ≡ false → bit 24 x ≡ 0
no_mark x u = let f : bit 24 x ≡ 1 → ⊥ = eqb-false (bit 24 x) 1 u in omega arith

module _ (n m : ℕ) (n_fits : n < 2 ^ 32) (m-fits : m < 2 ^ 32) (n-ok : identity_ok n ≡ true) (m-ok : identity_ok m ≡ true) where
  equal : (v w : Bool) → bit_set 24 n ≡ v → bit_set 24 m ≡ w → bits 15 0 n ≡ bits 15 0 m → segments v w (bits 23 16 n) (bits 23 16 m) ≡ true → n ≡ m
  equal true true p q l e =
      fields n n_fits n-ok
      ∙ equal_fields _ _ _ _ _ _ l (eqb-true _ _ e) (eqb-true (bit 24 n) 1 p ∙ sym (eqb-true (bit 24 m) 1 q))
      ∙ sym (fields m m-fits m-ok)
  equal true false p q l e = clash (sym e)
  equal false true p q l e = clash (sym e)
  equal false false p q l e =
      fields n n_fits n-ok
      ∙ equal_fields _ _ _ _ _ _ l (no_segment n n-ok p ∙ sym (no_segment m m-ok q)) (no_mark n p ∙ sym (no_mark m q))
      ∙ sym (fields m m-fits m-ok)

  same_then_equal : same (identity_of n) (identity_of m) ≡ true → n ≡ m
  unfolding same
  same_then_equal e =
      let low = eqb (bits 15 0 n) (bits 15 0 m) in
      let rest = segments (bit_set 24 n) (bit_set 24 m) (bits 23 16 n) (bits 23 16 m) in
      equal (bit_set 24 n) (bit_set 24 m) refl refl (eqb-true _ _ (and_left low rest e)) (and_right low rest e)

  pub same_equal : same (identity_of n) (identity_of m) ≡ eqb n m
  same_equal = go (same (identity_of n) (identity_of m)) refl
    where
      go : (t : Bool) → same (identity_of n) (identity_of m) ≡ t → same (identity_of n) (identity_of m) ≡ eqb n m
      go true e = e ∙ sym (eq-eqb n m (same_then_equal e))
      go false e = e ∙ sym (ne_eqb n m (λ q. clash (sym (same_refl (identity_of n)) ∙ ap (λ (x : ℕ). same (identity_of n) (identity_of x)) q ∙ e)))
