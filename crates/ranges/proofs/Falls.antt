-- IDs that never fall, in one pass: the least ID that a range may still have stands for all the ranges passed. Assumes nothing.
use Rattle.std.proofs.Common.{◌≡◌, refl, sym, ◌∙◌, Bool, true, false, not, ◌&&◌, ℕ, ◌+◌, ◌≤◌, ◌<◌, leb, ltb, add-one, arith, if◌then◌else◌}
use borrow.Author.Tests.{leb-true, leb-false, le-leb, lt-leb, lt-ltb, le-ltb}
use lib.Dec.{leb-zero}
use Rattle.rules.specs.Bytes.{every}
use Rattle.rules.specs.Range.{no_fall_to, never_fall}
use Rattle.rules.proofs.Bools.{and_true, and_false}
use Rattle.rules.proofs.Every.{every_none, every_fails, every_keeps}

-- no fall from least to x, and none from id
floors : (least id x : ℕ) → least ≤ id → leb least x && not (ltb x id) ≡ leb id x
floors least id x h = go (leb id x) refl
  where
    go : (b : Bool) → leb id x ≡ b → leb least x && not (ltb x id) ≡ leb id x
    go true e = let l = leb-true id x e in rw (e, le-leb least x (omega arith), le-ltb x id l)
    go false e = let l = leb-false id x e in rw (e, lt-ltb x id l) (and_false (leb least x))

module _ (ids : ℕ → ℕ) where
  -- `least` stands for the IDs before the k-th
  abbrev pub StandsFor : ℕ → ℕ → Type 0
  StandsFor least k = (x : ℕ) → no_fall_to ids k x ≡ leb least x

  pub none_yet : StandsFor 0 0
  unfolding every
  none_yet x = sym (leb-zero x)

  pub no_fall_yet : true ≡ never_fall 0 ids
  unfolding never_fall
  no_fall_yet = every_none _

  -- ---- ID k is `id`

  module _ (k id : ℕ) (is : id ≡ ids k) where
    pub one_more : {least next : ℕ} → StandsFor least k → least ≤ id → next ≡ (if leb id 7 then id else least) → StandsFor next (k + 1)
    unfolding every
    one_more {least} {next} f h n x = rw (add-one, ← is, f x, n) (by (leb id 7))
      where
        by : (b : Bool) → leb least x && not (b && ltb x id) ≡ leb (if b then id else least) x
        by true = floors least id x h
        by false = and_true (leb least x)

    pub falls : (n least : ℕ) → StandsFor least k → k < n → id < least → false ≡ never_fall n ids
    unfolding never_fall
    falls n least f l h = every_fails _ n k l (f (ids k) ∙ rw (← is) (lt-leb least id h))

    pub no_fall_lem : (least : ℕ) → StandsFor least k → least ≤ id → true ≡ never_fall k ids → true ≡ never_fall (k + 1) ids
    unfolding never_fall
    no_fall_lem least f h t = every_keeps _ k t (f (ids k) ∙ rw (← is) (le-leb least id h))
