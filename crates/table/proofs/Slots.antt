-- Interfaces marked in slots: one whose slot is not marked is none of those met. Assumes nothing.
use Rattle.std.specs.Prelude.{if◌then◌else◌, ◌&&◌}
use Rattle.std.proofs.Common.{◌≡◌, refl, sym, ap, ◌∙◌, Bool, true, false, not, List, [], ◌∷◌, ℕ, zero, suc, ◌+◌, ◌%◌, ◌<◌, eqb, length, drop, get_or, set, take, ◌-◌, add-one, arith, drop-cons}
use Rattle.std.proofs.lemmas.List.{take_rest}
use native.Mathlib.Nat.{le_of_suc-le-suc, not-suc-le-zero, le_refl}
use borrow.Author.Tests.{eqb-true}
use lib.ListN.{drop_of_length-le, length-set}
use Rattle.rules.specs.Identity.{same}
use Rattle.rules.specs.Record.{Rec}
use Rattle.rules.specs.Table.{all, identity, names, names_not, distinct}
use Rattle.rules.specs.declared.Identity.{Identity}
use Rattle.rules.proofs.Bools.{clash, and_left, and_right}
use Rattle.table.specs.Slots.{slot, marked}

-- one interface, one slot
same_slot : (a b : Identity) → same a b ≡ true → slot a ≡ slot b
unfolding same
same_slot a b e =
    let low = eqb a.requester.0 b.requester.0 in
    ap (λ (x : ℕ). x % 1024) (eqb-true a.requester.0 b.requester.0 (and_left low (if a.valid then b.valid && eqb a.segment b.segment else not b.valid) e))

-- ---- an interface whose slot is not marked

module _ (who : Identity) (marks : List Bool) (free : get_or marks (slot who) false ≡ false) where
  not_it : (r : Rec) → get_or marks (slot (identity r)) false ≡ true → names_not who r ≡ true
  not_it r m = by (names who r) refl
    where
      by : (b : Bool) → names who r ≡ b → not b ≡ true
      by false e = refl
      by true e = clash (sym m ∙ ap (λ (s : ℕ). get_or marks s false) (sym (same_slot who (identity r) e)) ∙ free)

  none_of_them : (rs : List Rec) → marked marks rs ≡ true → all (names_not who) rs ≡ true
  unfolding marked all
  none_of_them [] e = refl
  none_of_them (r ∷ rs) e =
      let here = get_or marks (slot (identity r)) false in
      rw (not_it r (and_left here (marked marks rs) e)) (none_of_them rs (and_right here (marked marks rs) e))

-- ---- one mark more

set_here : (marks : List Bool) (s : ℕ) → s < length marks → get_or (set marks s true) s false ≡ true
set_here [] s h = absurd (not-suc-le-zero h)
set_here (m ∷ marks) zero h = refl
set_here (m ∷ marks) (suc s) h = set_here marks s (le_of_suc-le-suc h)

set_keeps : (marks : List Bool) (s i : ℕ) → get_or marks i false ≡ true → get_or (set marks s true) i false ≡ true
set_keeps [] s i e = e
set_keeps (m ∷ marks) zero zero e = refl
set_keeps (m ∷ marks) zero (suc i) e = e
set_keeps (m ∷ marks) (suc s) zero e = e
set_keeps (m ∷ marks) (suc s) (suc i) e = set_keeps marks s i e

still_marked : (marks : List Bool) (s : ℕ) (rs : List Rec) → marked marks rs ≡ true → marked (set marks s true) rs ≡ true
unfolding marked all
still_marked marks s [] e = refl
still_marked marks s (r ∷ rs) e =
    let here = get_or marks (slot (identity r)) false in
    rw (set_keeps marks s (slot (identity r)) (and_left here (marked marks rs) e)) (still_marked marks s rs (and_right here (marked marks rs) e))

-- ---- from the last record to the first

distinct_drop : (k : ℕ) (rs : List Rec) → distinct rs ≡ true → distinct (drop k rs) ≡ true
unfolding distinct
distinct_drop zero rs e = e
distinct_drop (suc k) [] e = e
distinct_drop (suc k) (r ∷ rs) e = distinct_drop k rs (and_right (all (names_not (identity r)) rs) (distinct rs) e)

module _ (rs : List Rec) where
  -- the records from k on differ, and their slots are marked
  pub record Met (marks : List Bool) (k : ℕ) : Type 0 where
    pub differ : distinct (drop k rs) ≡ true
    pub slots : marked marks (drop k rs) ≡ true
    pub enough : length marks ≡ 1024

  pub none_met : (marks : List Bool) → length marks ≡ 1024 → Met marks (length rs)
  unfolding distinct marked all
  none_met marks l = let none : drop (length rs) rs ≡ [] = drop_of_length-le rs (le_refl _) in record { differ = rw none; slots = rw none; enough = l }

  -- record k is for `who`, whose slot is s, and those past it are met
  module _ (marks : List Bool) (k next s : ℕ) (who : Identity) (met : Met marks next) (here : who ≡ identity (get_or rs k [])) (its : s ≡ slot who) (after : next ≡ k + 1) (within : k < length rs) where
    from_here : drop k rs ≡ get_or rs k [] ∷ drop (k + 1) rs
    from_here = rw (drop-cons rs k [], add-one)

    its_own : s ≡ slot (identity (get_or rs k []))
    its_own = its ∙ ap slot here

    slots_after : marked marks (drop (k + 1) rs) ≡ true
    slots_after = ap (λ (i : ℕ). marked marks (drop i rs)) (sym after) ∙ met.slots

    fresh : all (names_not who) (drop (k + 1) rs) ≡ true → s < 1024 → Met (set marks s true) k
    unfolding distinct marked all
    fresh e l = record {
      differ = rw (from_here, ← here, e) (ap (λ (i : ℕ). distinct (drop i rs)) (sym after) ∙ met.differ);
      slots = rw (from_here, ← its_own, set_here marks s (omega (arith, met.enough))) (still_marked marks s (drop (k + 1) rs) slots_after);
      enough = length-set marks s true ∙ met.enough;
    }

    -- a slot that is not marked is enough,
    pub unmarked : get_or marks s false ≡ false → s < 1024 → Met (set marks s true) k
    unmarked e l = fresh (none_of_them who marks (ap (λ (i : ℕ). get_or marks i false) (sym its) ∙ e) (drop (k + 1) rs) slots_after) l

    -- where it is marked, it is looked up: b tells whether no later record is for that interface
    module _ (b : Bool) (told : b ≡ all (names_not who) (take (length rs - (k + 1)) (drop (k + 1) rs))) where
      later : all (names_not who) (drop (k + 1) rs) ≡ b
      later = sym (told ∙ ap (all (names_not who)) (take_rest rs (k + 1)))

      pub looked_up : b ≡ true → s < 1024 → Met (set marks s true) k
      looked_up e l = fresh (later ∙ e) l

      pub alike : b ≡ false → false ≡ distinct rs
      unfolding distinct
      alike e = by (distinct rs) refl
        where
          stopped : distinct (drop k rs) ≡ false
          stopped = rw (from_here, ← here, later, e)

          by : (d : Bool) → distinct rs ≡ d → false ≡ d
          by false f = refl
          by true f = clash (sym (distinct_drop k rs f) ∙ stopped)
