-- What a change makes of one record: it moves, or every byte stays. Assumes nothing.
use Rattle.std.specs.Prelude.{if◌then◌else◌}
use mathlib.Core.Path.{◌≡◌, refl, sym}
use mathlib.Core.Bool.{Bool, true, false, not, ◌||◌}
use mathlib.Core.List.{[]}
use Prim.Native.Nat.{ℕ}
use borrow.Author.Tests.{eq-eqb, eqb-true}
use lib.Dec.{eqb}
use lib.ListN.{length}
use Rattle.rules.specs.Bytes.{byte}
use Rattle.rules.specs.Change.{live, moves, moved}
use Rattle.rules.specs.Record.{Rec, ERROR, state, record_ok}
use Rattle.rules.specs.Request.{cleared}
use Rattle.rules.specs.Table.{record_bytes, identity}
use Rattle.rules.proofs.Bools.{clash, and_left}
use Rattle.rules.proofs.Changes.{length_cleared, kept_cleared, state_cleared}
use Rattle.rules.proofs.Configured.{Configured, identity_same}
use Rattle.rules.proofs.KeepsRules.{cleared_keeps}

-- a record in states 1 and 2 is not in ERROR
pub live_state : (r : Rec) → live r ≡ true → eqb (state r) 3 ≡ false
unfolding live
live_state r = by (eqb (state r) 1) refl (eqb (state r) 2) refl
  where
    by : (a : Bool) → eqb (state r) 1 ≡ a → (b : Bool) → eqb (state r) 2 ≡ b → a || b ≡ true → eqb (state r) 3 ≡ false
    by true p b q e = rw (eqb-true (state r) 1 p)
    by false p true q e = rw (eqb-true (state r) 2 q)
    by false p false q e = clash (sym e)

module _ (p : Rec → Bool) (r : Rec) where
  pub moved_is : moves p r ≡ true → moved p r ≡ cleared ERROR r
  unfolding moved
  moved_is e = rw e

  pub stays_is : moves p r ≡ false → moved p r ≡ r
  unfolding moved
  stays_is e = rw e

  -- what holds of a record in ERROR and of the record as it was
  either : (P : Rec → Type 0) → P (cleared ERROR r) → P r → P (moved p r)
  unfolding moved
  either P a b = by (moves p r)
    where
      by : (m : Bool) → P (if m then cleared ERROR r else r)
      by true = a
      by false = b

  module _ (long : length r ≡ record_bytes) where
    -- its length and its configuration stay
    pub length_moved : length (moved p r) ≡ record_bytes
    length_moved = either (λ (x : Rec). length x ≡ record_bytes) (length_cleared r long 3) long

    pub kept_moved : (k : ℕ) → Configured k → byte (moved p r) k ≡ byte r k
    kept_moved k c = either (λ (x : Rec). byte x k ≡ byte r k) (kept_cleared r long 3 k c) refl

    pub identity_moved : identity (moved p r) ≡ identity r
    identity_moved = identity_same (moved p r) r kept_moved

    -- a record that keeps its rules keeps them
    pub moved_keeps : record_ok r ≡ true → record_ok (moved p r) ≡ true
    moved_keeps ok = either (λ (x : Rec). record_ok x ≡ true) (cleared_keeps r long ok 3 refl refl refl) ok

    -- its state is another exactly if it moves
    pub state_differs : eqb (state r) (state (moved p r)) ≡ not (moves p r)
    state_differs = by (moves p r) refl
      where
        by : (m : Bool) → moves p r ≡ m → eqb (state r) (state (moved p r)) ≡ not m
        by true e = rw (moved_is e, state_cleared r long 3) (live_state r (and_left (live r) (p r) e))
        by false e = rw (stays_is e) (eq-eqb (state r) (state r) refl)

-- no record, no change
pub moved_none : (p : Rec → Bool) → moved p [] ≡ []
unfolding moved live
moved_none p = refl
