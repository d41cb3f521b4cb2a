-- Where an interface's record stands: calls leave it there. Assumes nothing.
use Rattle.std.specs.Prelude.{None, Some}
use mathlib.Core.Path.{◌≡◌, refl, sym, ◌∙◌}
use mathlib.Core.Bool.{true}
use mathlib.Core.List.{List, [], ◌∷◌}
use Prim.Native.Nat.{ℕ, suc}
use native.Mathlib.Omega.{arith}
use lib.ListN.{length, get_or}
use Rattle.rules.specs.Call.{Call, step}
use Rattle.rules.specs.Identity.{same}
use Rattle.rules.specs.Record.{Rec}
use Rattle.rules.specs.Table.{records, identity, find_from, find}
use Rattle.rules.specs.declared.Identity.{Identity}
use Rattle.rules.proofs.Identities.{same_sym, same_like}
use Rattle.rules.proofs.Lookup.{find_at}
use Rattle.rules.proofs.Stepped.{identity_stays, length_stays}

-- ---- one interface under two identities that are the same

find_like : (n : ℕ) (i who : Identity) (rs : List Rec) → same i who ≡ true → find_from n i rs ≡ find_from n who rs
unfolding find_from
find_like n i who [] e = refl
find_like n i who (r ∷ rs) e = rw (same_like i who (identity r) e, find_like (suc n) i who rs e)

-- the same identity is found nowhere
pub nowhere_too : (i who : Identity) (rs : List Rec) → find i rs ≡ None → same i who ≡ true → find who rs ≡ None
nowhere_too i who rs f e = sym (find_like 0 i who rs e) ∙ f

module _ (i who : Identity) (rs : List Rec) (k : ℕ) (found : find i rs ≡ Some k) where
  -- or at the same place,
  pub found_too : same i who ≡ true → find who rs ≡ Some k
  found_too e = sym (find_like 0 i who rs e) ∙ found

  -- and what is found there is the same
  pub who_is : find who rs ≡ Some k → same i who ≡ true
  who_is e =
      let mine = (find_at i k rs found).here in
      let its = (find_at who k rs e).here in
      same_sym i who ∙ same_like who (identity (get_or rs k [])) i its ∙ same_sym (identity (get_or rs k [])) i ∙ mine

-- and at one place only
pub one_place : (i : Identity) (rs : List Rec) (j k : ℕ) → find i rs ≡ Some j → find i rs ≡ Some k → j ≡ k
one_place i rs j k p q = cc

-- ---- records with the same identities

find_same : (n : ℕ) (i : Identity) (rs ss : List Rec) → length rs ≡ length ss → ((j : ℕ) → identity (get_or rs j []) ≡ identity (get_or ss j []))
    → find_from n i rs ≡ find_from n i ss
unfolding find_from
find_same n i [] [] e f = refl
find_same n i [] (s ∷ ss) e f = absurd (omega arith)
find_same n i (r ∷ rs) [] e f = absurd (omega arith)
find_same n i (r ∷ rs) (s ∷ ss) e f = rw (f 0, find_same (suc n) i rs ss (omega arith) (λ j. f (suc j)))

-- a call leaves every interface's record in its place
pub place_stays : (c : Call) (i : Identity) (t : List ℕ) → find i (records (step c t).table) ≡ find i (records t)
place_stays c i t = find_same 0 i (records (step c t).table) (records t) (length_stays c t) (identity_stays c t)
