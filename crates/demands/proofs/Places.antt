-- The place of an interface's record, and records of which the one at a place is changed. Assumes nothing.
use Rattle.std.specs.Prelude.{None, Option, Some}
use mathlib.Core.Path.{◌≡◌, refl, sym, ap, ◌∙◌}
use mathlib.Core.Bool.{false}
use mathlib.Core.List.{List, []}
use Prim.Native.Nat.{ℕ, ◌<◌}
use lib.ListN.{length, get_or, set}
use lib.Seq.{get_or-set_other, set_comm}
use Rattle.rules.specs.Call.{Call, step}
use Rattle.rules.specs.Identity.{same}
use Rattle.rules.specs.Record.{Rec}
use Rattle.rules.specs.Table.{records, identity, find, nothing}
use Rattle.rules.specs.declared.Identity.{Identity}
use Rattle.rules.proofs.Bools.{clash}
use Rattle.rules.proofs.Identities.{same_sym, same_like}
use Rattle.rules.proofs.Lookup.{find_at}
use Rattle.demands.proofs.Lookups.{place_stays}

-- ---- places

-- the place of an interface's record, if an interface is looked for
abbrev pub place_of : Option Identity → List Rec → Option ℕ
place_of None rs = None
place_of (Some who) rs = find who rs

pub place_within : (who : Option Identity) (rs : List Rec) (k : ℕ) → place_of who rs ≡ Some k → k < length rs
place_within None rs k e = clash (ap nothing e)
place_within (Some who) rs k e = (find_at who k rs e).within

-- a call leaves every record in its place
pub finds : (c : Call) (t : List ℕ) (who : Option Identity) → place_of who (records (step c t).table) ≡ place_of who (records t)
finds c t None = refl
finds c t (Some who) = place_stays c who t

-- two that never find one place
abbrev pub Elsewhere : Option Identity → Option Identity → Type 0
Elsewhere a b = (rs : List Rec) (k : ℕ) → place_of a rs ≡ Some k → place_of b rs ≡ Some k → ⊥

pub elsewhere_sym : (a b : Option Identity) → Elsewhere a b → Elsewhere b a
elsewhere_sym a b x rs k p q = x rs k q p

-- no record is for two interfaces
pub different_elsewhere : (i j : Identity) → same i j ≡ false → Elsewhere (Some i) (Some j)
different_elsewhere i j x rs k p q =
    let r = identity (get_or rs k []) in
    clash (sym (same_like i r j (find_at i k rs p).here ∙ same_sym r j ∙ (find_at j k rs q).here) ∙ x)

-- ---- records of which the one at a place, if there is one, is changed

abbrev pub put : (Rec → Rec) → Option ℕ → List Rec → List Rec
put f None rs = rs
put f (Some k) rs = set rs k (f (get_or rs k []))

-- the others stay
pub put_other : (f : Rec → Rec) (p : Option ℕ) (rs : List Rec) (k : ℕ) → (p ≡ Some k → ⊥) → get_or (put f p rs) k [] ≡ get_or rs k []
put_other f None rs k n = refl
put_other f (Some m) rs k n = get_or-set_other rs m k (f (get_or rs m [])) [] (λ e. n (ap Some (sym e)))

-- two changes at different places, in either order
pub put_put : (f g : Rec → Rec) (p q : Option ℕ) (rs : List Rec) → ((k : ℕ) → p ≡ Some k → q ≡ Some k → ⊥) → put g q (put f p rs) ≡ put f p (put g q rs)
put_put f g None q rs x = refl
put_put f g (Some k) None rs x = refl
put_put f g (Some k) (Some m) rs x =
    let n : k ≡ m → ⊥ = λ e. x k refl (ap Some (sym e)) in
    let r = f (get_or rs k []) in
    let s = g (get_or rs m []) in
    rw (get_or-set_other rs k m r [] (λ e. n (sym e)), get_or-set_other rs m k s [] n) (set_comm rs k m r s n)
