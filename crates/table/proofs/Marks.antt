-- Two identities told apart: both marked and their segments equal, or neither marked. Assumes nothing.
use Rattle.std.specs.Prelude.{if◌then◌else◌}
use mathlib.Core.Path.{◌≡◌, refl}
use mathlib.Core.Bool.{Bool, true, false, not, ◌&&◌, ◌||◌}
use lib.Dec.{eqb}
use Rattle.rules.specs.Identity.{same}
use Rattle.rules.specs.declared.Identity.{Identity}

marks : (v w s : Bool) → ((v && w) && s) || not (v || w) ≡ (if v then w && s else not w)
marks true true true = refl
marks true true false = refl
marks true false s = refl
marks false true s = refl
marks false false s = refl

pub both_or_neither : (a b : Identity)
    → eqb a.requester.0 b.requester.0 && (((a.valid && b.valid) && eqb a.segment b.segment) || not (a.valid || b.valid)) ≡ same a b
unfolding same
both_or_neither a b = rw (marks a.valid b.valid (eqb a.segment b.segment))
