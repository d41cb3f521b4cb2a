use Rattle.std.proofs.Common.{◌≡◌, refl, ◌∙◌, rules, Bool, true, false, ℕ, ◌+◌, ◌<◌, ◌≤◌, Option, Some, None, is_some, ℤ}
use Rattle.rules.proofs.Every.{every_none, every_at, every_fails, every_keeps}
use Rattle.rules.proofs.Ranges.{range_start, pages_ok_lem}
use Rattle.rules.specs.Lock.{shifted, stays, all_stay}
use Rattle.rules.specs.Range.{pages_end}
use Rattle.rules.specs.Record.{Rec, range_count, range_of, ranges_ok}
use Rattle.rules.specs.declared.Range.{Range}
use Rattle.ranges.proofs.offset.all_stay.Goals as goal

stays_is : (shift : Option ℕ) → stays shift ≡ is_some shift
stays_is (Some page) = refl
stays_is None = refl

-- range k of a record
module _ (r : Rec) (k : ℕ) (range : Range) (read : range ≡ range_of r k) where
  starts : ranges_ok r ≡ true → k < range_count r → range.first ≤ pages_end
  starts ok l = range_start range (range_of r k) read (every_at _ (range_count r) k (pages_ok_lem r ok) l)

  module _ (z : ℤ) (shift : Option ℕ) (its : shift ≡ shifted z range) (some : Bool) (is : is_some shift ≡ some) where
    here : stays (shifted z (range_of r k)) ≡ some
    here = rw (← read, ← its) (stays_is shift ∙ is)

    leaves : some ≡ false → k < range_count r → false ≡ all_stay z (range_count r) (range_of r)
    leaves e l = every_fails _ (range_count r) k l (here ∙ e)

    next : some ≡ true → true ≡ all_stay z k (range_of r) → true ≡ all_stay z (k + 1) (range_of r)
    next e h = every_keeps _ k h (here ∙ e)

pub loop-k-init : goal.loop-k-init
loop-k-init c = every_none _

pub shift-requires : goal.shift-requires
shift-requires c = search (rules, starts)

pub returns-then-is_none : goal.returns-then-is_none
returns-then-is_none c = search (rules, leaves)

pub loop-k-preserved : goal.loop-k-preserved
loop-k-preserved c = search (rules, next)
