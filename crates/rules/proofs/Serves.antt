-- A request that is listed: the room that it has, and the record that most types leave. Assumes nothing.
use Rattle.std.proofs.Common.{◌≡◌, ap, ◌∙◌, List, ℕ, ◌≤◌, length, arith}
use Rattle.std.proofs.lemmas.Grind.{common_steps}
use Rattle.rules.specs.Record.{Rec}
use Rattle.rules.specs.Request.{kind_of, exact_length, get_report, gets}

-- ---- the room that a listed request has

room : (q : List ℕ) (k : ℕ) → kind_of q ≡ k → length q ≡ exact_length (kind_of q) → length q ≡ exact_length k
room q k e h = h ∙ ap exact_length e

pub lock_room : (q : List ℕ) → kind_of q ≡ 0x83 → length q ≡ exact_length (kind_of q) → 36 ≤ length q
unfolding exact_length
lock_room q e h = omega (arith, room q 0x83 e h)

pub report_room : (q : List ℕ) → kind_of q ≡ 0x84 → length q ≡ exact_length (kind_of q) → 20 ≤ length q
unfolding exact_length
report_room q e h = omega (arith, room q 0x84 e h)

pub start_room : (q : List ℕ) → kind_of q ≡ 0x86 → length q ≡ exact_length (kind_of q) → 48 ≤ length q
unfolding exact_length
start_room q e h = omega (arith, room q 0x86 e h)

-- ---- the ones that change nothing

pub gets_keeps : (q : List ℕ) (r : Rec) → (gets q r).rec ≡ r
unfolding gets get_report
gets_keeps q r = grind (arith, common_steps)
