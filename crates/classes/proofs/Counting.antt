-- A record that moves is counted. Assumes nothing.
use Rattle.std.proofs.Common.{◌≡◌, true, [], ◌∷◌, length}
use Rattle.rules.specs.Change.{live, differing}
use Rattle.rules.specs.Record.{Rec}
use Rattle.rules.specs.Request.{cleared}
use Rattle.rules.specs.Table.{record_bytes}
use Rattle.rules.proofs.Changes.{state_cleared}
use Rattle.rules.proofs.Moved.{live_state}

pub moves_counts : (r : Rec) → length r ≡ record_bytes → live r ≡ true → differing (r ∷ []) (cleared 3 r ∷ []) ≡ 1
unfolding differing
moves_counts r long e = rw (state_cleared r long 3, live_state r e)
