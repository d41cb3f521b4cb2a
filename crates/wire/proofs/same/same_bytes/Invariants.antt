-- The flag tells of the bytes passed.
use Rattle.std.proofs.Common.{◌≡◌, length}
use Rattle.rules.specs.Bytes.{every, same_at}
use Rattle.wire.proofs.same.same_bytes.Given as goal

abbrev pub invariant-loop-x : goal.invariant-loop-x
invariant-loop-x l = l.same ≡ every (length l.yielded) (same_at l.a l.b)
