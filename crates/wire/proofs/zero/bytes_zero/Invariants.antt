-- The flag tells of the bytes passed.
use Rattle.std.proofs.Common.{◌≡◌}
use Rattle.rules.specs.Bytes.{every, zero_at}
use Rattle.wire.proofs.zero.bytes_zero.Given as goal

abbrev pub invariant-loop-byte : goal.invariant-loop-byte
invariant-loop-byte l = l.zero ≡ every l.byte-index (zero_at l.bytes 0)
