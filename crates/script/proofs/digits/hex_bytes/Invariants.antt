-- What is left, after the bytes so far, answers for the whole.
use Rattle.std.proofs.Common.{◌≡◌, ◌≤◌, length}
use Rattle.script.specs.Digits.{hexed}
use Rattle.script.proofs.digits.hex_bytes.Given as goal

abbrev pub invariant-loop-rest : goal.invariant-loop-rest
invariant-loop-rest l = record {
  within : l.n ≤ 512;
  left : hexed 0 l.initial.out l.s ≡ hexed l.n l.out l.rest;
}

abbrev pub decreases-loop-rest : goal.decreases-loop-rest
decreases-loop-rest l = length l.rest
