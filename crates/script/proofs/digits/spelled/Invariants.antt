-- What is left, after the value so far, answers for the whole.
use Rattle.std.proofs.Common.{◌≡◌, ◌≤◌, drop}
use Rattle.script.specs.Digits.{spelled}
use Rattle.script.proofs.digits.spelled.Given as goal

abbrev pub invariant-loop-c : goal.invariant-loop-c
invariant-loop-c l = record {
  within : l.value ≤ l.most;
  left : spelled l.base l.most l.wrong 0 l.s ≡ spelled l.base l.most l.wrong l.value (drop l.c-index l.s);
}
