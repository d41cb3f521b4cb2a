-- What is written is the bytes so far.
use Rattle.std.proofs.Common.{flat_map, map}
use Rattle.std.specs.Fmt.{HasWritten, IsPlainFormatter}
use Rattle.compare.specs.Form.{padded}
use Rattle.show.proofs.form.TurnedDisplay.fmt.Given as goal

abbrev pub invariant-loop-byte : goal.invariant-loop-byte
invariant-loop-byte g l =
    IsPlainFormatter l.initial.f → HasWritten g.W.Write.write_str_gives l.initial.f (flat_map (padded 2) (map (λ x. x.now) l.yielded)) l.f
