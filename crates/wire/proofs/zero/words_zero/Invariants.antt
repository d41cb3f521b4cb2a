-- The flag tells of the words passed.
use Rattle.std.proofs.Common.{◌≡◌, [], get_or}
use Rattle.std.specs.Prelude.{eqb}
use Rattle.rules.specs.Bytes.{every, num}
use Rattle.wire.proofs.zero.words_zero.Given as goal

abbrev pub invariant-loop-word : goal.invariant-loop-word
invariant-loop-word l = l.zero ≡ every l.word-index (λ k. eqb (num (get_or l.words k []) 0 8) 0)
