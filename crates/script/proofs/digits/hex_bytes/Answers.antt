use Rattle.std.proofs.Common.{rules}
use Rattle.std.proofs.lemmas.List.{take_rest}
use Rattle.script.proofs.HexBytes.{after_space, after_byte}
use Rattle.script.proofs.digits.hex_bytes.Goals as goal

pub loop-rest-preserved-then-is_space : goal.loop-rest-preserved-then-is_space
loop-rest-preserved-then-is_space c = record {
  within = search rules;
  left = after_space _ _ _ _ _ c.loop-rest.invariant.left (search rules) (search rules) (search (rules, take_rest));
}

pub loop-rest-preserved : goal.loop-rest-preserved
loop-rest-preserved c = record {
  within = search rules;
  left = after_byte _ _ _ _ _ _ c.loop-rest.invariant.left (search rules) (search rules) (search rules) (search rules) (search (rules, take_rest));
}
