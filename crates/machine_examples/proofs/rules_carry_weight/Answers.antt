use Rattle.machine_examples.proofs.Weights.{rules_carry_weight}
use Rattle.machine_examples.proofs.rules_carry_weight.Goals as goal

pub returns : goal.returns
returns c = rules_carry_weight
