use Rattle.machine_examples.proofs.Cuts.{premises_carry_weight}
use Rattle.machine_examples.proofs.premises_carry_weight.Goals as goal

pub returns : goal.returns
returns c = premises_carry_weight
