-- the goals are answered here so that a wrong body is refused without a second search
use Rattle.std.proofs.Common.{rules, arith}
use Rattle.std.proofs.lemmas.Grind.{common_steps}
use Rattle.control_channel.proofs.channel.Channel.receive.Goals as goal

pub invariant_of-self : goal.invariant_of-self
invariant_of-self c = grind (arith, common_steps)

pub returns-clause-value : goal.returns-clause-value
returns-clause-value c = search rules
