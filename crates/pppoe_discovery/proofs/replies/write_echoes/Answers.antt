-- the goal is answered here so that a wrong body is refused without a second search
use Rattle.std.proofs.Common.{arith}
use Rattle.std.proofs.lemmas.Grind.{common_steps}
use Rattle.pppoe_discovery.proofs.replies.write_echoes.Goals as goal

pub returns : goal.returns
returns c = grind (arith, common_steps)
