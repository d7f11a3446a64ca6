-- the goals are answered here so that a wrong body is refused without a second search
use Rattle.std.proofs.Common.{rules, arith}
use Rattle.std.proofs.lemmas.Grind.{common_steps}
use Rattle.wire_base.specs.Numbers.{u32_bytes}
use Rattle.wire_base.proofs.numbers.put_u32.Goals as goal

pub returns-clause-ok : goal.returns-clause-ok
unfolding u32_bytes
returns-clause-ok c = search rules

pub returns-clause-len : goal.returns-clause-len
unfolding u32_bytes
returns-clause-len c = grind (arith, common_steps)
