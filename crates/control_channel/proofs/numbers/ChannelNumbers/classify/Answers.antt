-- the goal is answered here so that a wrong body is refused without a second search
use Rattle.std.proofs.Common.{rules}
use Rattle.control_channel.proofs.numbers.ChannelNumbers.classify.Goals as goal

pub returns-else-empty : goal.returns-else-empty
returns-else-empty c = search rules
