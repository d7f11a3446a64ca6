-- the goal is answered here so that a wrong body is refused without a second search
use Rattle.std.proofs.Common.{rules}
use Rattle.control_channel.proofs.numbers.ChannelNumbers.freeze.Goals as goal

pub returns : goal.returns
returns c = search rules
