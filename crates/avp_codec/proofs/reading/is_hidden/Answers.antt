-- the goal is answered here so that a wrong body is refused without a second search
use Rattle.std.proofs.Common.{rules}
use Rattle.avp_codec.proofs.reading.is_hidden.Goals as goal

pub returns : goal.returns
returns c = search rules
