use Rattle.channel_laws.proofs.Lines.{lines_do}
use Rattle.channel_laws.proofs.lines_do.Goals as goal

pub returns : goal.returns
returns c = lines_do
