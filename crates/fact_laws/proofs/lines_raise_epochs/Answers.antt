use Rattle.fact_laws.proofs.Rising.{lines_raise_epochs}
use Rattle.fact_laws.proofs.lines_raise_epochs.Goals as goal

pub returns : goal.returns
returns c =
    let laws = c.laws_of_channels.ensures in
    lines_raise_epochs laws.codecs laws.again laws.room laws.steps laws.starts
