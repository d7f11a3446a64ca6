use Rattle.fact_laws.proofs.Rising.{epochs_rise}
use Rattle.fact_laws.proofs.epochs_rise.Goals as goal

pub returns : goal.returns
returns c =
    let runs = c.laws_of_runs.ensures in
    epochs_rise c.cut_steps_join.ensures c.lines_raise_epochs.ensures runs.know runs.stand runs.below c.laws_of_lines.ensures.lines
