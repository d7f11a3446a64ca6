use Rattle.cause_laws.proofs.Runs.{causes_of_runs}
use Rattle.cause_laws.proofs.reports_tell_true_causes.Goals as goal

pub returns : goal.returns
returns c =
    let b = c.laws_below.ensures in
    causes_of_runs (record { sound = b.sound; late = b.late; asked = b.asked; gone = b.gone; begin_few = b.begin_few; stay_few = b.stay_few; nodes = b.nodes; starting = b.starting })
    b.ends b.causes b.room b.quiet b.rings b.full
