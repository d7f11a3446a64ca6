use Rattle.cause_laws.proofs.Answers.{answers_of_runs}
use Rattle.cause_laws.proofs.requests_are_answered_in_runs.Goals as goal

pub returns : goal.returns
returns c =
    let b = c.laws_below.ensures in
    answers_of_runs b.answers b.chains (record { sound = b.sound; late = b.late; asked = b.asked; gone = b.gone; begin_few = b.begin_few; stay_few = b.stay_few; nodes = b.nodes; starting = b.starting })
    b.ends
