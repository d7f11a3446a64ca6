use Rattle.cause_laws.proofs.Runs.{hosts_held_on, hosts_of_runs}
use Rattle.cause_laws.proofs.hosts_are_held_once.Goals as goal

pub returns-clause-once : goal.returns-clause-once
returns-clause-once c =
    let b = c.laws_below.ensures in
    hosts_of_runs (record { sound = b.sound; late = b.late; asked = b.asked; gone = b.gone; begin_few = b.begin_few; stay_few = b.stay_few; nodes = b.nodes; starting = b.starting })
    b.ends

pub returns-clause-on : goal.returns-clause-on
returns-clause-on c =
    let b = c.laws_below.ensures in
    hosts_held_on (record { sound = b.sound; late = b.late; asked = b.asked; gone = b.gone; begin_few = b.begin_few; stay_few = b.stay_few; nodes = b.nodes; starting = b.starting })
    b.ends
