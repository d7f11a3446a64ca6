use Rattle.cause_laws.proofs.Left.{none_is_left}
use Rattle.cause_laws.proofs.no_call_is_left.Goals as goal

pub returns : goal.returns
returns c =
    let b = c.laws_below.ensures in
    none_is_left (record { sound = b.sound; late = b.late; asked = b.asked; gone = b.gone; begin_few = b.begin_few; stay_few = b.stay_few; nodes = b.nodes; starting = b.starting })
    b.ends
