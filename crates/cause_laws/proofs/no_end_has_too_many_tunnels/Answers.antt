use Rattle.cause_laws.proofs.Left.{tunnels_are_few}
use Rattle.cause_laws.proofs.no_end_has_too_many_tunnels.Goals as goal

pub returns : goal.returns
returns c =
    let b = c.laws_below.ensures in
    tunnels_are_few (record { sound = b.sound; late = b.late; asked = b.asked; gone = b.gone; begin_few = b.begin_few; stay_few = b.stay_few; nodes = b.nodes; starting = b.starting })
    b.ends
