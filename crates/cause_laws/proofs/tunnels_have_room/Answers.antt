use Rattle.cause_laws.proofs.Runs.{room_in_runs}
use Rattle.cause_laws.proofs.tunnels_have_room.Goals as goal

pub returns : goal.returns
returns c =
    let b = c.laws_below.ensures in
    room_in_runs (record { sound = b.sound; late = b.late; asked = b.asked; gone = b.gone; begin_few = b.begin_few; stay_few = b.stay_few; nodes = b.nodes; starting = b.starting })
    b.ends
