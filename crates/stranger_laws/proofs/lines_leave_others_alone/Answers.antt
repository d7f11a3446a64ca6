use Rattle.stranger_laws.proofs.Kept.{lines_leave_others_alone}
use Rattle.stranger_laws.proofs.lines_leave_others_alone.Goals as goal

pub returns : goal.returns
returns c =
    lines_leave_others_alone c.looks_are_true.ensures.stay c.steps_are_booked.ensures.each c.calls_are_by_place.ensures
    c.strangers_leave_tunnels_alone.ensures.each c.books_are_of_ends.ensures.nodes
