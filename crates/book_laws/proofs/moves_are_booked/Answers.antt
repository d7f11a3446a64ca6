use Rattle.book_laws.proofs.Steps.{moves_are_booked}
use Rattle.book_laws.proofs.moves_are_booked.Goals as goal

pub returns : goal.returns
returns c = moves_are_booked
