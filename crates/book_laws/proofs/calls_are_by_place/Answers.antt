use Rattle.book_laws.proofs.Places.{calls_are_by_place}
use Rattle.book_laws.proofs.calls_are_by_place.Goals as goal

pub returns : goal.returns
returns c = calls_are_by_place
