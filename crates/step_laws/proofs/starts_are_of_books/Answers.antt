use Rattle.step_laws.proofs.Starts as starts
use Rattle.step_laws.proofs.starts_are_of_books.Goals as goal

pub returns : goal.returns
returns c = starts.starts_are_of_books
