use Rattle.letter_laws.proofs.Next.{of_runs}
use Rattle.letter_laws.proofs.letters_are_next.Goals as goal

pub returns : goal.returns
returns c = of_runs
