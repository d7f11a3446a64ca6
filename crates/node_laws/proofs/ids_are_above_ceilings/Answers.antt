use Rattle.node_laws.proofs.Runs.{ids_of_runs}
use Rattle.node_laws.proofs.ids_are_above_ceilings.Goals as goal

pub returns : goal.returns
returns c = ids_of_runs c.books_are_of_ends.ensures.nodes
