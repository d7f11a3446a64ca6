use Rattle.closing_join_laws.proofs.Lost.{lost_of_runs}
use Rattle.closing_join_laws.proofs.lost_openers_learn_none.Goals as goal

pub returns : goal.returns
returns c = lost_of_runs c.laws_below.ensures.epochs c.laws_below.ensures.letters
