use Rattle.pool_turns.proofs.Following.{puts_all, gives_more, is_one_of, breaks_then}
use Rattle.pool_turns.proofs.turns_follow.Goals as goal

pub returns-clause-puts : goal.returns-clause-puts
returns-clause-puts c = puts_all

pub returns-clause-more : goal.returns-clause-more
returns-clause-more c = gives_more

pub returns-clause-early : goal.returns-clause-early
returns-clause-early c = is_one_of

pub returns-clause-then : goal.returns-clause-then
returns-clause-then c = breaks_then
