use Rattle.stranger_steps.proofs.Strangers as stranger
use Rattle.stranger_steps.proofs.strangers_change_nothing.Goals as goal

pub returns-clause-ends : goal.returns-clause-ends
returns-clause-ends c = stranger.strangers_change_nothing

pub returns-clause-hosts : goal.returns-clause-hosts
returns-clause-hosts c = stranger.datagrams_are_of_ends
