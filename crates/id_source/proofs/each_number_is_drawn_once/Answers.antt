use Rattle.id_source.proofs.Counting.{counts_on, each_is_drawn_once}
use Rattle.id_source.proofs.Taking.{takes_are_draws}
use Rattle.id_source.proofs.each_number_is_drawn_once.Goals as goal

pub returns-clause-once : goal.returns-clause-once
returns-clause-once c = each_is_drawn_once

pub returns-clause-counted : goal.returns-clause-counted
returns-clause-counted c = counts_on

pub returns-clause-taken : goal.returns-clause-taken
returns-clause-taken c = takes_are_draws
