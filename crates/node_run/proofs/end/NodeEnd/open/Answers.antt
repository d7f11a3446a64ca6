use Rattle.node_run.proofs.Growing.{noted_grows}
use Rattle.node_run.proofs.end.NodeEnd.open.Goals as goal

pub returns-in_ok-lac-clause-log : goal.returns-in_ok-lac-clause-log
returns-in_ok-lac-clause-log g c = noted_grows _ _ _ c.in_ok-lac.ensures.opened.2

pub returns-in_ok-lns-clause-log : goal.returns-in_ok-lns-clause-log
returns-in_ok-lns-clause-log g c = noted_grows _ _ _ c.in_ok-lns.ensures.opened.2
