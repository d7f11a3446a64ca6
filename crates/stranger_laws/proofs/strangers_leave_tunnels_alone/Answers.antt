use Rattle.stranger_laws.proofs.Others as others
use Rattle.stranger_laws.proofs.strangers_leave_tunnels_alone.Goals as goal

pub returns-clause-each : goal.returns-clause-each
returns-clause-each c = others.datagrams_leave_others_alone c.steps_are_chains.ensures c.looks_are_true.ensures.stay c.calls_go_once.ensures

pub returns-clause-all : goal.returns-clause-all
returns-clause-all c =
    others.tunnels_outlast_strangers c.steps_are_chains.ensures c.looks_are_true.ensures.stay
    (others.datagrams_leave_others_alone c.steps_are_chains.ensures c.looks_are_true.ensures.stay c.calls_go_once.ensures)
