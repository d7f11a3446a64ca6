use Rattle.port_events.proofs.EventLaws.{fed_then, stopped_later, stopped_now, leads_as_function}
use Rattle.port_events.proofs.laws.events_follow.Goals as goal

pub returns-clause-fed : goal.returns-clause-fed
returns-clause-fed g c = fed_then g.S.EndStep.steps

pub returns-clause-stopped : goal.returns-clause-stopped
returns-clause-stopped g c = stopped_later g.S.EndStep.steps g.S.EndStep.stops

pub returns-clause-nothing : goal.returns-clause-nothing
returns-clause-nothing g c = stopped_now g.S.EndStep.steps g.S.EndStep.stops

pub returns-clause-function : goal.returns-clause-function
returns-clause-function g c = leads_as_function g.S.EndStep.steps
