use Rattle.std.proofs.Common.{Option, length, sym, subst}
use Rattle.port_events.specs.declared.end.Event.{Event}
use Rattle.port_events.specs.Feeding.{some_of}
use Rattle.pool_turns.specs.Turns.{Draws}
use Rattle.pool_turns.proofs.Drawing.{draws_none}
use Rattle.pool_serving.proofs.desk.Desk.run_some.Goals as goal

pub returns-in-None-clause-draws : goal.returns-in-None-clause-draws
returns-in-None-clause-draws g c =
    let a = g.P.Ports.around c.args.ports.now in
    subst (λ (e : Option Event). Draws (length (some_of e)) a a) (sym c.in-None.is) (draws_none a)
