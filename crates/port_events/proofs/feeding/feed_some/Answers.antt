use Rattle.std.proofs.Common.{rules}
use Rattle.port_events.specs.Feeding.{given}
use Rattle.port_events.proofs.EventLaws.{fed_none}
use Rattle.port_events.proofs.feeding.feed_some.Goals as goal

pub returns-in-None-clause-ok : goal.returns-in-None-clause-ok
returns-in-None-clause-ok g c =
    let fed = fed_none g.S.EndStep.steps c.args.now (g.R.Rng.stream c.args.rng.now) c.args.end.now (given (g.L.Link.given c.args.link.now) (g.E.Ether.given c.args.ether.now) (g.U.Uplink.given c.args.up.now)) in
    search (rules, fed)
