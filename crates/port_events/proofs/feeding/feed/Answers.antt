use Rattle.std.proofs.Common.{rules}
use Rattle.port_events.specs.Feeding.{given}
use Rattle.port_events.proofs.EventLaws.{stopped_before, stopped_inside}
use Rattle.port_events.proofs.feeding.feed.Goals as goal

pub returns-in_err-give_all-in-Ok-clause-err : goal.returns-in_err-give_all-in-Ok-clause-err
returns-in_err-give_all-in-Ok-clause-err g c =
    let part = c.in_err-give_all-in-Ok.ensures.err in
    let stopped = stopped_inside g.S.EndStep.steps g.S.EndStep.stops c.args.now c.in_err-give_all-in-Ok.field-0.0 (g.R.Rng.stream c.args.rng.now) (g.R.Rng.stream c.next_block-block.new.rng) c.next_block-block.result c.args.end.now c.step.new.self
    (given (g.L.Link.given c.args.link.now) (g.E.Ether.given c.args.ether.now) (g.U.Uplink.given c.args.up.now))
    (given (g.L.Link.given c.give_all.new.link) (g.E.Ether.given c.give_all.new.ether) (g.U.Uplink.given c.give_all.new.up))
    c.args.event c.in-Ok.outs part.0 c.next_block-block.ensures c.in-Ok.ensures.made part.1 part.2 in
    search (rules, stopped)

pub returns-in-Err-clause-err : goal.returns-in-Err-clause-err
returns-in-Err-clause-err g c =
    stopped_before g.S.EndStep.steps g.S.EndStep.stops c.args.now c.in-Err.stop (g.R.Rng.stream c.args.rng.now) (g.R.Rng.stream c.next_block-block.new.rng) c.next_block-block.result c.args.end.now c.step.new.self
    (given (g.L.Link.given c.args.link.now) (g.E.Ether.given c.args.ether.now) (g.U.Uplink.given c.args.up.now)) c.args.event c.next_block-block.ensures c.in-Err.ensures.stopped
