use Rattle.std.proofs.Common.{rules, [], ◌∷◌, ◌++◌, ◌∙◌}
use Rattle.port_events.specs.Feeding.{given}
use Rattle.port_turn.specs.Turns.{Turn, waits, asked}
use Rattle.port_turn.specs.Runs.{node, BreaksOff, MakesTurn}
use Rattle.port_turn.proofs.Running.{one_more, so_many}
use Rattle.port_turn.proofs.serving.serve.Goals as goal

pub returns-in_err-turn-clause-err : goal.returns-in_err-turn-clause-err
returns-in_err-turn-clause-err g c =
    let so_far = c.loop.invariant.runs in
    let broke : BreaksOff g.S.EndStep.steps g.S.EndStep.stops c.in_err-turn.field-0.0 (node (g.R.Rng.stream c.args.rng.now) (g.C.Clock.gives c.args.clock.now) c.args.end.now (given (g.L.Link.given c.args.link.now) (g.E.Ether.given c.args.ether.now) (g.U.Uplink.given c.args.up.now)) (waits (g.L.Link.waiting c.args.link.now) (g.E.Ether.waiting c.args.ether.now) (g.U.Uplink.waiting c.args.up.now)) (asked (g.L.Link.asked c.args.link.now) (g.E.Ether.asked c.args.ether.now) (g.U.Uplink.asked c.args.up.now))) c.turn.new.end (given (g.L.Link.given c.turn.new.link) (g.E.Ether.given c.turn.new.ether) (g.U.Uplink.given c.turn.new.up)) (waits (g.L.Link.waiting c.turn.new.link) (g.E.Ether.waiting c.turn.new.ether) (g.U.Uplink.waiting c.turn.new.up)) (asked (g.L.Link.asked c.turn.new.link) (g.E.Ether.asked c.turn.new.ether) (g.U.Uplink.asked c.turn.new.up)) =
    record { turns = so_far.0; mid = (node (g.R.Rng.stream c.loop.rng) (g.C.Clock.gives c.loop.clock) c.loop.end (given (g.L.Link.given c.loop.link) (g.E.Ether.given c.loop.ether) (g.U.Uplink.given c.loop.up)) (waits (g.L.Link.waiting c.loop.link) (g.E.Ether.waiting c.loop.ether) (g.U.Uplink.waiting c.loop.up)) (asked (g.L.Link.asked c.loop.link) (g.E.Ether.asked c.loop.ether) (g.U.Uplink.asked c.loop.up))); runs = so_far.2; broke = c.in_err-turn.ensures.broke } in
    search (rules, broke)

pub loop-preserved : goal.loop-preserved
loop-preserved g c =
    let so_far = c.loop.invariant.runs in
    let e = c.in_ok-turn.ensures in
    let t : Turn = e.whole.0 in
    let more : MakesTurn g.S.EndStep.steps t (node (g.R.Rng.stream c.loop.rng) (g.C.Clock.gives c.loop.clock) c.loop.end (given (g.L.Link.given c.loop.link) (g.E.Ether.given c.loop.ether) (g.U.Uplink.given c.loop.up)) (waits (g.L.Link.waiting c.loop.link) (g.E.Ether.waiting c.loop.ether) (g.U.Uplink.waiting c.loop.up)) (asked (g.L.Link.asked c.loop.link) (g.E.Ether.asked c.loop.ether) (g.U.Uplink.asked c.loop.up))) (node (g.R.Rng.stream c.turn.new.rng) (g.C.Clock.gives c.turn.new.clock) c.turn.new.end (given (g.L.Link.given c.turn.new.link) (g.E.Ether.given c.turn.new.ether) (g.U.Uplink.given c.turn.new.up)) (waits (g.L.Link.waiting c.turn.new.link) (g.E.Ether.waiting c.turn.new.ether) (g.U.Uplink.waiting c.turn.new.up)) (asked (g.L.Link.asked c.turn.new.link) (g.E.Ether.asked c.turn.new.ether) (g.U.Uplink.asked c.turn.new.up))) = record { turned = e.whole.1; moment_is = e.whole.2; clock_is = e.clock } in
    record {
      ready = e.ready;
      runs = (so_far.0 ++ t ∷ [], so_many so_far.0 t c.loop.counter so_far.1, one_more g.S.EndStep.steps so_far.0 t (node (g.R.Rng.stream c.args.rng.now) (g.C.Clock.gives c.args.clock.now) c.args.end.now (given (g.L.Link.given c.args.link.now) (g.E.Ether.given c.args.ether.now) (g.U.Uplink.given c.args.up.now)) (waits (g.L.Link.waiting c.args.link.now) (g.E.Ether.waiting c.args.ether.now) (g.U.Uplink.waiting c.args.up.now)) (asked (g.L.Link.asked c.args.link.now) (g.E.Ether.asked c.args.ether.now) (g.U.Uplink.asked c.args.up.now))) (node (g.R.Rng.stream c.loop.rng) (g.C.Clock.gives c.loop.clock) c.loop.end (given (g.L.Link.given c.loop.link) (g.E.Ether.given c.loop.ether) (g.U.Uplink.given c.loop.up)) (waits (g.L.Link.waiting c.loop.link) (g.E.Ether.waiting c.loop.ether) (g.U.Uplink.waiting c.loop.up)) (asked (g.L.Link.asked c.loop.link) (g.E.Ether.asked c.loop.ether) (g.U.Uplink.asked c.loop.up))) (node (g.R.Rng.stream c.turn.new.rng) (g.C.Clock.gives c.turn.new.clock) c.turn.new.end (given (g.L.Link.given c.turn.new.link) (g.E.Ether.given c.turn.new.ether) (g.U.Uplink.given c.turn.new.up)) (waits (g.L.Link.waiting c.turn.new.link) (g.E.Ether.waiting c.turn.new.ether) (g.U.Uplink.waiting c.turn.new.up)) (asked (g.L.Link.asked c.turn.new.link) (g.E.Ether.asked c.turn.new.ether) (g.U.Uplink.asked c.turn.new.up))) so_far.2 more);
      link_faults = e.cause.0 ∙ c.loop.invariant.link_faults;
      ether_faults = e.cause.1 ∙ c.loop.invariant.ether_faults;
      up_faults = e.cause.2 ∙ c.loop.invariant.up_faults;
    }
