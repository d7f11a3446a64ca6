use Rattle.std.proofs.Common.{rules, ◌≡◌, ◌∙◌, ap, refl, drop, [], ◌∷◌}
use Rattle.std.specs.Prelude.{option_map}
use Rattle.port_events.specs.declared.end.Event.TheVariants as event
use Rattle.port_events.specs.Feeding.{given, Given, some_of}
use Rattle.port_events.specs.Taking.{datagram_event, frame_event, lower_event}
use Rattle.port_turn.specs.Turns.{waits, Waits, asked, Asked}
use Rattle.port_turn.proofs.Turning.{tells_of, may_of, asked_of, from_there, broke_there, four, link_broke, frame_broke, lower_broke, given_broke, tick_broke}
use Rattle.port_turn.proofs.turns.turn.Goals as goal

pub returns-in_err-datagram-clause-broke : goal.returns-in_err-datagram-clause-broke
returns-in_err-datagram-clause-broke g c =
    let before : Given = given (g.L.Link.given c.args.link.now) (g.E.Ether.given c.args.ether.now) (g.U.Uplink.given c.args.up.now) in
    let g0 : Given = given (g.L.Link.given c.next_datagram.new.link) (g.E.Ether.given c.args.ether.now) (g.U.Uplink.given c.args.up.now) in
    let kept : g0 ≡ before = ap (λ k. given k (g.E.Ether.given c.args.ether.now) (g.U.Uplink.given c.args.up.now)) c.in_err-datagram.ensures.kept in
    let w0 : Waits = waits (g.L.Link.waiting c.args.link.now) (g.E.Ether.waiting c.args.ether.now) (g.U.Uplink.waiting c.args.up.now) in
    let w1 : Waits = waits (g.L.Link.waiting c.next_datagram.new.link) (g.E.Ether.waiting c.args.ether.now) (g.U.Uplink.waiting c.args.up.now) in
    let a0 : Asked = asked (g.L.Link.asked c.args.link.now) (g.E.Ether.asked c.args.ether.now) (g.U.Uplink.asked c.args.up.now) in
    let a1 : Asked = asked (g.L.Link.asked c.next_datagram.new.link) (g.E.Ether.asked c.args.ether.now) (g.U.Uplink.asked c.args.up.now) in
    let laws = c.events_follow.ensures in
    let there = link_broke g.S.EndStep.steps g.S.EndStep.stops c.now-now.result (g.C.Clock.gives c.args.clock.now) c.now-now.ensures.told laws.fed laws.stopped laws.nothing c.in_err-datagram.field-0.0 (g.R.Rng.stream c.args.rng.now) c.args.end.now g0 w0 w1 a0 a1 c.in_err-datagram.ensures.around c.in_err-datagram.ensures.err refl refl c.in_err-datagram.ensures.asked refl refl in
    let broke = broke_there g.S.EndStep.steps g.S.EndStep.stops c.now-now.result c.in_err-datagram.field-0.0 (g.C.Clock.gives c.args.clock.now) (g.R.Rng.stream c.args.rng.now) c.args.end.now c.args.end.now before g0 g0 w0 w1 a0 a1 kept there in
    search (rules, broke)

pub returns-in_err-frame-clause-broke : goal.returns-in_err-frame-clause-broke
returns-in_err-frame-clause-broke g c =
    let before : Given = given (g.L.Link.given c.args.link.now) (g.E.Ether.given c.args.ether.now) (g.U.Uplink.given c.args.up.now) in
    let g0 : Given = given (g.L.Link.given c.next_datagram.new.link) (g.E.Ether.given c.args.ether.now) (g.U.Uplink.given c.args.up.now) in
    let g1 : Given = given (g.L.Link.given c.then_frame.new.link) (g.E.Ether.given c.then_frame.new.ether) (g.U.Uplink.given c.then_frame.new.up) in
    let kept : g0 ≡ before = ap (λ k. given k (g.E.Ether.given c.args.ether.now) (g.U.Uplink.given c.args.up.now)) c.in_ok-datagram.ensures.kept in
    let w0 : Waits = waits (g.L.Link.waiting c.args.link.now) (g.E.Ether.waiting c.args.ether.now) (g.U.Uplink.waiting c.args.up.now) in
    let w2 : Waits = waits (g.L.Link.waiting c.then_frame.new.link) (g.E.Ether.waiting c.then_frame.new.ether) (g.U.Uplink.waiting c.then_frame.new.up) in
    let a0 : Asked = asked (g.L.Link.asked c.args.link.now) (g.E.Ether.asked c.args.ether.now) (g.U.Uplink.asked c.args.up.now) in
    let a2 : Asked = asked (g.L.Link.asked c.then_frame.new.link) (g.E.Ether.asked c.then_frame.new.ether) (g.U.Uplink.asked c.then_frame.new.up) in
    let laws = c.events_follow.ensures in
    let there = frame_broke g.S.EndStep.steps g.S.EndStep.stops c.now-now.result (g.C.Clock.gives c.args.clock.now) c.now-now.ensures.told laws.fed laws.stopped laws.nothing c.in_err-frame.field-0.0 (g.R.Rng.stream c.args.rng.now) (g.R.Rng.stream c.then_frame.new.rng) c.args.end.now c.then_frame.new.end g0 g1 c.in_ok-datagram.datagram w0 w2 a0 a2 (may_of c.in_err-frame.field-0.0 datagram_event w0.link w0.link (g.L.Link.waiting c.next_datagram.new.link) w2.link c.in_ok-datagram.datagram refl c.in_ok-datagram.ensures.first c.in_ok-datagram.ensures.left (c.in_err-frame.ensures.link_waits)) c.in_err-frame.ensures.up_waits (asked_of a0.link a0.link (g.L.Link.asked c.next_datagram.new.link) a2.link refl c.in_ok-datagram.ensures.asked (c.in_err-frame.ensures.link_asked)) c.in_err-frame.ensures.up_asked c.in_err-frame.ensures.err in
    let broke = broke_there g.S.EndStep.steps g.S.EndStep.stops c.now-now.result c.in_err-frame.field-0.0 (g.C.Clock.gives c.args.clock.now) (g.R.Rng.stream c.args.rng.now) c.args.end.now c.then_frame.new.end before g0 g1 w0 w2 a0 a2 kept there in
    search (rules, broke)

pub returns-in_err-lower-clause-broke : goal.returns-in_err-lower-clause-broke
returns-in_err-lower-clause-broke g c =
    let before : Given = given (g.L.Link.given c.args.link.now) (g.E.Ether.given c.args.ether.now) (g.U.Uplink.given c.args.up.now) in
    let g0 : Given = given (g.L.Link.given c.next_datagram.new.link) (g.E.Ether.given c.args.ether.now) (g.U.Uplink.given c.args.up.now) in
    let g1 : Given = given (g.L.Link.given c.then_frame.new.link) (g.E.Ether.given c.then_frame.new.ether) (g.U.Uplink.given c.then_frame.new.up) in
    let g2 : Given = given (g.L.Link.given c.then_lower.new.link) (g.E.Ether.given c.then_lower.new.ether) (g.U.Uplink.given c.then_lower.new.up) in
    let kept : g0 ≡ before = ap (λ k. given k (g.E.Ether.given c.args.ether.now) (g.U.Uplink.given c.args.up.now)) c.in_ok-datagram.ensures.kept in
    let w0 : Waits = waits (g.L.Link.waiting c.args.link.now) (g.E.Ether.waiting c.args.ether.now) (g.U.Uplink.waiting c.args.up.now) in
    let w3 : Waits = waits (g.L.Link.waiting c.then_lower.new.link) (g.E.Ether.waiting c.then_lower.new.ether) (g.U.Uplink.waiting c.then_lower.new.up) in
    let a0 : Asked = asked (g.L.Link.asked c.args.link.now) (g.E.Ether.asked c.args.ether.now) (g.U.Uplink.asked c.args.up.now) in
    let a3 : Asked = asked (g.L.Link.asked c.then_lower.new.link) (g.E.Ether.asked c.then_lower.new.ether) (g.U.Uplink.asked c.then_lower.new.up) in
    let laws = c.events_follow.ensures in
    let w1 : Waits = waits (g.L.Link.waiting c.then_frame.new.link) (g.E.Ether.waiting c.then_frame.new.ether) (g.U.Uplink.waiting c.then_frame.new.up) in
    let a1 : Asked = asked (g.L.Link.asked c.then_frame.new.link) (g.E.Ether.asked c.then_frame.new.ether) (g.U.Uplink.asked c.then_frame.new.up) in
    let there = lower_broke g.S.EndStep.steps g.S.EndStep.stops c.now-now.result (g.C.Clock.gives c.args.clock.now) c.now-now.ensures.told laws.fed laws.stopped laws.nothing c.in_err-lower.field-0.0 (g.R.Rng.stream c.args.rng.now) (g.R.Rng.stream c.then_frame.new.rng) (g.R.Rng.stream c.then_lower.new.rng) c.args.end.now c.then_frame.new.end c.then_lower.new.end g0 g1 g2 c.in_ok-datagram.datagram c.in_ok-frame.frame w0 w1 w3 a0 a1 a3 c.in_ok-frame.ensures.up_waits c.in_ok-frame.ensures.up_asked c.in_ok-frame.ensures.fed (may_of c.in_err-lower.field-0.0 datagram_event w0.link w0.link (g.L.Link.waiting c.next_datagram.new.link) w3.link c.in_ok-datagram.datagram refl c.in_ok-datagram.ensures.first c.in_ok-datagram.ensures.left (c.in_err-lower.ensures.link_waits ∙ c.in_ok-frame.ensures.link_waits)) (may_of c.in_err-lower.field-0.0 frame_event w0.ether w0.ether (g.E.Ether.waiting c.then_frame.new.ether) w3.ether c.in_ok-frame.frame refl c.in_ok-frame.ensures.first c.in_ok-frame.ensures.left (c.in_err-lower.ensures.ether_waits)) (asked_of a0.link a0.link (g.L.Link.asked c.next_datagram.new.link) a3.link refl c.in_ok-datagram.ensures.asked (c.in_err-lower.ensures.link_asked ∙ c.in_ok-frame.ensures.link_asked)) (asked_of a0.ether a0.ether (g.E.Ether.asked c.then_frame.new.ether) a3.ether refl c.in_ok-frame.ensures.asks (c.in_err-lower.ensures.ether_asked)) c.in_err-lower.ensures.err in
    let broke = broke_there g.S.EndStep.steps g.S.EndStep.stops c.now-now.result c.in_err-lower.field-0.0 (g.C.Clock.gives c.args.clock.now) (g.R.Rng.stream c.args.rng.now) c.args.end.now c.then_lower.new.end before g0 g2 w0 w3 a0 a3 kept there in
    search (rules, broke)

pub returns-in_err-feed_some-clause-broke : goal.returns-in_err-feed_some-clause-broke
returns-in_err-feed_some-clause-broke g c =
    let before : Given = given (g.L.Link.given c.args.link.now) (g.E.Ether.given c.args.ether.now) (g.U.Uplink.given c.args.up.now) in
    let g0 : Given = given (g.L.Link.given c.next_datagram.new.link) (g.E.Ether.given c.args.ether.now) (g.U.Uplink.given c.args.up.now) in
    let g1 : Given = given (g.L.Link.given c.then_frame.new.link) (g.E.Ether.given c.then_frame.new.ether) (g.U.Uplink.given c.then_frame.new.up) in
    let g2 : Given = given (g.L.Link.given c.then_lower.new.link) (g.E.Ether.given c.then_lower.new.ether) (g.U.Uplink.given c.then_lower.new.up) in
    let g3 : Given = given (g.L.Link.given c.feed_some.new.link) (g.E.Ether.given c.feed_some.new.ether) (g.U.Uplink.given c.feed_some.new.up) in
    let kept : g0 ≡ before = ap (λ k. given k (g.E.Ether.given c.args.ether.now) (g.U.Uplink.given c.args.up.now)) c.in_ok-datagram.ensures.kept in
    let w0 : Waits = waits (g.L.Link.waiting c.args.link.now) (g.E.Ether.waiting c.args.ether.now) (g.U.Uplink.waiting c.args.up.now) in
    let w4 : Waits = waits (g.L.Link.waiting c.feed_some.new.link) (g.E.Ether.waiting c.feed_some.new.ether) (g.U.Uplink.waiting c.feed_some.new.up) in
    let a0 : Asked = asked (g.L.Link.asked c.args.link.now) (g.E.Ether.asked c.args.ether.now) (g.U.Uplink.asked c.args.up.now) in
    let a4 : Asked = asked (g.L.Link.asked c.feed_some.new.link) (g.E.Ether.asked c.feed_some.new.ether) (g.U.Uplink.asked c.feed_some.new.up) in
    let laws = c.events_follow.ensures in
    let there = given_broke g.S.EndStep.steps g.S.EndStep.stops c.now-now.result (g.C.Clock.gives c.args.clock.now) c.now-now.ensures.told laws.fed laws.stopped laws.nothing c.in_err-feed_some.field-0.0 (g.R.Rng.stream c.args.rng.now) (g.R.Rng.stream c.then_frame.new.rng) (g.R.Rng.stream c.then_lower.new.rng) c.args.end.now c.then_frame.new.end c.then_lower.new.end c.feed_some.new.end g0 g1 g2 g3 c.in_ok-datagram.datagram c.in_ok-frame.frame c.in_ok-lower.lower w0 w4 a0 a4 c.in_ok-frame.ensures.fed c.in_ok-lower.ensures.fed (may_of c.in_err-feed_some.field-0.0 datagram_event w0.link w0.link (g.L.Link.waiting c.next_datagram.new.link) w4.link c.in_ok-datagram.datagram refl c.in_ok-datagram.ensures.first c.in_ok-datagram.ensures.left (c.in_err-feed_some.ensures.link_waits ∙ c.in_ok-lower.ensures.link_waits ∙ c.in_ok-frame.ensures.link_waits)) (may_of c.in_err-feed_some.field-0.0 frame_event w0.ether w0.ether (g.E.Ether.waiting c.then_frame.new.ether) w4.ether c.in_ok-frame.frame refl c.in_ok-frame.ensures.first c.in_ok-frame.ensures.left (c.in_err-feed_some.ensures.ether_waits ∙ c.in_ok-lower.ensures.ether_waits)) (may_of c.in_err-feed_some.field-0.0 lower_event w0.up (g.U.Uplink.waiting c.then_frame.new.up) (g.U.Uplink.waiting c.then_lower.new.up) w4.up c.in_ok-lower.lower c.in_ok-frame.ensures.up_waits c.in_ok-lower.ensures.first c.in_ok-lower.ensures.left (c.in_err-feed_some.ensures.up_waits)) (asked_of a0.link a0.link (g.L.Link.asked c.next_datagram.new.link) a4.link refl c.in_ok-datagram.ensures.asked (c.in_err-feed_some.ensures.link_asked ∙ c.in_ok-lower.ensures.link_asked ∙ c.in_ok-frame.ensures.link_asked)) (asked_of a0.ether a0.ether (g.E.Ether.asked c.then_frame.new.ether) a4.ether refl c.in_ok-frame.ensures.asks (c.in_err-feed_some.ensures.ether_asked ∙ c.in_ok-lower.ensures.ether_asked)) (asked_of a0.up (g.U.Uplink.asked c.then_frame.new.up) (g.U.Uplink.asked c.then_lower.new.up) a4.up c.in_ok-frame.ensures.up_asked c.in_ok-lower.ensures.asks (c.in_err-feed_some.ensures.up_asked)) c.in_err-feed_some.ensures.err in
    let broke = broke_there g.S.EndStep.steps g.S.EndStep.stops c.now-now.result c.in_err-feed_some.field-0.0 (g.C.Clock.gives c.args.clock.now) (g.R.Rng.stream c.args.rng.now) c.args.end.now c.feed_some.new.end before g0 g3 w0 w4 a0 a4 kept there in
    search (rules, broke)

pub returns-in_err-feed-clause-broke : goal.returns-in_err-feed-clause-broke
returns-in_err-feed-clause-broke g c =
    let before : Given = given (g.L.Link.given c.args.link.now) (g.E.Ether.given c.args.ether.now) (g.U.Uplink.given c.args.up.now) in
    let g0 : Given = given (g.L.Link.given c.next_datagram.new.link) (g.E.Ether.given c.args.ether.now) (g.U.Uplink.given c.args.up.now) in
    let g1 : Given = given (g.L.Link.given c.then_frame.new.link) (g.E.Ether.given c.then_frame.new.ether) (g.U.Uplink.given c.then_frame.new.up) in
    let g2 : Given = given (g.L.Link.given c.then_lower.new.link) (g.E.Ether.given c.then_lower.new.ether) (g.U.Uplink.given c.then_lower.new.up) in
    let g3 : Given = given (g.L.Link.given c.feed_some.new.link) (g.E.Ether.given c.feed_some.new.ether) (g.U.Uplink.given c.feed_some.new.up) in
    let g4 : Given = given (g.L.Link.given c.feed.new.link) (g.E.Ether.given c.feed.new.ether) (g.U.Uplink.given c.feed.new.up) in
    let kept : g0 ≡ before = ap (λ k. given k (g.E.Ether.given c.args.ether.now) (g.U.Uplink.given c.args.up.now)) c.in_ok-datagram.ensures.kept in
    let w0 : Waits = waits (g.L.Link.waiting c.args.link.now) (g.E.Ether.waiting c.args.ether.now) (g.U.Uplink.waiting c.args.up.now) in
    let w5 : Waits = waits (g.L.Link.waiting c.feed.new.link) (g.E.Ether.waiting c.feed.new.ether) (g.U.Uplink.waiting c.feed.new.up) in
    let a0 : Asked = asked (g.L.Link.asked c.args.link.now) (g.E.Ether.asked c.args.ether.now) (g.U.Uplink.asked c.args.up.now) in
    let a5 : Asked = asked (g.L.Link.asked c.feed.new.link) (g.E.Ether.asked c.feed.new.ether) (g.U.Uplink.asked c.feed.new.up) in
    let laws = c.events_follow.ensures in
    let there = tick_broke g.S.EndStep.steps g.S.EndStep.stops c.now-now.result (g.C.Clock.gives c.args.clock.now) c.now-now.ensures.told laws.fed laws.stopped laws.nothing c.in_err-feed.field-0.0 (g.R.Rng.stream c.args.rng.now) (g.R.Rng.stream c.then_frame.new.rng) (g.R.Rng.stream c.then_lower.new.rng) (g.R.Rng.stream c.feed_some.new.rng) c.args.end.now c.then_frame.new.end c.then_lower.new.end c.feed_some.new.end c.feed.new.end g0 g1 g2 g3 g4 c.in_ok-datagram.datagram c.in_ok-frame.frame c.in_ok-lower.lower w0 w5 a0 a5 c.in_ok-frame.ensures.fed c.in_ok-lower.ensures.fed c.in_ok-feed_some.ensures.ok (may_of c.in_err-feed.field-0.0 datagram_event w0.link w0.link (g.L.Link.waiting c.next_datagram.new.link) w5.link c.in_ok-datagram.datagram refl c.in_ok-datagram.ensures.first c.in_ok-datagram.ensures.left (c.in_err-feed.ensures.link_waits ∙ c.in_ok-feed_some.ensures.link_waits ∙ c.in_ok-lower.ensures.link_waits ∙ c.in_ok-frame.ensures.link_waits)) (may_of c.in_err-feed.field-0.0 frame_event w0.ether w0.ether (g.E.Ether.waiting c.then_frame.new.ether) w5.ether c.in_ok-frame.frame refl c.in_ok-frame.ensures.first c.in_ok-frame.ensures.left (c.in_err-feed.ensures.ether_waits ∙ c.in_ok-feed_some.ensures.ether_waits ∙ c.in_ok-lower.ensures.ether_waits)) (may_of c.in_err-feed.field-0.0 lower_event w0.up (g.U.Uplink.waiting c.then_frame.new.up) (g.U.Uplink.waiting c.then_lower.new.up) w5.up c.in_ok-lower.lower c.in_ok-frame.ensures.up_waits c.in_ok-lower.ensures.first c.in_ok-lower.ensures.left (c.in_err-feed.ensures.up_waits ∙ c.in_ok-feed_some.ensures.up_waits)) (asked_of a0.link a0.link (g.L.Link.asked c.next_datagram.new.link) a5.link refl c.in_ok-datagram.ensures.asked (c.in_err-feed.ensures.link_asked ∙ c.in_ok-feed_some.ensures.link_asked ∙ c.in_ok-lower.ensures.link_asked ∙ c.in_ok-frame.ensures.link_asked)) (asked_of a0.ether a0.ether (g.E.Ether.asked c.then_frame.new.ether) a5.ether refl c.in_ok-frame.ensures.asks (c.in_err-feed.ensures.ether_asked ∙ c.in_ok-feed_some.ensures.ether_asked ∙ c.in_ok-lower.ensures.ether_asked)) (asked_of a0.up (g.U.Uplink.asked c.then_frame.new.up) (g.U.Uplink.asked c.then_lower.new.up) a5.up c.in_ok-frame.ensures.up_asked c.in_ok-lower.ensures.asks (c.in_err-feed.ensures.up_asked ∙ c.in_ok-feed_some.ensures.up_asked)) c.in_err-feed.ensures.err in
    let broke = broke_there g.S.EndStep.steps g.S.EndStep.stops c.now-now.result c.in_err-feed.field-0.0 (g.C.Clock.gives c.args.clock.now) (g.R.Rng.stream c.args.rng.now) c.args.end.now c.feed.new.end before g0 g4 w0 w5 a0 a5 kept there in
    search (rules, broke)

pub returns-clause-whole : goal.returns-clause-whole
returns-clause-whole g c =
    let before : Given = given (g.L.Link.given c.args.link.now) (g.E.Ether.given c.args.ether.now) (g.U.Uplink.given c.args.up.now) in
    let g0 : Given = given (g.L.Link.given c.next_datagram.new.link) (g.E.Ether.given c.args.ether.now) (g.U.Uplink.given c.args.up.now) in
    let g1 : Given = given (g.L.Link.given c.then_frame.new.link) (g.E.Ether.given c.then_frame.new.ether) (g.U.Uplink.given c.then_frame.new.up) in
    let g2 : Given = given (g.L.Link.given c.then_lower.new.link) (g.E.Ether.given c.then_lower.new.ether) (g.U.Uplink.given c.then_lower.new.up) in
    let g3 : Given = given (g.L.Link.given c.feed_some.new.link) (g.E.Ether.given c.feed_some.new.ether) (g.U.Uplink.given c.feed_some.new.up) in
    let g4 : Given = given (g.L.Link.given c.feed.new.link) (g.E.Ether.given c.feed.new.ether) (g.U.Uplink.given c.feed.new.up) in
    let kept : g0 ≡ before = ap (λ k. given k (g.E.Ether.given c.args.ether.now) (g.U.Uplink.given c.args.up.now)) c.in_ok-datagram.ensures.kept in
    let w0 : Waits = waits (g.L.Link.waiting c.args.link.now) (g.E.Ether.waiting c.args.ether.now) (g.U.Uplink.waiting c.args.up.now) in
    let w5 : Waits = waits (g.L.Link.waiting c.feed.new.link) (g.E.Ether.waiting c.feed.new.ether) (g.U.Uplink.waiting c.feed.new.up) in
    let a0 : Asked = asked (g.L.Link.asked c.args.link.now) (g.E.Ether.asked c.args.ether.now) (g.U.Uplink.asked c.args.up.now) in
    let a5 : Asked = asked (g.L.Link.asked c.feed.new.link) (g.E.Ether.asked c.feed.new.ether) (g.U.Uplink.asked c.feed.new.up) in
    let laws = c.events_follow.ensures in
    let fed = four g.S.EndStep.steps c.now-now.result laws.fed (g.R.Rng.stream c.args.rng.now) (g.R.Rng.stream c.then_frame.new.rng) (g.R.Rng.stream c.then_lower.new.rng) (g.R.Rng.stream c.feed_some.new.rng) (g.R.Rng.stream c.feed.new.rng) c.args.end.now c.then_frame.new.end c.then_lower.new.end c.feed_some.new.end c.feed.new.end g0 g1 g2 g3 g4 (some_of c.in_ok-datagram.datagram) (some_of c.in_ok-frame.frame) (some_of c.in_ok-lower.lower) (event.Tick ∷ []) c.in_ok-frame.ensures.fed c.in_ok-lower.ensures.fed c.in_ok-feed_some.ensures.ok c.in_ok-feed.ensures.ok in (
      record { now = c.now-now.result; datagram = c.in_ok-datagram.datagram; frame = c.in_ok-frame.frame; lower = c.in_ok-lower.lower },
      record {
        takes = record {
          datagram = c.in_ok-datagram.ensures.first;
          frame = c.in_ok-frame.ensures.first;
          lower = tells_of lower_event w0.up (g.U.Uplink.waiting c.then_frame.new.up) c.in_ok-lower.lower c.in_ok-frame.ensures.up_waits c.in_ok-lower.ensures.first;
          link = c.in_ok-feed.ensures.link_waits ∙ c.in_ok-feed_some.ensures.link_waits ∙ c.in_ok-lower.ensures.link_waits ∙ c.in_ok-frame.ensures.link_waits ∙ c.in_ok-datagram.ensures.left;
          ether = c.in_ok-feed.ensures.ether_waits ∙ c.in_ok-feed_some.ensures.ether_waits ∙ c.in_ok-lower.ensures.ether_waits ∙ c.in_ok-frame.ensures.left;
          up = c.in_ok-feed.ensures.up_waits ∙ c.in_ok-feed_some.ensures.up_waits ∙ c.in_ok-lower.ensures.left ∙ ap (option_map (drop 1)) c.in_ok-frame.ensures.up_waits;
        };
        asks = (
          asked_of a0.link a0.link (g.L.Link.asked c.next_datagram.new.link) a5.link refl c.in_ok-datagram.ensures.asked (c.in_ok-feed.ensures.link_asked ∙ c.in_ok-feed_some.ensures.link_asked ∙ c.in_ok-lower.ensures.link_asked ∙ c.in_ok-frame.ensures.link_asked),
          asked_of a0.ether a0.ether (g.E.Ether.asked c.then_frame.new.ether) a5.ether refl c.in_ok-frame.ensures.asks (c.in_ok-feed.ensures.ether_asked ∙ c.in_ok-feed_some.ensures.ether_asked ∙ c.in_ok-lower.ensures.ether_asked),
          asked_of a0.up (g.U.Uplink.asked c.then_frame.new.up) (g.U.Uplink.asked c.then_lower.new.up) a5.up c.in_ok-frame.ensures.up_asked c.in_ok-lower.ensures.asks (c.in_ok-feed.ensures.up_asked ∙ c.in_ok-feed_some.ensures.up_asked),
        );
        fed = from_there g.S.EndStep.steps c.now-now.result (g.R.Rng.stream c.args.rng.now) (g.R.Rng.stream c.feed.new.rng) c.args.end.now c.feed.new.end before g0 g4 _ kept fed;
      },
      c.now-now.ensures.told,
    )
