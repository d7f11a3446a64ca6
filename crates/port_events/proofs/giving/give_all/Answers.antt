use Rattle.std.proofs.Common.{rules, ◌≡◌, ◌<◌, take, get_or, length}
use Rattle.port_events.specs.Giving.{Gave}
use Rattle.port_events.proofs.Gives.{Gave-cut}
use Rattle.port_events.proofs.giving.give_all.Goals as goal

pub returns-in_err-give-clause-err : goal.returns-in_err-give-clause-err
returns-in_err-give-clause-err g c =
    let e = c.in_err-give.ensures in
    let all = c.args.outs.now in
    let i = c.loop-out.out-index in
    let within : i < length all = search rules in
    let is : c.out-item.result ≡ get_or all i c.out-item.result = search rules in
    let so_far : Gave (g.L.Link.given c.args.link.now) (g.L.Link.given c.loop-out.link) (g.E.Ether.given c.args.ether.now) (g.E.Ether.given c.loop-out.ether) (g.U.Uplink.given c.args.up.now) (g.U.Uplink.given c.loop-out.up) (take i all) = search rules in
    let cut = Gave-cut (g.L.Link.given c.args.link.now) (g.L.Link.given c.loop-out.link) (g.L.Link.given c.give.new.link) (g.E.Ether.given c.args.ether.now) (g.E.Ether.given c.loop-out.ether) (g.E.Ether.given c.give.new.ether) (g.U.Uplink.given c.args.up.now) (g.U.Uplink.given c.loop-out.up) (g.U.Uplink.given c.give.new.up)
    c.in_err-give.field-0.0 all i c.out-item.result within is e.fails so_far e.err in
    search (rules, cut)
