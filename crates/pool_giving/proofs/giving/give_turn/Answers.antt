use Rattle.std.proofs.Common.{rules, ◌≡◌, ◌<◌, get_or, length}
use Rattle.pool_giving.proofs.Outputs.{gives_front}
use Rattle.pool_giving.proofs.giving.give_turn.Goals as goal

pub returns-in_err-give_out-clause-err : goal.returns-in_err-give_out-clause-err
returns-in_err-give_out-clause-err g c =
    let all = c.args.given.now in
    let i = c.loop-out.out-index in
    let within : i < length all = search rules in
    let is : c.out-item.result ≡ get_or all i c.out-item.result = search rules in
    let front = gives_front c.args.hosts.now all i c.out-item.result (g.P.Ports.around c.args.ports.now) (g.P.Ports.around c.loop-out.ports) (g.P.Ports.around c.give_out.new.ports)
    within is c.loop-out.invariant.gives c.in_err-give_out.ensures.err in
    search (rules, front)
