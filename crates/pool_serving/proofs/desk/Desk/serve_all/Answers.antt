use Rattle.std.proofs.Common.{false}
use Rattle.pool_serving.proofs.Answering.{ok_then, err_then, err_always}
use Rattle.pool_serving.proofs.Passes.{puts_same}
use Rattle.pool_serving.proofs.Turns.{HasRun, HasBroken, never, served, broken}
use Rattle.pool_serving.proofs.desk.Desk.serve_all.Goals as goal

pub returns-in_err-begin-clause-err : goal.returns-in_err-begin-clause-err
returns-in_err-begin-clause-err g c =
    let a = g.P.Ports.around in
    let p = c.args.pass.now in
    let q = c.begin.new.pass in
    err_always c.from_residual.result (never c.args.opens c.args.turns p q (puts_same p q c.begin.ensures.known) (a c.args.ports.now) (a c.begin.new.ports) c.in_err-begin.ensures.err)

pub returns-clause-ok : goal.returns-clause-ok
returns-clause-ok g c =
    let a = g.P.Ports.around in
    let p = c.args.pass.now in
    let q = c.begin.new.pass in
    let r = c.make_turns.new.pass in
    ok_then c.make_turns.result (λ (h : HasRun c.args.turns q r (a c.begin.new.ports) (a c.make_turns.new.ports)).
    served c.args.opens c.args.turns p q (puts_same p q c.begin.ensures.known) (a c.args.ports.now) (a c.begin.new.ports) c.in_ok-begin.ensures.ok r (a c.make_turns.new.ports) h)
    c.make_turns.ensures.ok

pub returns-clause-err : goal.returns-clause-err
returns-clause-err g c =
    let a = g.P.Ports.around in
    let p = c.args.pass.now in
    let q = c.begin.new.pass in
    let r = c.make_turns.new.pass in
    err_then c.make_turns.result (λ (h : HasBroken false c.args.turns q r (a c.begin.new.ports) (a c.make_turns.new.ports)).
    broken c.args.opens c.args.turns p q (puts_same p q c.begin.ensures.known) (a c.args.ports.now) (a c.begin.new.ports) c.in_ok-begin.ensures.ok r (a c.make_turns.new.ports) h)
    c.make_turns.ensures.err
