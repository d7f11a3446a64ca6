use Rattle.std.proofs.Common.{ℕ, ◌∙◌}
use Rattle.pool_turns.specs.Turns.{Draws}
use Rattle.pool_turns.proofs.Turning.{link_stopped, ether_stopped, uplink_stopped, end_stopped, turn_made}
use Rattle.pool_serving.proofs.Answering.{ok_then, err_then, err_always}
use Rattle.pool_serving.proofs.Passes.{puts_same, step_then}
use Rattle.pool_serving.proofs.Turns.{has_stopped, stopped_bare}
use Rattle.pool_serving.proofs.desk.Desk.turn.Goals as goal

pub returns-in_err-from_link-clause-err : goal.returns-in_err-from_link-clause-err
returns-in_err-from_link-clause-err g c = let a = g.P.Ports.around in
    let p = c.args.pass.now in
    let q = c.from_link.new.pass in
    let h = c.in_err-from_link.ensures.err in
    err_always c.from_residual.result (stopped_bare p q (a c.args.ports.now) (a c.from_link.new.ports) (link_stopped _ _ _ _ c.moment-now.ensures.read h.0) h.1)

pub returns-in_err-from_ether-clause-err : goal.returns-in_err-from_ether-clause-err
returns-in_err-from_ether-clause-err g c = let a = g.P.Ports.around in
    let p = c.args.pass.now in
    let q = c.from_link.new.pass in
    let k = c.in_ok-from_link.ensures.ok in
    err_always c.from_residual-in_err-from_ether.result (has_stopped p c.from_ether.new.pass (a c.args.ports.now) (a c.from_ether.new.ports) k.1 (ether_stopped _ _ _ _ _ _ c.moment-now.ensures.read k.2 _ c.in_err-from_ether.ensures.err) (puts_same q c.from_ether.new.pass c.from_ether.ensures.known ∙ k.3))

pub returns-in_err-from_uplink-clause-err : goal.returns-in_err-from_uplink-clause-err
returns-in_err-from_uplink-clause-err g c = let a = g.P.Ports.around in
    let p = c.args.pass.now in
    let q = c.from_link.new.pass in
    let k = c.in_ok-from_link.ensures.ok in
    let u = c.in_ok-from_ether.ensures.ok in
    err_always c.from_residual-in_err-from_uplink.result (has_stopped p c.from_uplink.new.pass (a c.args.ports.now) (a c.from_uplink.new.ports) k.1 (uplink_stopped _ _ _ _ _ _ c.moment-now.ensures.read k.2 _ _ u.1 _ c.in_err-from_uplink.ensures.err) (puts_same c.from_ether.new.pass c.from_uplink.new.pass c.from_uplink.ensures.known ∙ (puts_same q c.from_ether.new.pass c.from_ether.ensures.known ∙ k.3)))

pub returns-in_err-from_uplink-clause-step : goal.returns-in_err-from_uplink-clause-step
returns-in_err-from_uplink-clause-step g c = step_then _ _ _ _ _ _ (step_then _ _ _ _ _ _ c.from_link.ensures.step c.from_ether.ensures.step) c.from_uplink.ensures.step

pub returns-clause-ok : goal.returns-clause-ok
returns-clause-ok g c = let a = g.P.Ports.around in
    let p = c.args.pass.now in
    let q = c.from_link.new.pass in
    let k = c.in_ok-from_link.ensures.ok in
    let u = c.in_ok-from_ether.ensures.ok in
    let v = c.in_ok-from_uplink.ensures.ok in
    ok_then c.pass_time.result (λ (d : Draws 1 (a c.from_uplink.new.ports) (a c.pass_time.new.ports)). (
      _,
      k.1,
      turn_made _ _ _ _ _ _ c.moment-now.ensures.read k.2 _ _ u.1 _ _ v.1 _ d,
      puts_same c.from_uplink.new.pass c.pass_time.new.pass c.pass_time.ensures.known ∙ (puts_same c.from_ether.new.pass c.from_uplink.new.pass c.from_uplink.ensures.known ∙ (puts_same q c.from_ether.new.pass c.from_ether.ensures.known ∙ k.3)),
    )) c.pass_time.ensures.ok

pub returns-clause-err : goal.returns-clause-err
returns-clause-err g c = let a = g.P.Ports.around in
    let p = c.args.pass.now in
    let q = c.from_link.new.pass in
    let k = c.in_ok-from_link.ensures.ok in
    let u = c.in_ok-from_ether.ensures.ok in
    let v = c.in_ok-from_uplink.ensures.ok in
    err_then c.pass_time.result (λ (d : (n : ℕ) × Draws n (a c.from_uplink.new.ports) (a c.pass_time.new.ports)).
    has_stopped p c.pass_time.new.pass (a c.args.ports.now) (a c.pass_time.new.ports) k.1 (end_stopped _ _ _ _ _ _ c.moment-now.ensures.read k.2 _ _ u.1 _ _ v.1 d.0 _ d.1) (puts_same c.from_uplink.new.pass c.pass_time.new.pass c.pass_time.ensures.known ∙ (puts_same c.from_ether.new.pass c.from_uplink.new.pass c.from_uplink.ensures.known ∙ (puts_same q c.from_ether.new.pass c.from_ether.ensures.known ∙ k.3)))) c.pass_time.ensures.err

pub returns-clause-step : goal.returns-clause-step
returns-clause-step g c = step_then _ _ _ _ _ _ (step_then _ _ _ _ _ _ (step_then _ _ _ _ _ _ c.from_link.ensures.step c.from_ether.ensures.step) c.from_uplink.ensures.step) c.pass_time.ensures.step

pub returns-in_err-from_ether-clause-step : goal.returns-in_err-from_ether-clause-step
returns-in_err-from_ether-clause-step g c = step_then _ _ _ _ _ _ c.from_link.ensures.step c.from_ether.ensures.step
