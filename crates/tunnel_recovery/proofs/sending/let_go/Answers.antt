use Rattle.std.proofs.Common.{◌≡◌, ap, sym, ◌∙◌, arith}
use Rattle.tunnel_recovery.specs.Going.{goes_up_to}
use Rattle.tunnel_recovery.proofs.Going.{no_more}
use Rattle.tunnel_recovery.proofs.sending.let_go.Goals as goal

pub returns : goal.returns
returns c =
    let r = c.loop-most.recovery in
    let t = c.loop-most.turn in
    let none : c.loop-most.most ≡ 0 = omega arith in
    sym (no_more r t) ∙ ap (λ m. goes_up_to m r t) (sym none) ∙ c.loop-most.invariant
