use Rattle.std.proofs.Common.{◌≡◌, ◌∙◌, Bool, if◌then◌else◌, ap, subst}
use Rattle.id_table.specs.Tables.{Kept}
use Rattle.id_table.specs.Order.{Ascends}
use Rattle.wire_base.specs.declared.pair.Pair.{Pair}
use Rattle.end_model.specs.declared.tunnel.Call.{Call}
use Rattle.tunnel_calls.proofs.Here.{here_is}
use Rattle.tunnel_calls.proofs.TunnelCalls.answer_one.Goals as goal

pub returns : goal.returns
returns c =
    let asked : Pair = c.args.asked.now in
    let by : Bool → Pair = λ b. record { sender = (if b then asked.receiver else 0); receiver = asked.sender } in
    c.answer_to.ensures
    ∙ ap by (c.has.ensures ∙ here_is c.args.self.now.entries asked (subst (λ (k : Kept Call). Ascends k.entries) c.self.view_is c.self.invariant.0))
