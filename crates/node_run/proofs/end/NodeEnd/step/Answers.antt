use Rattle.std.proofs.Common.{rules, ◌≡◌, IfOk, sym, subst}
use Rattle.end_model.specs.declared.event.Event.{Event}
use Rattle.node_run.specs.declared.end.NodeEnd.{NodeEnd}
use Rattle.node_run.specs.declared.end.NodeEnd.TheVariants as ends
use Rattle.node_run.specs.Events.{event_of}
use Rattle.node_run.specs.Steps.{outs_of}
use Rattle.node_run.proofs.end.NodeEnd.step.Goals as goal

pub returns-in-Lac-clause-outs : goal.returns-in-Lac-clause-outs
returns-in-Lac-clause-outs g c =
    let is : c.args.self.now ≡ ends.Lac c.in-Lac.lac = search rules in
    subst (λ (n : NodeEnd). IfOk c.lac_step.result (λ outs. outs ≡ outs_of n c.args.moment c.args.block (event_of c.args.event))) (sym is)
    (subst (λ (ev : Event). IfOk c.lac_step.result (λ outs. outs ≡ outs_of (ends.Lac c.in-Lac.lac) c.args.moment c.args.block ev)) c.event_of-event.ensures c.lac_step.ensures.outs)
