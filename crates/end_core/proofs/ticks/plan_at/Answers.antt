use Rattle.std.proofs.lemmas.Result.{IfOk-weaker, on_ok_weaker}
use Rattle.id_table.specs.Ids.{at}
use Rattle.tunnel_table.specs.Tunnels.{tunnels_of}
use Rattle.end_core.proofs.Plans.{one_given, one_planned, tunnel_some}
use Rattle.end_core.proofs.ticks.plan_at.Goals as goal

pub returns-clause-planned : goal.returns-clause-planned
returns-clause-planned c =
    let o = at (tunnels_of c.args.tunnels.now.entries) c.args.id in
    IfOk-weaker c.plan.result _ _
    (λ p h. one_planned c.args.role c.args.config.now c.args.tunnels.now.entries c.args.env.now c.args.id o (tunnel_some c.args.tunnels.now.entries c.args.id c.requires) p h)
    c.plan.ensures.planned

pub returns-clause-given : goal.returns-clause-given
returns-clause-given c =
    let o = at (tunnels_of c.args.tunnels.now.entries) c.args.id in
    on_ok_weaker c.plan.result
    (λ h. one_given c.args.role c.args.config.now c.args.tunnels.now.entries c.args.env.now c.plan.new.env c.args.id o (tunnel_some c.args.tunnels.now.entries c.args.id c.requires) h)
    c.plan.ensures.given
