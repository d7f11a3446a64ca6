use Rattle.std.proofs.Common.{◌≡◌, refl, sym, ap, subst, ◌∙◌}
use Rattle.std.specs.Prelude.{Some, option_map}
use Rattle.std.proofs.lemmas.Result.{IfOk-weaker, on_ok_weaker}
use Rattle.id_table.specs.Ids.{at}
use Rattle.id_table.specs.Order.{at_new}
use Rattle.id_table.specs.Tables.{Kept}
use Rattle.tunnel_timers.specs.Due.{IsNoLater, tunnels_due}
use Rattle.tunnel_core.specs.Cores.{Core, tunnel_of}
use Rattle.tunnel_table.specs.Labels.{AreKept}
use Rattle.tunnel_table.specs.Plans.{IsPlanned, IsGiven}
use Rattle.tunnel_table.specs.Tunnels.{tunnels_of, at_tunnels}
use Rattle.tunnel_table.proofs.Made.{put_same, others_same}
use Rattle.tunnel_table.proofs.table.TunnelTable.plan.Goals as goal

pub invariant_of-self : goal.invariant_of-self
invariant_of-self c =
    let es = c.self.inside.table.entries in
    let same = put_same es _ c.args.id c.plan_for.new.core refl c.self.invariant.0.ascend c.in-Some.core.now (sym c.in-Some.ensures.value) c.plan_for.ensures.same in (
      subst (λ ts. AreKept c.plan_for.new.indexes ts) (sym same) (c.plan_for.ensures.kept (tunnels_of es) c.self.invariant.0),
      subst (λ ts. IsNoLater c.self.inside.due (tunnels_due ts)) (sym same) c.self.invariant.1,
    )

pub returns-clause-same : goal.returns-clause-same
returns-clause-same c =
    put_same c.self.inside.table.entries _ c.args.id c.plan_for.new.core refl c.self.invariant.0.ascend c.in-Some.core.now (sym c.in-Some.ensures.value) c.plan_for.ensures.same
    ∙ ap (λ (k : Kept Core). tunnels_of k.entries) c.self.view_is

pub returns-clause-others : goal.returns-clause-others
returns-clause-others c q apart =
    others_same c.self.inside.table.entries _ c.args.id c.plan_for.new.core refl q apart
    ∙ ap (λ (k : Kept Core). at k.entries q) c.self.view_is

pub returns-clause-planned : goal.returns-clause-planned
returns-clause-planned c =
    let is : at (tunnels_of c.args.self.now.entries) c.args.id ≡ Some (tunnel_of c.in-Some.core.now) =
    ap (λ (k : Kept Core). at (tunnels_of k.entries) c.args.id) (sym c.self.view_is) ∙ at_tunnels c.self.inside.table.entries c.args.id ∙ ap (λ o. option_map tunnel_of o) (sym c.in-Some.ensures.value) in
    IfOk-weaker c.plan_for.result _ _
    (λ p h. subst (λ o. IsPlanned c.args.role c.args.config.now c.args.task.now c.args.env.now o p) (sym is) h) c.plan_for.ensures.planned

pub returns-clause-place : goal.returns-clause-place
returns-clause-place c =
    IfOk-weaker c.plan_for.result _ _
    (λ p h. record { core = c.plan_for.new.core; there = at_new _ c.args.id c.plan_for.new.core; room = h })
    c.plan_for.ensures.room

pub returns-clause-given : goal.returns-clause-given
returns-clause-given c =
    let is : at (tunnels_of c.args.self.now.entries) c.args.id ≡ Some (tunnel_of c.in-Some.core.now) =
    ap (λ (k : Kept Core). at (tunnels_of k.entries) c.args.id) (sym c.self.view_is) ∙ at_tunnels c.self.inside.table.entries c.args.id ∙ ap (λ o. option_map tunnel_of o) (sym c.in-Some.ensures.value) in
    on_ok_weaker c.plan_for.result
    (λ h. subst (λ o. IsGiven c.args.role c.args.config.now c.args.task.now c.args.env.now o c.plan_for.new.env) (sym is) h) c.plan_for.ensures.given
