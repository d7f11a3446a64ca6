use Rattle.std.proofs.Common.{sym, ap, subst, ◌∙◌}
use Rattle.id_table.specs.Ids.{put, without}
use Rattle.id_table.specs.Tables.{Kept}
use Rattle.end_model.specs.Tunnels.{Tunnel}
use Rattle.tunnel_timers.specs.Due.{IsNoLater, tunnels_due}
use Rattle.tunnel_timers.specs.Bounds.{tunnels_without}
use Rattle.tunnel_core.specs.Cores.{Core, tunnel_of, made_of}
use Rattle.tunnel_table.specs.Labels.{labels_of, IsSmall, AreKept}
use Rattle.tunnel_table.specs.Tunnels.{tunnels_of, put_tunnels, without_tunnels}
use Rattle.tunnel_table.proofs.Waiting.{made_due}
use Rattle.tunnel_table.proofs.Made.{new_cleared, new_kept}
use Rattle.tunnel_table.proofs.table.TunnelTable.make_new.Goals as goal

pub invariant_of-self : goal.invariant_of-self
invariant_of-self c =
    let es = c.self.inside.table.entries in
    let same = ap tunnels_of c.remove.ensures.removed ∙ without_tunnels es c.args.id in (
      subst (λ ts. AreKept c.unlist.new.self ts) (sym same) (c.unlist.ensures (tunnels_of es) c.self.invariant.0 (sym c.labels_at-before.ensures)),
      subst (λ ts. IsNoLater c.self.inside.due (tunnels_due ts)) (sym same) (tunnels_without c.self.inside.due (tunnels_of es) c.args.id c.self.invariant.1),
    )

pub returns-then-clears : goal.returns-then-clears
returns-then-clears c =
    new_cleared c.args.self.now.entries c.remove.new.self.entries c.args.id c.args.planned.cleared (made_of c.args.planned (tunnel_of c.args.core))
    (sym c.clears.ensures ∙ c.if-clears.true) (c.remove.ensures.removed ∙ ap (λ (k : Kept Core). without k.entries c.args.id) c.self.view_is)

pub invariant_of-self-2 : goal.invariant_of-self-2
invariant_of-self-2 c =
    let es = c.self.inside.table.entries in
    let same = ap tunnels_of c.fill.ensures.entries ∙ put_tunnels es c.args.id c.apply.new.self in (
      subst (λ ts. AreKept c.list.new.self ts) (sym same)
          (c.list.ensures (tunnels_of es) (tunnel_of c.apply.new.self) c.self.invariant.0 (sym c.labels_at-before.ensures)
          (ap labels_of c.apply.ensures ∙ sym c.labels_after-after.ensures.value)
          (subst (λ (t : Tunnel). IsSmall t) (sym c.apply.ensures) c.labels_after-after.ensures.small)),
      made_due c.self.inside.due c.due.result c.min-self-inside.result es c.fill.new.self.entries c.args.id c.apply.new.self same c.min-self-inside.ensures c.due.ensures c.self.invariant.1,
    )

pub returns : goal.returns
returns c =
    new_kept c.args.self.now.entries c.fill.new.self.entries c.args.id c.args.planned.cleared c.apply.new.self (made_of c.args.planned (tunnel_of c.args.core))
    (sym c.clears.ensures ∙ c.if-clears.false) (c.fill.ensures.entries ∙ ap (λ (k : Kept Core). put k.entries c.args.id c.apply.new.self) c.self.view_is) c.apply.ensures
