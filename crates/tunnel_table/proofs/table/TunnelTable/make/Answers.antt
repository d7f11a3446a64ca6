use Rattle.std.proofs.Common.{refl, sym, ap, subst, ◌∙◌}
use Rattle.std.specs.Prelude.{option_map}
use Rattle.id_table.specs.Ids.{at, put, without}
use Rattle.id_table.specs.Order.{at_without_other}
use Rattle.id_table.specs.Tables.{Kept}
use Rattle.end_model.specs.Tunnels.{Tunnel}
use Rattle.tunnel_timers.specs.Due.{IsNoLater, tunnels_due}
use Rattle.tunnel_timers.specs.Bounds.{tunnels_without}
use Rattle.tunnel_core.specs.Cores.{Core, tunnel_of}
use Rattle.tunnel_table.specs.Labels.{AreKept}
use Rattle.tunnel_table.specs.Plans.{after_plan}
use Rattle.tunnel_table.specs.Tunnels.{tunnels_of, at_tunnels, without_tunnels}
use Rattle.tunnel_table.proofs.Waiting.{made_due}
use Rattle.tunnel_table.proofs.Made.{put_changed, others_same, kept_made, cleared_made}
use Rattle.tunnel_table.proofs.table.TunnelTable.make.Goals as goal

pub invariant_of-self : goal.invariant_of-self
invariant_of-self c =
    let es = c.self.inside.table.entries in
    let same = ap tunnels_of c.remove.ensures.removed ∙ without_tunnels es c.args.id in (
      subst (λ ts. AreKept c.unlist.new.self ts) (sym same) (c.unlist.ensures (tunnels_of es) c.self.invariant.0 (sym c.labels_at-before.ensures)),
      subst (λ ts. IsNoLater c.self.inside.due (tunnels_due ts)) (sym same) (tunnels_without c.self.inside.due (tunnels_of es) c.args.id c.self.invariant.1),
    )

pub returns-then-clears-clause-made : goal.returns-then-clears-clause-made
returns-then-clears-clause-made c =
    cleared_made c.args.self.now.entries c.remove.new.self.entries c.args.id c.args.planned c.requires.core c.requires.there
    (sym c.clears.ensures ∙ c.if-clears.true) (c.remove.ensures.removed ∙ ap (λ (k : Kept Core). without k.entries c.args.id) c.self.view_is)

pub returns-then-clears-clause-others : goal.returns-then-clears-clause-others
returns-then-clears-clause-others c q apart =
    ap (λ es. at es q) c.remove.ensures.removed ∙ at_without_other c.self.inside.table.entries c.args.id q apart
    ∙ ap (λ (k : Kept Core). at k.entries q) c.self.view_is

pub invariant_of-self-2 : goal.invariant_of-self-2
invariant_of-self-2 c =
    let es = c.self.inside.table.entries in
    let same = put_changed es _ c.args.id c.apply.new.self refl in (
      subst (λ ts. AreKept c.list_after.new.self ts) (sym same)
          (subst (λ (t : Tunnel). AreKept c.list_after.new.self (put (tunnels_of es) c.args.id t)) (sym c.apply.ensures)
          (c.list_after.ensures (tunnels_of es) c.self.invariant.0 (at_tunnels es c.args.id ∙ ap (λ o. option_map tunnel_of o) (sym c.in-Some.ensures.value)))),
      made_due c.self.inside.due c.due.result c.min-self-inside.result es _ c.args.id c.apply.new.self same c.min-self-inside.ensures c.due.ensures c.self.invariant.1,
    )

pub returns-clause-made : goal.returns-clause-made
returns-clause-made c =
    kept_made c.self.inside.table.entries _ c.args.id c.apply.new.self refl c.args.planned c.in-Some.core.now
    (sym c.in-Some.ensures.value) (sym c.clears.ensures ∙ c.if-clears.false) c.apply.ensures
    ∙ ap (λ (k : Kept Core). after_plan (tunnels_of k.entries) (c.args.id, c.args.planned) (at (tunnels_of k.entries) c.args.id)) c.self.view_is

pub returns-clause-others : goal.returns-clause-others
returns-clause-others c q apart =
    others_same c.self.inside.table.entries _ c.args.id c.apply.new.self refl q apart
    ∙ ap (λ (k : Kept Core). at k.entries q) c.self.view_is
