use Rattle.std.proofs.Common.{sym, subst, ◌∙◌}
use Rattle.tunnel_table.specs.Labels.{AreKept}
use Rattle.tunnel_table.proofs.Waiting.{looked_due}
use Rattle.tunnel_table.proofs.table.TunnelTable.look_again.Goals as goal

pub invariant_of-self : goal.invariant_of-self
invariant_of-self c = (
  subst (λ ts. AreKept c.self.inside.indexes ts) (sym c.look_at_all.ensures) c.self.invariant.0,
  looked_due c.earliest_due-self-inside.result c.self.inside.table.entries c.look_at_all.new.table.entries c.as_slice-2.result.now c.look_at_all.ensures (c.as_slice-2.ensures ∙ c.in-Ok.ensures.all) c.self.invariant.0.ascend c.earliest_due-self-inside.ensures,
)
