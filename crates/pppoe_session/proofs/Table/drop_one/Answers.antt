use Rattle.std.proofs.Common.{sym}
use Rattle.pppoe_session.proofs.Index.{index_dropped}
use Rattle.pppoe_session.proofs.Order.{order_dropped}
use Rattle.pppoe_session.proofs.Table.drop_one.Goals as goal

pub invariant_of-self : goal.invariant_of-self
invariant_of-self c = (
  index_dropped c.self.inside.kept.entries c.self.inside.by_mac.keys c.self.invariant.0 c.args.session c.in-Some.subscriber _ _ (sym c.in-Some.ensures.value) c.remove-in-Some.ensures.updates.0 c.remove.ensures.updates.0,
  order_dropped c.self.inside.kept.entries _ c.args.session c.self.invariant.1 c.remove.ensures.ordered c.remove.ensures.entries,
)

pub invariant_of-self-in-Some-2 : goal.invariant_of-self-in-Some-2
invariant_of-self-in-Some-2 c = (
  index_dropped c.self.inside.kept.entries c.self.inside.by_mac.keys c.self.invariant.0 c.args.session c.in-Some.subscriber _ _ (sym c.in-Some.ensures.value) c.remove-in-Some.ensures.updates.0 c.remove.ensures.updates.0,
  order_dropped c.self.inside.kept.entries _ c.args.session c.self.invariant.1 c.remove.ensures.ordered c.remove.ensures.entries,
)
