use Rattle.std.proofs.Common.{sym, ap, subst, ◌∙◌}
use Rattle.std.specs.Ordering.{nat_cmp}
use Rattle.std.specs.Map.{remove_entry}
use Rattle.std.specs.BTreeMap.{is_at}
use Rattle.pppoe_session.specs.Subscribers.{IsInOrder, dropped}
use Rattle.pppoe_session.proofs.Index.{none_at, index_added, index_undone}
use Rattle.pppoe_session.proofs.Order.{order_added, added_and_dropped}
use Rattle.pppoe_session.proofs.Table.admit.Goals as goal

pub invariant_of-self-in-Ok-insert : goal.invariant_of-self-in-Ok-insert
invariant_of-self-in-Ok-insert c = (
  index_added c.self.inside.kept.entries c.self.inside.by_mac.keys c.self.invariant.0 c.args.session _ _ _ (none_at _ (sym c.contains_key.ensures ∙ c.if-contains_key.false)) c.in-Ok.ensures.updates.0 c.in-Ok-insert.ensures.updates.0,
  order_added c.self.inside.kept.entries _ c.args.session _ c.ranges.session.fits c.self.invariant.1 c.in-Ok-insert.ensures.ordered c.in-Ok-insert.ensures.entries,
)

pub invariant_of-self-in-Err : goal.invariant_of-self-in-Err
invariant_of-self-in-Err c = (
  index_undone c.self.inside.kept.entries c.self.inside.by_mac.keys c.self.invariant.0 c.args.session c.args.mac _ c.insert.new.self.keys _ (none_at _ (sym c.contains_key.ensures ∙ c.if-contains_key.false)) c.in-Ok.ensures.updates.0 c.remove.ensures.updates.0 c.in-Err.ensures.err,
  subst (λ es. IsInOrder es) (sym c.in-Err.ensures.err) c.self.invariant.1,
)

pub returns-in-Ok-insert-clause-undone : goal.returns-in-Ok-insert-clause-undone
unfolding dropped
returns-in-Ok-insert-clause-undone c =
    ap (remove_entry (is_at (nat_cmp c.args.session))) c.in-Ok-insert.ensures.entries
    ∙ added_and_dropped c.self.inside.kept.entries c.args.session _ (none_at _ (sym c.contains_key.ensures ∙ c.if-contains_key.false))
    ∙ c.self.view_is
