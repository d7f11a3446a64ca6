use Rattle.id_table.proofs.Filled.{other_room_kept, value_shown, counted_less}
use Rattle.id_table.proofs.Table.remove.Goals as goal

pub returns-clause-room : goal.returns-clause-room
returns-clause-room g c =
    other_room_kept c.args.self.now c.self.inside.kept.entries c.remove.new.self.entries c.args.id c.self.view_is c.self.invariant.0 c.remove.ensures.updates.2

pub overflow_sub-self : goal.overflow_sub-self
overflow_sub-self g c =
    let there = value_shown c.args.self.now c.self.inside.kept.entries c.args.id c.self.view_is c.self.invariant.0 _ _ c.remove.ensures.value c.flatten-value.ensures in
    (counted_less c.args.self.now c.self.inside.kept.entries c.args.id c.self.view_is c.self.invariant.0 _ _ _ _ _ c.self.invariant.1 there c.is_some.ensures c.from.ensures c.remove.ensures.entries).0

pub invariant_of-self : goal.invariant_of-self
invariant_of-self g c =
    let there = value_shown c.args.self.now c.self.inside.kept.entries c.args.id c.self.view_is c.self.invariant.0 _ _ c.remove.ensures.value c.flatten-value.ensures in
    (c.remove.ensures.ordered, (counted_less c.args.self.now c.self.inside.kept.entries c.args.id c.self.view_is c.self.invariant.0 _ _ _ _ _ c.self.invariant.1 there c.is_some.ensures c.from.ensures c.remove.ensures.entries).1)
