use Rattle.std.proofs.Common.{Some}
use Rattle.id_table.proofs.Filled.{room_kept, value_shown, counted_more, fits}
use Rattle.id_table.proofs.Table.fill.Goals as goal

pub returns-clause-room : goal.returns-clause-room
returns-clause-room g c =
    room_kept c.args.self.now c.self.inside.kept.entries c.insert.new.self.entries c.args.id c.self.view_is c.self.invariant.0 (Some c.args.value) c.in-Ok.ensures.updates.0

pub overflow_add-self : goal.overflow_add-self
overflow_add-self g c =
    fits c.self.inside.kept.entries _ _ _ c.is_none.result c.self.invariant.1 c.len-size.ensures.small c.len-size.ensures.len c.from.ensures

pub invariant_of-self : goal.invariant_of-self
invariant_of-self g c =
    let there = value_shown c.args.self.now c.self.inside.kept.entries c.args.id c.self.view_is c.self.invariant.0 _ _ c.in-Ok.ensures.old c.flatten-before.ensures in
    (c.insert.ensures.ordered, counted_more c.args.self.now c.self.inside.kept.entries c.args.id c.self.view_is c.self.invariant.0 _ _ _ _ c.args.value _ c.self.invariant.1 there c.is_none.ensures c.from.ensures c.in-Ok.ensures.entries)
