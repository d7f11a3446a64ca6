use Rattle.std.proofs.Common.{None}
use Rattle.id_table.proofs.Filled.{room_kept, value_shown, counted_vacated}
use Rattle.id_table.proofs.Table.vacate.Goals as goal

pub returns-clause-room : goal.returns-clause-room
returns-clause-room g c =
    room_kept c.args.self.now c.self.inside.kept.entries c.insert.new.self.entries c.args.id c.self.view_is c.self.invariant.0 None c.in-Ok.ensures.updates.0

pub overflow_sub-self : goal.overflow_sub-self
overflow_sub-self g c =
    let there = value_shown c.args.self.now c.self.inside.kept.entries c.args.id c.self.view_is c.self.invariant.0 _ _ c.in-Ok.ensures.old c.flatten-value.ensures in
    (counted_vacated c.args.self.now c.self.inside.kept.entries c.args.id c.self.view_is c.self.invariant.0 _ _ _ _ _ c.self.invariant.1 there c.is_some.ensures c.from.ensures c.in-Ok.ensures.entries).0

pub invariant_of-self : goal.invariant_of-self
invariant_of-self g c =
    let there = value_shown c.args.self.now c.self.inside.kept.entries c.args.id c.self.view_is c.self.invariant.0 _ _ c.in-Ok.ensures.old c.flatten-value.ensures in
    (c.insert.ensures.ordered, (counted_vacated c.args.self.now c.self.inside.kept.entries c.args.id c.self.view_is c.self.invariant.0 _ _ _ _ _ c.self.invariant.1 there c.is_some.ensures c.from.ensures c.in-Ok.ensures.entries).1)
