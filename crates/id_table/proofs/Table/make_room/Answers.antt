use Rattle.std.proofs.Common.{None}
use Rattle.id_table.proofs.Filled.{room_kept}
use Rattle.id_table.proofs.Table.make_room.Goals as goal

pub returns-clause-room : goal.returns-clause-room
returns-clause-room g c =
    room_kept c.args.self.now c.self.inside.kept.entries c.insert.new.self.entries c.args.id c.self.view_is c.self.invariant.0 None c.in_ok-insert.ensures.updates.0
