use Rattle.std.proofs.Common.{◌∙◌, subst}
use Rattle.id_table.specs.Tables.{HasRoom}
use Rattle.call_places.proofs.Kept.{room_for_one_more}
use Rattle.call_places.proofs.places.make_places.Goals as goal

pub loop-session-preserved : goal.loop-session-preserved
loop-session-preserved c =
    (c.make_room.ensures.entries ∙ c.loop-session.invariant.0, room_for_one_more _ _ c.make_room.ensures.room c.args.sessions.now c.loop-session.session-index c.loop-session-test.true c.loop-session.invariant.1 (subst (λ s. HasRoom c.make_room.new.self s) c.from.ensures c.in_ok-make_room.ensures.made))
