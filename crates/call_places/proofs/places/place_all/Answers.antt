use Rattle.std.proofs.Common.{◌∙◌, ap}
use Rattle.id_table.specs.Ids.{put}
use Rattle.end_model.specs.End.{new_place}
use Rattle.call_places.proofs.Kept.{place_next, rest_have_room}
use Rattle.call_places.proofs.places.place_all.Goals as goal

pub loop-session-preserved : goal.loop-session-preserved
loop-session-preserved c =
    let put_is = c.fill.ensures.entries ∙ ap (λ s. put c.loop-session.places.entries s (new_place c.args.tunnel)) c.from.ensures in (
      place_next c.args.tunnel c.args.sessions.now c.loop-session.session-index c.loop-session-test.true c.loop-session.places.entries c.fill.new.self.entries put_is ∙ c.loop-session.invariant.0,
      rest_have_room _ _ c.fill.ensures.room c.args.sessions.now c.loop-session.session-index c.loop-session-test.true c.loop-session.invariant.1,
    )
