use Rattle.std.proofs.Common.{◌≡◌, false, refl}
use Rattle.std.specs.Prelude.{is_some}
use Rattle.id_table.specs.Ids.{at}
use Rattle.world_model.specs.World.{declared, held_at}
use Rattle.schedule_replay.proofs.Handing.{hand_unfit, hand_none}
use Rattle.schedule_replay.proofs.state.State.hand.Goals as goal

pub returns-in-Err : goal.returns-in-Err
returns-in-Err c =
    let w = c.args.self.now.world in
    rw c.unfit.ensures (hand_unfit w c.args.line c.args.node c.args.number (declared (at w.nodes c.args.node)) c.in-Err.why c.in-Err.ensures, refl)

pub returns-then-not-holds : goal.returns-then-not-holds
returns-then-not-holds c =
    let w = c.args.self.now.world in
    let none : is_some (at (held_at w c.args.node) c.args.number) ≡ false = cc in
    rw c.unfit-then-not-holds.ensures
    (hand_none w c.args.line c.args.node c.args.number (declared (at w.nodes c.args.node)) c.in_default.field-0.now c.in_default.ensures none, refl)
