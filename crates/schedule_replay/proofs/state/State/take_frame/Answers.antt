use Rattle.std.proofs.Common.{refl, sym}
use Rattle.id_table.specs.Ids.{at}
use Rattle.schedule_replay.proofs.Serving.{frame_unfit}
use Rattle.schedule_replay.proofs.state.State.take_frame.Goals as goal

pub returns-in-Some : goal.returns-in-Some
returns-in-Some c =
    rw c.unfit.ensures (frame_unfit c.args.self.now.world c.args.line c.args.node c.args.bytes.now (at c.args.self.now.world.nodes c.args.node) c.in-Some.why (sym c.in-Some.ensures), refl)
