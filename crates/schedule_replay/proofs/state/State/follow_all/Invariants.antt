use Rattle.std.proofs.Common.{◌≡◌, drop}
use Rattle.world_model.specs.World.{moved_all}
use Rattle.schedule_replay.proofs.state.State.follow_all.Given as goal

abbrev pub invariant-loop-done : goal.invariant-loop-done
invariant-loop-done l = (moved_all l.node (drop l.done-index l.moves) l.self.world ≡ moved_all l.node l.moves l.fn.self.world) × (l.self.report ≡ l.fn.self.report) × (l.self.ups ≡ l.fn.self.ups)
