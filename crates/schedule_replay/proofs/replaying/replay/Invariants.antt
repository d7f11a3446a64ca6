use Rattle.world_model.specs.Run.{run}
use Rattle.schedule_replay.proofs.Runs.{GoesOn}
use Rattle.schedule_replay.proofs.replaying.replay.Given as goal

abbrev pub invariant-loop-i : goal.invariant-loop-i
invariant-loop-i l = GoesOn (run l.lines) l.lines l.i l.world.told
