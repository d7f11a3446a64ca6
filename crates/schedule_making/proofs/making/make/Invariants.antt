use Rattle.std.proofs.Common.{◌≡◌}
use Rattle.schedule_making.specs.Making.{Making, making, IsOfRun}
use Rattle.schedule_making.proofs.Makings.{pair}
use Rattle.schedule_making.proofs.making.make.Given as goal

abbrev pub invariant-loop-done : goal.invariant-loop-done
invariant-loop-done l =
    record {
      drawn : pair l.maker.lines l.draws ≡ making l.seed l.done;
      run : IsOfRun l.maker.lines l.maker.world;
    }
