-- Steps that a stop cuts off amid their records.
use Rattle.std.specs.Prelude.{ℕ}
use Rattle.world_model.specs.World.{World, Lined}
use Rattle.channel_laws.specs.Accounts.{History, history_from}
use Rattle.channel_laws.specs.Lines.{CutStep}
use Rattle.join_laws.specs.Roles.{RequestsAreOfLacs}

-- Where requests are of LACs alone, they are so too in the world in which a step, or a start, was cut off.
abbrev pub CutStepsKeepRoles : Type 0
CutStepsKeepRoles = (w : World) (h : History) (number : ℕ) (x : Lined) → CutStep w number x → RequestsAreOfLacs w h
    → RequestsAreOfLacs x.world (history_from x.done h)
