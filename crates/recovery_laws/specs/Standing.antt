-- All that holds of a world of a schedule, with what its lines did; and which lines are shown to keep it.
use Rattle.std.specs.Prelude.{ℕ}
use Rattle.world_model.specs.World.{World, Lined, empty_world}
use Rattle.epoch_machine.specs.Worlds as machine
use Rattle.channel_laws.specs.Accounts.{History, no_history, history_from}
use Rattle.channel_laws.specs.Facts.{NodesHold, Holds}
use Rattle.channel_laws.specs.Lines.{LineDoes, Nothing, ANode, Arms, Falls, Steps, Cuts, Starts}
use Rattle.recovery_laws.specs.Queries.{QueriesJoined, CallsAreNamed}
use Rattle.recovery_laws.specs.Joined.{AreJoined}

-- channels, books and packets are as the history says, and the world is joined with one of the machine's, with what its tunnels ask for;
-- all calls
-- there have names of sessions
pub record Stands (w : World) (h : History) : Type 0 where
  pub holds : Holds w h
  pub machine : machine.World
  pub joined : AreJoined w h machine
  pub queries : QueriesJoined w h machine
  pub named : CallsAreNamed machine

-- a line in which no node makes a step, or starts
abbrev pub Rests : {w : World} {number : ℕ} {x : Lined} → LineDoes w number x → Type 0
Rests (Nothing same hands none) = Unit {0}
Rests (ANode n role lns secret hide lt to fresh world done none) = Unit {0}
Rests (Arms k s world done none) = Unit {0}
Rests (Falls k world done none) = Unit {0}
Rests (Steps k) = ⊥
Rests (Cuts k) = ⊥
Rests (Starts k) = ⊥

abbrev pub StandsFirst : Type 0
StandsFirst = Stands empty_world no_history

-- with what the line did
abbrev pub RestingLinesKeep : Type 0
RestingLinesKeep = (w : World) (h : History) (number : ℕ) (x : Lined) → NodesHold w → Stands w h → (does : LineDoes w number x) → Rests does
    → Stands x.world (history_from x.done h)
