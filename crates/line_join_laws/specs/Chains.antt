-- The moves of a step, one after another, where each move is joined.
use Rattle.std.specs.Prelude.{◌≡◌, ℕ, ◌+◌, ◌^◌, ◌<◌, ◌≤◌, false, Some, None}
use Rattle.id_table.specs.Ids.{at}
use Rattle.end_model.specs.declared.moves.Move.{Move}
use Rattle.world_model.specs.World.{World, Node, standing_of}
use Rattle.epoch_machine.specs.Worlds as machine
use Rattle.step_laws.specs.Left.{AreSound}
use Rattle.step_laws.specs.Steps.{IsOfNoStart}
use Rattle.channel_laws.specs.Accounts.{History}
use Rattle.channel_laws.specs.Facts.{NodesHold, Holds}
use Rattle.channel_laws.specs.Whole.{KnowsOfLine}
use Rattle.recovery_laws.specs.Answered.{AllAnswer}
use Rattle.join_laws.specs.Steps.{AllClose, IsJoined}
use Rattle.join_laws.specs.Roles.{RequestsAreOfLacs, JoinsByRoles}

-- each move of a step is joined, where requests are of LACs
abbrev pub MovesJoin : Type 0
MovesJoin = (m : Move) → IsOfNoStart m → JoinsByRoles m

-- each call of a node is in a state that one of the end's role can be in
abbrev pub EndsSound : World → Type 0
EndsSound w = (n : ℕ) (node : Node) → at w.nodes n ≡ Some node → AreSound node.end

-- of a node that is down no stop is armed, so no start is cut off
abbrev pub NoneIsArmed : World → Type 0
NoneIsArmed w = (n : ℕ) (node : Node) → at w.nodes n ≡ Some node → node.up ≡ false → node.checkpoint.stop ≡ None

-- so many calls were born at most, and so many epochs of a tunnel were made at most
pub record CountsWithin (w : World) (top : ℕ) : Type 0 where
  pub born : w.born ≤ top
  pub made : (n i : ℕ) → (standing_of w n i).made ≤ top

-- a world that is joined with one of the machine's, and what else holds of it and of what was done
pub record IsStanding (w : World) (h : History) (top : ℕ) : Type 0 where
  pub nodes : NodesHold w
  pub sound : EndsSound w
  pub holds : Holds w h
  pub machine : machine.World
  pub joined : IsJoined w h machine
  pub answers : AllAnswer h
  pub closes : AllClose h
  pub roles : RequestsAreOfLacs w h
  pub counts : CountsWithin w top

-- wherever the moves of a step lead from there, the epochs are known
abbrev pub JoinedLinesKnow : Type 0
JoinedLinesKnow = (w : World) (h : History) (top : ℕ) → IsStanding w h top → top + 131072 < 2 ^ 64 → KnowsOfLine w h
