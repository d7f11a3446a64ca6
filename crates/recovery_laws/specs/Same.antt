-- Ends that agree after a recovery hold the same established sessions.
use Rattle.std.specs.Prelude.{◌≡◌, ℕ, true, Some}
use Rattle.id_table.specs.Ids.{at}
use Rattle.end_names.specs.Names.{node_of}
use Rattle.end_model.specs.Tunnels.{Tunnel}
use Rattle.world_model.specs.World.{World, Node}
use Rattle.world_model.specs.Run.{are_alike}
use Rattle.epoch_machine.specs.Worlds as machine
use Rattle.session_laws.specs.Sessions.{HoldTheSame}
use Rattle.channel_laws.specs.Accounts.{History}
use Rattle.channel_laws.specs.Facts.{NodesHold, Holds}
use Rattle.channel_laws.specs.Epochs.{IsLive}
use Rattle.channel_laws.specs.Steps.{NumbersFit as FitIn}
use Rattle.recovery_laws.specs.Joined.{AreJoined}
use Rattle.recovery_laws.specs.Queries.{QueriesJoined}

-- two tunnels of which the one goes to the other, and which agree: both are established and in
-- the same epoch, neither is frozen or restored, each knows of all that it asked for since its last reset, and each took all that was
-- given to the other
pub record AgreeIn (w : World) (n i m j : ℕ) (t u : Tunnel) : Type 0 where
  pub one : IsLive w n i t
  pub other : IsLive w m j u
  pub peer : node_of t.control.peer ≡ m
  pub remote : t.control.remote ≡ j
  pub alike : are_alike w.nodes n t u ≡ true

-- no count of letters of a tunnel that is neither frozen nor restored has come to the end of its 64 bits
abbrev pub NumbersFit : World → Type 0
NumbersFit w = (n : ℕ) (node : Node) → at w.nodes n ≡ Some node → FitIn node.end

abbrev pub JoinedWorldsAgree : Type 0
JoinedWorldsAgree = (w : World) (h : History)
    (m : machine.World) → NodesHold w → Holds w h → AreJoined w h m → QueriesJoined w h m → NumbersFit w
    → (n i k j : ℕ) (t u : Tunnel) → AgreeIn w n i k j t u → HoldTheSame w n k t u
