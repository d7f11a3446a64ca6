-- What follows where a world is joined with the abstract machine.
use Rattle.std.specs.Prelude.{◌≡◌, ◌⊎◌, ℕ, ◌<◌, true, List}
use Rattle.std.specs.List.{AllByRecursion}
use Rattle.end_model.specs.declared.out.ControlOrigin.{ControlOrigin}
use Rattle.end_model.specs.Tunnels.{Tunnel, mode_of, is_current}
use Rattle.world_model.specs.declared.packet.Packet.{Packet}
use Rattle.world_model.specs.World.{World, Node, epoch_of}
use Rattle.epoch_machine.specs.Worlds as machine
use Rattle.epoch_machine.specs.Worlds.{Rules}
use Rattle.epoch_machine.specs.Moves.{Move, after}
use Rattle.channel_laws.specs.Accounts.{History}
use Rattle.channel_laws.specs.Facts.{AreLinked, IsRefusal, NodesHold, Holds}
use Rattle.channel_laws.specs.Epochs.{IsLive, EpochsKnown}
use Rattle.channel_laws.specs.Heard.{IsDelivered, IsOfItsEpoch}
use Rattle.recovery_laws.specs.Joined.{AreJoined, ClosedHold}

-- of the machine, after every list of moves, whichever rules are kept
abbrev pub ClosedOfRuns : Type 0
ClosedOfRuns = (r : Rules) (moves : List Move) → ClosedHold (after r moves).tunnels

pub record Knows (w : World) (h : History) : Type 0 where
  pub known : EpochsKnown w h
  -- of two linked ends whose epochs differ the lower one isn't there, or it is frozen or restored
  pub lower : (n i k j : ℕ) (t : Tunnel) → AreLinked h.accounts n i k j → epoch_of w n i < epoch_of w k j → IsLive w n i t
      → is_current (mode_of t.recovery) ≡ true → ⊥

abbrev pub JoinedWorldsKnow : Type 0
JoinedWorldsKnow = (w : World) (h : History) (m : machine.World) → NodesHold w → Holds w h → AreJoined w h m → Knows w h

-- a control letter that a tunnel may take was sent in the taker's own epoch, and is the next one of its sender's list there
abbrev pub LettersOfJoined : Type 0
LettersOfJoined = (w : World) (h : History) (m : machine.World) → NodesHold w → Holds w h → AreJoined w h m
    → AllByRecursion (λ (p : Packet). (o : ControlOrigin) (node : Node) (i : ℕ) (t : Tunnel) → IsDelivered w p o node i t
    → is_current (mode_of t.recovery) ≡ true → IsOfItsEpoch w h p o i t ⊎ IsRefusal h p o) w.packets
