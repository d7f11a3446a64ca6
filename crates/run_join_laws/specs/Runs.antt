-- What holds after every list of fewer than 2^47 lines of the grammar, whatever crashed in it, was lost, and started
-- again.
use Rattle.std.specs.Prelude.{◌≡◌, ◌⊎◌, ℕ, ◌*◌, ◌^◌, ◌<◌, true, List, length}
use Rattle.std.specs.List.{AllByRecursion}
use Rattle.schedule_text.specs.declared.line.Line.{Line}
use Rattle.schedule_text.specs.Grammar.{AreLines}
use Rattle.end_names.specs.Names.{node_of}
use Rattle.end_model.specs.declared.out.ControlOrigin.{ControlOrigin}
use Rattle.end_model.specs.Tunnels.{Tunnel, mode_of, is_current}
use Rattle.world_model.specs.declared.packet.Packet.{Packet}
use Rattle.world_model.specs.World.{World, Node}
use Rattle.world_model.specs.Run.{run, agree, is_resynchronised}
use Rattle.session_laws.specs.Sessions.{HoldTheSame}
use Rattle.channel_laws.specs.Accounts.{history_of}
use Rattle.channel_laws.specs.Epochs.{IsLive}
use Rattle.channel_laws.specs.Facts.{IsRefusal}
use Rattle.channel_laws.specs.Heard.{IsDelivered, IsOfItsEpoch}
use Rattle.recovery_laws.specs.Covered.{AreOpen, AreCovered}
use Rattle.recovery_laws.specs.Epochs.{Knows}
use Rattle.recovery_laws.specs.Same.{AgreeIn}
use Rattle.line_join_laws.specs.Chains.{IsStanding}

-- its world is joined with one of the abstract machine, and all holds of its channels
abbrev pub WorldsAreJoined : Type 0
WorldsAreJoined = (lines : List Line) → AreLines lines → length lines < 2 ^ 47
    → IsStanding (run lines).world (history_of (run lines).done) (65536 * length lines)

-- Two tunnels of which the one goes to the other, which both report that they are resynchronised, with nothing outstanding. Resynchronised:
-- neither is frozen or restored, and each knows of all that it asked for since its last reset. Nothing outstanding: they name each other,
-- both are established, and each took all that was given to the other. That they are in one epoch isn't asked for, since it follows. The
-- report's `agree` lines, which ask for one epoch too, are of tunnels among these (`AgreementsAreReports`).
pub record BothReport (w : World) (n i m j : ℕ) (t u : Tunnel) : Type 0 where
  pub one : IsLive w n i t
  pub other : IsLive w m j u
  pub peer : node_of t.control.peer ≡ m
  pub remote : t.control.remote ≡ j
  pub resynchronised : (is_resynchronised t ≡ true) × (is_resynchronised u ≡ true)
  pub agree : agree n t.control u.control ≡ true

-- two tunnels that the report says to agree do, in whatever world
abbrev pub AgreementsAreReports : Type 0
AgreementsAreReports = (w : World) (n i m j : ℕ) (t u : Tunnel) → AgreeIn w n i m j t u → BothReport w n i m j t u

-- two tunnels that both report so hold the same established sessions
abbrev pub RunsAgree : Type 0
RunsAgree = (lines : List Line) → AreLines lines → length lines < 2 ^ 47
    → (n i k j : ℕ) (t u : Tunnel) → BothReport (run lines).world n i k j t u → HoldTheSame (run lines).world n k t u

-- two tunnels that have learned each other, both established and neither frozen or restored, are in one epoch, and each established session
-- that one of them holds is held by the other too, or is covered
abbrev pub RunsCover : Type 0
RunsCover = (lines : List Line) → AreLines lines → length lines < 2 ^ 47
    → (n i k j : ℕ) (t u : Tunnel) → AreOpen (run lines).world n i k j t u → AreCovered (run lines).world n i k j t u

-- of two linked ends whose epochs differ the lower one isn't there, or it is frozen or restored
abbrev pub RunsKnow : Type 0
RunsKnow = (lines : List Line) → AreLines lines → length lines < 2 ^ 47
    → Knows (run lines).world (history_of (run lines).done)

-- of all packets that were sent: a control packet that may be delivered to a live tunnel which is neither frozen nor restored is of the
-- tunnel's own epoch, and where its number is the next one, it is the next letter of those that its sender gave in that epoch; or it is a
-- StopCCN of no tunnel
abbrev pub RunsHear : Type 0
RunsHear = (lines : List Line) → AreLines lines → length lines < 2 ^ 47
    → AllByRecursion (λ (p : Packet). (o : ControlOrigin) (node : Node) (i : ℕ) (t : Tunnel) → IsDelivered (run lines).world p o node i t
    → is_current (mode_of t.recovery) ≡ true
    → IsOfItsEpoch (run lines).world (history_of (run lines).done) p o i t ⊎ IsRefusal (history_of (run lines).done) p o)
    (run lines).world.packets
