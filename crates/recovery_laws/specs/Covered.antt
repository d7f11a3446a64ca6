-- A session that one end of a link holds, and the other one doesn't, is covered.
use Rattle.std.specs.Prelude.{◌≡◌, ◌⊎◌, ℕ, ◌+◌, ◌≤◌, ◌==◌, Bool, true, slice_get, Option, Some, None}
use Rattle.std.specs.List.{list_any}
use Rattle.wire_base.specs.declared.pair.Pair.{Pair}
use Rattle.control_message.specs.declared.message.Message.TheVariants.{Iccn, Cdn}
use Rattle.tunnel_fsm.specs.Rows.{state_number}
use Rattle.session_query.specs.Queries.{left_of}
use Rattle.end_names.specs.Names.{node_of}
use Rattle.end_model.specs.Tunnels.{Tunnel, mode_of, is_current}
use Rattle.world_model.specs.World.{World, epoch_of}
use Rattle.step_laws.specs.Letters.{Letter}
use Rattle.epoch_machine.specs.Worlds as machine
use Rattle.connection_laws.specs.Facts.{kept_letter}
use Rattle.session_laws.specs.Sessions.{HoldsSession}
use Rattle.channel_laws.specs.Accounts.{History}
use Rattle.channel_laws.specs.Facts.{NodesHold, Holds}
use Rattle.channel_laws.specs.Epochs.{IsLive}
use Rattle.recovery_laws.specs.Joined.{AreJoined}
use Rattle.recovery_laws.specs.Queries.{QueriesJoined}

-- two live tunnels that have learned each other, both established, of which neither is frozen or restored
pub record AreOpen (w : World) (n i m j : ℕ) (t u : Tunnel) : Type 0 where
  pub one : IsLive w n i t
  pub other : IsLive w m j u
  pub goes : node_of t.control.peer ≡ m
  pub to : t.control.remote ≡ j
  pub comes : node_of u.control.peer ≡ n
  pub back : u.control.remote ≡ i
  pub current : is_current (mode_of t.recovery) ≡ true
  pub established : state_number t.control.state ≡ 3
  pub current_there : is_current (mode_of u.recovery) ≡ true
  pub established_there : state_number u.control.state ≡ 3

-- a letter that a tunnel gave to its channel, which keeps it; the other end didn't take it
pub record IsOutstanding (t u : Tunnel) (l : Letter) : Type 0 where
  pub place : ℕ
  pub there : slice_get t.letters place ≡ Some (kept_letter l)
  pub waits : u.control.channel.inbox.taken ≤ t.control.channel.window.acked + place

-- so is the ICCN for a session of the other end's; nothing in it is hidden, so what is kept is spelled as the message is
pub record IccnIsOutstanding (t u : Tunnel) (session : ℕ) : Type 0 where
  pub letter : Letter
  pub says : (speed : ℕ) × (framing : ℕ) × (sequenced : Bool) × (letter.message ≡ Iccn speed framing sequenced)
  pub header : letter.session ≡ session
  pub plain : letter.hidden ≡ None
  pub outstanding : IsOutstanding t u letter

-- or the CDN by which it ended a session of its own, with nothing hidden
pub record CdnIsOutstanding (t u : Tunnel) (session : ℕ) : Type 0 where
  pub letter : Letter
  pub says : (result : ℕ) × (error : Option ℕ) × (letter.message ≡ Cdn session result error)
  pub plain : letter.hidden ≡ None
  pub outstanding : IsOutstanding t u letter

-- a tunnel asks for a session, or is to
abbrev pub AsksFor : Tunnel → ℕ → Type 0
AsksFor t session = list_any (λ (p : Pair). p.sender == session) (left_of t.query) ≡ true

-- what covers a session of one tunnel that the other doesn't hold
abbrev pub IsCovered : Tunnel → Tunnel → ℕ → ℕ → Type 0
IsCovered t u session remote = IccnIsOutstanding t u remote ⊎ (CdnIsOutstanding u t remote ⊎ AsksFor t session)

-- they are in one epoch, and each established session that one of them holds is held by the other too, or is covered
pub record AreCovered (w : World) (n i m j : ℕ) (t u : Tunnel) : Type 0 where
  pub epochs : epoch_of w n i ≡ epoch_of w m j
  pub covered : (session remote : ℕ) → HoldsSession t session remote → (HoldsSession u remote session → ⊥) → IsCovered t u session remote

abbrev pub JoinedWorldsCover : Type 0
JoinedWorldsCover = (w : World) (h : History) (m : machine.World) → NodesHold w → Holds w h → AreJoined w h m → QueriesJoined w h m
    → (n i k j : ℕ) (t u : Tunnel) → AreOpen w n i k j t u → AreCovered w n i k j t u
