-- What the channels of a world need to know of the epochs of two linked ends. It holds of every world that a schedule leads to, since the abstract
-- machine, with which the world is joined, has it of every list of its moves (epoch_laws' EpochsHold: open_above, same_epochs, attempts_answered,
-- attempts_entered, attempts_other, answers_entered, answers_other; AnswersHold: once).
use Rattle.std.specs.Prelude.{◌≡◌, ◌⊎◌, ℕ, ◌<◌, ◌≤◌, true, Some}
use Rattle.id_table.specs.Ids.{at}
use Rattle.recovery_tunnel.specs.Connections.{ControlConnection, is_waiting}
use Rattle.recovery_tunnel.specs.Answers.{Answering}
use Rattle.end_model.specs.declared.moves.Froze.{Froze}
use Rattle.end_names.specs.Names.{node_of}
use Rattle.end_model.specs.Tunnels.{Tunnel, ByAttempt, ByAnswer, mode_of, is_current}
use Rattle.world_model.specs.World.{World, Node, epoch_of, standing_of}
use Rattle.channel_laws.specs.Accounts.{History}
use Rattle.channel_laws.specs.Facts.{AreLinked, makes}

-- a live tunnel of a node
pub record IsLive (w : World) (n i : ℕ) (t : Tunnel) : Type 0 where
  pub node : Node
  pub is : at w.nodes n ≡ Some node
  pub there : at node.end.tunnels i ≡ Some t

-- both answers were given by one end of a link, or by its two ends
abbrev pub OfOneLink : ℕ → Froze → ℕ → Froze → Type 0
OfOneLink k f l g = ((k ≡ l) × (f.tunnel ≡ g.tunnel)) ⊎ ((l ≡ node_of f.peer) × (g.tunnel ≡ f.remote))

pub record EpochsKnown (w : World) (h : History) : Type 0 where
  -- a tunnel that is neither frozen nor restored isn't below its other end
  pub above : (n i m j : ℕ) (t : Tunnel) → IsLive w n i t → is_current (mode_of t.recovery) ≡ true → AreLinked h.accounts n i m j
      → epoch_of w m j ≤ epoch_of w n i
  -- what answers an attempt that waits was given by the other end, and makes an epoch above those that both ends entered
  pub attempted : (n i : ℕ) (t : Tunnel) (c : ControlConnection) → IsLive w n i t → t.recovery ≡ Some (ByAttempt c) → is_waiting c ≡ true
      → (m a : ℕ) (f : Froze) → h.answers m a ≡ Some f → node_of f.peer ≡ n → f.attempt ≡ c.local
      → (epoch_of w n i < makes w m a) × (epoch_of w m f.tunnel < makes w m a)
  -- of the answers of the two ends of a link one makes an epoch
  pub one : (k a : ℕ) (f : Froze) (l b : ℕ) (g : Froze) → h.answers k a ≡ Some f → h.answers l b ≡ Some g → OfOneLink k f l g → makes w k a ≡ makes w l b
      → (k ≡ l) × (a ≡ b)
  -- a tunnel that is frozen hasn't entered the epoch of its answer, and its other end is in none above that
  pub frozen : (n i m j : ℕ) (t : Tunnel) (a : Answering) → IsLive w n i t → t.recovery ≡ Some (ByAnswer a) → is_waiting a.connection ≡ true
      → AreLinked h.accounts n i m j → (epoch_of w n i < makes w n a.connection.local) × (epoch_of w m j ≤ makes w n a.connection.local)
  -- the epochs of a link are counted alike at both ends
  pub counted : (n i m j : ℕ) → AreLinked h.accounts n i m j → (standing_of w n i).made ≡ (standing_of w m j).made
