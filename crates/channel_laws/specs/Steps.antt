-- The moves of a step, each made in the world to which the moves before it lead. Between two moves the node has the end of the chain, and still the
-- checkpoint that it had before the step: what the step committed is put in its place behind the last move, and is then the book of the
-- end that is left.
use Rattle.std.specs.Prelude.{◌≡◌, ℕ, ◌+◌, ◌^◌, ◌<◌, ◌≤◌, true, false, List, length, slice_get, Option, Some, None, Ok}
use Rattle.id_table.specs.Ids.{at}
use Rattle.l2tp_header.specs.declared.header.Header.{Header}
use Rattle.l2tp_header.specs.Reading.{header_of, body_of}
use Rattle.tunnel_fsm.specs.Rows.{state_number}
use Rattle.session_book.specs.Books.{tunnel_at}
use Rattle.end_names.specs.Names.{address_of}
use Rattle.end_model.specs.declared.event.Event.{Event}
use Rattle.end_model.specs.declared.moves.Move.{Move}
use Rattle.end_model.specs.declared.moves.Move.TheVariants as move
use Rattle.end_model.specs.declared.event.Event.TheVariants.{Datagram}
use Rattle.end_model.specs.declared.out.Origin.{Origin}
use Rattle.end_model.specs.declared.out.Origin.TheVariants as origin
use Rattle.end_model.specs.declared.out.ControlOrigin.{ControlOrigin}
use Rattle.end_model.specs.Secrets.{uncovered_datagram}
use Rattle.end_model.specs.Tunnels.{Tunnel, mode_of, is_current}
use Rattle.end_model.specs.End.{End}
use Rattle.world_model.specs.declared.packet.Packet.{Packet}
use Rattle.world_model.specs.World.{World, Node, Sender, Deed, with_node, moved, epoch_of, sender_of}
use Rattle.step_laws.specs.Arrivals.{IsFor}
use Rattle.step_laws.specs.Moves.{Does}
use Rattle.step_laws.specs.Starts.{IsSoundBook, IsOfStart}
use Rattle.book_laws.specs.Books.{SpaceFits, Fits}
use Rattle.connection_laws.specs.Steps.{IsDeed}
use Rattle.channel_laws.specs.Accounts.{Account, History, about, after}
use Rattle.channel_laws.specs.Facts.{PacketOk, Holds}
use Rattle.channel_laws.specs.Epochs.{EpochsKnown}

-- the world in which a node has this end, and what a move of the node makes of the world
abbrev pub with_end : World → ℕ → Node → End → World
with_end w n node x = with_node w n (record node { end = x })

abbrev pub moves_on : World → ℕ → Node → Move → End → World
moves_on w n node m x = moved n (with_end w n node x) m

-- ---- what comes in a step

-- the numbers of a control message haven't outlived half of them, as the tunnel counts that it is for; what the step has taken and read of it counts
pub record IsNear (a : Account) (t : Tunnel) (o : ControlOrigin) : Type 0 where
  pub taken : a.first_taken + length a.taken ≤ o.ns + 32768
  pub acked : t.control.channel.window.acked ≤ o.nr + 32767

-- a control message is of the epoch of each live tunnel that it is for, which is neither frozen nor restored, and near it
abbrev pub AreNear : World → History → ℕ → End → Packet → List ℕ → Origin → Type 0
AreNear w h n e p bytes (origin.Control o) =
    (i : ℕ) (t : Tunnel) (k : Header) → at e.tunnels i ≡ Some t → is_current (mode_of t.recovery) ≡ true → t.control.peer ≡ address_of p.from
    → header_of bytes ≡ Ok k → IsFor k (body_of bytes k) t.control → (p.epoch ≡ epoch_of w n i) × IsNear (h.accounts n i p.epoch) t o
AreNear w h n e p bytes (origin.Data session) = Unit {0}
AreNear w h n e p bytes (origin.Recovery own number empty) = Unit {0}

-- the datagram of a step is a packet, as the end reads it with some secret, or with none
pub record IsPacket (w : World) (h : History) (n : ℕ) (e : End) (sender : Option Sender) (peer : ℕ) (bytes : List ℕ) : Type 0 where
  pub packet : Packet
  pub place : ℕ
  pub sent : slice_get w.packets place ≡ Some packet
  pub ok : PacketOk w h packet
  pub to : packet.to ≡ n
  pub peer_is : peer ≡ address_of packet.from
  pub secret : Option (List ℕ)
  pub bytes_are : bytes ≡ uncovered_datagram secret packet.bytes
  pub sender_is : sender ≡ sender_of packet.from packet.origin
  pub near : AreNear w h n e packet bytes packet.origin

abbrev pub Comes : World → History → ℕ → End → Option Sender → Event → Type 0
Comes w h n e sender ev = (peer : ℕ) (bytes : List ℕ) → ev ≡ Datagram peer bytes → IsPacket w h n e sender peer bytes

-- the numbers of letters don't reach the end of 64 bits in this move, in a tunnel that is neither frozen nor restored; nor do those of letters that
-- are taken
abbrev pub NumbersFit : End → Type 0
NumbersFit e = (i : ℕ) (t : Tunnel) → at e.tunnels i ≡ Some t → is_current (mode_of t.recovery) ≡ true → t.control.channel.window.acked + 8192 < 2 ^ 64

abbrev pub CountsFit : End → Type 0
CountsFit e = (i : ℕ) (t : Tunnel) → at e.tunnels i ≡ Some t → is_current (mode_of t.recovery) ≡ true → t.control.channel.inbox.taken + 1 < 2 ^ 64

-- ---- moves

-- a move of a node, in a world that is as what was done says. Its deed tells the epoch of its tunnel as the move leaves it. So it does of a move
-- that gives or takes a letter, or enters an epoch: no move behind it in the step resets that tunnel, since a tunnel resets when it is frozen or
-- restored, and a step that freezes it hears no answer and no confirmation
pub record IsMoved (w : World) (h : History) (n : ℕ) (node : Node) (sender : Option Sender) (moment : ℕ) (ev : Event) (m : Move) (x : End) (d : Deed) : Type 0 where
  pub there : at w.nodes n ≡ Some node
  pub holds : Holds w h
  pub known : EpochsKnown w h
  pub fit : Fits node.end
  -- a tunnel that isn't established isn't in the checkpoint
  pub unbooked : (i : ℕ) (t : Tunnel) → at node.end.tunnels i ≡ Some t → state_number t.control.state < 3 → tunnel_at node.checkpoint.book i ≡ None
  pub comes : Comes w h n node.end sender ev
  -- no number of a letter reaches the end of 64 bits in this move
  pub numbers : NumbersFit node.end
  pub counts : CountsFit node.end
  pub does : Does node.end moment ev m x
  pub deed : IsDeed d n node.end.role sender m
  pub epoch : d.epoch ≡ epoch_of (moves_on w n node m x) n (about m)

-- it keeps what holds, with what it did
abbrev pub Keeps : Move → Type 0
Keeps m = (w : World) (h : History) (n : ℕ) (node : Node) (sender : Option Sender) (moment : ℕ) (ev : Event) (x : End) (d : Deed)
    → IsMoved w h n node sender moment ev m x d → Holds (moves_on w n node m x) (after h d)

-- moves that give and take no letter and neither make nor enter an epoch: those of recovery tunnels, of calls' links and frames, the ends of
-- tunnels and calls of which nobody is told, and the letters that go on the wire, once or again
abbrev pub IsStill : Move → Type 0
IsStill (move.EndSilent m) = Unit {0}
IsStill (move.Cleared i booked) = Unit {0}
IsStill (move.Quiet i) = Unit {0}
IsStill (move.LetGo m) = Unit {0}
IsStill (move.Repeated m) = Unit {0}
IsStill (move.Negotiated m) = Unit {0}
IsStill (move.Counted m) = Unit {0}
IsStill (move.FrameSent m) = Unit {0}
IsStill (move.FrameUp m) = Unit {0}
IsStill (move.Forgot m) = Unit {0}
IsStill (move.RecoveryWentOn i) = Unit {0}
IsStill (move.RecoveryEnded i) = Unit {0}
IsStill (move.Ignored i) = Unit {0}
IsStill m = ⊥

abbrev pub StillMovesKeep : Type 0
StillMovesKeep = (m : Move) → IsStill m → Keeps m

-- moves by which an attempt of the other end is answered, and by which either end resets its tunnel
abbrev pub IsOfARecovery : Move → Type 0
IsOfARecovery (move.Froze m) = Unit {0}
IsOfARecovery (move.ResetAttempting m) = Unit {0}
IsOfARecovery (move.ResetAnswering m) = Unit {0}
IsOfARecovery m = ⊥

abbrev pub RecoveriesKeep : Type 0
RecoveriesKeep = (m : Move) → IsOfARecovery m → Keeps m

-- moves by which an established tunnel is given a letter, and takes none: a call is asked for, or the end of one is told, or the tunnel
-- says that it is there, or asks which sessions its other end still has
abbrev pub IsGiving : Move → Type 0
IsGiving (move.Requested m) = Unit {0}
IsGiving (move.EndTold m) = Unit {0}
IsGiving (move.Greeted m) = Unit {0}
IsGiving (move.Queried m) = Unit {0}
IsGiving m = ⊥

abbrev pub GivingMovesKeep : Type 0
GivingMovesKeep = (m : Move) → IsGiving m → Keeps m

-- moves by which a tunnel that opens learns its other end, or is confirmed by it, or is closed as it rejects the other end's answer: all are of epoch 0
abbrev pub IsOpening : Move → Type 0
IsOpening (move.Connected m) = Unit {0}
IsOpening (move.Confirmed m) = Unit {0}
IsOpening (move.Rejected m) = Unit {0}
IsOpening m = ⊥

abbrev pub OpeningMovesKeep : Type 0
OpeningMovesKeep = (m : Move) → IsOpening m → Keeps m

-- moves by which a tunnel takes a letter of the other end that it knows, also one that asks which sessions are still there, or answers
-- that; or hears what is acknowledged, or is closed; and by which a call rings in it
abbrev pub IsTaking : Move → Type 0
IsTaking (move.Added m) = Unit {0}
IsTaking (move.Replied m) = Unit {0}
IsTaking (move.Refused m) = Unit {0}
IsTaking (move.FirstUp m) = Unit {0}
IsTaking (move.SecondUp m) = Unit {0}
IsTaking (move.EndHeard m) = Unit {0}
IsTaking (move.TookPlain m) = Unit {0}
IsTaking (move.AnsweredQuery m) = Unit {0}
IsTaking (move.TookAnswer m) = Unit {0}
IsTaking (move.NrRead m) = Unit {0}
IsTaking (move.Closed m) = Unit {0}
IsTaking (move.ClosedBy m) = Unit {0}
IsTaking m = ⊥

abbrev pub TakingMovesKeep : Type 0
TakingMovesKeep = (m : Move) → IsTaking m → Keeps m

-- moves by which a tunnel is opened or accepted, and by which an opening is declined
abbrev pub IsBeginning : Move → Type 0
IsBeginning (move.Opened m) = Unit {0}
IsBeginning (move.Accepted m) = Unit {0}
IsBeginning (move.Declined m) = Unit {0}
IsBeginning m = ⊥

abbrev pub BeginningMovesKeep : Type 0
BeginningMovesKeep = (m : Move) → IsBeginning m → Keeps m

-- ---- moves of a start

-- a move of a node that starts over the book that its checkpoint has, in a world that is as what was done says. Each tunnel that is there
-- came back before, and waits for an answer. So no letter is given or taken, and nothing of epochs needs to be known
pub record IsStarted (w : World) (h : History) (n : ℕ) (node : Node) (moment : ℕ) (ev : Event) (m : Move) (x : End) (d : Deed)
    : Type 0 where
  pub there : at w.nodes n ≡ Some node
  pub holds : Holds w h
  pub sound : IsSoundBook node.checkpoint.book
  pub first : 0 < node.end.tunnel_ids.next
  pub tunnel_ids : SpaceFits 65535 node.end.tunnel_ids
  pub draws : SpaceFits 4294967295 node.end.recovery_ids
  pub back : (i : ℕ) (t : Tunnel) → at node.end.tunnels i ≡ Some t → is_current (mode_of t.recovery) ≡ false
  pub of : IsOfStart node.checkpoint.book m
  pub does : Does node.end moment ev m x
  pub deed : IsDeed d n node.end.role None m

-- it keeps what holds, with what it did
abbrev pub StartingMovesKeep : Type 0
StartingMovesKeep = (m : Move) (w : World) (h : History) (n : ℕ) (node : Node) (moment : ℕ) (ev : Event) (x : End) (d : Deed)
    → IsStarted w h n node moment ev m x d → Holds (moves_on w n node m x) (after h d)
