-- The moves of a step, each made where all of it holds; and what a line does.
use Rattle.std.specs.Prelude.{◌≡◌, ◌⊎◌, ℕ, ◌+◌, ◌^◌, ◌<◌, ◌≤◌, Bool, true, false, List, [], ◌∷◌, map, length, slice_get, Option, Some, None, option_map, Ok}
use Rattle.id_table.specs.Ids.{at, put}
use Rattle.control_message.specs.declared.message.Message.{Message}
use Rattle.control_message.specs.declared.message.Message.TheVariants.{Sccrq, Sccrp, Fsq}
use Rattle.control_message.specs.declared.message.Opening.{Opening}
use Rattle.schedule_text.specs.declared.line.Line.{Line}
use Rattle.schedule_text.specs.Grammar.{FitsLine}
use Rattle.end_model.specs.declared.event.Event.{Event}
use Rattle.end_model.specs.declared.moves.Move.{Move}
use Rattle.end_model.specs.declared.moves.Closed.{Closed}
use Rattle.end_model.specs.declared.moves.ClosedBy.{ClosedBy}
use Rattle.end_model.specs.declared.moves.Declined.{Declined}
use Rattle.end_names.specs.Names.{node_of}
use Rattle.end_model.specs.declared.tunnel.Control.{Control}
use Rattle.end_names.specs.declared.role.Role.{Role}
use Rattle.end_model.specs.Reading.{tunnel_fault_in, CallFault, TunnelFault}
use Rattle.end_model.specs.Tunnels.{Tunnel}
use Rattle.end_model.specs.Moments.{is_closed}
use Rattle.end_model.specs.End.{End, plain_step}
use Rattle.world_model.specs.declared.held.Held.{Held}
use Rattle.world_model.specs.World.{World, Node, Sender, Deed, Lined, birth_of, moved_all, new_node, deed_of, behind_hand, line}
use Rattle.world_model.specs.Run.{Run, empty_run, after_line}
use Rattle.step_laws.specs.Calm.{IsCalm, WorldIsCalm}
use Rattle.step_laws.specs.Letters.{Letter}
use Rattle.step_laws.specs.Moves.{Does, Came, CameIn, Hears, IsNext, HearsNext, InTunnel, IsFaulty, Closes, ClosesBy, Declines}
use Rattle.frame_laws.specs.Plain.{AreAlike, IsReadAs, number_fault}
use Rattle.frame_laws.specs.Unrecovered.{IsMain}
use Rattle.connection_laws.specs.Accounts.{Opener, account_of, after_deed}
use Rattle.connection_laws.specs.Facts.{Accounts, IsNoOpening, IsNoStop, IsStopCcn, Within, Holds}
use Rattle.wire_base.specs.declared.pair.Pair.{Pair}

-- ---- a move of a step

-- the deed of a move in a step of a node
pub record IsDeed (d : Deed) (n : ℕ) (role : Role) (sender : Option Sender) (m : Move) : Type 0 where
  pub node_is : d.node ≡ n
  pub role_is : d.role ≡ role
  pub sender_is : d.sender ≡ sender
  pub move_is : d.move ≡ m

abbrev pub after : Accounts → Deed → Accounts
after accs d n i = after_deed d n i (accs n i)

-- the numbers of letters don't reach the end of 64 bits in this move
abbrev pub HasNumbers : End → Type 0
HasNumbers e = (i : ℕ) (t : Tunnel) → at e.tunnels i ≡ Some t → t.control.channel.window.acked + 8192 < 2 ^ 64

-- nor do the numbers of letters that are taken
abbrev pub HasCounts : End → Type 0
HasCounts e = (i : ℕ) (t : Tunnel) → at e.tunnels i ≡ Some t → t.control.channel.inbox.taken + 1 < 2 ^ 64

pub record IsMoved (accs : Accounts) (n : ℕ) (e x : End) (sender : Option Sender) (moment : ℕ) (ev : Event) (m : Move) (d : Deed) : Type 0 where
  pub within : Within accs n e sender ev
  pub numbers : HasNumbers e
  pub counts : HasCounts e
  pub does : Does e moment ev m x
  -- it isn't one of a recovery
  pub main : IsMain m
  pub deed : IsDeed d n e.role sender m

-- after it all of it holds again
abbrev pub MovesKeep : Type 0
MovesKeep = (accs : Accounts) (n : ℕ) (e x : End) (sender : Option Sender) (moment : ℕ) (ev : Event) (m : Move) (d : Deed)
    → IsMoved accs n e x sender moment ev m d → Within (after accs d) n x sender ev

-- the moves of a step
abbrev pub MovesWithin : Accounts → ℕ → End → Option Sender → ℕ → Event → (Move → Deed) → List Move → End → Type 0
MovesWithin accs n e sender moment ev deed [] x = e ≡ x
MovesWithin accs n e sender moment ev deed (m ∷ ms) x =
    (y : End) × IsMoved accs n e y sender moment ev m (deed m) × MovesWithin (after accs (deed m)) n y sender moment ev deed ms x

-- ---- the letter that is heard

-- the next letter that a live tunnel hears, which isn't closed, is the next one of the list of its sender, which has learned this tunnel;
-- a request may be heard with another Calling Number than the letter's, where its number is hidden by another secret than this end's
pub record NextLetter (accs : Accounts) (n i : ℕ) (sender : Option Sender) (session : ℕ) (m : Message) : Type 0 where
  pub from : Sender
  pub sender_is : sender ≡ Some from
  pub peer : (accs n i).peer ≡ from.node
  pub learned : (accs from.node from.tunnel).remote ≡ i
  pub goes : (accs from.node from.tunnel).peer ≡ n
  pub letter : Letter
  pub there : slice_get (accs from.node from.tunnel).given (length (accs n i).taken) ≡ Some letter
  pub session_is : letter.session ≡ session
  pub message_is : AreAlike letter.message m

abbrev pub NextIsHeard : Type 0
NextIsHeard = (accs : Accounts) (n : ℕ) (e : End) (sender : Option Sender) (ev : Event) → Within accs n e sender ev
    → (i : ℕ) (t : Tunnel) → at e.tunnels i ≡ Some t → is_closed t.control.state ≡ false → (session : ℕ) (m : Message) → IsNoStop m
    → HearsNext ev t session m → NextLetter accs n i sender session m

-- one that comes next, and as what it is read
pub record PlainLetter (accs : Accounts) (n i : ℕ) (sender : Option Sender) (k : Came) : Type 0 where
  pub message : Message
  pub reads : IsReadAs message k.body
  pub next : IsNoStop message → NextLetter accs n i sender k.header.session message

abbrev pub PlainIsHeard : Type 0
PlainIsHeard = (accs : Accounts) (n : ℕ) (e : End) (sender : Option Sender) (ev : Event) → Within accs n e sender ev
    → (i : ℕ) (t : Tunnel) → at e.tunnels i ≡ Some t → is_closed t.control.state ≡ false → (k : Came) → IsNext ev t k
    → PlainLetter accs n i sender k

-- a StopCCN: its sender has learned this tunnel, or is lost and was accepted by it
pub record StopLetter (accs : Accounts) (n i : ℕ) (sender : Option Sender) : Type 0 where
  pub from : Sender
  pub sender_is : sender ≡ Some from
  pub peer : (accs n i).peer ≡ from.node
  pub goes : (accs from.node from.tunnel).peer ≡ n
  pub reaches : ((accs from.node from.tunnel).remote ≡ i) ⊎ (((accs from.node from.tunnel).remote ≡ 0) × ((accs n i).remote ≡ from.tunnel))
  pub letter : Letter
  pub there : slice_get (accs from.node from.tunnel).given (length (accs n i).taken) ≡ Some letter
  pub stops : IsStopCcn letter.message

-- or it is of no tunnel, and declines the SCCRQ of this one, which has taken nothing
pub record StopOfNone (accs : Accounts) (n i : ℕ) (sender : Option Sender) : Type 0 where
  pub node : ℕ
  pub sender_is : sender ≡ Some (record { node = node; tunnel = 0 })
  pub peer : (accs n i).peer ≡ node
  pub opener : (accs n i).part ≡ Opener
  pub remote : (accs n i).remote ≡ 0
  pub nothing : (accs n i).taken ≡ []
  pub declined : (accs n i).declined ≡ true

abbrev pub StopIsHeard : Type 0
StopIsHeard = (accs : Accounts) (n : ℕ) (e x : End) (sender : Option Sender) (moment : ℕ) (ev : Event) → Within accs n e sender ev
    → (m : ClosedBy) → ClosesBy e moment ev m x → StopLetter accs n m.tunnel sender ⊎ StopOfNone accs n m.tunnel sender

-- what is declined is the SCCRQ of a tunnel of the sender's, which goes to this node
pub record IsOpening (accs : Accounts) (n : ℕ) (m : Declined) : Type 0 where
  pub opener : (accs (node_of m.peer) m.remote).part ≡ Opener
  pub peer : (accs (node_of m.peer) m.remote).peer ≡ n
  pub nr : m.nr ≡ 1

abbrev pub DeclinesAreOfOpenings : Type 0
DeclinesAreOfOpenings = (accs : Accounts) (n : ℕ) (e x : End) (sender : Option Sender) (ev : Event) → Within accs n e sender ev
    → (m : Declined) → Declines e ev m x → IsOpening accs n m

-- a StopCCN goes to the tunnel that is known
abbrev pub ClosingsAreKnown : Type 0
ClosingsAreKnown = (accs : Accounts) (n : ℕ) (e x : End) (sender : Option Sender) (moment : ℕ) (ev : Event) → Within accs n e sender ev
    → (m : Closed) → Closes e moment ev m x → m.remote ≡ (accs n m.tunnel).remote

-- no opening that is heard has another version or wants a recovery
abbrev pub OpeningsAreAcceptable : Type 0
OpeningsAreAcceptable = (accs : Accounts) (n : ℕ) (e : End) (sender : Option Sender) (ev : Event) → Within accs n e sender ev
    → (peer session : ℕ) (o : Opening) → (Hears ev peer session (Sccrq o)) ⊎ (Hears ev peer session (Sccrp o))
    → (o.version ≡ 256) × (o.recovery ≡ None)

-- none that is heard asks for sessions
abbrev pub NoneAsksForSessions : Type 0
NoneAsksForSessions = (accs : Accounts) (n : ℕ) (e : End) (sender : Option Sender) (ev : Event) → Within accs n e sender ev
    → (peer session : ℕ) (pairs : List Pair) → Hears ev peer session (Fsq pairs) → ⊥

-- a control message that comes in a live tunnel, the next one or not, and opens, accepts or closes none
pub record HeardLetter (accs : Accounts) (n i : ℕ) (sender : Option Sender) (session : ℕ) (m : Message) : Type 0 where
  pub from : Sender
  pub sender_is : sender ≡ Some from
  pub peer : (accs n i).peer ≡ from.node
  pub learned : (accs from.node from.tunnel).remote ≡ i
  pub goes : (accs from.node from.tunnel).peer ≡ n
  pub number : ℕ
  pub letter : Letter
  pub there : slice_get (accs from.node from.tunnel).given number ≡ Some letter
  pub session_is : letter.session ≡ session
  pub message_is : AreAlike letter.message m

abbrev pub LettersAreHeard : Type 0
LettersAreHeard = (accs : Accounts) (n : ℕ) (e : End) (sender : Option Sender) (ev : Event) → Within accs n e sender ev
    → (i : ℕ) (t : Tunnel) → at e.tunnels i ≡ Some t → (session : ℕ) (m : Message) → IsNoOpening m → IsNoStop m → InTunnel ev t.control session m
    → HeardLetter accs n i sender session m

-- a message about a call that has a fault is a request whose number can't be had
abbrev pub FaultsAreOfRequests : Type 0
FaultsAreOfRequests = (accs : Accounts) (n : ℕ) (e : End) (sender : Option Sender) (ev : Event) → Within accs n e sender ev
    → (c : Control) (session : ℕ) (f : CallFault) → IsFaulty ev c session f → (own : ℕ) × (f ≡ number_fault own)

-- no other message has a fault

abbrev pub NoneIsFaultyInTunnel : Type 0
NoneIsFaultyInTunnel = (accs : Accounts) (n : ℕ) (e : End) (sender : Option Sender) (ev : Event) → Within accs n e sender ev
    → (k : Came) (g : TunnelFault) → CameIn ev k → (length k.body ≡ 0 → ⊥) → tunnel_fault_in k.body ≡ Some g → ⊥

-- ---- lines

abbrev pub GivenBelow : Accounts → ℕ → Type 0
GivenBelow accs most = (n i : ℕ) → length (accs n i).given ≤ most

-- the end of a node, where there is one
abbrev pub end_at : World → ℕ → Option End
end_at w n = option_map (λ (node : Node). node.end) (at w.nodes n)

-- the calls of both worlds have the same births
pub record BirthsStay (w v : World) : Type 0 where
  pub count : v.born ≡ w.born
  pub births : (n session : ℕ) → birth_of v n session ≡ birth_of w n session

-- a line that makes a step of a node
pub record LineSteps (w : World) (accs : Accounts) (number : ℕ) (x : Lined) : Type 0 where
  pub node : ℕ
  pub old : Node
  pub was : at w.nodes node ≡ Some old
  pub sender : Option Sender
  pub moment : ℕ
  pub block : List ℕ
  pub ev : Event
  -- the world in which its moves begin, and the one in which their births are told
  pub begun : World
  pub begins : BirthsStay w begun
  pub declared : (before : Node) × (at begun.nodes node ≡ Some before)
  pub told : World
  pub told_is : told ≡ moved_all node (plain_step old.end moment block ev).moves begun
  pub births : BirthsStay told x.world
  pub done : x.done ≡ map (λ m. deed_of told number node old.end.role sender m) (plain_step old.end moment block ev).moves
  pub moves : MovesWithin accs node old.end sender moment ev (λ m. deed_of told number node old.end.role sender m)
      (plain_step old.end moment block ev).moves (plain_step old.end moment block ev).end
  pub end : end_at x.world node ≡ Some (plain_step old.end moment block ev).end
  pub others : (k : ℕ) → (k ≡ node → ⊥) → end_at x.world k ≡ end_at w k

-- what a line does with the nodes: nothing, one more node, or a step of one
pub data LineDoes (w : World) (accs : Accounts) (number : ℕ) (x : Lined) : Type 0 where
  Nothing : x.done ≡ [] → x.world.nodes ≡ w.nodes → BirthsStay w x.world → LineDoes w accs number x
  ANode : (n : ℕ) (role : Role) (lns : ℕ) (secret : Option (List ℕ)) (hide : Bool) → n < 256 → at w.nodes n ≡ None → x.done ≡ []
      → x.world.nodes ≡ put w.nodes n (new_node number n role lns secret hide) → BirthsStay w x.world
      → LineDoes w accs number x
  AStep : LineSteps w accs number x → LineDoes w accs number x

-- that alone, or behind a frame that a node held and that is handed up
pub data LineHands (w : World) (accs : Accounts) (number : ℕ) (x : Lined) : Type 0 where
  ByItself : LineDoes w accs number x → LineHands w accs number x
  BehindHand : (y : Lined) (n : ℕ) (r : Role) (f : Held) → x ≡ behind_hand number n r f y → LineDoes w accs number y → LineHands w accs number x

-- before each line of a run in which no node crashes, is to stop, or starts
pub record HoldsAt (most : ℕ) (r : Run) : Type 0 where
  pub holds : Holds r.world (account_of r.done)
  pub given : GivenBelow (account_of r.done) most
  pub calm : WorldIsCalm r.world

-- a line that fits goes on from there
pub record LineGoesOn (most number : ℕ) (r : Run) (x : Lined) : Type 0 where
  pub after : HoldsAt (most + 16384) (after_line r x)
  pub does : LineHands r.world (account_of r.done) number x

abbrev pub LinesGoOn : Type 0
LinesGoOn = (most number : ℕ) (r : Run) → HoldsAt most r → most + 24576 < 2 ^ 64 → (l : Line) → FitsLine l → IsCalm l → (x : Lined)
    → line r.world number l ≡ Ok x → LineGoesOn most number r x

abbrev pub RunsBegin : Type 0
RunsBegin = HoldsAt 0 empty_run
