-- What a line of any schedule does with the nodes: whatever fits is one of these.
use Rattle.std.specs.Prelude.{◌≡◌, ◌⊎◌, ℕ, ◌<◌, Bool, true, false, List, [], ◌∷◌, ◌++◌, map, slice_get, Option, Some, None, Ok}
use Rattle.std.specs.List.{flat_map}
use Rattle.id_table.specs.Ids.{at}
use Rattle.schedule_text.specs.declared.line.Line.{Line}
use Rattle.schedule_text.specs.Grammar.{FitsLine}
use Rattle.end_names.specs.declared.role.Role.{Role}
use Rattle.end_names.specs.declared.role.Role.TheVariants.{Lac}
use Rattle.end_names.specs.Names.{address_of}
use Rattle.end_model.specs.declared.event.Event.{Event}
use Rattle.end_model.specs.declared.event.Event.TheVariants.{Datagram}
use Rattle.end_model.specs.Contents.{contents_of}
use Rattle.end_model.specs.End.{Stepped, step}
use Rattle.end_model.specs.Starting.{starts}
use Rattle.world_model.specs.declared.held.Held.{Held}
use Rattle.world_model.specs.declared.packet.Packet.{Packet}
use Rattle.world_model.specs.declared.stop.StopAt.{StopAt}
use Rattle.world_model.specs.Texts.{Entry, Sends, HandsUp, Holds, Ends, Frames, Drops, Causes, Stopped}
use Rattle.world_model.specs.World.{World, Node, Checkpoint, Sender, Deed, Lined, IsWhole, IsCut, with_node, with_stop, block_of, commits, fallen, without_held, after_step, cut_line, refused_by, sender_of, hand_deed, new_node, opened, line}
use Rattle.step_laws.specs.Gone.{gone_in}
pub use Rattle.frame_laws.specs.Frames.{IsNoDatagram}

-- ---- what entries tell as gone

abbrev pub gone_by : Entry → List (ℕ × ℕ)
gone_by (Ends line n session farewell) = (n, session) ∷ []
gone_by (Sends line packet from to bytes) = []
gone_by (HandsUp line n session birth side frame) = []
gone_by (Holds line n number) = []
gone_by (Frames line n bytes) = []
gone_by (Drops line n x) = []
gone_by (Causes line n c) = []
gone_by (Stopped line n) = []

-- the sessions, each with its node, in order
abbrev pub gone_told : List Entry → List (ℕ × ℕ)
gone_told es = flat_map gone_by es

abbrev pub of_node : ℕ → List ℕ → List (ℕ × ℕ)
of_node n sessions = map (λ q. (n, q)) sessions

-- ---- parts of a line

-- a world with the same nodes, packets and births
pub record AreSame (w v : World) : Type 0 where
  pub nodes : v.nodes ≡ w.nodes
  pub packets : v.packets ≡ w.packets
  pub born : v.born ≡ w.born

-- the node as a step finds it: at a later moment, with other hosts, or up again
pub record Finds (old found : Node) : Type 0 where
  pub end : found.end ≡ old.end
  pub checkpoint : found.checkpoint ≡ old.checkpoint
  pub births : found.births ≡ old.births
  pub standings : found.standings ≡ old.standings
  pub answers : found.answers ≡ old.answers

-- nothing, or that a frame was handed up that the node held
abbrev pub AreHands : ℕ → List Deed → Type 0
AreHands number ds = (ds ≡ []) ⊎ ((n : ℕ) × (r : Role) × (f : Held) × (ds ≡ hand_deed number n r f ∷ []))

-- what comes in a step: a packet that was sent to the node, and isn't refused; or no datagram
pub data ComesIn (w : World) (n : ℕ) (old : Node) (ev : Event) (sender : Option Sender) : Type 0 where
  OfPacket : (p : Packet) (k : ℕ) → slice_get w.packets k ≡ Some p → p.to ≡ n → refused_by w p old p.origin ≡ None
      → ev ≡ Datagram (address_of p.from) p.bytes → sender ≡ sender_of p.from p.origin → ComesIn w n old ev sender
  OfItself : IsNoDatagram ev → sender ≡ None → ComesIn w n old ev sender

-- a step of a node that is up, all of which was committed
pub record WholeStep (w : World) (number : ℕ) (x : Lined) : Type 0 where
  pub node : ℕ
  pub old : Node
  pub was : at w.nodes node ≡ Some old
  pub up : old.up ≡ true
  pub found : Node
  pub finds : Finds old found
  pub still : found.up ≡ true
  pub base : World
  pub same : AreSame w base
  pub event : Event
  pub sender : Option Sender
  pub comes : ComesIn w node old event sender
  pub checkpoint : Checkpoint
  pub whole : commits found.checkpoint (contents_of found.end (step found.end found.clock (block_of node number) event)) ≡ IsWhole checkpoint
  pub world : x.world
      ≡ (after_step base number node (record found { checkpoint = checkpoint }) sender (step found.end found.clock (block_of node number) event)).world
  pub hands : List Deed
  pub are_hands : AreHands number hands
  pub done : x.done
      ≡ hands ++ (after_step base number node (record found { checkpoint = checkpoint }) sender (step found.end found.clock (block_of node number) event)).done
  pub told : (gone_told x.entries ≡ of_node node (gone_in (step found.end found.clock (block_of node number) event).outputs)) ⊎ (gone_told x.entries ≡ [])

-- a step, or a start, that a stop cut off: the node falls with the records before the stop, and nothing is done
pub record CutStep (w : World) (number : ℕ) (x : Lined) : Type 0 where
  pub node : ℕ
  pub old : Node
  pub was : at w.nodes node ≡ Some old
  pub found : Node
  pub finds : Finds old found
  pub base : World
  pub same : AreSame w base
  pub stepped : Stepped
  -- it is a step of a node that is up, or the start of one that is down
  pub of : ((old.up ≡ true)
      × ((event : Event) × (sender : Option Sender) × ComesIn w node old event sender × (stepped ≡ step found.end found.clock (block_of node number) event)))
      ⊎ ((old.up ≡ false) × (stepped ≡ starts old.end.role old.end.config old.checkpoint.book old.clock (block_of node number)))
  pub checkpoint : Checkpoint
  pub cut : commits found.checkpoint (contents_of found.end stepped) ≡ IsCut checkpoint
  pub world : x.world ≡ (cut_line base number node found checkpoint).world
  pub done : x.done ≡ []
  pub told : gone_told x.entries ≡ []

-- the start of a node that is down, all of which was committed
pub record WholeStart (w : World) (number : ℕ) (x : Lined) : Type 0 where
  pub node : ℕ
  pub old : Node
  pub was : at w.nodes node ≡ Some old
  pub down : old.up ≡ false
  pub checkpoint : Checkpoint
  pub whole : commits old.checkpoint (contents_of old.end (starts old.end.role old.end.config old.checkpoint.book old.clock (block_of node number))) ≡ IsWhole checkpoint
  pub is : x ≡ after_step w number node (record (opened (block_of node number) old) { checkpoint = checkpoint }) None
      (starts old.end.role old.end.config old.checkpoint.book old.clock (block_of node number))

-- a node that is up, of which a crash leaves the checkpoint, or for which a stop is armed
pub record OfNode (w : World) : Type 0 where
  pub node : ℕ
  pub old : Node
  pub was : at w.nodes node ≡ Some old
  pub up : old.up ≡ true

pub data LineDoes (w : World) (number : ℕ) (x : Lined) : Type 0 where
  Nothing : AreSame w x.world → AreHands number x.done → gone_told x.entries ≡ [] → LineDoes w number x
  ANode : (n : ℕ) (role : Role) (lns : ℕ) (secret : Option (List ℕ)) (hide : Bool) → n < 256
      → (role ≡ Lac → (m : ℕ) × (m < 256) × (lns ≡ address_of m)) → at w.nodes n ≡ None
      → x.world ≡ with_node w n (new_node number n role lns secret hide) → x.done ≡ [] → gone_told x.entries ≡ [] → LineDoes w number x
  Arms : (k : OfNode w) (s : StopAt) → x.world ≡ with_node w k.node (record k.old { checkpoint = with_stop (Some s) k.old.checkpoint })
      → x.done ≡ [] → gone_told x.entries ≡ [] → LineDoes w number x
  Falls : (k : OfNode w) → x.world ≡ without_held (with_node w k.node (fallen (block_of k.node number) k.old.end k.old k.old.checkpoint)) k.node
      → x.done ≡ [] → gone_told x.entries ≡ [] → LineDoes w number x
  Steps : WholeStep w number x → LineDoes w number x
  Cuts : CutStep w number x → LineDoes w number x
  Starts : WholeStart w number x → LineDoes w number x

abbrev pub LinesDo : Type 0
LinesDo = (w : World) (number : ℕ) (l : Line) (x : Lined) → FitsLine l → line w number l ≡ Ok x → LineDoes w number x
