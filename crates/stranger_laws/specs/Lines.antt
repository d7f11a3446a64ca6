-- What a line does that brings a node a packet of a stranger, after every list of lines, whatever crashed in it.
use Rattle.std.specs.Prelude.{◌≡◌, ℕ, ◌-◌, ◌<◌, ◌≤◌, true, false, List, ◌++◌, length, slice_get, Some, is_some, Ok}
use Rattle.std.specs.List.{AllByRecursion}
use Rattle.id_table.specs.Ids.{at}
use Rattle.schedule_text.specs.declared.line.Line.{Line}
use Rattle.schedule_text.specs.declared.line.Line.TheVariants.{Deliver, Load}
use Rattle.schedule_text.specs.Grammar.{AreLines}
use Rattle.session_book.specs.Books.{Kept}
use Rattle.end_names.specs.Names.{address_of, node_of}
use Rattle.end_model.specs.End.{End}
use Rattle.world_model.specs.declared.packet.Packet.{Packet}
use Rattle.world_model.specs.Texts.{Entry, Sends, HandsUp, Holds, Ends, Frames, Drops, Causes, Stopped}
use Rattle.world_model.specs.World.{World, Node, Checkpoint, Deed, Lined, line}
use Rattle.world_model.specs.Run.{run}
use Rattle.stranger_steps.specs.Strangers.{IsStranger, Leaves, IsOfOpening}

-- the line brings the packet to the node: the packet is delivered, or it is loaded there as a data packet, whose frame would be held
abbrev pub Brings : World → Line → Packet → ℕ → Type 0
Brings w (Deliver p) packet n = (slice_get w.packets (p - 1) ≡ Some packet) × (packet.to ≡ n)
Brings w (Load m p) packet n = (slice_get w.packets (p - 1) ≡ Some packet) × (m ≡ n)
Brings w l packet n = ⊥

-- a book with the tunnels, each with its mark, and the calls of another, and its ceilings but that of tunnel ids
pub record HasAllOf (before after : Kept) : Type 0 where
  pub tunnels : after.tunnels ≡ before.tunnels
  pub calls : after.calls ≡ before.calls
  pub session_ceiling : after.session_ceiling ≡ before.session_ceiling
  pub draw_ceiling : after.draw_ceiling ≡ before.draw_ceiling

-- what is left of the node
pub data NodeLeft (node : Node) (peer : ℕ) (new : Node) : Type 0 where
  -- it is as it was, but for its end, which may have one tunnel more, and the ceiling of tunnel ids in its checkpoint
  Stays : (end : End) (checkpoint : Checkpoint) → Leaves node.end peer end → HasAllOf node.checkpoint.book checkpoint.book
      → new ≡ record node { end = end; checkpoint = checkpoint } → NodeLeft node peer new
  -- or a stop that was armed cut the step off, as it committed that ceiling: then the node is down, with such a checkpoint
  Stops : is_some node.checkpoint.stop ≡ true → new.up ≡ false → HasAllOf node.checkpoint.book new.checkpoint.book → NodeLeft node peer new

-- a packet that the node sent to the node with this address
abbrev pub GoesBack : ℕ → ℕ → Packet → Type 0
GoesBack n peer p = (p.from ≡ n) × (p.to ≡ node_of peer)

-- an entry may tell of such a packet, of what was dropped, why an opening was declined, and that the node stopped; of no frame that is
-- handed up or held, of no call that ended, and of no host that is answered
abbrev pub TellsOnly : ℕ → ℕ → Entry → Type 0
TellsOnly n peer (Sends line packet from to bytes) = (from ≡ n) × (to ≡ node_of peer)
TellsOnly n peer (Drops line node w) = node ≡ n
TellsOnly n peer (Causes line node c) = node ≡ n
TellsOnly n peer (Stopped line node) = node ≡ n
TellsOnly n peer (HandsUp line node session birth side frame) = ⊥
TellsOnly n peer (Holds line node number) = ⊥
TellsOnly n peer (Ends line node session padt) = ⊥
TellsOnly n peer (Frames line node bytes) = ⊥

-- what the line comes to, of a node that was so, and of the peer from which the packet comes
pub record ChangesNoCall (w : World) (n : ℕ) (node : Node) (peer : ℕ) (x : Lined) : Type 0 where
  -- the node keeps each of its tunnels and calls, in its end and in its checkpoint
  pub left : (new : Node) × (at x.world.nodes n ≡ Some new) × NodeLeft node peer new
  -- the other nodes are as they were
  pub others : (m : ℕ) → (m ≡ n → ⊥) → at x.world.nodes m ≡ at w.nodes m
  -- one packet more at most is there, which goes to the one from which the packet comes
  pub packets : (more : List Packet) × (x.world.packets ≡ w.packets ++ more) × AllByRecursion (GoesBack n peer) more × (length more ≤ 1)
  -- no call is born, and no frame is held
  pub born : x.world.born ≡ w.born
  pub loads : x.world.loads ≡ w.loads
  -- nothing is told but that
  pub entries : AllByRecursion (TellsOnly n peer) x.entries
  -- nothing is done but what belongs to an opening
  pub done : AllByRecursion (λ (d : Deed). IsOfOpening d.move) x.done

-- a line comes to no more than that where it brings a node a packet from an address that is that of no peer of the node's live tunnels
abbrev pub KeepsFromStrangers : World → Line → Lined → Type 0
KeepsFromStrangers w l x =
    (packet : Packet) (n : ℕ) → Brings w l packet n → (node : Node) → at w.nodes n ≡ Some node
    → IsStranger node.end (address_of packet.from) → ChangesNoCall w n node (address_of packet.from) x

-- so does each line that fits, after every list of lines of the grammar
abbrev pub StrangersChangeNoCall : Type 0
StrangersChangeNoCall =
    (lines : List Line) → AreLines lines → (number : ℕ) (l : Line) (x : Lined) → line (run lines).world number l ≡ Ok x
    → KeepsFromStrangers (run lines).world l x

-- the node with the address of a node is that node
abbrev pub AddressesAreOfNodes : Type 0
AddressesAreOfNodes = (n : ℕ) → n < 256 → node_of (address_of n) ≡ n
