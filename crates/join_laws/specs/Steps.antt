-- The moves of a step in the abstract machine. A move of a node is a list of the machine's moves there, by which the world that the move
-- leads to is joined again.
use Rattle.std.specs.Prelude.{◌≡◌, ℕ, ◌+◌, ◌^◌, ◌<◌, ◌≤◌, Bool, true, false, List, [], ◌∷◌, length, Option, Some, None}
use Rattle.id_table.specs.Ids.{at}
use Rattle.session_book.specs.Books.{Kept}
use Rattle.end_model.specs.declared.event.Event.{Event}
use Rattle.end_model.specs.declared.moves.Move.{Move}
use Rattle.end_model.specs.End.{End}
use Rattle.world_model.specs.World.{World, Node, Sender, Deed, with_node, standing_of}
use Rattle.step_laws.specs.Left.{AreSound}
use Rattle.book_laws.specs.Books.{Mirrors, Fits}
use Rattle.node_laws.specs.Nodes.{HoldsNode}
use Rattle.epoch_machine.specs.Worlds as machine
use Rattle.epoch_machine.specs.Worlds.{all_rules}
use Rattle.epoch_machine.specs.Moves as moves
use Rattle.epoch_machine.specs.Moves.{goes_on}
use Rattle.stop_laws.specs.Records.{node_of}
use Rattle.stop_laws.specs.Steps.{is_outage}
use Rattle.channel_laws.specs.Accounts.{Account, History, no_history, after, history_from}
use Rattle.channel_laws.specs.Facts.{Holds}
use Rattle.channel_laws.specs.Steps.{moves_on, IsMoved}
use Rattle.recovery_laws.specs.Answered.{AllAnswer}
use Rattle.recovery_laws.specs.Joined.{AreJoined}
use Rattle.recovery_laws.specs.Queries.{QueriesJoined, CallsAreNamed}
use Rattle.join_laws.specs.Hearing.{AreHeard}

-- ---- books

-- The world in which a node's checkpoint has this book. Amid a step a node still has the checkpoint from before it, while the machine books
-- at once what a move leaves. So there the world is joined in which the node's book is that of its end: behind the last move that is the
-- book which the step commits, and before the first one the one that the node has.
abbrev pub with_book_at : World → ℕ → Kept → Option Node → World
with_book_at w n k None = w
with_book_at w n k (Some node) = with_node w n (record node { checkpoint = record node.checkpoint { book = k } })

abbrev pub with_book : World → ℕ → Kept → World
with_book w n k = with_book_at w n k (at w.nodes n)

-- ---- what is joined

-- the world is, with what its tunnels ask for; and all calls have names of sessions
pub record IsJoined (w : World) (h : History) (m : machine.World) : Type 0 where
  pub joined : AreJoined w h m
  pub queries : QueriesJoined w h m
  pub named : CallsAreNamed m

-- ---- what holds of every history

-- a channel that is closed was closed with no more letters taken than it has taken
abbrev pub ClosesWithin : Account → Type 0
ClosesWithin a = (count : ℕ) → a.closed ≡ Some count → count ≤ length a.taken

abbrev pub AllClose : History → Type 0
AllClose h = (n i e : ℕ) → ClosesWithin (h.accounts n i e)

-- at first, and whatever is done
pub record ChannelsClose : Type 0 where
  pub first : AllClose no_history
  pub later : (done : List Deed) (h : History) → AllClose h → AllClose (history_from done h)

-- ---- moves

-- The machine's moves that a node makes in a step, one after another: none is a crash, or one that follows a crash.
abbrev pub AreOf : ℕ → machine.World → List moves.Move → Type 0
AreOf n m [] = Unit {0}
AreOf n m (j ∷ js) = (node_of m j ≡ n) × (is_outage j ≡ false) × AreOf n (moves.step all_rules m j) js

-- A move of a step of a node that is up, behind which all holds of channels again. `k` is a book of the end before it, and with this the
-- world is joined; each call is in a state that one of the end's role can be in, each other node is as node_laws says, and no number of a
-- birth or of an epoch comes to the end of 64 bits.
pub record IsMade (w : World) (h : History) (n : ℕ) (node : Node) (sender : Option Sender) (moment : ℕ) (ev : Event) (m : Move) (x : End)
    (d : Deed) (k : Kept) (j : machine.World) : Type 0 where
  pub moved : IsMoved w h n node sender moment ev m x d
  pub later : Holds (moves_on w n node m x) (after h d)
  pub fit : Fits x
  pub up : node.up ≡ true
  pub sound : AreSound node.end
  pub nodes : (q : ℕ) (other : Node) → (q ≡ n → ⊥) → at w.nodes q ≡ Some other → HoldsNode other
  pub answers : AllAnswer h
  pub closes : AllClose h
  pub mirrors : Mirrors node.end k
  pub joined : IsJoined (with_book w n k) h j
  pub born : w.born + 1 < 2 ^ 64
  pub epochs : (q i : ℕ) → (standing_of w q i).made + 1 < 2 ^ 64

-- the machine goes on by moves of the node, each of which takes what the step hears, and the world is joined again
pub record Follows (ev : Event) (w : World) (h : History) (n : ℕ) (before : machine.World) : Type 0 where
  pub moves : List moves.Move
  pub own : AreOf n before moves
  pub heard : AreHeard ev before moves
  pub joined : IsJoined w h (goes_on all_rules before moves)

-- so it is of each such move, with any book of the end that it leads to
abbrev pub Joins : Move → Type 0
Joins m = (w : World) (h : History) (n : ℕ) (node : Node) (sender : Option Sender) (moment : ℕ) (ev : Event) (x : End) (d : Deed) (k : Kept)
    (j : machine.World) → IsMade w h n node sender moment ev m x d k j → (b : Kept) → Mirrors x b
    → Follows ev (with_book (moves_on w n node m x) n b) (after h d) n j
