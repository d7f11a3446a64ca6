-- A whole step of a node, or a whole start: its moves, each made where those before it lead; what is committed then, and what is sent.
use Rattle.std.specs.Prelude.{◌≡◌, ℕ, ◌+◌, ◌^◌, ◌<◌, ◌≤◌, true, List, [], ◌∷◌, ◌++◌, length, Option, Some, None}
use Rattle.id_table.specs.Ids.{at}
use Rattle.end_model.specs.declared.event.Event.{Event}
use Rattle.end_model.specs.declared.event.Event.TheVariants.{Tick}
use Rattle.end_model.specs.declared.moves.Move.{Move}
use Rattle.end_model.specs.Secrets.{uncovered_event}
use Rattle.end_model.specs.End.{End, Stepped, step}
use Rattle.end_model.specs.Starting.{starts}
use Rattle.world_model.specs.World.{World, Node, Sender, Deed, Lined, standing_of, block_of}
use Rattle.step_laws.specs.Moves.{Chain}
use Rattle.step_laws.specs.Steps.{IsOfNoStart}
use Rattle.channel_laws.specs.Accounts.{History, after, history_from}
use Rattle.channel_laws.specs.Facts.{makes, Holds, NodesHold}
use Rattle.channel_laws.specs.Epochs.{EpochsKnown}
use Rattle.channel_laws.specs.Lines.{Finds, ComesIn, WholeStep, WholeStart, CutStep, LineDoes}
use Rattle.channel_laws.specs.Steps.{moves_on, IsMoved, IsStarted}

-- what else is kept along the moves of a step: of the world and of what was done up to some move, and of the moves up to it. It tells what
-- the channels need to know of epochs, and each move keeps it
pub record IsAlong (J : World → History → List Move → Type 0) (n : ℕ) (sender : Option Sender) (moment : ℕ) (ev : Event)
    : Type 0 where
  pub knows : (w : World) (h : History) (made : List Move) → Holds w h → J w h made → EpochsKnown w h
  pub moves : (w : World) (h : History) (made : List Move) (node : Node) (m : Move) (x : End) (d : Deed) → IsOfNoStart m
      → IsMoved w h n node sender moment ev m x d → J w h made → Holds (moves_on w n node m x) (after h d)
      → J (moves_on w n node m x) (after h d) (made ++ m ∷ [])

-- where moves lead, from a world and what was done before
pub data Leads (n : ℕ) (sender : Option Sender) (moment : ℕ) (ev : Event) (w0 : World) (h0 : History)
    : List Move → World → History → Type 0 where
  NoMove : Leads n sender moment ev w0 h0 [] w0 h0
  OneMore : (made : List Move) (w : World) (h : History) (node : Node) (m : Move) (x : End) (d : Deed) → IsOfNoStart m
      → Leads n sender moment ev w0 h0 made w h
      → IsMoved w h n node sender moment ev m x d → Leads n sender moment ev w0 h0 (made ++ m ∷ []) (moves_on w n node m x) (after h d)

-- no channel was given more letters than so many
abbrev pub Below : History → ℕ → Type 0
Below h most = (n i e : ℕ) → length (h.accounts n i e).given ≤ most

-- a node has the same end and the same checkpoint
abbrev pub SameLook : Option Node → Option Node → Type 0
SameLook None None = Unit {0}
SameLook None (Some b) = ⊥
SameLook (Some a) None = ⊥
SameLook (Some a) (Some b) = (b.end ≡ a.end) × (b.checkpoint ≡ a.checkpoint)

-- two worlds keep the same of each tunnel and each answer
pub record CountAlike (v u : World) : Type 0 where
  pub standings : (m j : ℕ) → standing_of u m j ≡ standing_of v m j
  pub makes_as : (m c : ℕ) → makes u m c ≡ makes v m c

-- ---- a whole step

abbrev pub stepped_in : (w : World) (number : ℕ) (x : Lined) → WholeStep w number x → Stepped
stepped_in w number x s = step s.found.end s.found.clock (block_of s.node number) s.event

-- its moves lead so
abbrev pub LeadsIn : (w : World) (h : History) (number : ℕ) (x : Lined) → WholeStep w number x → List Move → World → History → Type 0
LeadsIn w h number x s = Leads s.node s.sender s.found.clock (uncovered_event s.found.end.config.secret s.event) w h

-- wherever moves lead from a world, the epochs are known
abbrev pub KnowsFrom : World → History → ℕ → Option Sender → ℕ → Event → Type 0
KnowsFrom w h n sender moment ev =
    (made : List Move) (v : World) (g : History) → Leads n sender moment ev w h made v g → Holds v g → EpochsKnown v g

-- before its moves, and after each of them, the epochs are known
abbrev pub KnowsAlong : (w : World) (h : History) (number : ℕ) (x : Lined) → WholeStep w number x → Type 0
KnowsAlong w h number x s = KnowsFrom w h s.node s.sender s.found.clock (uncovered_event s.found.end.config.secret s.event)

-- what it leaves: all holds again, and no channel was given more than 81,919 letters more than any was before. All its moves lead to a
-- world in which its node has the end that the step leaves, and still the checkpoint that it had before; what is kept of tunnels and
-- answers, and each other node, are in it as the step leaves them
pub record WholeKept (w : World) (h : History) (number : ℕ) (x : Lined) (s : WholeStep w number x) (most : ℕ) : Type 0 where
  pub holds : Holds x.world (history_from x.done h)
  pub below : Below (history_from x.done h) (most + 81919)
  pub behind : World
  pub leads : LeadsIn w h number x s (stepped_in w number x s).moves behind (history_from x.done h)
  pub holds_behind : Holds behind (history_from x.done h)
  pub node : Node
  pub there : at behind.nodes s.node ≡ Some node
  pub end : node.end ≡ (stepped_in w number x s).end
  pub checkpoint : node.checkpoint ≡ s.found.checkpoint
  pub alike : CountAlike behind x.world
  pub others : (q : ℕ) → (q ≡ s.node → ⊥) → SameLook (at behind.nodes q) (at x.world.nodes q)

abbrev pub WholeStepsKeep : Type 0
WholeStepsKeep =
    (w : World) (h : History) (number : ℕ) (x : Lined) (s : WholeStep w number x) (most : ℕ)
    → NodesHold w → Holds w h → Below h most → most + 147460 < 2 ^ 64
    → KnowsAlong w h number x s → WholeKept w h number x s most

-- ---- a whole start

abbrev pub started_in : (w : World) (number : ℕ) (x : Lined) → WholeStart w number x → Stepped
started_in w number x s = starts s.old.end.role s.old.end.config s.old.checkpoint.book s.old.clock (block_of s.node number)

-- where the moves of a start lead, from a world and what was done before
pub data LeadsBack (n : ℕ) (moment : ℕ) (ev : Event) (w0 : World) (h0 : History) : List Move → World → History → Type 0 where
  NoMoveBack : LeadsBack n moment ev w0 h0 [] w0 h0
  OneMoreBack : (made : List Move) (w : World) (h : History) (node : Node) (m : Move) (x : End) (d : Deed)
      → LeadsBack n moment ev w0 h0 made w h
      → IsStarted w h n node moment ev m x d → LeadsBack n moment ev w0 h0 (made ++ m ∷ []) (moves_on w n node m x) (after h d)

-- what it leaves: all holds again, and no letter was given or taken in it. All its moves lead to a world in which its node has the end that
-- the start leaves, and still the checkpoint that it had before; what is kept of tunnels and answers, and each other node, are in it as
-- the start leaves them
pub record StartKept (w : World) (h : History) (number : ℕ) (x : Lined) (s : WholeStart w number x) : Type 0 where
  pub holds : Holds x.world (history_from x.done h)
  pub accounts : (history_from x.done h).accounts ≡ h.accounts
  pub behind : World
  pub leads : LeadsBack s.node s.old.clock Tick w h (started_in w number x s).moves behind (history_from x.done h)
  pub holds_behind : Holds behind (history_from x.done h)
  pub node : Node
  pub there : at behind.nodes s.node ≡ Some node
  pub end : node.end ≡ (started_in w number x s).end
  pub checkpoint : node.checkpoint ≡ s.old.checkpoint
  pub alike : CountAlike behind x.world
  pub others : (q : ℕ) → (q ≡ s.node → ⊥) → SameLook (at behind.nodes q) (at x.world.nodes q)

-- nothing needs to be known of epochs
abbrev pub StartsKeep : Type 0
StartsKeep =
    (w : World) (h : History) (number : ℕ) (x : Lined) (s : WholeStart w number x) (most : ℕ)
    → NodesHold w → Holds w h → Below h most → most + 65536 < 2 ^ 64
    → StartKept w h number x s

-- ---- a step, or a start, that a stop cuts off

-- of its records a stop leaves the first ones. All holds again, of the book that is left too: each tunnel that a record brought into it
-- was known by what had been sent before the step; as long as the epochs are known wherever the moves of the step would lead. The records
-- of a start bring none, so nothing needs to be known of epochs there
abbrev pub CutStepsKeep : Type 0
CutStepsKeep =
    (w : World) (h : History) (number : ℕ) (x : Lined) (s : CutStep w number x) (most : ℕ)
    → NodesHold w → Holds w h → Below h most → most + 147460 < 2 ^ 64
    → ((event : Event) (sender : Option Sender) → s.old.up ≡ true → ComesIn w s.node s.old event sender
    → KnowsFrom w h s.node sender s.found.clock (uncovered_event s.found.end.config.secret event))
    → Holds x.world (history_from x.done h)

-- ---- any line

-- wherever the moves of a step would lead, whichever node that is up makes it, and on whatever comes in, the epochs are known
abbrev pub KnowsOfLine : World → History → Type 0
KnowsOfLine w h =
    (n : ℕ) (old found : Node) (event : Event) (sender : Option Sender)
    → at w.nodes n ≡ Some old → old.up ≡ true → Finds old found → ComesIn w n old event sender
    → KnowsFrom w h n sender found.clock (uncovered_event found.end.config.secret event)

abbrev pub LinesKeep : Type 0
LinesKeep =
    (w : World) (h : History) (number : ℕ) (x : Lined) (most : ℕ)
    → NodesHold w → Holds w h → Below h most → most + 147460 < 2 ^ 64 → LineDoes w number x
    → KnowsOfLine w h → Holds x.world (history_from x.done h) × Below (history_from x.done h) (most + 81919)

-- ---- a part of the moves of a step

-- where the first moves of a step lead: all holds there, and the node has the end of the chain, and still its checkpoint
pub record PartLeads (w : World) (h : History) (n : ℕ) (old : Node) (sender : Option Sender) (moment : ℕ) (ev : Event) (made : List Move)
    : Type 0 where
  pub world : World
  pub history : History
  pub leads : Leads n sender moment ev w h made world history
  pub holds : Holds world history
  pub node : Node
  pub there : at world.nodes n ≡ Some node
  pub comes : Chain moment ev old.end made node.end
  pub checkpoint : node.checkpoint ≡ old.checkpoint
  pub others : (q : ℕ) → (q ≡ n → ⊥) → SameLook (at w.nodes q) (at world.nodes q)

-- so it is of a step that a stop cuts off, whichever its records are that are left
abbrev pub PartsLead : Type 0
PartsLead =
    (w : World) (h : History) (number : ℕ) (x : Lined) (s : CutStep w number x) (most : ℕ)
    → NodesHold w → Holds w h → Below h most → most + 147460 < 2 ^ 64 → s.old.up ≡ true → (event : Event) (sender : Option Sender)
    → ComesIn w s.node s.old event sender → s.stepped ≡ step s.found.end s.found.clock (block_of s.node number) event
    → KnowsFrom w h s.node sender s.found.clock (uncovered_event s.found.end.config.secret event)
    → (made rest : List Move) → s.stepped.moves ≡ made ++ rest
    → PartLeads w h s.node s.old sender s.found.clock (uncovered_event s.found.end.config.secret event) made
