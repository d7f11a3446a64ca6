-- What holds of each node by itself after every list of lines, whatever crashes in it.
use Rattle.std.specs.Prelude.{◌≡◌, ℕ, ◌+◌, ◌≤◌, true, false, List, length, Some}
use Rattle.id_table.specs.Ids.{at}
use Rattle.session_book.specs.declared.record.Record.{Record}
use Rattle.session_book.specs.Books.{Kept}
use Rattle.schedule_text.specs.declared.line.Line.{Line}
use Rattle.schedule_text.specs.Grammar.{AreLines}
use Rattle.end_names.specs.declared.role.Role.{Role}
use Rattle.end_model.specs.declared.event.Event.{Event}
use Rattle.end_model.specs.declared.tunnel.Config.{Config}
use Rattle.end_model.specs.Contents.{contents_of}
use Rattle.end_model.specs.End.{End, new_end, plain_step}
use Rattle.end_model.specs.Starting.{bare_end, starts}
use Rattle.world_model.specs.World.{Node, Checkpoint, recorded_all}
use Rattle.world_model.specs.Run.{run}
use Rattle.step_laws.specs.Looks.{LooksAreTrue}
use Rattle.step_laws.specs.Steps.{AreKept}
use Rattle.book_laws.specs.Books.{Fits, IsBook, AreInPlace, book_after, SuitsRole}
pub use Rattle.book_laws.specs.Starts.{IsSoundBook}
use Rattle.book_laws.specs.Starts.{StartIsBooked, IsBroughtBack}

-- ---- nodes

-- a node that is up has an end whose tables and looks are kept, and its checkpoint has the end's own book
pub record HoldsUp (node : Node) : Type 0 where
  pub kept : AreKept node.end
  pub looks : LooksAreTrue node.end
  pub fit : Fits node.end
  pub book : IsBook node.end node.checkpoint.book

-- of one that is down nothing is left but the book: it has no tunnel, and its ids begin above the book's ceilings. The book fits together, and
-- its calls have none of what calls of the end's role have none of
pub record HoldsNode (node : Node) : Type 0 where
  pub sound : IsSoundBook node.checkpoint.book
  pub suits : SuitsRole node.end.role node.checkpoint.book
  pub up : node.up ≡ true → HoldsUp node
  pub down : node.up ≡ false → node.end ≡ bare_end node.end.role node.end.config node.checkpoint.book

abbrev pub NodesOfRuns : Type 0
NodesOfRuns = (lines : List Line) → AreLines lines → (n : ℕ) (node : Node) → at (run lines).world.nodes n ≡ Some node → HoldsNode node

-- so the tables of each end are kept, whether it is up or down
abbrev pub EndsOfRuns : Type 0
EndsOfRuns = (lines : List Line) → AreLines lines → (n : ℕ) (node : Node) → at (run lines).world.nodes n ≡ Some node → AreKept node.end × LooksAreTrue node.end × Fits node.end

-- ---- records

-- the checkpoint counts each of the records, and its book is the one after them all
pub record CountsAll (k : Checkpoint) (rs : List Record) : Type 0 where
  pub in_place : AreInPlace k.book rs
  pub records : (recorded_all k rs).records ≡ k.records + length rs
  pub book : (recorded_all k rs).book ≡ book_after k.book rs

-- none of the records of a step is out of place in the checkpoint of a node that is up, and so none of those of a start, of one that is down;
-- the book after a start is that of the end that it leads to, with the tunnels that came back
pub record LeavesNoneOut (node : Node) : Type 0 where
  pub steps : node.up ≡ true → (moment : ℕ) (block : List ℕ) (ev : Event) → CountsAll node.checkpoint (contents_of node.end (plain_step node.end moment block ev))
  pub start : node.up ≡ false → (moment : ℕ) (block : List ℕ)
      → CountsAll node.checkpoint (contents_of node.end (starts node.end.role node.end.config node.checkpoint.book moment block))
  pub back : node.up ≡ false → (moment : ℕ) (block : List ℕ)
      → StartIsBooked node.end node.checkpoint.book (starts node.end.role node.end.config node.checkpoint.book moment block)

abbrev pub RecordsOfRuns : Type 0
RecordsOfRuns = (lines : List Line) → AreLines lines → (n : ℕ) (node : Node) → at (run lines).world.nodes n ≡ Some node → LeavesNoneOut node

-- ---- crashes

-- where a node that is up falls and starts again, whenever that is, what was established is so again, as far as it can be
abbrev pub RestartsOfRuns : Type 0
RestartsOfRuns =
    (lines : List Line) → AreLines lines → (n : ℕ) (node : Node) → at (run lines).world.nodes n ≡ Some node → node.up ≡ true
    → (moment : ℕ) (block : List ℕ) → IsBroughtBack node.end (starts node.end.role node.end.config node.checkpoint.book moment block)

-- ---- ids

-- no id was drawn above the ceilings that are committed; the next one of a node that is down is above them all
pub record AreWithinCeilings (node : Node) : Type 0 where
  pub tunnels : node.end.tunnel_ids.next ≤ node.checkpoint.book.tunnel_ceiling + 1
  pub sessions : node.end.session_ids.next ≤ node.checkpoint.book.session_ceiling + 1
  pub draws : node.end.recovery_ids.next ≤ node.checkpoint.book.draw_ceiling + 1
  pub tunnels_down : node.up ≡ false → node.end.tunnel_ids.next ≡ node.checkpoint.book.tunnel_ceiling + 1
  pub sessions_down : node.up ≡ false → node.end.session_ids.next ≡ node.checkpoint.book.session_ceiling + 1
  pub draws_down : node.up ≡ false → node.end.recovery_ids.next ≡ node.checkpoint.book.draw_ceiling + 1

abbrev pub IdsOfRuns : Type 0
IdsOfRuns = (lines : List Line) → AreLines lines → (n : ℕ) (node : Node) → at (run lines).world.nodes n ≡ Some node → AreWithinCeilings node

-- ---- what else holds of ends

-- a property of ends that new ones have, those that crashed, and those that a start leads to over a sound book, and that each step of an end
-- keeps whose tables and looks are kept
pub record StaysSo (P : End → Type 0) : Type 0 where
  pub new : (r : Role) (c : Config) → P (new_end r c)
  pub bare : (r : Role) (c : Config) (k : Kept) → IsSoundBook k → P (bare_end r c k)
  pub starts_so : (r : Role) (c : Config) (k : Kept) → IsSoundBook k → SuitsRole r k → (moment : ℕ) (block : List ℕ)
      → P (starts r c k moment block).end
  pub stays : (e : End) → AreKept e → LooksAreTrue e → Fits e → P e → (moment : ℕ) (block : List ℕ) (ev : Event) → P (plain_step e moment block ev).end

-- each end of each run has it
abbrev pub PropertiesOfRuns : Type 1
PropertiesOfRuns =
    (P : End → Type 0) → StaysSo P → (lines : List Line) → AreLines lines → (n : ℕ) (node : Node) → at (run lines).world.nodes n ≡ Some node → P node.end
