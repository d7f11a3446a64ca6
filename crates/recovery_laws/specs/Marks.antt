-- The marks of tunnels over every line: the greatest draw number of a peer's that a tunnel heeded.
use Rattle.std.specs.Prelude.{◌≡◌, ℕ, ◌≤◌, List, Some, Ok}
use Rattle.id_table.specs.Ids.{at}
use Rattle.schedule_text.specs.declared.line.Line.{Line}
use Rattle.schedule_text.specs.Grammar.{AreLines, FitsLine}
use Rattle.tunnel_fsm.specs.Rows.{state_number}
use Rattle.session_book.specs.declared.record.BookTunnel.{BookTunnel}
use Rattle.session_book.specs.Books.{tunnel_at}
use Rattle.end_model.specs.Tunnels.{Tunnel}
use Rattle.world_model.specs.World.{World, Node, Lined, line}
use Rattle.world_model.specs.Run.{run}

-- a tunnel that is established has this mark: in the end of its node, or in the node's checkpoint, whether the node is up or down
pub data HasMark (node : Node) (i mark : ℕ) : Type 0 where
  InItsEnd : (t : Tunnel) → at node.end.tunnels i ≡ Some t → state_number t.control.state ≡ 3 → t.control.mark ≡ mark → HasMark node i mark
  InItsBook : (b : BookTunnel) → tunnel_at node.checkpoint.book i ≡ Some b → b.mark ≡ mark → HasMark node i mark

-- over a line it gets no less
abbrev pub MarksStay : World → World → Type 0
MarksStay w v = (n i before later : ℕ) (old new : Node) → at w.nodes n ≡ Some old → at v.nodes n ≡ Some new → HasMark old i before → HasMark new i later
    → before ≤ later

-- whatever line of the grammar comes after a list of them, whatever crashed in it, as long as it fits
abbrev pub MarksNeverFall : Type 0
MarksNeverFall = (lines : List Line) → AreLines lines → (number : ℕ) (l : Line) (x : Lined) → FitsLine l → line (run lines).world number l ≡ Ok x
    → MarksStay (run lines).world x.world
