-- Which sessions a line tells as gone, in every schedule.
use Rattle.std.specs.Prelude.{◌≡◌, ◌⊎◌, ℕ, true, List, Some, is_some, Ok}
use Rattle.id_table.specs.Ids.{at}
use Rattle.schedule_text.specs.declared.line.Line.{Line}
use Rattle.schedule_text.specs.Grammar.{AreLines, FitsLine}
use Rattle.session_book.specs.Books.{call_at}
use Rattle.world_model.specs.World.{World, Node, Lined, line}
use Rattle.world_model.specs.Run.{run}
use Rattle.book_laws.specs.Starts.{AreOnce}
use Rattle.step_laws.specs.Letters.{Among}
use Rattle.channel_laws.specs.Lines.{gone_told, of_node}

-- a session of a node that is up had its place in its end; of one that is down, its call was kept in the checkpoint
abbrev pub HadAPlace : Node → ℕ → Type 0
HadAPlace node q = (is_some (at node.end.calls q) ≡ true) ⊎ (is_some (call_at node.checkpoint.book q) ≡ true)

-- all that the entries of a line tell as gone are sessions of one node: none is told twice, and each had a place before the line, or was kept
pub record GoOnce (w : World) (x : Lined) : Type 0 where
  pub node : ℕ
  pub sessions : List ℕ
  pub told : gone_told x.entries ≡ of_node node sessions
  pub once : AreOnce sessions
  pub had : (q : ℕ) → Among q sessions → (old : Node) × (at w.nodes node ≡ Some old) × HadAPlace old q

-- whatever line of the grammar comes after a list of them, whatever crashed in it, as long as it fits
abbrev pub SessionsGoOnce : Type 0
SessionsGoOnce = (lines : List Line) → AreLines lines → (number : ℕ) (l : Line) (x : Lined) → FitsLine l → line (run lines).world number l ≡ Ok x → GoOnce (run lines).world x
