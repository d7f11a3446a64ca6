-- The numbers that ends draw: the ids of tunnels, which recovery tunnels have too, the ids of sessions, and the draw numbers of recoveries.
-- A node draws each once, over crashes too: as it starts it draws above the ceilings of its checkpoint, and a ceiling is there before any
-- number up to it is drawn.
use Rattle.std.specs.Prelude.{◌≡◌, ℕ, ◌<◌, ◌≤◌, List, Some, Ok}
use Rattle.std.specs.List.{AllByRecursion}
use Rattle.id_table.specs.Ids.{at}
use Rattle.id_source.specs.Spaces.{Space}
use Rattle.schedule_text.specs.declared.line.Line.{Line}
use Rattle.schedule_text.specs.Grammar.{AreLines, FitsLine}
use Rattle.session_book.specs.Books.{Kept}
use Rattle.end_model.specs.declared.moves.Move.{Move}
use Rattle.end_model.specs.declared.moves.Move.TheVariants as move
use Rattle.end_model.specs.End.{End}
use Rattle.world_model.specs.World.{World, Node, Deed, Lined, line}
use Rattle.world_model.specs.Run.{run}
use Rattle.fact_laws.specs.Draws.{AllLater}

-- ---- numbers

-- what has numbers
pub data Kind : Type 0 where
  Tunnels : Kind
  Sessions : Kind
  Recoveries : Kind

abbrev pub space_of : Kind → End → Space
space_of Tunnels e = e.tunnel_ids
space_of Sessions e = e.session_ids
space_of Recoveries e = e.recovery_ids

-- the next number of an end, and the ceiling that a book has
abbrev pub next_of : Kind → End → ℕ
next_of k e = (space_of k e).next

abbrev pub ceiling_of : Kind → Kept → ℕ
ceiling_of Tunnels b = b.tunnel_ceiling
ceiling_of Sessions b = b.session_ceiling
ceiling_of Recoveries b = b.draw_ceiling

-- by a move a number is drawn: for a tunnel that is opened or made, or for the recovery tunnel of an attempt or of an answer, which has a
-- draw number too; and for a call that is born, or made for a request
abbrev pub DrawsTunnel : Move → ℕ → Type 0
DrawsTunnel (move.Opened m) number = m.tunnel ≡ number
DrawsTunnel (move.Accepted m) number = m.tunnel ≡ number
DrawsTunnel (move.Restored m) number = m.attempt ≡ number
DrawsTunnel (move.Froze m) number = m.answer ≡ number
DrawsTunnel m number = ⊥

abbrev pub DrawsSession : Move → ℕ → Type 0
DrawsSession (move.Added m) number = m.session ≡ number
DrawsSession (move.Replied m) number = m.session ≡ number
DrawsSession m number = ⊥

abbrev pub DrawsRecovery : Move → ℕ → Type 0
DrawsRecovery (move.Restored m) number = m.draw ≡ number
DrawsRecovery (move.Froze m) number = m.draw ≡ number
DrawsRecovery m number = ⊥

abbrev pub Draws : Kind → Move → ℕ → Type 0
Draws Tunnels m number = DrawsTunnel m number
Draws Sessions m number = DrawsSession m number
Draws Recoveries m number = DrawsRecovery m number

-- ---- the line that comes next

-- a node goes on from one that it was: no number that was drawn is drawn again, and no ceiling falls
pub record GoesOn (old new : Node) : Type 0 where
  pub numbers : (k : Kind) → next_of k old.end ≤ next_of k new.end
  pub ceilings : (k : Kind) → ceiling_of k old.checkpoint.book ≤ ceiling_of k new.checkpoint.book

-- what a deed draws its node had not drawn before, and has drawn behind
pub record IsDrawn (w v : World) (k : Kind) (d : Deed) (number : ℕ) : Type 0 where
  pub old : Node
  pub was : at w.nodes d.node ≡ Some old
  pub new : Node
  pub there : at v.nodes d.node ≡ Some new
  pub least : next_of k old.end ≤ number
  pub below : number < next_of k new.end

-- of two deeds of a node: what the later one draws is above what the earlier one did
abbrev pub IsAbove : Deed → Deed → Type 0
IsAbove d e = (k : Kind) (number more : ℕ) → Draws k d.move number → e.node ≡ d.node → Draws k e.move more → number < more

-- of a line: each node of before it is there behind it and goes on, also where it falls or starts in the line; and what the deeds of the
-- line draw is new, and rises
pub record DrawsAnew (w : World) (x : Lined) : Type 0 where
  pub nodes : (n : ℕ) (old : Node) → at w.nodes n ≡ Some old → (new : Node) × (at x.world.nodes n ≡ Some new) × GoesOn old new
  pub drawn : AllByRecursion (λ (d : Deed). (k : Kind) (number : ℕ) → Draws k d.move number → IsDrawn w x.world k d number) x.done
  pub rise : AllLater IsAbove x.done

-- whichever line comes next after a list of lines of the grammar, whatever crashed in it, as long as it fits
abbrev pub IdsAreDrawnAnew : Type 0
IdsAreDrawnAnew =
    (lines : List Line) → AreLines lines → (number : ℕ) (l : Line) (x : Lined) → FitsLine l → line (run lines).world number l ≡ Ok x
    → DrawsAnew (run lines).world x

-- ---- a run

-- so in the order of a run the numbers that a node draws rise, whatever crashed and started in between, and none is drawn twice
abbrev pub IdsRise : Type 0
IdsRise = (lines : List Line) → AreLines lines → AllLater IsAbove (run lines).done
