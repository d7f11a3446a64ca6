-- The marks of tunnels, and the draw numbers that they cover. As a node starts it draws a number for each attempt at a recovery, above
-- all that it drew before, and the SCCRQ of the attempt tells it. An answer has a number of its node's, too, and its SCCRP tells that. A
-- tunnel's mark is the greatest of the numbers of its peer's that it heeded: by which it answered an attempt, or reset by an answer. It
-- goes into the checkpoint before anything of that is seen, so no attempt is ever answered that is older than what was heeded, whatever
-- crashed.
use Rattle.std.specs.Prelude.{◌≡◌, ℕ, ◌≤◌, List, [], ◌∷◌, Some}
use Rattle.std.specs.List.{AllByRecursion}
use Rattle.id_table.specs.Ids.{at}
use Rattle.schedule_text.specs.declared.line.Line.{Line}
use Rattle.schedule_text.specs.Grammar.{AreLines}
use Rattle.end_model.specs.declared.moves.Froze.{Froze}
use Rattle.end_model.specs.declared.moves.Move.{Move}
use Rattle.end_model.specs.declared.moves.Move.TheVariants as move
use Rattle.world_model.specs.World.{World, Node, Deed}
use Rattle.world_model.specs.Run.{run}
use Rattle.channel_laws.specs.Accounts.{history_of}
use Rattle.recovery_laws.specs.Marks.{HasMark}

-- by a move a tunnel of an end heeds a draw number of its peer's: that of an attempt, which it answers, or that of an answer, by which it
-- resets. (A tunnel that resets by its own answer heeded the number of the attempt as it gave that answer.)
abbrev pub Heeds : Move → ℕ → ℕ → Type 0
Heeds (move.Froze f) i draw = (f.tunnel ≡ i) × (f.asked ≡ draw)
Heeds (move.ResetAttempting r) i draw = (r.tunnel ≡ i) × (r.draw ≡ draw)
Heeds m i draw = ⊥

-- and where it answers an attempt, that isn't older than a number which the tunnel heeded
abbrev pub AnswersNoOlder : ℕ → ℕ → Move → Type 0
AnswersNoOlder i draw (move.Froze f) = f.tunnel ≡ i → draw ≤ f.asked
AnswersNoOlder i draw m = Unit {0}

-- where the tunnel is established, in its node's end, or in the node's checkpoint, whether the node is up or down, its mark is no less
-- than the number that a deed heeded
abbrev pub IsCovered : World → Deed → Type 0
IsCovered w d = (i draw mark : ℕ) (node : Node) → at w.nodes d.node ≡ Some node → Heeds d.move i draw → HasMark node i mark → draw ≤ mark

-- so it is of all that the lines of a run did, whatever crashed in it. A step that a stop cut off did nothing, so nothing is said of what
-- it would have heeded; but a record of it that was kept may have raised a mark
abbrev pub DeedsAreCovered : Type 0
DeedsAreCovered = (lines : List Line) → AreLines lines → AllByRecursion (IsCovered (run lines).world) (run lines).done

-- and so of each answer of a node that the history of the run has
abbrev pub AnswersAreCovered : Type 0
AnswersAreCovered =
    (lines : List Line) → AreLines lines → (n c mark : ℕ) (f : Froze) (node : Node) → (history_of (run lines).done).answers n c ≡ Some f
    → at (run lines).world.nodes n ≡ Some node → HasMark node f.tunnel mark → f.asked ≤ mark

-- ---- in the order of a run

-- so it is of each and all that come behind it
abbrev pub AllLater : {X : Type 0} → (X → X → Type 0) → List X → Type 0
AllLater R [] = Unit {0}
AllLater R (x ∷ xs) = AllByRecursion (R x) xs × AllLater R xs

-- of two deeds of one node: what the later one answers isn't older than what the tunnel heeded by the earlier one
abbrev pub IsNoOlder : Deed → Deed → Type 0
IsNoOlder d e = (i draw : ℕ) → Heeds d.move i draw → e.node ≡ d.node → AnswersNoOlder i draw e.move

-- so no attempt is answered that is older than one that was heeded, or than an answer that was: whatever lies between the two, crashes and
-- starts too
abbrev pub NoneIsOlder : Type 0
NoneIsOlder = (lines : List Line) → AreLines lines → AllLater IsNoOlder (run lines).done
