-- What the report hands up is what the run's lines did.
use Rattle.std.specs.Prelude.{◌≡◌, List, [], ◌∷◌, ◌++◌}
use Rattle.schedule_text.specs.declared.line.Line.{Line}
use Rattle.schedule_text.specs.Grammar.{AreLines}
use Rattle.end_model.specs.declared.moves.Move.{Move}
use Rattle.end_model.specs.declared.moves.Move.TheVariants as move
use Rattle.world_model.specs.Texts.{Entry, Sends, HandsUp, Holds, Ends, Frames, Drops, Causes, Stopped}
use Rattle.world_model.specs.World.{Deed}
use Rattle.world_model.specs.Run.{run}

-- the entries that hand a frame up
unfoldable pub ups_in : List Entry → List Entry
ups_in [] = []
ups_in (HandsUp line node session birth side frame ∷ es) = HandsUp line node session birth side frame ∷ ups_in es
ups_in (Sends line packet from to bytes ∷ es) = ups_in es
ups_in (Holds line node number ∷ es) = ups_in es
ups_in (Ends line node session padt ∷ es) = ups_in es
ups_in (Frames line node bytes ∷ es) = ups_in es
ups_in (Drops line node why ∷ es) = ups_in es
ups_in (Causes line node cause ∷ es) = ups_in es
ups_in (Stopped line node ∷ es) = ups_in es

-- those that tell of the frames that were handed up
abbrev pub told_by : Deed → Move → List Entry
told_by d (move.FrameUp m) = HandsUp d.line d.node m.session d.birth m.side m.frame ∷ []
told_by d m = []

unfoldable pub told_of : List Deed → List Entry
told_of [] = []
told_of (d ∷ ds) = told_by d d.move ++ told_of ds

-- in the run of each list of lines of the grammar, whatever crashes
abbrev pub ReportsOfRuns : Type 0
ReportsOfRuns = (lines : List Line) → AreLines lines → ups_in (run lines).entries ≡ told_of (run lines).done
