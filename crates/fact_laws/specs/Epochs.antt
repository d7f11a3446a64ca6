-- The epochs of tunnels over every line: by its node and its local id a tunnel has the epoch that it entered last, and the number of epochs
-- that were made of its link. A crash loses neither: by them packets of before a recovery are told from those behind it.
use Rattle.std.specs.Prelude.{◌≡◌, ℕ, ◌+◌, ◌^◌, ◌<◌, ◌≤◌, List, length, Ok}
use Rattle.std.specs.List.{AllByRecursion}
use Rattle.schedule_text.specs.declared.line.Line.{Line}
use Rattle.schedule_text.specs.Grammar.{AreLines, FitsLine}
use Rattle.end_model.specs.declared.moves.Move.{Move}
use Rattle.end_model.specs.declared.moves.Move.TheVariants as move
use Rattle.world_model.specs.World.{World, Deed, Lined, standing_of, epoch_of, line}
use Rattle.world_model.specs.Run.{run}
use Rattle.channel_laws.specs.Accounts.{History}
use Rattle.channel_laws.specs.Facts.{NodesHold, Holds}
use Rattle.channel_laws.specs.Lines.{LineDoes}
use Rattle.channel_laws.specs.Whole.{Below, KnowsOfLine}

-- neither gets less from one world to another, of any tunnel of any node, whether the node is up or down, falls or starts
pub record EpochsStay (w v : World) : Type 0 where
  pub entered : (n i : ℕ) → epoch_of w n i ≤ epoch_of v n i
  pub made : (n i : ℕ) → (standing_of w n i).made ≤ (standing_of v n i).made

-- so it is of each line, where all holds of channels, and the epochs of linked ends are known wherever the moves of a step lead
abbrev pub LinesRaiseEpochs : Type 0
LinesRaiseEpochs = (w : World) (h : History) (number : ℕ) (x : Lined) (most : ℕ) → NodesHold w → Holds w h → Below h most
    → most + 147460 < 2 ^ 64 → LineDoes w number x → KnowsOfLine w h → EpochsStay w x.world

-- and so, whatever line of the grammar comes after a list of fewer than 2^47 of them, whatever crashed in it, as long as it fits
abbrev pub EpochsRise : Type 0
EpochsRise = (lines : List Line) → AreLines lines → length lines < 2 ^ 47
    → (number : ℕ) (l : Line) (x : Lined) → FitsLine l → line (run lines).world number l ≡ Ok x → EpochsStay (run lines).world x.world

-- ---- epochs that are entered

-- by a move a tunnel is reset: it enters the epoch that an answer makes
abbrev pub Resets : Move → ℕ → Type 0
Resets (move.ResetAttempting m) i = m.tunnel ≡ i
Resets (move.ResetAnswering m) i = m.tunnel ≡ i
Resets m i = ⊥

-- the epoch that a deed tells of the tunnel that it resets is above the one in which the tunnel was before
abbrev pub EntersAnew : World → Deed → Type 0
EntersAnew w d = (i : ℕ) → Resets d.move i → epoch_of w d.node i < d.epoch

-- so it is of each deed of the line that comes next: no tunnel enters an epoch again in which it was before
abbrev pub EpochsEnterAnew : Type 0
EpochsEnterAnew = (lines : List Line) → AreLines lines → length lines < 2 ^ 47
    → (number : ℕ) (l : Line) (x : Lined) → FitsLine l → line (run lines).world number l ≡ Ok x
    → AllByRecursion (EntersAnew (run lines).world) x.done
