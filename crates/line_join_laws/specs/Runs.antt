-- Runs are joined.
use Rattle.std.specs.Prelude.{ℕ, ◌+◌, ◌*◌, ◌^◌, ◌<◌, List, length}
use Rattle.schedule_text.specs.declared.line.Line.{Line}
use Rattle.schedule_text.specs.Grammar.{AreLines}
use Rattle.world_model.specs.World.{World, Lined, empty_world}
use Rattle.world_model.specs.Run.{run}
use Rattle.channel_laws.specs.Accounts.{History, no_history, history_from, history_of}
use Rattle.channel_laws.specs.Lines.{LineDoes}
use Rattle.channel_laws.specs.Whole.{Below}
use Rattle.line_join_laws.specs.Chains.{IsStanding}
use Rattle.line_join_laws.specs.Lines.{CutStepsJoin}

-- the world of each run of fewer than 2^47 lines is joined with one of the machine's
abbrev pub JoinedRunsStand : Type 0
JoinedRunsStand = CutStepsJoin → (lines : List Line) → AreLines lines → length lines < 2 ^ 47
    → IsStanding (run lines).world (history_of (run lines).done) (65536 * length lines)

-- and no channel was given more than 81,919 letters a line
abbrev pub JoinedRunsStayBelow : Type 0
JoinedRunsStayBelow = CutStepsJoin → (lines : List Line) → AreLines lines → length lines < 2 ^ 47
    → Below (history_of (run lines).done) (81919 * length lines)

-- what holds at first, and is kept by each line between worlds that are joined
pub record IsCarried (P : World → History → Type 0) : Type 0 where
  pub first : P empty_world no_history
  pub lines : (w : World) (h : History) (number : ℕ) (x : Lined) (top most : ℕ)
      → IsStanding w h top → top + 131072 < 2 ^ 64 → Below h most → most + 147460 < 2 ^ 64 → LineDoes w number x
      → IsStanding x.world (history_from x.done h) (top + 65536) → P w h → P x.world (history_from x.done h)
