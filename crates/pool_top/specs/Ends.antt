-- How a pool ends, by its words and its run, and what the sink and the log were given.
use Rattle.std.specs.Prelude.{◌≡◌, ◌⊎◌, ℕ, List, codes, Option, Some, None, Result, Ok, Err}
use Rattle.worker_pool.specs.declared.tally.Tally.{Tally}
use Rattle.node_words.specs.Plans.{Planned}
use Rattle.node_run.specs.Faults.{Faults}
use Rattle.node_run.specs.Logs.{Sunk, Grows}
use Rattle.node_top.specs.declared.exit.NodeExit.{NodeExit}
use Rattle.node_top.specs.declared.exit.NodeExit.TheVariants as exits
use Rattle.node_top.specs.Texts.{exit_text}
use Rattle.node_top.specs.Ends.{Tells, Lacks, EndsLog, Untouched}
use Rattle.pool_top.specs.Runs.{RunBlames}
use Rattle.pool_top.specs.Texts.{tally_text}

-- of a run that made all its turns the three lines of its tally were written, of another one the line that tells why; or memory was wanting for
-- that
abbrev pub Finishes : Result Tally NodeExit → NodeExit → Sunk → Sunk → Type 0
Finishes (Ok tally) result old new = Tells result exits.Ok (tally_text tally) old new ⊎ Lacks result old new
Finishes (Err exit) result old new = Tells result exit (exit_text exit) old new ⊎ Lacks result old new

-- a plan was run, which left the log so, and this was written of it
pub record RunsPlan (IsRun : Result Tally NodeExit → Sunk → Type 0) (result : NodeExit) (sink sink' log log' : Sunk) (old new : Faults) : Type 0 where
  pub ran : Result Tally NodeExit
  pub left : Sunk
  pub is_run : IsRun ran left
  pub grows : Grows log left
  pub blames : RunBlames old new ran
  pub finishes : Finishes ran result sink sink'
  pub ends_log : EndsLog ran left log'

-- What comes of the words of a pool. Where a text is asked for, it is written, and where there is no plan, how the command is used; then no
-- disk, no port and no log is touched, and so it is where memory was wanting for the words.
abbrev pub PoolEnds : {D : Type 0} → (Planned → Result Tally NodeExit → Sunk → Type 0) → Option (List ℕ) → Option Planned → NodeExit → D → D → Sunk → Sunk → Sunk → Sunk → Faults → Faults → Type 0
PoolEnds IsRun (Some text) plan result disk now sink sink' log log' old new = Tells result exits.Ok text sink sink' × (now ≡ disk) × Untouched log log' old new
PoolEnds IsRun None None result disk now sink sink' log log' old new =
    (Tells result exits.Usage (codes "usage: l2tp pool\n") sink sink' ⊎ Lacks result sink sink') × (now ≡ disk) × Untouched log log' old new
PoolEnds IsRun None (Some p) result disk now sink sink' log log' old new =
    RunsPlan (IsRun p) result sink sink' log log' old new ⊎ (Lacks result sink sink' × (now ≡ disk) × Untouched log log' old new)
