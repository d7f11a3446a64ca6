-- How a node ends, by its words and its run, and what the sink and the log were given.
use Rattle.std.specs.Prelude.{◌≡◌, ◌⊎◌, ℕ, List, take, codes, Option, Some, None, Result, Ok, Err}
use Rattle.std.specs.Io.KnownBytes.{Appends}
use Rattle.wire_base.specs.Causes.{Rose}
use Rattle.node_words.specs.Plans.{Planned}
use Rattle.node_run.specs.declared.lending.Counts.{Counts}
use Rattle.node_run.specs.Faults.{Faults}
use Rattle.node_run.specs.Logs.{Sunk, Noted, Grows}
use Rattle.node_top.specs.declared.exit.NodeExit.{NodeExit}
use Rattle.node_top.specs.declared.exit.NodeExit.TheVariants as exits
use Rattle.node_top.specs.Texts.{counts_text, exit_text}
use Rattle.node_top.specs.Runs.{RunBlames}

-- a text was written with its exit, or the sink failed and took a prefix of the text
abbrev pub Tells : NodeExit → NodeExit → List ℕ → Sunk → Sunk → Type 0
Tells result e text old new =
    ((result ≡ e) × (new.faults ≡ old.faults) × Appends old.taken new.taken text)
    ⊎ ((result ≡ exits.WriteFault) × Rose old.faults new.faults × ((n : ℕ) × Appends old.taken new.taken (take n text)))

-- memory was wanting, and nothing was written
abbrev pub Lacks : NodeExit → Sunk → Sunk → Type 0
Lacks result old new = (result ≡ exits.NoMemory) × (new ≡ old)

-- of a run that made all its turns the three lines with its counts were written, of another one the line that tells why; or memory was
-- wanting for that
abbrev pub Finishes : Result Counts NodeExit → NodeExit → Sunk → Sunk → Type 0
Finishes (Ok counts) result old new = Tells result exits.Ok (counts_text counts) old new ⊎ Lacks result old new
Finishes (Err exit) result old new = Tells result exit (exit_text exit) old new ⊎ Lacks result old new

-- of a run that ended early the log is told why, and of another one nothing more
abbrev pub EndsLog : {T : Type 0} → Result T NodeExit → Sunk → Sunk → Type 0
EndsLog (Ok done) old new = new ≡ old
EndsLog (Err exit) old new = Noted (exit_text exit) old new

-- a plan was run, which left the log so, and this was written of it
pub record RunsPlan (IsRun : Result Counts NodeExit → Sunk → Type 0) (result : NodeExit) (sink sink' log log' : Sunk) (old new : Faults) : Type 0 where
  pub ran : Result Counts NodeExit
  pub left : Sunk
  pub is_run : IsRun ran left
  pub grows : Grows log left
  pub blames : RunBlames old new ran
  pub finishes : Finishes ran result sink sink'
  pub ends_log : EndsLog ran left log'

-- no disk, no port and no log was touched
abbrev pub Untouched : Sunk → Sunk → Faults → Faults → Type 0
Untouched log log' old new = (log' ≡ log) × (new ≡ old)

-- What comes of the words of a node. Where a text is asked for, it is written, and where there is no plan, how the command is used; then no
-- disk, no port and no log is touched, and so it is where memory was wanting for the words.
abbrev pub NodeEnds : (Planned → Result Counts NodeExit → Sunk → Type 0) → Option (List ℕ) → Option Planned → NodeExit → Sunk → Sunk → Sunk → Sunk → Faults → Faults → Type 0
NodeEnds IsRun (Some text) plan result sink sink' log log' old new = Tells result exits.Ok text sink sink' × Untouched log log' old new
NodeEnds IsRun None None result sink sink' log log' old new =
    (Tells result exits.Usage (codes "usage: l2tp node\n") sink sink' ⊎ Lacks result sink sink') × Untouched log log' old new
NodeEnds IsRun None (Some p) result sink sink' log log' old new =
    RunsPlan (IsRun p) result sink sink' log log' old new ⊎ (Lacks result sink sink' × Untouched log log' old new)
