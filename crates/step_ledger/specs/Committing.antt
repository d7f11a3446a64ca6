-- What is committed of a step, and what comes of it.
use Rattle.std.specs.Prelude.{⊤, ◌≡◌, List, Result, Ok, Err}
use Rattle.session_book.specs.declared.record.Record.{Record}
use Rattle.session_book.specs.declared.record.Record.TheVariants.{Ceiling, TunnelUp, TunnelDown, CallUp, CallDown, Mark}
use Rattle.step_ledger.specs.declared.ledger.StepFault.{StepFault}
use Rattle.step_ledger.specs.declared.ledger.StepFault.TheVariants.{NoMemory, Uncommitted}

-- a tunnel comes up without a mark
abbrev pub IsUnmarked : Record → Type 0
IsUnmarked (Ceiling space number) = Unit {0}
IsUnmarked (TunnelUp t) = t.mark ≡ 0
IsUnmarked (TunnelDown local) = Unit {0}
IsUnmarked (CallUp c) = Unit {0}
IsUnmarked (CallDown local) = Unit {0}
IsUnmarked (Mark tunnel mark) = Unit {0}

-- Where a step was made, its records were committed, by the word of the ledger. Where it wasn't, they came to what the stop says, or memory
-- was wanting and the ledger is as before.
abbrev pub Commits : {L S T : Type 0} → (L → List Record → Result ⊤ S → L → Type 0) → Result T (StepFault S) → List Record → L → L → Type 0
Commits commits_to (Ok given) records before after = commits_to before records (Ok tt) after
Commits commits_to (Err NoMemory) records before after = after ≡ before
Commits commits_to (Err (Uncommitted stop)) records before after = commits_to before records (Err stop) after
