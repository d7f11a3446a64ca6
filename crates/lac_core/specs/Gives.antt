-- What the answer of a LAC's step says.
use Rattle.std.specs.Prelude.{⊤, ◌≡◌, ℕ, List, [], None, Result, Ok, Err}
use Rattle.session_book.specs.declared.record.Record.{Record}
use Rattle.session_book.specs.Books.{Kept}
use Rattle.step_ledger.specs.declared.ledger.StepFault.{StepFault}
use Rattle.step_ledger.specs.Committing.{Commits}
use Rattle.end_core.specs.declared.end.Given.{Given}
use Rattle.end_model.specs.Access.{Access, Concentrator, Served, of_step}
use Rattle.end_model.specs.Contents.{contents_of}
use Rattle.end_model.specs.End.{Stepped}
use Rattle.end_model.specs.Starting.{starts, kept_hosts}
use Rattle.lac_core.specs.declared.LacGiven.{LacGiven}

-- the step is this: the next LAC with what it gave, or the LAC as before, where it wasn't made
abbrev pub GivesServed : {F : Type 0} → Result LacGiven F → Served → Concentrator → Concentrator → Type 0
GivesServed (Ok g) s old new = s ≡ record { lac = new; outputs = g.outputs; moves = g.moves; reply = g.reply }
GivesServed (Err e) s old new = new ≡ old

-- of what a LAC does, what its end does
abbrev pub end_step : Served → Stepped
end_step s = record { end = s.lac.end; outputs = s.outputs; moves = s.moves }

-- and all that it leaves was committed before it was made, or this is why not
abbrev pub CommitsServed : {L S T : Type 0} → (L → List Record → Result ⊤ S → L → Type 0) → Result T (StepFault S) → Served → Concentrator → L → L → Type 0
CommitsServed commits_to result s old before after = Commits commits_to result (contents_of old.end (end_step s)) before after

-- ---- a start

-- a LAC starts with a new key, and with no hosts but those of the calls that were kept
abbrev pub access_from : List ℕ → Kept → Access
access_from key k = record { key = key; held = []; kept = kept_hosts k.calls [] }

-- its end starts, which answers no host
abbrev pub starts_with : Concentrator → List ℕ → Kept → ℕ → List ℕ → Served
starts_with l key k moment block = of_step (access_from key k) None (starts l.end.role l.end.config k moment block)

-- the start is this: the next LAC with what it gave, or the LAC as before, where it wasn't made
abbrev pub GivesStart : {F : Type 0} → Result Given F → Served → Concentrator → Concentrator → Type 0
GivesStart (Ok g) s old new = s ≡ record { lac = new; outputs = g.outputs; moves = g.moves; reply = None }
GivesStart (Err e) s old new = new ≡ old
