-- Tunnels that were kept over a start, and the cells.
use Rattle.std.specs.Prelude.{List, [], All}
use Rattle.session_cells.specs.declared.entry.Entry.{Entry}
use Rattle.session_cells.specs.Logs.{AllEntered}
use Rattle.session_cells.specs.Changes.{entries_of}
use Rattle.locked_tunnels.specs.Kept.{Kept}

-- Of each of these tunnels the log has what its last turn changed, or what overtook that. Nothing is said of a session that the tunnel
-- establishes or kills, but doesn't bind before
abbrev pub AreEntered : List Kept → List Entry → Type 0
AreEntered tunnels log = All (λ k. AllEntered [] (entries_of k.changes) log) tunnels
