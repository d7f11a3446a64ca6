-- The changes of looks that an end makes, as entries of the log.
use Rattle.std.specs.Prelude.{ℕ, List, [], ◌∷◌, nat_lt, if◌then◌else◌, Option, Some, None}
use Rattle.session_looks.specs.declared.look.CellChange.{CellChange}
use Rattle.session_looks.specs.declared.look.CellChange.TheVariants as cell
use Rattle.session_cells.specs.declared.entry.Entry.{Entry}
use Rattle.session_cells.specs.declared.entry.Entry.TheVariants.{Bind, Establish, Kill}

-- the entry of a change; an end names a call that ended by an id of its tables, of which those of 16 bits are sessions
abbrev pub entry_of : CellChange → Option Entry
entry_of (cell.Bind session tunnel peer) = Some (Bind session 0 tunnel peer)
entry_of (cell.Establish session) = Some (Establish session 0)
entry_of (cell.Kill session) = if nat_lt session 65536 then Some (Kill session 0) else None

abbrev pub with_entry : Option Entry → List Entry → List Entry
with_entry None es = es
with_entry (Some e) es = e ∷ es

-- the entries of changes, in order
abbrev pub entries_of : List CellChange → List Entry
entries_of [] = []
entries_of (c ∷ cs) = with_entry (entry_of c) (entries_of cs)
