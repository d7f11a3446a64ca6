-- What a clause says of the cells and of a token.
use Rattle.std.specs.Prelude.{ℕ, ◌≡◌, List, vec_len}
use mathlib.Core.List.{IsPrefix}
use Rattle.session_cells.specs.declared.entry.Entry.{Entry}
use Rattle.session_cells.specs.declared.killed.Killed.{Killed}
use Rattle.session_cells.specs.declared.killed.Killed.TheVariants as killed
use Rattle.session_looks.specs.declared.look.Look.{Look}
use Rattle.session_looks.specs.declared.look.Look.TheVariants as look
use Rattle.session_cells.specs.declared.seen.CellSeen.{CellSeen}
use Rattle.session_cells.specs.declared.row.Cells.{Cells}

-- the log that the token's holder has seen
abbrev pub log_of : CellSeen → List Entry
log_of s = s.seen.log

abbrev pub count_of : Cells → ℕ
count_of cells = vec_len cells.words

-- the token is of these cells
abbrev pub IsOf : Cells → CellSeen → Type 0
IsOf cells s = s.seen.book ≡ cells.first.book

-- the new token is of these cells, and its log begins with the old one's
abbrev pub Later : Cells → CellSeen → CellSeen → Type 0
Later cells old new = IsOf cells new × IsPrefix (log_of old) (log_of new)

-- the state in which a cell was left
abbrev pub left_as : Killed → Look
left_as killed.Unborn = look.Unborn
left_as killed.Dead = look.Dead
