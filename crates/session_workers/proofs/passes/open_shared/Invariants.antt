use Rattle.session_workers.specs.Items.{name_of}
use Rattle.session_workers.proofs.passes.open_shared.Given as goal

-- the row that was just opened
abbrev pub ghosts-name_row : goal.ghosts-name_row
ghosts-name_row g a = record { name = name_of a.seen.now }
