use Rattle.std.proofs.Common.{[], ◌∷◌}
use Rattle.session_workers.proofs.work.work_one.Given as goal

-- what was just made
abbrev pub ghosts-note : goal.ghosts-note
ghosts-note g a = record { made = a.finished.now ∷ [] }
