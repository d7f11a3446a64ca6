-- What a pool writes at its end.
use Rattle.std.specs.Prelude.{ℕ, List, ◌++◌, codes}
use Rattle.worker_pool.specs.declared.tally.Tally.{Tally}
use Rattle.node_top.specs.Texts.{number_line}

abbrev pub tally_text : Tally → List ℕ
tally_text t = number_line (codes "taken ") t.taken ++ number_line (codes "up ") t.up ++ number_line (codes "dropped ") t.dropped
