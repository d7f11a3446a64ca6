use Rattle.node_run.proofs.Growing.{grows_same, grows_then}
use Rattle.node_run.proofs.logs.logs_grow.Goals as goal

pub returns-clause-same : goal.returns-clause-same
returns-clause-same g = grows_same

pub returns-clause-then : goal.returns-clause-then
returns-clause-then g = grows_then
