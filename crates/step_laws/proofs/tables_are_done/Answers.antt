use Rattle.step_laws.proofs.Tables as tables
use Rattle.step_laws.proofs.tables_are_done.Goals as goal

pub returns : goal.returns
returns c = tables.tables_are_done
