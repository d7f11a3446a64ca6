use Rattle.run_examples.proofs.Computed.{steps_leave_records}
use Rattle.run_examples.proofs.steps_leave_records.Goals as goal

pub returns : goal.returns
returns c = steps_leave_records
