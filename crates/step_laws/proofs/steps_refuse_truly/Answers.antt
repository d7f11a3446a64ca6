-- A step refuses an event for want of room only where there is none, and each where there is none.
use Rattle.step_laws.proofs.Steps as steps
use Rattle.step_laws.proofs.Full.{full_are_refused}
use Rattle.step_laws.proofs.steps_refuse_truly.Goals as goal

pub returns-clause-only : goal.returns-clause-only
returns-clause-only c = steps.steps_refuse_truly

pub returns-clause-full : goal.returns-clause-full
returns-clause-full c = full_are_refused
