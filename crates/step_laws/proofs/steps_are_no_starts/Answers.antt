use Rattle.step_laws.proofs.Ups as ups
use Rattle.step_laws.proofs.steps_are_no_starts.Goals as goal

pub returns : goal.returns
returns c = ups.steps_are_no_starts
