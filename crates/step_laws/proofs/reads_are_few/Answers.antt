use Rattle.step_laws.proofs.Ups as ups
use Rattle.step_laws.proofs.reads_are_few.Goals as goal

pub returns : goal.returns
returns c = ups.reads_are_few
