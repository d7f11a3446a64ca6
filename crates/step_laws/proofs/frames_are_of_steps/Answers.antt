use Rattle.step_laws.proofs.Sent as sent
use Rattle.step_laws.proofs.frames_are_of_steps.Goals as goal

pub returns : goal.returns
returns c = sent.frames_are_of_steps
