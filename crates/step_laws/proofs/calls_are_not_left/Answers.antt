use Rattle.step_laws.proofs.Sound.{calls_stay_sound}
use Rattle.step_laws.proofs.Late.{late_calls_end}
use Rattle.step_laws.proofs.Waiting.{calls_are_asked}
use Rattle.step_laws.proofs.calls_are_not_left.Goals as goal

pub returns-clause-sound : goal.returns-clause-sound
returns-clause-sound c = calls_stay_sound c.steps_are_chains.ensures

pub returns-clause-late : goal.returns-clause-late
returns-clause-late c = late_calls_end c.steps_are_chains.ensures

pub returns-clause-asked : goal.returns-clause-asked
returns-clause-asked c = calls_are_asked c.steps_are_chains.ensures
