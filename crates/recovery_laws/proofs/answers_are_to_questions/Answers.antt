use Rattle.recovery_laws.proofs.Answered.{answers_are_to_questions}
use Rattle.recovery_laws.proofs.answers_are_to_questions.Goals as goal

pub returns : goal.returns
returns c = answers_are_to_questions
