use Rattle.recovery_laws.proofs.Answers.{joined_worlds_answer}
use Rattle.recovery_laws.proofs.joined_worlds_answer.Goals as goal

pub returns : goal.returns
returns c = let below = c.sessions_below.ensures in joined_worlds_answer below.births below.coverage
