use Rattle.recovery_tunnel.proofs.Resets.{attempt_once, answer_once}
use Rattle.recovery_tunnel.proofs.tells_once.Goals as goal

pub returns-clause-attempt : goal.returns-clause-attempt
returns-clause-attempt c = attempt_once

pub returns-clause-answer : goal.returns-clause-answer
returns-clause-answer c = answer_once
