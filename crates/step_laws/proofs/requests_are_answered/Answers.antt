use Rattle.step_laws.proofs.Requests as requests
use Rattle.step_laws.proofs.requests_are_answered.Goals as goal

pub returns : goal.returns
returns c = requests.requests_are_answered
