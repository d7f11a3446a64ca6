use Rattle.step_laws.proofs.Rings as rings
use Rattle.step_laws.proofs.rings_come_to_calls_or_causes.Goals as goal

pub returns : goal.returns
returns c = rings.rings_come
