use Rattle.pppoe_discovery.proofs.Stages.{keeps_stages}
use Rattle.pppoe_discovery.proofs.laws.stages_stay_apart.Goals as goal

pub returns : goal.returns
returns c = keeps_stages
