use Rattle.step_laws.proofs.Lasting.{failed_tunnels_go}
use Rattle.step_laws.proofs.failed_tunnels_go.Goals as goal

pub returns : goal.returns
returns c = failed_tunnels_go
