use Rattle.run_examples.proofs.Computed.{tunnels_are_recovered}
use Rattle.run_examples.proofs.tunnels_are_recovered.Goals as goal

pub returns : goal.returns
returns c = tunnels_are_recovered
