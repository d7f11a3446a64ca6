use Rattle.tunnel_calls.specs.Replays.{found_replays}
use Rattle.tunnel_calls.proofs.TunnelCalls.get.Goals as goal

pub returns-clause-replays : goal.returns-clause-replays
returns-clause-replays c = found_replays c.self.inside.table.entries c.args.session _ c.self.invariant.5 c.get.ensures
