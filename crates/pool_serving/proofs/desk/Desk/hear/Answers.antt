use Rattle.std.proofs.Common.{false, [], Err}
use Rattle.pool_turns.proofs.Drawing.{draws_none}
use Rattle.pool_serving.proofs.Giving.{calm_any, nothing_heard}
use Rattle.pool_serving.proofs.desk.Desk.hear.Goals as goal

pub returns-in_default-clause-handed : goal.returns-in_default-clause-handed
returns-in_default-clause-handed g c = nothing_heard false c.args.self.now.hosts [] c.args.session c.args.packet.now _

pub returns-in_default-clause-grows : goal.returns-in_default-clause-grows
returns-in_default-clause-grows g c = draws_none _

pub returns-clause-handed : goal.returns-clause-handed
returns-clause-handed g c = calm_any (Err c.refused.result) (nothing_heard false c.args.self.now.hosts [] c.args.session c.args.packet.now (g.P.Ports.around c.args.ports.now))

pub returns-clause-grows : goal.returns-clause-grows
returns-clause-grows g c = draws_none _
