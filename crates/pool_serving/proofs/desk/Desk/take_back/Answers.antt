use Rattle.std.proofs.Common.{ap}
use Rattle.pool_serving.proofs.Passes.{told_from}
use Rattle.pool_serving.proofs.desk.Desk.take_back.Goals as goal

pub returns-clause-told : goal.returns-clause-told
returns-clause-told g c = told_from c.args.self.now.hosts c.count.new.self.hosts c.hand_on.new.self.hosts (ap (λ d. d.hosts) c.count.ensures) c.hand_on.ensures.told
