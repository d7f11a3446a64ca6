use Rattle.lns_core.proofs.Strangers.{keeps_from_strangers}
use Rattle.lns_core.proofs.Lns.step.Goals as goal

pub returns-clause-strangers : goal.returns-clause-strangers
returns-clause-strangers g c =
    keeps_from_strangers c.run.result c.args.self.now c.run.new.self c.args.moment c.args.block c.args.event.now c.run.ensures.given
