use Rattle.lac_core.proofs.Strangers.{keeps_from_strangers}
use Rattle.lac_core.proofs.Lac.step.Goals as goal

pub returns-clause-strangers : goal.returns-clause-strangers
returns-clause-strangers g c =
    keeps_from_strangers c.serve.result c.args.self.now c.serve.new.self c.args.moment c.args.block c.args.event.now c.serve.ensures.given
