use Rattle.pppoe_discovery.proofs.Sizes.{answer_within}
use Rattle.pppoe_discovery.proofs.taking.on_frame.Goals as goal

pub returns-in-Ok-clause-within : goal.returns-in-Ok-clause-within
returns-in-Ok-clause-within c = answer_within c.args.frame.now c.in-Ok.frame c.on_whole.result c.in-Ok.ensures.found c.on_whole.ensures.payload
