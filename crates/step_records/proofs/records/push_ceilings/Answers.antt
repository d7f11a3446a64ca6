use Rattle.step_records.proofs.Ceilings.{none_yet, goes_on}
use Rattle.step_records.proofs.records.push_ceilings.Goals as goal

pub loop-rises-init : goal.loop-rises-init
loop-rises-init c = none_yet c.args.space c.args.before.now c.args.kept.now

pub loop-rises-preserved : goal.loop-rises-preserved
loop-rises-preserved c =
    goes_on c.args.space c.args.before.now c.loop-rises.rises c.raised.result c.args.kept.now c.loop-rises.kept c.push.new.self c.raised.ensures c.loop-rises.invariant c.in_ok-push.ensures.ok
