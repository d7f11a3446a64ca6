use Rattle.std.specs.Option.{option_copied}
use Rattle.control_message.proofs.Vectors.{goes_on}
use Rattle.control_message.proofs.uncovering.copy_uncovered.Goals as goal

pub loop-avp-preserved : goal.loop-avp-preserved
loop-avp-preserved c =
    let h = c.loop-avp.invariant in
    goes_on c.args.secret.now c.args.avps.now c.loop-avp.plain c.push.new.self (option_copied c.loop-avp.vector) (option_copied c.vector_after-vector.result) c.loop-avp.rest c.in-Some.behind c.in-Some.avp c.in_ok-pair.pair h
    c.in-Some.ensures c.in_ok-pair.ensures.exact (c.in_ok-pair.ensures.found h.before h.last) c.vector_after-vector.ensures c.in_ok-push.ensures.ok
