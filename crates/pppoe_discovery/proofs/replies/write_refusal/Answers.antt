use Rattle.pppoe_discovery.proofs.Sizes.{refusal_fits}
use Rattle.pppoe_discovery.proofs.replies.write_refusal.Goals as goal

pub write_sent-requires : goal.write_sent-requires
write_sent-requires c = rw c.in_ok-payload.ensures (refusal_fits c.args.cause c.args.uniq.now c.args.relay.now c.requires.uniq c.requires.relay)
