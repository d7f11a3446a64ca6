use Rattle.std.proofs.Common.{rules}
use Rattle.pppoe_discovery.proofs.Sizes.{pads_fit}
use Rattle.pppoe_discovery.proofs.replies.write_pads.Goals as goal

pub write_sent-requires : goal.write_sent-requires
write_sent-requires c =
    let a = c.in-Admit in
    rw c.in_ok-payload.ensures (pads_fit c.as_slice.result.now a.uniq a.relay (search rules) (search rules) (search rules))
