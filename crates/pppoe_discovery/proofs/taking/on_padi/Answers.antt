use Rattle.std.proofs.Common.{rules}
use Rattle.pppoe_discovery.proofs.Sizes.{pado_fits}
use Rattle.pppoe_discovery.proofs.taking.on_padi.Goals as goal

pub write_sent-requires : goal.write_sent-requires
write_sent-requires c =
    let asked = c.args.asked.now in
    let short = c.requires.short in
    rw c.in_ok-payload.ensures (pado_fits c.as_slice.result.now c.args.name.now c.cookie-cookie.result asked.uniq asked.relay (search rules) c.requires.name (search rules) short.uniq short.relay)
