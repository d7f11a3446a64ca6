use Rattle.wire_base.specs.Numbers.{u16_bytes}
use Rattle.pppoe_discovery.proofs.Padts.{padt_is}
use Rattle.pppoe_discovery.proofs.replies.padt_frame.Goals as goal

pub returns : goal.returns
unfolding u16_bytes
returns c = padt_is c.args.mac.now c.args.dst.now c.to_be_bytes.result c.args.session c.told-mac c.told-dst c.to_be_bytes.ensures
