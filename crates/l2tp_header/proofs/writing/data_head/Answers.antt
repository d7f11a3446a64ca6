use Rattle.std.proofs.Common.{refl}
use Rattle.wire_base.specs.Numbers.{u16_bytes}
use Rattle.l2tp_header.proofs.Heads.{high_byte}
use Rattle.l2tp_header.proofs.writing.data_head.Goals as goal

pub returns : goal.returns
unfolding u16_bytes
returns c = rw (high_byte c.args.tunnel c.ranges.tunnel.fits, high_byte c.args.session c.ranges.session.fits) refl
