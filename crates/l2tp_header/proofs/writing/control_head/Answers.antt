use Rattle.std.proofs.Common.{refl}
use Rattle.wire_base.specs.Numbers.{u16_bytes}
use Rattle.l2tp_header.proofs.Heads.{high_byte}
use Rattle.l2tp_header.proofs.writing.control_head.Goals as goal

pub returns : goal.returns
unfolding u16_bytes
returns c =
    let r = c.ranges in
    rw (high_byte c.args.len r.len.fits, high_byte c.args.tunnel r.tunnel.fits, high_byte c.args.session r.session.fits, high_byte c.args.ns r.ns.fits, high_byte c.args.nr r.nr.fits) refl
