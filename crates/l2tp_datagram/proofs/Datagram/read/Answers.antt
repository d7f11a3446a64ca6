use Rattle.std.proofs.Common.{rules}
use Rattle.l2tp_datagram.proofs.Room.{read_short}
use Rattle.l2tp_datagram.proofs.Datagram.read.Goals as goal

pub invariant_of-result : goal.invariant_of-result
invariant_of-result c =
    let same = c.as_slice.ensures in
    let header = c.read_header-header in (
      rw same at header.ensures.exact,
      search rules,
      search rules,
      read_short c.args.bytes header.result (rw same at header.ensures.found),
    )
