use Rattle.std.proofs.Common.{arith}
use Rattle.lcp_wire.proofs.Options.{front_is}
use Rattle.lcp_wire.proofs.reading.read_option.Goals as goal

pub returns-clause-found : goal.returns-clause-found
returns-clause-found c =
    let told = c.from-len.ensures in
    rw (c.in_ok-value.ensures, told) (front_is c.args.rest.now (λ i. omega (arith, c.type_inv.rest i)) (omega arith) (omega arith))
