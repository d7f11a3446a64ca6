use Rattle.std.proofs.Common.{arith}
use Rattle.end_model.specs.Owing.{owed-most}
use Rattle.tunnel_calls.proofs.TunnelCalls.owed.Goals as goal

pub returns-clause-within : goal.returns-clause-within
returns-clause-within c =
    let most = owed-most c.self.inside.table.entries in
    let owed = c.self.invariant.1 in
    let few = c.len-count.type_inv in
    let count = c.len-count.ensures in
    omega arith
