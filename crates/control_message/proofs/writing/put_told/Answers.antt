use Rattle.std.proofs.Common.{◌++◌}
use Rattle.control_message.specs.Pairs.{failover_pairs, recovering_pairs, secret_pairs}
use Rattle.control_message.proofs.Spelled.{grown_twice}
use Rattle.control_message.proofs.writing.put_told.Goals as goal

pub returns : goal.returns
returns c =
    let o = c.args.opening.now in
    let f = failover_pairs o.failover in
    let both = grown_twice c.args.out.now _ _ f (recovering_pairs o) c.in_ok-put_failover.ensures c.in_ok-put_recovering.ensures in
    grown_twice c.args.out.now _ _ (f ++ recovering_pairs o) (secret_pairs o) both c.in_ok-put_secrets.ensures
