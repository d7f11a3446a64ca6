use Rattle.std.proofs.Common.{refl, arith, rules}
use Rattle.tunnel_rules.proofs.openings.opening_of.Goals as goal

pub returns-clause-written : goal.returns-clause-written
returns-clause-written c = record {
  version = refl;
  framing = omega arith;
  name = let short = c.in_ok-host_name.ensures.short in omega arith;
  tunnel = search rules;
  tunnel_not_zero = c.requires;
  window = omega arith;
  window_not_zero = omega arith;
  failover = (omega arith, omega arith);
  challenge = c.in_ok-bytes_of.ensures.sized;
  response = search rules;
  recovery = tt;
  suggested = tt;
  attempt = tt;
}
