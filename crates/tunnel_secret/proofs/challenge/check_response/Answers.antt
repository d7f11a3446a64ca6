use Rattle.std.proofs.Common.{◌∙◌, ap, nat_eq}
use Rattle.std.specs.Cmp.Lexicographic.{pointwise}
use Rattle.tunnel_secret.specs.Response.{is_response}
use Rattle.tunnel_secret.proofs.Bits.{as_test}
use Rattle.tunnel_secret.proofs.challenge.check_response.Goals as goal

pub returns-clause-exact : goal.returns-clause-exact
unfolding is_response
returns-clause-exact c = as_test _ _ _ c.are_same.ensures ∙ ap (pointwise nat_eq c.args.given.now) c.response.ensures
