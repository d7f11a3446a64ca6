use Rattle.tunnel_secret.proofs.Values.{unhidden_again}
use Rattle.tunnel_secret.proofs.hiding.unhides_what_was_hidden.Goals as goal

pub returns : goal.returns
returns c = unhidden_again
