use Rattle.std.proofs.Common.{ap, ◌∙◌}
use Rattle.end_model.specs.Tunnels.{Env}
use Rattle.tunnel_core.specs.Cores.{tunnel_of}
use Rattle.locked_tunnels.proofs.Making.{gives_leaves, gives_so}
use Rattle.locked_tunnels.proofs.kept.KeptTunnel.give.Goals as goal

pub returns-clause-leaves : goal.returns-clause-leaves
returns-clause-leaves c = gives_leaves c.args.given (tunnel_of c.args.self.now.core) c.args.env.now

pub returns-clause-given : goal.returns-clause-given
returns-clause-given c =
    ap (λ (e : Env). record e { outputs = c.args.given.outputs; moves = c.args.given.moves }) c.env.view_is
    ∙ gives_so c.args.given (tunnel_of c.args.self.now.core) c.args.env.now c.requires
