use Rattle.std.proofs.Common.{sym, ap, subst, ◌∙◌}
use Rattle.id_index.specs.Indexes.{IsFirst}
use Rattle.end_model.specs.Asking.{call_of}
use Rattle.tunnel_calls.specs.Remotes.{remotes_of}
use Rattle.tunnel_calls.proofs.Listing.{first_listed}
use Rattle.tunnel_calls.proofs.TunnelCalls.call_of.Goals as goal

pub returns-in-Some : goal.returns-in-Some
returns-in-Some c =
    sym (first_listed c.self.inside.table.entries c.args.remote c.in-Some.session c.self.invariant.0 c.self.invariant.2
    (subst (λ r. IsFirst (remotes_of c.self.inside.table.entries) r c.in-Some.session) c.from.ensures
    (c.in-Some.ensures (remotes_of c.self.inside.table.entries) c.self.invariant.3)))
    ∙ ap (λ k. call_of k.entries c.args.remote) c.self.view_is
