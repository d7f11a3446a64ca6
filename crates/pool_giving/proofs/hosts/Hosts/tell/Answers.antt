use Rattle.std.proofs.Common.{None, ap, ◌∙◌}
use Rattle.pppoe_session.specs.Subscribers.{subscriber, holder_of}
use Rattle.pool_giving.specs.Hosts.{Hosted}
use Rattle.pool_giving.proofs.Telling.{told_after}
use Rattle.pool_giving.proofs.hosts.Hosts.tell.Goals as goal

pub returns-clause-kept : goal.returns-clause-kept
returns-clause-kept c =
    λ s mac told.
    told_after c.self.inside.told c.admit.new.self c.args.session (subscriber c.args.who None) c.admit.result c.admit.ensures.ok c.admit.ensures.err c.admit.ensures.taken s mac
    (ap (λ (h : Hosted). holder_of h.told s) c.self.view_is ∙ told)
