use Rattle.std.proofs.Common.{sym, subst}
use Rattle.tunnel_listing.proofs.Standing.{Holds, holds_without, gone_without}
use Rattle.tunnel_listing.proofs.directory.Directory.remove.Goals as goal

pub invariant_of-self : goal.invariant_of-self
invariant_of-self c =
    subst (λ fs. Holds c.change.new.self fs) (sym c.remove.ensures.removed)
    (holds_without c.self.inside.indexes c.change.new.self c.self.inside.entries.entries c.args.id c.listed_in-before.result
    c.change.ensures c.listed_in-before.ensures c.self.invariant)

pub returns-clause-gone : goal.returns-clause-gone
returns-clause-gone c =
    gone_without c.self.inside.indexes c.self.inside.entries.entries c.remove.new.self.entries c.args.id c.self.invariant c.remove.ensures.removed
