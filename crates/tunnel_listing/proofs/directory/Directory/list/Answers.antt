use Rattle.std.proofs.Common.{sym, ◌∙◌}
use Rattle.tunnel_listing.proofs.Standing.{holds_relisted}
use Rattle.tunnel_listing.proofs.directory.Directory.list.Goals as goal

pub invariant_of-self : goal.invariant_of-self
invariant_of-self c =
    holds_relisted c.self.inside.indexes c.change.new.self c.self.inside.entries.entries c.list_in.new.places.entries c.args.id c.args.turns
    c.args.listed c.in-Some.before c.list_in.ensures.listed (sym c.list_in.ensures.before ∙ c.in-Some.is) c.change.ensures c.self.invariant
