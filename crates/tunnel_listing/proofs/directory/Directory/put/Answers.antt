use Rattle.std.specs.Prelude.{ℕ, ◌<◌, Some}
use Rattle.std.proofs.Common.{refl, sym, subst}
use Rattle.tunnel_listing.proofs.Standing.{Holds, holds_put}
use Rattle.tunnel_listing.proofs.directory.Directory.put.Goals as goal

pub invariant_of-self : goal.invariant_of-self
invariant_of-self c =
    subst (λ fs. Holds c.change.new.self fs) (sym c.fill.ensures.entries)
    (holds_put c.self.inside.indexes c.change.new.self c.self.inside.entries.entries c.from-id.result (record { listed = c.args.listed; turns = c.args.turns }) c.listed_in-before.result
    (Some c.args.listed) (subst (λ (n : ℕ). n < 65536) (sym c.from-id.ensures) c.ranges.id.fits) c.change.ensures
    c.listed_in-before.ensures refl c.self.invariant)
