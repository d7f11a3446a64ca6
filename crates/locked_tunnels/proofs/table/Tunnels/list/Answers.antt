use Rattle.std.proofs.Common.{sym, subst}
use Rattle.tunnel_listing.specs.Directory.{Directory}
use Rattle.locked_tunnels.specs.Standing.{AreSame}
use Rattle.locked_tunnels.proofs.Places.{same_relisted}
use Rattle.locked_tunnels.proofs.table.Tunnels.list.Goals as goal

pub invariant_of-self : goal.invariant_of-self
invariant_of-self c = (
  same_relisted c.note.new.self c.list.new.self c.self.inside.places c.args.listed c.args.turns c.args.id c.list.ensures.listed
      (subst (λ (d : Directory). AreSame d c.self.inside.places) (sym c.note.ensures) c.self.invariant.0),
  c.self.invariant.1,
)
