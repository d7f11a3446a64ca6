use Rattle.std.specs.Prelude.{◌≡◌, ℕ, List, None}
use Rattle.std.proofs.Common.{sym, subst}
use Rattle.id_table.specs.Ids.{at}
use Rattle.id_table.specs.Order.{Ascends, ascends-without}
use Rattle.tunnel_listing.specs.declared.directory.Entry.{Entry}
use Rattle.locked_tunnels.specs.declared.table.Place.{Place}
use Rattle.locked_tunnels.proofs.Places.{same_without}
use Rattle.locked_tunnels.proofs.table.Tunnels.remove.Goals as goal

pub invariant_of-self : goal.invariant_of-self
invariant_of-self c = (
  same_without c.self.inside.directory c.remove.new.self c.self.inside.places c.remove-2.new.self c.args.id c.remove.ensures.removed
      (subst (λ (es : List (ℕ × Entry)). at es c.args.id ≡ None) c.remove.ensures.removed c.remove.ensures.gone) c.remove-2.ensures.removed c.self.invariant.1 c.self.invariant.0,
  subst (λ (es : List (ℕ × Place)). Ascends es) (sym c.remove-2.ensures.removed) (ascends-without c.args.id c.self.inside.places.entries c.self.invariant.1),
)
