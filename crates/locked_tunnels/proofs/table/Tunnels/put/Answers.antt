use Rattle.std.specs.Prelude.{◌≡◌, ℕ, List}
use Rattle.std.proofs.Common.{sym, subst}
use Rattle.id_table.specs.Ids.{put}
use Rattle.id_table.specs.Order.{Ascends, ascends-put}
use Rattle.locked_tunnels.specs.declared.table.Place.{Place}
use Rattle.locked_tunnels.proofs.Places.{same_put}
use Rattle.locked_tunnels.proofs.table.Tunnels.put.Goals as goal

pub invariant_of-self : goal.invariant_of-self
invariant_of-self c = (
  same_put c.self.inside.directory c.put.new.self c.self.inside.places c.fill.new.self c.args.id (record { listed = c.args.listed; turns = c.args.turns }) c.args.place
      c.put.ensures.put (subst (λ (n : ℕ). c.fill.new.self.entries ≡ put c.self.inside.places.entries n c.args.place) c.from.ensures c.fill.ensures.entries) c.self.invariant.0,
  subst (λ (es : List (ℕ × Place)). Ascends es) (sym c.fill.ensures.entries) (ascends-put c.from.result c.args.place c.self.inside.places.entries c.self.invariant.1),
)
