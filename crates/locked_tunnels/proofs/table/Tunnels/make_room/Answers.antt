use Rattle.std.specs.Prelude.{ℕ, List}
use Rattle.std.proofs.Common.{refl, sym, subst}
use Rattle.id_table.specs.Order.{Ascends}
use Rattle.locked_tunnels.specs.declared.table.Place.{Place}
use Rattle.locked_tunnels.proofs.Places.{same_kept}
use Rattle.locked_tunnels.proofs.table.Tunnels.make_room.Goals as goal

pub invariant_of-self : goal.invariant_of-self
invariant_of-self c =
    (same_kept c.self.inside.directory c.make_room.new.self c.self.inside.places c.self.inside.places c.make_room.ensures.places refl c.self.invariant.0, c.self.invariant.1)

pub invariant_of-self-2 : goal.invariant_of-self-2
invariant_of-self-2 c = (
  same_kept c.self.inside.directory c.make_room.new.self c.self.inside.places c.make_room-2.new.self c.make_room.ensures.places c.make_room-2.ensures.entries c.self.invariant.0,
  subst (λ (es : List (ℕ × Place)). Ascends es) (sym c.make_room-2.ensures.entries) c.self.invariant.1,
)
