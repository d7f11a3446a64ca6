use Rattle.std.specs.Prelude.{◌≡◌, true, false, Option, is_some}
use Rattle.std.proofs.Common.{ap, ◌∙◌, subst}
use Rattle.id_table.specs.Ids.{at}
use Rattle.locked_tunnels.specs.declared.table.Place.{Place}
use Rattle.locked_tunnels.specs.Standing.{Standing}
use Rattle.locked_tunnels.proofs.Places.{is_there}
use Rattle.locked_tunnels.proofs.table.Tunnels.find.Goals as goal

pub returns-in-None : goal.returns-in-None
returns-in-None c =
    subst (λ (t : Standing). false ≡ is_some (at t.directory.places.entries c.args.id)) c.self.view_is
    (ap (λ (o : Option Place). is_some o) c.in-None.ensures ∙ is_there c.self.inside.directory c.self.inside.places c.args.id c.self.invariant.0)

pub returns-in_ok-try_clone-in-Some : goal.returns-in_ok-try_clone-in-Some
returns-in_ok-try_clone-in-Some c =
    subst (λ (t : Standing). true ≡ is_some (at t.directory.places.entries c.args.id)) c.self.view_is
    (ap (λ (o : Option Place). is_some o) c.in-Some.ensures ∙ is_there c.self.inside.directory c.self.inside.places c.args.id c.self.invariant.0)
