use Rattle.std.proofs.Common.{sym, ◌∙◌, subst}
use Rattle.id_index.specs.Indexes.{Lists, IsFirst}
use Rattle.tunnel_table.specs.Labels.{Listings}
use Rattle.tunnel_table.proofs.Listing.{first_recovering}
use Rattle.tunnel_table.proofs.indexes.Indexes.has_recovering.Goals as goal

pub returns-in-Some : goal.returns-in-Some
returns-in-Some c ts kept =
    first_recovering c.args.self.now ts c.args.peer c.in-Some.found
    (λ labels lists. subst (λ l. IsFirst labels l c.in-Some.found) c.state_label.ensures (c.in-Some.ensures labels (subst (λ (x : Listings). Lists x.states labels) (sym c.self.view_is) lists)))
    kept ∙ sym c.is_some.ensures
