use Rattle.std.proofs.Common.{refl, subst, sym}
use Rattle.id_index.specs.contracts.Index.{the_view as view_of}
use Rattle.id_index.specs.Indexes.{Listing, Lists}
use Rattle.id_index.proofs.Listing.{listed_alike}
use Rattle.id_index.proofs.Index.make_key.Goals as goal

pub returns : goal.returns
returns c labels lists =
    listed_alike (view_of c.self.inside) (view_of (record { keys = c.make_key.new.keys; whole = c.self.inside.whole })) labels refl
    c.make_key.ensures (subst (λ (x : Listing). Lists x labels) (sym c.self.view_is) lists)
