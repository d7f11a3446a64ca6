use Rattle.std.proofs.Common.{ℕ, Option, subst, sym}
use Rattle.std.specs.Prelude.{None, Some, IfSome}
use Rattle.id_index.specs.contracts.Index.{the_view as view_of}
use Rattle.id_index.specs.Indexes.{Listing, Lists, IsFirst}
use Rattle.id_index.specs.Keys.{IsFirstListed}
use Rattle.id_index.proofs.Listing.{first_labelled}
use Rattle.id_index.proofs.Index.first.Goals as goal

pub returns : goal.returns
returns c = by c.first_listed.result c.first_listed.ensures
  where
    by : (found : Option (Option ℕ)) → IfSome found (λ o. IsFirstListed c.self.inside.keys.entries c.args.label o)
        → IfSome found (λ o. (labels : ℕ → Option ℕ) → Lists c.args.self.now labels → IsFirst labels c.args.label o)
    by None h = h
    by (Some o) h = λ labels lists. first_labelled (view_of c.self.inside) c.args.label o c.if-not-self.false h labels (subst (λ (x : Listing). Lists x labels) (sym c.self.view_is) lists)
