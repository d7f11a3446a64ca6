use Rattle.std.proofs.Common.{ℕ, Option, sym, subst}
use Rattle.std.specs.Prelude.{None, Some, IfSome}
use Rattle.id_index.specs.Indexes.{Lists, IsFirst}
use Rattle.tunnel_listing.specs.declared.listed.Listed.{Listed}
use Rattle.tunnel_listing.specs.declared.listed.Wanted.TheVariants.{Recovering}
use Rattle.tunnel_listing.specs.Labels.{Listings, AreIndexed, IsFirstWanted}
use Rattle.tunnel_listing.proofs.Listing.{first_recovering}
use Rattle.tunnel_listing.proofs.indexes.Indexes.first_recovering.Goals as goal

pub returns : goal.returns
returns c = by c.first.result c.first.ensures
  where
    by : (found : Option (Option ℕ))
        → IfSome found (λ o. (labels : ℕ → Option ℕ) → Lists c.self.inside.states labels → IsFirst labels c.state_label.result o)
        → IfSome found (λ o. (f : ℕ → Option Listed) → AreIndexed c.args.self.now f → IsFirstWanted (Recovering c.args.peer) f o)
    by None h = h
    by (Some o) h = λ f kept.
        first_recovering c.args.self.now f c.args.peer o
        (λ labels lists. subst (λ l. IsFirst labels l o) (c.state_label.ensures) (h labels (subst (λ (x : Listings). Lists x.states labels) (sym c.self.view_is) lists))) kept
