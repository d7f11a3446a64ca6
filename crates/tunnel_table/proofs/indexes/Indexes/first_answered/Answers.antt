use Rattle.std.proofs.Common.{◌≡◌, ℕ, List, Option, sym, subst}
use Rattle.std.specs.Prelude.{None, Some, IfSome}
use Rattle.id_index.specs.Indexes.{Lists, IsFirst}
use Rattle.end_model.specs.Tunnels.{Tunnel}
use Rattle.end_model.specs.End.{answered_to}
use Rattle.tunnel_table.specs.Labels.{Listings, AreKept}
use Rattle.tunnel_table.proofs.Listing.{first_answered}
use Rattle.tunnel_table.proofs.indexes.Indexes.first_answered.Goals as goal

pub returns : goal.returns
returns c = by c.first.result c.first.ensures
  where
    by : (found : Option (Option ℕ))
        → IfSome found (λ o. (labels : ℕ → Option ℕ) → Lists c.self.inside.answers labels → IsFirst labels c.remote_label.result o)
        → IfSome found (λ o. (ts : List (ℕ × Tunnel)) → AreKept c.args.self.now ts → answered_to c.args.peer c.args.remote ts ≡ o)
    by None h = h
    by (Some o) h = λ ts kept.
        first_answered c.args.self.now ts c.args.peer c.args.remote o c.ranges.remote.fits
        (λ labels lists. subst (λ l. IsFirst labels l o) c.remote_label.ensures (h labels (subst (λ (x : Listings). Lists x.answers labels) (sym c.self.view_is) lists))) kept
