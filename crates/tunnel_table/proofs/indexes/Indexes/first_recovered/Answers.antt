use Rattle.std.proofs.Common.{◌≡◌, ℕ, List, Option, sym, subst}
use Rattle.std.specs.Prelude.{None, Some, IfSome}
use Rattle.id_index.specs.Indexes.{Lists, IsFirst}
use Rattle.end_model.specs.Tunnels.{Tunnel}
use Rattle.end_model.specs.End.{recovered_by}
use Rattle.tunnel_table.specs.Labels.{Listings, AreKept}
use Rattle.tunnel_table.proofs.Listing.{first_recovered}
use Rattle.tunnel_table.proofs.indexes.Indexes.first_recovered.Goals as goal

pub returns : goal.returns
returns c = by c.first.result c.first.ensures
  where
    by : (found : Option (Option ℕ))
        → IfSome found (λ o. (labels : ℕ → Option ℕ) → Lists c.self.inside.lines labels → IsFirst labels c.from.result o)
        → IfSome found (λ o. (ts : List (ℕ × Tunnel)) → AreKept c.args.self.now ts → recovered_by c.args.line ts ≡ o)
    by None h = h
    by (Some o) h = λ ts kept.
        first_recovered c.args.self.now ts c.args.line o
        (λ labels lists. subst (λ l. IsFirst labels l o) c.from.ensures (h labels (subst (λ (x : Listings). Lists x.lines labels) (sym c.self.view_is) lists))) kept
