use Rattle.std.proofs.Common.{◌≡◌, ℕ, List, Option, ap, ◌∙◌, sym, subst}
use Rattle.std.specs.Prelude.{None, Some, IfSome}
use Rattle.id_index.specs.Indexes.{Lists, IsFirst}
use Rattle.end_model.specs.Tunnels.{Tunnel}
use Rattle.end_model.specs.End.{least_in}
use Rattle.tunnel_table.specs.Labels.{state_label, Listings, AreKept}
use Rattle.tunnel_table.proofs.Listing.{first_in}
use Rattle.tunnel_table.proofs.indexes.Indexes.first_in.Goals as goal

pub returns : goal.returns
returns c = by c.first.result c.first.ensures
  where
    by : (found : Option (Option ℕ))
        → IfSome found (λ o. (labels : ℕ → Option ℕ) → Lists c.self.inside.states labels → IsFirst labels c.state_label.result o)
        → IfSome found (λ o. (ts : List (ℕ × Tunnel)) → AreKept c.args.self.now ts → least_in c.args.state c.args.peer ts ≡ o)
    by None h = h
    by (Some o) h = λ ts kept.
        first_in c.args.self.now ts c.args.state c.args.peer o
        (λ labels lists. subst (λ l. IsFirst labels l o) (c.state_label.ensures ∙ ap (λ n. state_label c.args.peer n) c.number_of.ensures.value) (h labels (subst (λ (x : Listings). Lists x.states labels) (sym c.self.view_is) lists))) kept
