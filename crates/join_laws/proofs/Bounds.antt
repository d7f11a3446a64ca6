-- Ids of the live tunnels and calls of a node, and of what its book has, have 16 bits.
use Rattle.std.proofs.Common.{◌≡◌, ⊎_elim, ℕ, ◌<◌, ◌≤◌, Bool, true, false, sym, ap, ◌∙◌, subst, Option, Some, None, arith}
use Rattle.std.proofs.lemmas.Bool.{cases_Bool}
use Rattle.std.proofs.lemmas.Option.{none-some}
use Rattle.id_table.specs.Ids.{at, at-none}
use Rattle.session_book.specs.declared.record.BookCall.{BookCall}
use Rattle.session_book.specs.Books.{call_at}
use Rattle.end_model.specs.declared.tunnel.Call.{Call}
use Rattle.end_model.specs.Tunnels.{Tunnel}
use Rattle.end_model.specs.End.{End}
use Rattle.world_model.specs.World.{Node}
use Rattle.step_laws.specs.Starts.{IsSoundCall}
use Rattle.book_laws.specs.Books.{Fits}
use Rattle.book_laws.proofs.Lists.{entry_found}
use Rattle.node_laws.specs.Nodes.{HoldsNode}

pub record Bounded (e : End) : Type 0 where
  pub tunnels : (i : ℕ) (t : Tunnel) → at e.tunnels i ≡ Some t → i < 65536
  pub sessions : (i : ℕ) (t : Tunnel) → at e.tunnels i ≡ Some t → (s : ℕ) (c : Call) → at t.calls s ≡ Some c → s < 65536

pub fit_bounded : (e : End) → Fits e → Bounded e
fit_bounded e fit = record {
  tunnels = λ i t there.
      (let lt = (fit.tables.tunnels i t there).drawn in
      let drawn = fit.tunnel_ids.drawn in
      let within = fit.tunnel_ids.within in
      omega (arith, lt, drawn, within));
  sessions = λ i t there s c at_c.
      (let lt = ((fit.tables.tunnels i t there).calls s c at_c).drawn in
      let drawn = fit.session_ids.drawn in
      let within = fit.session_ids.within in
      omega (arith, lt, drawn, within));
}

pub bounded : (node : Node) → HoldsNode node → Bounded node.end
bounded node h = ⊎_elim
    (λ (e : node.up ≡ true). fit_bounded node.end (h.up e).fit)
    (λ (e : node.up ≡ false).
    let none : (i : ℕ) (t : Tunnel) → at node.end.tunnels i ≡ Some t → ⊥ =
    λ i t there. none-some t (sym (at-none i) ∙ (ap (λ (x : End). at x.tunnels i) (sym (h.down e)) ∙ there)) in
    record {
      tunnels = λ i t there. absurd (none i t there);
      sessions = λ i t there s c at_c. absurd (none i t there);
    })
    (cases_Bool node.up)

-- a call of its book
pub booked_bound : (node : Node) → HoldsNode node → (s : ℕ) (c : BookCall) → call_at node.checkpoint.book s ≡ Some c → s < 65536
booked_bound node h s c has =
    let k = node.checkpoint.book in
    let q = entry_found (λ (b : BookCall). b.local) (IsSoundCall k.session_ceiling) s k.calls c h.sound.calls has in
    let same = q.0 in
    let within = q.1.within in
    let ceiling = h.sound.session_ceiling in
    omega (arith, same, within, ceiling)
