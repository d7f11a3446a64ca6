-- The calls that the machine has in a live tunnel are those of the end.
use Rattle.std.proofs.Common.{◌≡◌, ◌⊎◌, inl, inr, ⊎_elim, ℕ, ◌<◌, false, refl, sym, ap, ◌∙◌, Option, Some, None, arith}
use Rattle.id_table.specs.Ids.{at}
use Rattle.id_table.specs.Order.{same_or_not}
use Rattle.end_model.specs.declared.tunnel.Call.{Call}
use Rattle.end_model.specs.Tunnels.{Tunnel}
use Rattle.end_model.specs.End.{End}
use Rattle.epoch_machine.specs.Worlds as machine
use Rattle.epoch_machine.specs.Calls.{NoCall}
use Rattle.connection_laws.specs.Facts.{Accounts}
use Rattle.session_laws.specs.Names.{name}
use Rattle.session_laws.specs.Joined.{HasNoCall, CallsJoined, NodeJoined}
use Rattle.session_laws.proofs.Names.{same_name}

module _ (w : machine.World) (accs : Accounts) (n i : ℕ) (ifits : i < 65536) where
  -- a tunnel of an end of another node, or another tunnel of this one, has no call that the machine has in this tunnel
  none_in : (m : ℕ) (e : End) → CallsJoined w accs m e → (s : ℕ) → w.calls.tunnel (name m s) ≡ name n i → (j : ℕ) (u : Tunnel)
      → at e.tunnels j ≡ Some u → ((m ≡ n) × (j ≡ i) → ⊥) → at u.calls s ≡ None
  none_in m e old s tunnel j u there apart = by (at u.calls s) refl
    where
      by : (o : Option Call) → at u.calls s ≡ o → o ≡ None
      by None is = refl
      by (Some c) is = absurd (apart (same_name m j n i (old.ids j u there) ifits (sym (old.live j u there s c is).tunnel ∙ tunnel)))

  -- a call of this tunnel is the end's, or doesn't live
  pub here_or_gone : (e : End) → CallsJoined w accs n e → (t : Tunnel) → at e.tunnels i ≡ Some t → (s : ℕ) → s < 65536
      → w.calls.tunnel (name n s) ≡ name n i → ((c : Call) × (at t.calls s ≡ Some c)) ⊎ (w.calls.state (name n s) ≡ NoCall)
  here_or_gone e old t there s fits tunnel = by (at t.calls s) refl
    where
      by : (o : Option Call) → at t.calls s ≡ o → ((c : Call) × (at t.calls s ≡ Some c)) ⊎ (w.calls.state (name n s) ≡ NoCall)
      by (Some c) is = inl (c, is)
      by None is = inr (old.gone s fits (λ j u here. none j u here))
        where
          none : HasNoCall e s
          none j u here = ⊎_elim
              (λ (p : j ≡ i).
              let same : t ≡ u = let g = rw p at here in let k = sym there ∙ g in cc in
              ap (λ (y : Tunnel). at y.calls s) (sym same) ∙ is)
              (λ other. none_in n e old s tunnel j u here (λ both. other both.1))
              (same_or_not j i)

  -- a call of another node that the machine has in this tunnel doesn't live
  pub gone_elsewhere : (m : ℕ) (o : Option End) → NodeJoined w accs m o → (m ≡ n → ⊥) → (s : ℕ) → s < 65536
      → w.calls.tunnel (name m s) ≡ name n i → w.calls.state (name m s) ≡ NoCall
  gone_elsewhere m None h other s fits tunnel = (h s fits).0
  gone_elsewhere m (Some e) h other s fits tunnel =
      h.gone s fits (λ j u there. none_in m e h s tunnel j u there (λ both. other both.0))

-- session 0 is no node's
pub zero_undrawn : (w : machine.World) (accs : Accounts) (m : ℕ) (o : Option End) → NodeJoined w accs m o → w.calls.drawn (name m 0) ≡ false
zero_undrawn w accs m None h = (h 0 (omega arith)).1
zero_undrawn w accs m (Some e) h = h.zero
