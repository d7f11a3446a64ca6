-- Where one tunnel of one node changed, each other live tunnel was live.
use Rattle.std.proofs.Common.{◌≡◌, ⊎_elim, ℕ, true, refl, sym, ap, ◌∙◌, subst, Option, Some, None}
use Rattle.std.proofs.lemmas.Option.{none-some, same_Some}
use Rattle.id_table.specs.Ids.{at}
use Rattle.id_table.specs.Order.{same_or_not}
use Rattle.end_model.specs.Tunnels.{Tunnel, mode_of, is_current}
use Rattle.end_model.specs.End.{End}
use Rattle.world_model.specs.World.{World, Node}
use Rattle.epoch_machine.specs.Worlds as machine
use Rattle.channel_laws.specs.Accounts.{History}
use Rattle.channel_laws.specs.Epochs.{IsLive}
use Rattle.join_laws.proofs.OneTunnel.{SameNode, OneTunnel}

module _ (v u : World) (h g : History) (m z : machine.World) (n i : ℕ) (a b : Node) (o : OneTunnel v u h g m z n i a b) (r : Tunnel)
    (at_r : at b.end.tunnels i ≡ Some r) (inactive : is_current (mode_of r.recovery) ≡ true → ⊥) where
  -- of a node that doesn't make the move
  elsewhere : (q : ℕ) (x y : Option Node) → at v.nodes q ≡ x → at u.nodes q ≡ y → SameNode x y → (f : ℕ) (t : Tunnel)
      → IsLive u q f t → IsLive v q f t
  elsewhere q None None is so same f t live = absurd (none-some live.node (sym so ∙ live.is))
  elsewhere q None (Some d) is so same f t live = absurd same
  elsewhere q (Some c) None is so same f t live = absurd same
  elsewhere q (Some c) (Some d) is so same f t live =
      let one : d ≡ live.node = same_Some d live.node (sym so ∙ live.is) in
      record {
        node = c;
        is = is;
        there = ap (λ (e : End). at e.tunnels f) (sym same.0) ∙ (ap (λ (e : Node). at e.end.tunnels f) one
            ∙ live.there);
      }

  -- one that is neither frozen nor restored, where the tunnel that changed is
  pub was_live : (q f : ℕ) (t : Tunnel) → IsLive u q f t → is_current (mode_of t.recovery) ≡ true → IsLive v q f t
  was_live q f t live current = ⊎_elim
      (λ (e : q ≡ n).
      let one : b ≡ live.node = same_Some b live.node (sym o.is ∙ subst (λ y. at u.nodes y ≡ Some live.node) e live.is) in
      let there : at b.end.tunnels f ≡ Some t = ap (λ (y : Node). at y.end.tunnels f) one ∙ live.there in
      ⊎_elim
      (λ (k : f ≡ i).
      let two : r ≡ t = same_Some r t (sym at_r ∙ subst (λ y. at b.end.tunnels y ≡ Some t) k there) in
      absurd (inactive (ap (λ (y : Tunnel). is_current (mode_of y.recovery)) two ∙ current)))
      (λ other. subst (λ y. IsLive v y f t) (sym e) (record { node = a; is = o.was; there = sym (o.tunnels f other) ∙ there }))
      (same_or_not f i))
      (λ off. elsewhere q (at v.nodes q) (at u.nodes q) refl refl (o.others q off) f t live)
      (same_or_not q n)
