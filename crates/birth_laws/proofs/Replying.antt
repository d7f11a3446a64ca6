-- A new call that replies to a request.
use Rattle.std.proofs.Common.{◌≡◌, ◌≢◌, ◌⊎◌, inl, inr, ⊎_elim, ℕ, true, Some, refl, sym, ◌∙◌, subst, arith}
use Rattle.epoch_machine.specs.Letters.{Request, Reply}
use Rattle.epoch_machine.specs.Tunnels.{Tunnels}
use Rattle.epoch_machine.specs.Channels.{Channels, Stands, puts, counts}
use Rattle.epoch_machine.specs.Calls.{Calls, replies}
use Rattle.epoch_machine.proofs.Splits.{same_or_not, assigned_now, assigned_else}
use Rattle.birth_laws.specs.Births.{Meant, TakenRequest, Refused}
use Rattle.birth_laws.proofs.Growths.{answered_grows, answered_taken}

module _ (c : Calls) (x e z own : ℕ) where
  mate_new : (y : ℕ) → y ≡ z → (replies c x e z own).mate y ≡ own
  unfolding replies
  mate_new y same = rw same (assigned_now c.mate z own)

  mate_old : (y : ℕ) → (y ≡ z → ⊥) → (replies c x e z own).mate y ≡ c.mate y
  unfolding replies
  mate_old y other = assigned_else c.mate z own y other

  tunnel_new : (y : ℕ) → y ≡ z → (replies c x e z own).tunnel y ≡ x
  unfolding replies
  tunnel_new y same = rw same (assigned_now c.tunnel z x)

  tunnel_old : (y : ℕ) → (y ≡ z → ⊥) → (replies c x e z own).tunnel y ≡ c.tunnel y
  unfolding replies
  tunnel_old y other = assigned_else c.tunnel z x y other

  made_new : (y : ℕ) → y ≡ z → (replies c x e z own).made y ≡ Some e
  unfolding replies
  made_new y same = rw same (assigned_now c.made z (Some e))

  pub reply_meant : (t : Tunnels) → own ≢ 0 → Meant t (replies c x e z own) x e (Reply z own)
  reply_meant t n = (n, mate_new z refl, tunnel_new z refl, made_new z refl)

  pub reply_free : (t : Tunnels) (h : Channels) (v f y a : ℕ) → (own ≡ y → ⊥) → Refused t h c v f y → (replies c x e z own).mate a ≢ y
  reply_free t h v f y a n r = ⊎_elim (λ same m. n (sym (mate_new a same) ∙ m)) (λ other m. r.unanswered a (sym (mate_old a other) ∙ m)) (same_or_not a z)

  pub reply_asks : (y v f : ℕ) → c.held y f v ≢ 0 → (replies c x e z own).held y f v ≢ 0
  unfolding replies
  reply_asks y v f n = n

  pub reply_asked : (y v : ℕ) → (replies c x e z own).asks y v ≡ true → c.asks y v ≡ true
  unfolding replies
  reply_asked y v n = n

  module _ (h : Channels) (s k : ℕ) (apart : own ≡ z → ⊥) (sender : c.tunnel own ≡ s) (stands : Stands h s e k (Request own)) (place : k ≡ h.taken x e) where
    G : Channels
    G = puts (counts h x e) x e (Reply z own)

    here : TakenRequest (puts (counts h x e) x e (Reply z own)) s x e own
    here = let g = answered_grows h x e (Reply z own) in let t = answered_taken h x e (Reply z own) in record { place = k; stands = g.later s e k (Request own) stands; taken = omega arith }

    pub reply_mates : (y : ℕ) → (replies c x e z own).mate y ≢ 0 → (c.mate y ≢ 0) ⊎ ((f : ℕ) → (replies c x e z own).made y ≡ Some f → TakenRequest (puts (counts h x e) x e (Reply z own)) ((replies c x e z own).tunnel ((replies c x e z own).mate y)) ((replies c x e z own).tunnel y) f ((replies c x e z own).mate y))
    reply_mates y n = ⊎_elim {C = (c.mate y ≢ 0) ⊎ ((f : ℕ) → (replies c x e z own).made y ≡ Some f → TakenRequest (puts (counts h x e) x e (Reply z own)) ((replies c x e z own).tunnel ((replies c x e z own).mate y)) ((replies c x e z own).tunnel y) f ((replies c x e z own).mate y))}
        (λ same. inr (λ f m. let epoch : e ≡ f = made_is y f same m in subst (λ (q : ℕ). TakenRequest (puts (counts h x e) x e (Reply z own)) ((replies c x e z own).tunnel ((replies c x e z own).mate y)) ((replies c x e z own).tunnel y) q ((replies c x e z own).mate y)) epoch (rw (mate_new y same, tunnel_new y same, tunnel_old own apart, sender) here)))
        (λ other. inl (λ m. n (mate_old y other ∙ m)))
        (same_or_not y z)
      where
        made_is : (y f : ℕ) → y ≡ z → (replies c x e z own).made y ≡ Some f → e ≡ f
        made_is y f same m = let a : Some e ≡ Some f = sym (made_new y same) ∙ m in cc
