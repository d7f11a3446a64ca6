-- An end in which a tunnel takes the place of the one with its id: what is left to show of it.
use Rattle.std.proofs.Common.{◌≡◌, ⊎_elim, ℕ, refl, sym, ap, ◌∙◌, subst, Some, arith}
use Rattle.id_source.specs.Spaces.{Space}
use Rattle.id_table.specs.Ids.{at, put}
use Rattle.id_table.specs.Order.{at_new, at_other, same_or_not}
use Rattle.end_model.specs.declared.tunnel.Config.{Config}
use Rattle.end_model.specs.Tunnels.{Tunnel}
use Rattle.end_model.specs.End.{End}
use Rattle.world_model.specs.World.{World}
use Rattle.channel_laws.specs.Accounts.{History}
use Rattle.channel_laws.specs.Facts.{LiveOk, IdsOk, EndOk}

-- the same configuration, and one tunnel that is put
pub record Puts (e x : End) (i : ℕ) (u : Tunnel) : Type 0 where
  pub config : x.config ≡ e.config
  pub role : x.role ≡ e.role
  pub tunnels : x.tunnels ≡ put e.tunnels i u

-- what is found then: the tunnel that was put, or one that was there
pub data Found (e : End) (i : ℕ) (u : Tunnel) (j : ℕ) (q : Tunnel) : Type 0 where
  ItIsNew : j ≡ i → u ≡ q → Found e i u j q
  ItWas : (j ≡ i → ⊥) → at e.tunnels j ≡ Some q → Found e i u j q

pub found_in : (e x : End) (i : ℕ) (u : Tunnel) → Puts e x i u → (j : ℕ) (q : Tunnel) → at x.tunnels j ≡ Some q → Found e i u j q
found_in e x i u puts j q there = ⊎_elim
    (λ (same : j ≡ i).
    let one : Some u ≡ Some q = sym (at_new e.tunnels i u) ∙ (subst (λ k. at (put e.tunnels i u) k ≡ Some q) same (ap (λ l. at l j) (sym puts.tunnels) ∙ there)) in
    ItIsNew same cc)
    (λ (o : j ≡ i → ⊥). ItWas o (sym (at_other e.tunnels i u j o) ∙ (ap (λ l. at l j) (sym puts.tunnels) ∙ there)))
    (same_or_not j i)

-- the ids of an end that has drawn as many
pub ids_as : (h : History) (n : ℕ) (e x : End) → x.tunnel_ids ≡ e.tunnel_ids → IdsOk h n e → IdsOk h n x
ids_as h n e x same ids =
    let next = ap (λ (s : Space). s.next) same in
    record {
      tunnels = λ i made. (let lt = ids.tunnels i made in omega (arith, lt, next));
      attempts = λ a is. (let lt = ids.attempts a is in omega (arith, lt, next));
      answers = λ c is. (let lt = ids.answers c is in omega (arith, lt, next));
      no_attempt = ids.no_attempt;
      no_answer = ids.no_answer;
      one = ids.one;
    }

module _ (w v : World) (h k : History) (n : ℕ) (e x : End) (ok : EndOk w h n e) (i : ℕ) (t u : Tunnel) (there : at e.tunnels i ≡ Some t) (puts : Puts e x i u) where
  -- the other end of the tunnel is as it was
  module _ (peer : u.control.peer ≡ t.control.peer) (remote : u.control.remote ≡ t.control.remote) where
    record IsFrom (j : ℕ) (q : Tunnel) : Type 0 where
      old : Tunnel
      was : at e.tunnels j ≡ Some old
      peer_is : q.control.peer ≡ old.control.peer
      remote_is : q.control.remote ≡ old.control.remote

    from : (j : ℕ) (q : Tunnel) → Found e i u j q → IsFrom j q
    from j q (ItIsNew same is) = record {
      old = t;
      was = subst (λ z. at e.tunnels z ≡ Some t) (sym same) there;
      peer_is = ap (λ (z : Tunnel). z.control.peer) (sym is) ∙ peer;
      remote_is = ap (λ (z : Tunnel). z.control.remote) (sym is) ∙ remote;
    }
    from j q (ItWas o was) = record { old = q; was = was; peer_is = refl; remote_is = refl }

    pub put_end_ok : IdsOk k n x → ((j : ℕ) (q : Tunnel) → (j ≡ i → ⊥) → at e.tunnels j ≡ Some q → LiveOk v k n j q) → LiveOk v k n i u → EndOk v k n x
    put_end_ok ids others live = record {
      node = ok.node;
      number = ap (λ (c : Config). c.number) puts.config ∙ ok.number;
      lns = λ lac. (let l = ok.lns (sym puts.role ∙ lac) in (l.0, l.1, ap (λ (c : Config). c.lns) puts.config ∙ l.2));
      ids = ids;
      live = λ j q at_j. by j q (found_in e x i u puts j q at_j);
      apart = λ j z p q at_j at_z peers remotes some.
          (let a = from j p (found_in e x i u puts j p at_j) in
          let b = from z q (found_in e x i u puts z q at_z) in
          ok.apart j z a.old b.old a.was b.was (sym a.peer_is ∙ (peers ∙ b.peer_is)) (sym a.remote_is ∙ (remotes ∙ b.remote_is)) (λ none. some (a.remote_is ∙ none)));
    }
      where
        by : (j : ℕ) (q : Tunnel) → Found e i u j q → LiveOk v k n j q
        by j q (ItIsNew same is) = subst (λ z. LiveOk v k n z q) (sym same) (subst (LiveOk v k n i) is live)
        by j q (ItWas o was) = others j q o was

-- a tunnel is put of which no other one has the same other end; it may be new
module _ (w v : World) (h k : History) (n : ℕ) (e x : End) (ok : EndOk w h n e) (i : ℕ) (u : Tunnel) (puts : Puts e x i u) where
  abbrev pub IsAlone : Type 0
  IsAlone = (j : ℕ) (q : Tunnel) → (j ≡ i → ⊥) → at e.tunnels j ≡ Some q → u.control.peer ≡ q.control.peer → u.control.remote ≡ q.control.remote
      → (u.control.remote ≡ 0 → ⊥) → ⊥

  pub put_end_apart : IdsOk k n x → ((j : ℕ) (q : Tunnel) → (j ≡ i → ⊥) → at e.tunnels j ≡ Some q → LiveOk v k n j q) → LiveOk v k n i u → IsAlone → EndOk v k n x
  put_end_apart ids others live alone = record {
    node = ok.node;
    number = ap (λ (c : Config). c.number) puts.config ∙ ok.number;
    lns = λ lac. (let l = ok.lns (sym puts.role ∙ lac) in (l.0, l.1, ap (λ (c : Config). c.lns) puts.config ∙ l.2));
    ids = ids;
    live = λ j q at_j. by j q (found_in e x i u puts j q at_j);
    apart = λ j z p q at_j at_z peers remotes some. both j z p q (found_in e x i u puts j p at_j) (found_in e x i u puts z q at_z) peers remotes some;
  }
    where
      by : (j : ℕ) (q : Tunnel) → Found e i u j q → LiveOk v k n j q
      by j q (ItIsNew same is) = subst (λ z. LiveOk v k n z q) (sym same) (subst (LiveOk v k n i) is live)
      by j q (ItWas o was) = others j q o was

      both : (j z : ℕ) (p q : Tunnel) → Found e i u j p → Found e i u z q → p.control.peer ≡ q.control.peer → p.control.remote ≡ q.control.remote
          → (p.control.remote ≡ 0 → ⊥) → j ≡ z
      both j z p q (ItIsNew one is) (ItIsNew two so) peers remotes some = one ∙ sym two
      both j z p q (ItIsNew one is) (ItWas o was) peers remotes some =
          absurd (alone z q o was (ap (λ (y : Tunnel). y.control.peer) is ∙ peers) (ap (λ (y : Tunnel). y.control.remote) is ∙ remotes)
          (λ none. some (ap (λ (y : Tunnel). y.control.remote) (sym is) ∙ none)))
      both j z p q (ItWas o was) (ItIsNew two so) peers remotes some =
          absurd (alone j p o was (ap (λ (y : Tunnel). y.control.peer) so ∙ sym peers) (ap (λ (y : Tunnel). y.control.remote) so ∙ sym remotes)
          (λ none. some (remotes ∙ (ap (λ (y : Tunnel). y.control.remote) (sym so) ∙ none))))
      both j z p q (ItWas o was) (ItWas o2 was2) peers remotes some = ok.apart j z p q was was2 peers remotes some
