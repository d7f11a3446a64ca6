-- What an end keeps so that it may have a book, where a tunnel of it changes.
use Rattle.std.proofs.Common.{◌≡◌, ◌⊎◌, ⊎_elim, ℕ, ◌<◌, ◌≤◌, false, List, [], length, Option, Some, None, refl, sym, ◌∙◌, ap, subst, arith}
use Rattle.std.proofs.lemmas.Option.{none-some}
use Rattle.id_table.specs.Ids.{at, put, without, at-none}
use Rattle.id_table.specs.Order.{Ascends, ascends-put, ascends-empty, found_put, ascends-without, found_without}
use Rattle.tunnel_fsm.specs.Rows.{state_number}
use Rattle.wire_base.specs.declared.letter.Letter.{Letter}
use Rattle.end_model.specs.declared.tunnel.Call.{Call}
use Rattle.end_model.specs.declared.tunnel.Control.{Control}
use Rattle.end_model.specs.Channels.{peer_window}
use Rattle.end_model.specs.End.{End}
use Rattle.end_model.specs.Tunnels.{Tunnel, new_tunnel, Recovering, mode_of, is_current}
use Rattle.book_laws.specs.Books.{HasNone, CallFits, TunnelFits, TablesFit}
use Rattle.session_query.specs.Queries.{Asking}
use Rattle.book_laws.proofs.Lists.{put_most, put_there, without_most}

-- an end that comes after another: of the same role, and it has drawn as many ids or more
pub record Grows (e x : End) : Type 0 where
  pub role : x.role ≡ e.role
  pub tunnels : e.tunnel_ids.next ≤ x.tunnel_ids.next
  pub sessions : e.session_ids.next ≤ x.session_ids.next

module _ (e x : End) (grows : Grows e x) where
  pub call_later : (t : Tunnel) (s : ℕ) (c : Call) → CallFits e t s c → CallFits x t s c
  call_later t s c h = record {
    some = h.some;
    drawn = (let lt = h.drawn in let le = grows.sessions in omega (arith, lt, le));
    none = subst (λ r. HasNone r c) (sym grows.role) h.none;
    up = h.up;
  }

  pub tunnel_later : (i : ℕ) (t : Tunnel) → TunnelFits e i t → TunnelFits x i t
  tunnel_later i t h = record {
    some = h.some;
    drawn = (let lt = h.drawn in let le = grows.tunnels in omega (arith, lt, le));
    order = h.order;
    few = h.few;
    remote = h.remote;
    window = h.window;
    unmarked = h.unmarked;
    recovered = h.recovered;
    calls = λ s c f. call_later t s c (h.calls s c f);
  }

-- a tunnel's control part changes, and its recovery tunnel
pub control_fits : (e : End) (i : ℕ) (t : Tunnel) (c : Control) (ls : List Letter) (q : Option Recovering) → TunnelFits e i t
    → (state_number c.state ≡ 2 → 0 < c.remote) → 0 < peer_window c → (state_number t.control.state ≡ 3 → state_number c.state ≡ 3)
    → (state_number c.state < 3 → c.mark ≡ 0) → (is_current (mode_of q) ≡ false → state_number c.state ≡ 3)
    → TunnelFits e i (record t { control = c; letters = ls; recovery = q })
control_fits e i t c ls q h remote window opens unmarked recovered = record {
  some = h.some;
  drawn = h.drawn;
  order = h.order;
  few = h.few;
  remote = remote;
  window = window;
  unmarked = unmarked;
  recovered = recovered;
  calls = λ s d f. (let g = h.calls s d f in record { some = g.some; drawn = g.drawn; none = g.none; up = λ u. opens (g.up u) });
}

-- or what it asks for
pub asks_fit : (e : End) (i : ℕ) (t : Tunnel) (asks : Asking) → TunnelFits e i t → TunnelFits e i (record t { query = asks })
asks_fit e i t asks h = record {
  some = h.some;
  drawn = h.drawn;
  order = h.order;
  few = h.few;
  remote = h.remote;
  window = h.window;
  unmarked = h.unmarked;
  recovered = h.recovered;
  calls = λ s d f. (let g = h.calls s d f in record { some = g.some; drawn = g.drawn; none = g.none; up = g.up });
}

-- and one of its calls
pub call_put_fits : (e : End) (i : ℕ) (t : Tunnel) (s : ℕ) (c : Call) → TunnelFits e i t → CallFits e t s c → length (put t.calls s c) ≤ 4096
    → TunnelFits e i (record t { calls = put t.calls s c })
call_put_fits e i t s c h fit few = record {
  some = h.some;
  drawn = h.drawn;
  order = ascends-put s c t.calls h.order;
  few = few;
  remote = h.remote;
  window = h.window;
  unmarked = h.unmarked;
  recovered = h.recovered;
  calls = λ q d f. ⊎_elim
      (λ (a : (q ≡ s) × (c ≡ d)). (let g : CallFits e t q c = subst (λ n. CallFits e t n c) (sym a.0) fit in
      let w : CallFits e t q d = subst (λ (z : Call). CallFits e t q z) a.1 g in
      record { some = w.some; drawn = w.drawn; none = w.none; up = w.up }))
      (λ a. let g = h.calls q d a.1 in record { some = g.some; drawn = g.drawn; none = g.none; up = g.up })
      (found_put t.calls s c q d f);
}

pub call_without_fits : (e : End) (i : ℕ) (t : Tunnel) (s : ℕ) → TunnelFits e i t → TunnelFits e i (record t { calls = without t.calls s })
call_without_fits e i t s h = record {
  some = h.some;
  drawn = h.drawn;
  order = ascends-without s t.calls h.order;
  few = (let most = without_most t.calls s in let few = h.few in omega (arith, most, few));
  remote = h.remote;
  window = h.window;
  unmarked = h.unmarked;
  recovered = h.recovered;
  calls = λ q d f. (let g = h.calls q d (found_without t.calls s q d h.order f).1 in record { some = g.some; drawn = g.drawn; none = g.none; up = g.up });
}

-- one that has no calls
pub bare_fits : (e : End) (i : ℕ) (c : Control) (ls : List Letter) (q : Option Recovering) → 0 < i → i < e.tunnel_ids.next
    → (state_number c.state ≡ 2 → 0 < c.remote) → 0 < peer_window c
    → (state_number c.state < 3 → c.mark ≡ 0) → (is_current (mode_of q) ≡ false → state_number c.state ≡ 3)
    → TunnelFits e i (record (new_tunnel c) { letters = ls; recovery = q })
bare_fits e i c ls q some drawn remote window unmarked recovered = record {
  some = some;
  drawn = drawn;
  order = ascends-empty [] refl;
  few = omega arith;
  remote = remote;
  window = window;
  unmarked = unmarked;
  recovered = recovered;
  calls = λ s d f. absurd (none-some d (sym (at-none s) ∙ f));
}

module _ (e x : End) (fit : TablesFit e) (grows : Grows e x) where
  -- a call that another tunnel hasn't
  abbrev pub IsOnlyIn : ℕ → Tunnel → Type 0
  IsOnlyIn i u = (s : ℕ) (c : Call) → at u.calls s ≡ Some c → (j : ℕ) (v : Tunnel) → at e.tunnels j ≡ Some v → (j ≡ i → ⊥) → (d : Call) → at v.calls s ≡ Some d → ⊥

  first_tunnel : 0 < x.tunnel_ids.next
  first_tunnel = let some = fit.first_tunnel in let le = grows.tunnels in omega (arith, some, le)

  first_session : 0 < x.session_ids.next
  first_session = let some = fit.first_session in let le = grows.sessions in omega (arith, some, le)

  pub put_fits : (i : ℕ) (u : Tunnel) → x.tunnels ≡ put e.tunnels i u → length x.tunnels ≤ 1024 → TunnelFits x i u → IsOnlyIn i u → TablesFit x
  put_fits i u is few h only = record {
    order = subst (λ (ts : List (ℕ × Tunnel)). Ascends ts) (sym is) (ascends-put i u e.tunnels fit.order);
    few = few;
    tunnels = λ j v f. ⊎_elim
        (λ (a : (j ≡ i) × (u ≡ v)). subst (λ n. TunnelFits x n v) (sym a.0) (subst (λ (w : Tunnel). TunnelFits x i w) a.1 h))
        (λ a. tunnel_later e x grows j v (fit.tunnels j v a.1))
        (found_put e.tunnels i u j v (subst (λ (ts : List (ℕ × Tunnel)). at ts j ≡ Some v) is f));
    apart = λ a t f b v g s c p d q. ⊎_elim
        (λ (y : (a ≡ i) × (u ≡ t)). ⊎_elim
        (λ (z : (b ≡ i) × (u ≡ v)). y.0 ∙ sym z.0)
        (λ (z : (b ≡ i → ⊥) × (at e.tunnels b ≡ Some v)). absurd (only s c (subst (λ (w : Tunnel). at w.calls s ≡ Some c) (sym y.1) p) b v z.1 z.0 d q))
        (found_put e.tunnels i u b v (subst (λ (ts : List (ℕ × Tunnel)). at ts b ≡ Some v) is g)))
        (λ (y : (a ≡ i → ⊥) × (at e.tunnels a ≡ Some t)). ⊎_elim
        (λ (z : (b ≡ i) × (u ≡ v)). absurd (only s d (subst (λ (w : Tunnel). at w.calls s ≡ Some d) (sym z.1) q) a t y.1 y.0 c p))
        (λ (z : (b ≡ i → ⊥) × (at e.tunnels b ≡ Some v)). fit.apart a t y.1 b v z.1 s c p d q)
        (found_put e.tunnels i u b v (subst (λ (ts : List (ℕ × Tunnel)). at ts b ≡ Some v) is g)))
        (found_put e.tunnels i u a t (subst (λ (ts : List (ℕ × Tunnel)). at ts a ≡ Some t) is f));
    first_tunnel = first_tunnel;
    first_session = first_session;
  }

  pub without_fits : (i : ℕ) → x.tunnels ≡ without e.tunnels i → TablesFit x
  without_fits i is =
      let was : (j : ℕ) (v : Tunnel) → at x.tunnels j ≡ Some v → at e.tunnels j ≡ Some v =
      λ j v f. (found_without e.tunnels i j v fit.order (subst (λ (ts : List (ℕ × Tunnel)). at ts j ≡ Some v) is f)).1 in
      record {
        order = subst (λ (ts : List (ℕ × Tunnel)). Ascends ts) (sym is) (ascends-without i e.tunnels fit.order);
        few = (let most = without_most e.tunnels i in let few = fit.few in let same = ap (λ (ts : List (ℕ × Tunnel)). length ts) is in omega (arith, most, few, same));
        tunnels = λ j v f. tunnel_later e x grows j v (fit.tunnels j v (was j v f));
        apart = λ a t f b v g. fit.apart a t (was a t f) b v (was b v g);
        first_tunnel = first_tunnel;
        first_session = first_session;
      }

  -- the calls of a tunnel that is there, or some of them
  pub only_in : (i : ℕ) (t u : Tunnel) → at e.tunnels i ≡ Some t → ((s : ℕ) (c : Call) → at u.calls s ≡ Some c → (d : Call) × (at t.calls s ≡ Some d)) → IsOnlyIn i u
  only_in i t u there some s c f j v g o d q = (let w = some s c f in o (fit.apart j v g i t there s d q w.0 w.1))

  -- one of them may be new
  pub only_new : (i : ℕ) (t u : Tunnel) (n : ℕ) → at e.tunnels i ≡ Some t → n ≡ e.session_ids.next
      → ((s : ℕ) (c : Call) → at u.calls s ≡ Some c → (s ≡ n) ⊎ ((d : Call) × (at t.calls s ≡ Some d))) → IsOnlyIn i u
  only_new i t u n there fresh some s c f j v g o d q = ⊎_elim
      (λ (own : s ≡ n). (let lt = ((fit.tunnels j v g).calls s d q).drawn in omega (arith, lt, own, fresh)))
      (λ (w : (d : Call) × (at t.calls s ≡ Some d)). o (fit.apart j v g i t there s d q w.0 w.1))
      (some s c f)

  pub same_few : (i : ℕ) (t u : Tunnel) → at e.tunnels i ≡ Some t → x.tunnels ≡ put e.tunnels i u → length x.tunnels ≤ 1024
  same_few i t u there is = (let same = ap (λ (ts : List (ℕ × Tunnel)). length ts) is ∙ put_there e.tunnels i u t fit.order there in let few = fit.few in omega (arith, same, few))

  pub more_few : (i : ℕ) (u : Tunnel) → length e.tunnels < 1024 → x.tunnels ≡ put e.tunnels i u → length x.tunnels ≤ 1024
  more_few i u few is = (let same = ap (λ (ts : List (ℕ × Tunnel)). length ts) is in let most = put_most e.tunnels i u in omega (arith, same, most, few))

-- the ids that are in use aren't those that are drawn next
pub fresh_tunnel : (e : End) → TablesFit e → (i : ℕ) → i ≡ e.tunnel_ids.next → at e.tunnels i ≡ None
fresh_tunnel e fit i fresh = by (at e.tunnels i) refl
  where
    by : (o : Option Tunnel) → at e.tunnels i ≡ o → o ≡ None
    by None is = refl
    by (Some t) is = absurd (let lt = (fit.tunnels i t is).drawn in omega (arith, lt, fresh))

pub fresh_call : (e : End) → TablesFit e → (i : ℕ) (t : Tunnel) → at e.tunnels i ≡ Some t → (s : ℕ) → s ≡ e.session_ids.next → at t.calls s ≡ None
fresh_call e fit i t there s fresh = by (at t.calls s) refl
  where
    by : (o : Option Call) → at t.calls s ≡ o → o ≡ None
    by None is = refl
    by (Some c) is = absurd (let lt = ((fit.tunnels i t there).calls s c is).drawn in omega (arith, lt, fresh))
