-- One session of a node changes, in one of its tunnels: it has a call there, or none any more. All others are as they were.
use Rattle.std.proofs.Common.{◌≡◌, ◌⊎◌, inl, inr, ⊎_elim, ℕ, ◌<◌, ◌≤◌, Bool, true, false, refl, sym, ap, ◌∙◌, subst, Option, Some, None, arith}
use Rattle.std.proofs.lemmas.Bool.{true≢false}
use Rattle.std.proofs.lemmas.Option.{none-some, same_Some}
use Rattle.std.specs.Prelude.{is_some}
use Rattle.id_table.specs.Ids.{at}
use Rattle.id_table.specs.Order.{same_or_not}
use Rattle.session_book.specs.declared.record.BookCall.{BookCall}
use Rattle.session_book.specs.Books.{Kept, call_at}
use Rattle.end_model.specs.declared.tunnel.Call.{Call}
use Rattle.end_model.specs.Calls.{is_up}
use Rattle.end_model.specs.Tunnels.{Tunnel}
use Rattle.end_model.specs.End.{End}
use Rattle.world_model.specs.World.{Node}
use Rattle.book_laws.specs.Books.{Mirrors, TablesFit}
use Rattle.epoch_machine.specs.Worlds as machine
use Rattle.epoch_machine.specs.Calls.{NoCall, lives}
use Rattle.session_laws.specs.Names.{name, name_of}
use Rattle.session_laws.proofs.Names.{other_id}
use Rattle.channel_laws.specs.Accounts.{History}
use Rattle.recovery_laws.specs.Joined.{CallJoined, BookCallJoined, CallsJoined}
use Rattle.join_laws.proofs.Bounds.{Bounded}
use Rattle.join_laws.proofs.Calls.{LooksLike, AreLike, like_in, SessionSame, SessionIs, Sessions, booked_live, live_booked}
use Rattle.join_laws.proofs.OneTunnel.{CallStays}

-- ---- a call that is there

-- of a session that one tunnel has, and no other
pub record HasCall (x : End) (b : Kept) (z : machine.World) (g : History) (n i s : ℕ) (r : Tunnel) (c : Call) : Type 0 where
  pub new : Mirrors x b
  pub at_r : at x.tunnels i ≡ Some r
  pub call : at r.calls s ≡ Some c
  pub alone : (j : ℕ) (u : Tunnel) → (j ≡ i → ⊥) → at x.tunnels j ≡ Some u → at u.calls s ≡ None
  pub joined : CallJoined z n i (g.accounts n i 0).peer s c
  pub booked : z.calls.booked (name n s) ≡ is_up c.state
  pub node : z.tunnels.node (name n i) ≡ n
  pub below : s < x.session_ids.next

module _ (x : End) (b : Kept) (z : machine.World) (g : History) (n i s : ℕ) (r : Tunnel) (c : Call) (o : HasCall x b z g n i s r c) where
  -- where it is
  record Found (j : ℕ) (d : Call) : Type 0 where
    tunnel : j ≡ i
    call : d ≡ c

  found : (j : ℕ) (u : Tunnel) → at x.tunnels j ≡ Some u → (d : Call) → at u.calls s ≡ Some d → Found j d
  found j u there d live = ⊎_elim
      (λ (e : j ≡ i).
      let same : u ≡ r = same_Some u r (sym there ∙ (ap (λ y. at x.tunnels y) e ∙ o.at_r)) in
      record {
        tunnel = e;
        call = same_Some d c (sym live ∙ (ap (λ (y : Tunnel). at y.calls s) same ∙ o.call));
      })
      (λ other. absurd (none-some d (sym (o.alone j u other there) ∙ live)))
      (same_or_not j i)

  live : (j : ℕ) (u : Tunnel) → at x.tunnels j ≡ Some u → (d : Call) → at u.calls s ≡ Some d → CallJoined z n j (g.accounts n j 0).peer s d
  live j u there d is =
      let f = found j u there d is in
      subst (λ y. CallJoined z n y (g.accounts n y 0).peer s d) (sym f.tunnel)
      (subst (λ y. CallJoined z n i (g.accounts n i 0).peer s y) (sym f.call) o.joined)

  in_book : (u : Bool) → is_up c.state ≡ u → u ≡ is_some (call_at b s)
  in_book true up = sym (ap (λ y. is_some y) (live_booked x b o.new i s r c o.at_r o.call up))
  in_book false down = by (call_at b s) refl
    where
      by : (y : Option BookCall) → call_at b s ≡ y → false ≡ is_some y
      by None is = refl
      by (Some d) is =
          let f = booked_live x b o.new s d is in
          let e = found d.tunnel f.tunnel f.there f.call f.live in
          absurd (true≢false (sym f.up ∙ (ap (λ (y : Call). is_up y.state) e.call ∙ down)))

  pub has_session : SessionIs x b z g n s
  has_session = record {
    live = live;
    gone = λ none. absurd (none-some c (sym (none i r o.at_r) ∙ o.call));
    kept = λ d has.
        (let f = booked_live x b o.new s d has in
        let p = live d.tunnel f.tunnel f.there f.call f.live in
        record { tunnel = p.tunnel; remote = p.remote ∙ ap (name_of (g.accounts n d.tunnel 0).peer) f.remote });
    booked = o.booked ∙ in_book (is_up c.state) refl;
    home = λ lives_on. ap (λ y. z.tunnels.node y) o.joined.tunnel ∙ o.node;
    undrawn = λ le. (let lt = o.below in absurd (omega (arith, lt, le)));
  }

-- ---- a call that is gone

pub record HasNone (x : End) (b : Kept) (z : machine.World) (n s : ℕ) : Type 0 where
  pub new : Mirrors x b
  pub none : (j : ℕ) (u : Tunnel) → at x.tunnels j ≡ Some u → at u.calls s ≡ None
  pub state : z.calls.state (name n s) ≡ NoCall
  pub booked : z.calls.booked (name n s) ≡ false
  pub undrawn : x.session_ids.next ≤ s → z.calls.drawn (name n s) ≡ false

pub gone_session : (x : End) (b : Kept) (z : machine.World) (g : History) (n s : ℕ) → HasNone x b z n s → SessionIs x b z g n s
gone_session x b z g n s o = record {
  live = λ j u there d live. absurd (none-some d (sym (o.none j u there) ∙ live));
  gone = λ none. o.state;
  kept = λ d has. (let f = booked_live x b o.new s d has in absurd (none-some f.call (sym (o.none d.tunnel f.tunnel f.there) ∙ f.live)));
  booked = o.booked ∙ by (call_at b s) refl;
  home = λ live. absurd (true≢false (sym live ∙ ap lives o.state));
  undrawn = o.undrawn;
}
  where
    by : (y : Option BookCall) → call_at b s ≡ y → false ≡ is_some y
    by None is = refl
    by (Some d) is = let f = booked_live x b o.new s d is in absurd (none-some f.call (sym (o.none d.tunnel f.tunnel f.there) ∙ f.live))

-- ---- one session of a tunnel

-- no other tunnel of an end has a session that one has
pub alone_in : (e : End) → TablesFit e → (i s : ℕ) (t : Tunnel) (c : Call) → at e.tunnels i ≡ Some t → at t.calls s ≡ Some c
    → (j : ℕ) (u : Tunnel) → (j ≡ i → ⊥) → at e.tunnels j ≡ Some u → at u.calls s ≡ None
alone_in e fit i s t c there live j u other at_u = by (at u.calls s) refl
  where
    by : (y : Option Call) → at u.calls s ≡ y → y ≡ None
    by None is = refl
    by (Some d) is = absurd (other (sym (fit.apart i t there j u at_u s c live d is)))

-- and none has one that isn't drawn yet
pub undrawn_in : (e : End) → TablesFit e → (s : ℕ) → e.session_ids.next ≤ s → (j : ℕ) (u : Tunnel) → at e.tunnels j ≡ Some u
    → at u.calls s ≡ None
undrawn_in e fit s le j u at_u = by (at u.calls s) refl
  where
    by : (y : Option Call) → at u.calls s ≡ y → y ≡ None
    by None is = refl
    by (Some d) is = let lt = ((fit.tunnels j u at_u).calls s d is).drawn in absurd (omega (arith, lt, le))

-- the sessions of a node of which one changes
pub record OneSession (node : Node) (x : End) (k b : Kept) (m z : machine.World) (h g : History) (n i s : ℕ) (t r : Tunnel) : Type 0 where
  pub old : Mirrors node.end k
  pub new : Mirrors x b
  pub bounded : Bounded x
  pub peers : (j : ℕ) → (g.accounts n j 0).peer ≡ (h.accounts n j 0).peer
  pub nodes : (y : ℕ) → m.tunnels.node y ≡ n → z.tunnels.node y ≡ n
  pub rises : node.end.session_ids.next ≤ x.session_ids.next
  pub at_t : at node.end.tunnels i ≡ Some t
  pub at_r : at x.tunnels i ≡ Some r
  pub others : (j : ℕ) → (j ≡ i → ⊥) → at x.tunnels j ≡ at node.end.tunnels j
  pub some : 0 < s
  pub stays : (y : ℕ) → (y ≡ name n s → ⊥) → CallStays m z y
  pub calls : (q : ℕ) → (q ≡ s → ⊥) → LooksLike (at t.calls q) (at r.calls q)
  pub this : SessionIs x b z g n s

pub one_session : (node : Node) (x : End) (k b : Kept) (m z : machine.World) (h g : History) (n i s : ℕ) (t r : Tunnel)
    → OneSession node x k b m z h g n i s t r → Sessions node x k b m z h g n
one_session node x k b m z h g n i s t r o = record {
  old = o.old;
  new = o.new;
  bounded = o.bounded;
  peers = o.peers;
  nodes = o.nodes;
  rises = o.rises;
  zero = (o.stays (name n 0) (other_id n 0 s (λ none. (let lt = o.some in let no : ⊥ = omega (arith, lt, none) in no)))).drawn;
  each = λ q fits. ⊎_elim
      (λ (e : q ≡ s). inr (subst (λ y. SessionIs x b z g n y) (sym e) o.this))
      (λ other. inl (record {
        like = like_in node.end x i t r q o.at_t o.at_r o.others (o.calls q other);
        stays = o.stays (name n q) (other_id n q s other);
      }))
      (same_or_not q s);
}
