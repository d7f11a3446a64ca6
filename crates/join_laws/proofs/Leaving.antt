-- A tunnel of the machine leaves, closed or gone, and its calls end with it.
use Rattle.std.proofs.Common.{◌≡◌, ◌⊎◌, inl, inr, ⊎_elim, ℕ, ◌<◌, ◌≤◌, Bool, true, false, refl, sym, ap, ◌∙◌, subst, Option, Some, None, arith, eq-eqb, ne_eqb}
use Rattle.std.proofs.lemmas.Bool.{true≢false, cases_Bool}
use Rattle.std.proofs.lemmas.Option.{none-some}
use Rattle.std.specs.Prelude.{is_some, if◌then◌else◌, ◌==◌, not}
use Rattle.id_table.specs.Ids.{at}
use Rattle.id_table.specs.Order.{same_or_not}
use Rattle.session_book.specs.declared.record.BookCall.{BookCall}
use Rattle.session_book.specs.Books.{Kept, call_at}
use Rattle.end_model.specs.declared.tunnel.Call.{Call}
use Rattle.end_model.specs.Tunnels.{Tunnel}
use Rattle.end_model.specs.End.{End}
use Rattle.world_model.specs.World.{World, Node}
use Rattle.book_laws.specs.Books.{Mirrors}
use Rattle.epoch_machine.specs.Worlds as machine
use Rattle.epoch_machine.specs.Worlds.{leaves}
use Rattle.epoch_machine.specs.Tunnels.{Phase, left}
use Rattle.epoch_machine.specs.Calls.{CallState, NoCall, Waits, WaitsReply, WaitsConnect, Up, lives, of_tunnel, ends}
use Rattle.session_laws.specs.Names.{name}
use Rattle.session_laws.proofs.Names.{same_name}
use Rattle.channel_laws.specs.Accounts.{History}
use Rattle.recovery_laws.specs.Joined.{CallsJoined}
use Rattle.join_laws.proofs.Apart.{Elsewhere}
use Rattle.join_laws.proofs.Books.{booked}
use Rattle.join_laws.proofs.Bounds.{Bounded}
use Rattle.join_laws.proofs.Calls.{call_in, LooksLike, AreLike, like_same, SessionSame, SessionIs, Sessions, Booked, booked_live, book_bound}
use Rattle.join_laws.proofs.OneTunnel.{NameStays, CallStays}
use Rattle.join_laws.proofs.PlainOne.{RestStays}

-- ---- what the machine does

module _ (m : machine.World) (x : ℕ) (p : Phase) where
  abbrev z : machine.World
  z = leaves m x p

  pub leaves_phase : (leaves m x p).tunnels.phase x ≡ p
  unfolding leaves left
  leaves_phase = ap (λ b. if b then p else m.tunnels.phase x) (eq-eqb x x refl)

  pub leaves_booked : (leaves m x p).tunnels.booked x ≡ false
  unfolding leaves left
  leaves_booked = ap (λ b. if b then false else m.tunnels.booked x) (eq-eqb x x refl)

  pub leaves_stays : (y : ℕ) → (y ≡ x → ⊥) → NameStays m (leaves m x p) y
  unfolding leaves left
  leaves_stays y other = record {
    opener = refl;
    node = refl;
    peer = refl;
    learned = refl;
    phase = ap (λ b. if b then p else m.tunnels.phase y) (ne_eqb y x other);
    booked = ap (λ b. if b then false else m.tunnels.booked y) (ne_eqb y x other);
    entered = refl;
    entered_by = λ e. refl;
    sent = λ e. refl;
    taken = λ e. refl;
    refused = refl;
  }

  pub leaves_rest : RestStays m (leaves m x p)
  unfolding leaves left
  leaves_rest = record {
    epochs = λ y. refl;
    attempts = λ y. refl;
    answers = λ y. refl;
    answered = λ y. refl;
    makes_it = λ y. refl;
    confirmed = λ y. refl;
    giver_first = λ y. refl;
    other_first = λ y. refl;
    ups = λ y. refl;
  }

  -- what else it keeps of the tunnel
  pub record SameHere : Type 0 where
    pub opener : (leaves m x p).tunnels.opener x ≡ m.tunnels.opener x
    pub node : (y : ℕ) → (leaves m x p).tunnels.node y ≡ m.tunnels.node y
    pub peer : (leaves m x p).tunnels.peer x ≡ m.tunnels.peer x
    pub learned : (leaves m x p).tunnels.learned x ≡ m.tunnels.learned x
    pub entered : (y : ℕ) → (leaves m x p).tunnels.entered y ≡ m.tunnels.entered y
    pub epochs : (leaves m x p).tunnels.epochs x ≡ m.tunnels.epochs x
    pub entered_by : (e : ℕ) → (leaves m x p).tunnels.entered_by x e ≡ m.tunnels.entered_by x e
    pub drawn : (y : ℕ) → (leaves m x p).tunnels.drawn y ≡ m.tunnels.drawn y
    pub channels : (leaves m x p).channels ≡ m.channels

  pub leaves_here : SameHere
  unfolding leaves left
  leaves_here = record {
    opener = refl;
    node = λ y. refl;
    peer = refl;
    learned = refl;
    entered = λ y. refl;
    epochs = refl;
    entered_by = λ e. refl;
    drawn = λ y. refl;
    channels = refl;
  }

  -- ---- calls

  pub record EndsCall (y : ℕ) : Type 0 where
    pub drawn : (leaves m x p).calls.drawn y ≡ m.calls.drawn y
    pub tunnel : (leaves m x p).calls.tunnel y ≡ m.calls.tunnel y
    pub remote : (leaves m x p).calls.remote y ≡ m.calls.remote y
    pub state : (leaves m x p).calls.state y ≡ (if m.calls.tunnel y == x then NoCall else m.calls.state y)
    pub booked : (leaves m x p).calls.booked y ≡ (if m.calls.tunnel y == x then false else m.calls.booked y)
    pub birth : (leaves m x p).calls.birth y ≡ m.calls.birth y
    pub births : (leaves m x p).calls.births ≡ m.calls.births
    pub asks : (s : ℕ) → (leaves m x p).calls.asks y s ≡ m.calls.asks y s
    pub held : (f s : ℕ) → (leaves m x p).calls.held y f s ≡ m.calls.held y f s

  pub ends_call : (y : ℕ) → EndsCall y
  unfolding leaves «ends»
  ends_call y = record {
    drawn = refl;
    tunnel = refl;
    remote = refl;
    state = refl;
    booked = refl;
    birth = refl;
    births = refl;
    asks = λ s. refl;
    held = λ f s. refl;
  }

  -- a call of the tunnel's ends
  pub own_state : (y : ℕ) → m.calls.tunnel y ≡ x → (leaves m x p).calls.state y ≡ NoCall
  own_state y own = (ends_call y).state ∙ ap (λ b. if b then NoCall else m.calls.state y) (eq-eqb (m.calls.tunnel y) x own)

  pub own_booked : (y : ℕ) → m.calls.tunnel y ≡ x → (leaves m x p).calls.booked y ≡ false
  own_booked y own = (ends_call y).booked ∙ ap (λ b. if b then false else m.calls.booked y) (eq-eqb (m.calls.tunnel y) x own)

  -- another one stays
  pub other_stays : (y : ℕ) → (m.calls.tunnel y ≡ x → ⊥) → CallStays m (leaves m x p) y
  other_stays y other =
      let e = ends_call y in
      record {
        drawn = e.drawn;
        tunnel = e.tunnel;
        state = e.state ∙ ap (λ b. if b then NoCall else m.calls.state y) (ne_eqb (m.calls.tunnel y) x other);
        remote = e.remote;
        booked = e.booked ∙ ap (λ b. if b then false else m.calls.booked y) (ne_eqb (m.calls.tunnel y) x other);
      }

  not_live : (s : CallState) → (lives s ≡ true → ⊥) → s ≡ NoCall
  not_live NoCall none = refl
  not_live Waits none = absurd (none refl)
  not_live WaitsReply none = absurd (none refl)
  not_live WaitsConnect none = absurd (none refl)
  not_live Up none = absurd (none refl)

  not_true : (b : Bool) → (b ≡ true → ⊥) → b ≡ false
  not_true true none = absurd (none refl)
  not_true false none = refl

  -- so does one that is elsewhere where it lives or is booked
  pub elsewhere_stays : (y : ℕ) → Elsewhere m y x → CallStays m (leaves m x p) y
  elsewhere_stays y o = ⊎_elim
      (λ (own : m.calls.tunnel y ≡ x).
      let e = ends_call y in
      record {
        drawn = e.drawn;
        tunnel = e.tunnel;
        state = own_state y own ∙ sym (not_live (m.calls.state y) (λ live. o.live live own));
        remote = e.remote;
        booked = own_booked y own ∙ sym (not_true (m.calls.booked y) (λ booked. o.booked booked own));
      })
      (λ other. other_stays y other)
      (same_or_not (m.calls.tunnel y) x)

-- ---- the calls of the node whose tunnel leaves

module _ (node : Node) (x : End) (k b : Kept) (m : machine.World) (h g : History) (n i : ℕ) (p : Phase) (t : Tunnel) (fits : i < 65536)
    (old : Mirrors node.end k) (new : Mirrors x b) (bounded : Bounded x) (before : Bounded node.end)
    (peers : (j : ℕ) → (g.accounts n j 0).peer ≡ (h.accounts n j 0).peer) (rises : x.session_ids ≡ node.end.session_ids)
    (at_t : at node.end.tunnels i ≡ Some t) (none : (q : ℕ) → call_in (at x.tunnels i) q ≡ None)
    (others : (j : ℕ) → (j ≡ i → ⊥) → at x.tunnels j ≡ at node.end.tunnels j)
    (was : CallsJoined m h n (booked node k)) where
  abbrev X : ℕ
  X = name n i

  abbrev gone : machine.World
  gone = leaves m (name n i) p

  -- a call of the end behind the move isn't the tunnel's
  not_own : (j : ℕ) (u : Tunnel) → at x.tunnels j ≡ Some u → (q : ℕ) (c : Call) → at u.calls q ≡ Some c → m.calls.tunnel (name n q) ≡ X → ⊥
  not_own j u there q c live own = ⊎_elim
      (λ (e : j ≡ i).
      none-some c (sym (none q) ∙ (ap (λ y. call_in y q) (subst (λ y. at x.tunnels y ≡ Some u) e there) ∙ live)))
      (λ o.
      let at_u = sym (others j o) ∙ there in
      o (same_name n j n i (before.tunnels j u at_u) fits (sym (was.live j u at_u q c live).tunnel ∙ own)).1)
      (same_or_not j i)

  own_session : (q : ℕ) → q < 65536 → m.calls.tunnel (name n q) ≡ X → SessionIs x b gone g n q
  own_session q qfits own = record {
    live = λ j u there c live. absurd (not_own j u there q c live own);
    gone = λ nothing. own_state m X p (name n q) own;
    kept = λ c has. absurd (in_book c has);
    booked = own_booked m X p (name n q) own ∙ by (call_at b q) refl;
    home = λ live. absurd (true≢false (sym live ∙ ap lives (own_state m X p (name n q) own)));
    undrawn = λ le. (ends_call m X p (name n q)).drawn ∙ was.undrawn q (subst (λ s. s.next ≤ q) rises le) qfits;
  }
    where
      in_book : (c : BookCall) → call_at b q ≡ Some c → ⊥
      in_book c has = let f = booked_live x b new q c has in not_own c.tunnel f.tunnel f.there q f.call f.live own

      by : (o : Option BookCall) → call_at b q ≡ o → false ≡ is_some o
      by None is = refl
      by (Some c) is = absurd (in_book c is)

  other_like : (q : ℕ) → (m.calls.tunnel (name n q) ≡ X → ⊥) → AreLike node.end x q
  other_like q other j = ⊎_elim
      (λ (e : j ≡ i).
      subst (λ y. LooksLike (call_in (at node.end.tunnels y) q) (call_in (at x.tunnels y) q)) (sym e)
      (subst (λ y. LooksLike (call_in (at node.end.tunnels i) q) y) (sym (none q))
      (subst (λ y. LooksLike (call_in y q) None) (sym at_t) (by (at t.calls q) refl))))
      (λ o. like_same (call_in (at node.end.tunnels j) q) (call_in (at x.tunnels j) q) (ap (λ y. call_in y q) (others j o)))
      (same_or_not j i)
    where
      by : (f : Option Call) → at t.calls q ≡ f → LooksLike f None
      by None is = tt
      by (Some c) is = absurd (other (was.live i t at_t q c is).tunnel)

  pub left_sessions : Sessions node x k b m gone h g n
  left_sessions = record {
    old = old;
    new = new;
    bounded = bounded;
    peers = peers;
    nodes = λ y is. (leaves_here m X p).node y ∙ is;
    rises = (let e = ap (λ s. s.next) rises in omega (arith, e));
    zero = (ends_call m X p (name n 0)).drawn;
    each = λ q qfits. ⊎_elim
        (λ (own : m.calls.tunnel (name n q) ≡ X). inr (own_session q qfits own))
        (λ other. inl (record { like = other_like q other; stays = other_stays m X p (name n q) other }))
        (same_or_not (m.calls.tunnel (name n q)) X);
  }
