-- The calls of a node are joined again behind a move of it, where each session either looks as it did, in the end and in the machine, or
-- is said to
-- be joined.
use Rattle.std.proofs.Common.{◌≡◌, ◌⊎◌, inl, inr, ⊎_elim, ℕ, ◌<◌, ◌≤◌, Bool, true, false, refl, sym, ap, ◌∙◌, subst, Option, Some, None, arith}
use Rattle.std.proofs.lemmas.Option.{none-some, same_Some}
use Rattle.std.specs.Prelude.{is_some, if◌then◌else◌}
use Rattle.id_source.specs.Spaces.{Space}
use Rattle.id_table.specs.Ids.{at}
use Rattle.id_table.specs.Order.{same_or_not}
use Rattle.session_book.specs.declared.record.BookCall.{BookCall}
use Rattle.session_book.specs.Books.{Kept, call_at}
use Rattle.end_model.specs.declared.tunnel.Call.{Call}
use Rattle.end_model.specs.Calls.{is_up}
use Rattle.end_model.specs.Tunnels.{Tunnel}
use Rattle.end_model.specs.End.{End}
use Rattle.world_model.specs.World.{Node}
use Rattle.book_laws.specs.Books.{booked_call, call_record, record_in, Mirrors}
use Rattle.epoch_machine.specs.Worlds as machine
use Rattle.epoch_machine.specs.Tunnels.{Tunnels}
use Rattle.epoch_machine.specs.Calls.{Calls, NoCall, lives}
use Rattle.session_laws.specs.Names.{name, name_of, state_of}
use Rattle.channel_laws.specs.Accounts.{History}
use Rattle.recovery_laws.specs.Joined.{CallJoined, BookCallJoined, HasNoCall, CallsJoined}
use Rattle.join_laws.proofs.Books.{booked}
use Rattle.join_laws.proofs.Ahead.{left}
use Rattle.join_laws.proofs.Bounds.{Bounded}
use Rattle.join_laws.proofs.OneTunnel.{CallStays}

-- ---- calls

-- the call of a session in a tunnel
abbrev pub call_in : Option Tunnel → ℕ → Option Call
call_in None q = None
call_in (Some t) q = at t.calls q

-- it looks as it did: it is in the same state, and knows the same session of its peer's
abbrev pub LooksLike : Option Call → Option Call → Type 0
LooksLike None None = Unit {0}
LooksLike None (Some d) = ⊥
LooksLike (Some c) None = ⊥
LooksLike (Some c) (Some d) = (d.state ≡ c.state) × (d.remote ≡ c.remote)

pub like_same : (o p : Option Call) → p ≡ o → LooksLike o p
like_same o p same = subst (LooksLike o) (sym same) (by o)
  where
    by : (o : Option Call) → LooksLike o o
    by None = tt
    by (Some c) = (refl, refl)

-- so does a session in each tunnel
abbrev pub AreLike : End → End → ℕ → Type 0
AreLike e x q = (j : ℕ) → LooksLike (call_in (at e.tunnels j) q) (call_in (at x.tunnels j) q)

like_back : (o p : Option Call) → LooksLike o p → LooksLike p o
like_back None None l = tt
like_back None (Some d) l = absurd l
like_back (Some c) None l = absurd l
like_back (Some c) (Some d) l = (sym l.0, sym l.1)

-- ---- calls of a book

-- a call of an end's book is live in the end, and established
pub record Booked (e : End) (q : ℕ) (c : BookCall) : Type 0 where
  pub tunnel : Tunnel
  pub there : at e.tunnels c.tunnel ≡ Some tunnel
  pub call : Call
  pub live : at tunnel.calls q ≡ Some call
  pub up : is_up call.state ≡ true
  pub remote : call.remote ≡ c.remote

pub booked_live : (e : End) (k : Kept) → Mirrors e k → (q : ℕ) (c : BookCall) → call_at k q ≡ Some c → Booked e q c
booked_live e k mirrors q c has = by (at e.tunnels c.tunnel) refl (mirrors.calls q c has)
  where
    by_up : (t : Tunnel) → at e.tunnels c.tunnel ≡ Some t → (call : Call) → at t.calls q ≡ Some call → (u : Bool) → is_up call.state ≡ u
        → (if u then Some (booked_call c.tunnel q call) else None) ≡ Some c → Booked e q c
    by_up t there call live true up some = record {
      tunnel = t;
      there = there;
      call = call;
      live = live;
      up = up;
      remote = ap (λ (b : BookCall). b.remote) (same_Some (booked_call c.tunnel q call) c some);
    }
    by_up t there call live false up some = absurd (none-some c some)

    by_call : (t : Tunnel) → at e.tunnels c.tunnel ≡ Some t → (f : Option Call) → at t.calls q ≡ f
        → call_record c.tunnel q f ≡ Some c → Booked e q c
    by_call t there None is some = absurd (none-some c some)
    by_call t there (Some call) is some = by_up t there call is (is_up call.state) refl some

    by : (f : Option Tunnel) → at e.tunnels c.tunnel ≡ f → record_in c.tunnel q f ≡ Some c → Booked e q c
    by None is some = absurd (none-some c some)
    by (Some t) is some = by_call t is (at t.calls q) refl some

-- and an established call is in the book
pub live_booked : (e : End) (k : Kept) → Mirrors e k → (j q : ℕ) (t : Tunnel) (c : Call) → at e.tunnels j ≡ Some t → at t.calls q ≡ Some c
    → is_up c.state ≡ true → call_at k q ≡ Some (booked_call j q c)
live_booked e k mirrors j q t c there live up =
    mirrors.all_calls j q (booked_call j q c)
    (ap (record_in j q) there ∙ (ap (call_record j q) live ∙ ap (λ u. if u then Some (booked_call j q c) else None) up))

pub book_bound : (e : End) (k : Kept) → Mirrors e k → Bounded e → (q : ℕ) (c : BookCall) → call_at k q ≡ Some c → q < 65536
book_bound e k mirrors bounded q c has = let f = booked_live e k mirrors q c has in bounded.sessions c.tunnel f.tunnel f.there q f.call
    f.live

-- ---- one session in two books

-- both have none, or each a call of the same tunnel, which knows the same session
abbrev pub BookLike : Option BookCall → Option BookCall → Type 0
BookLike None None = Unit {0}
BookLike None (Some d) = ⊥
BookLike (Some c) None = ⊥
BookLike (Some c) (Some d) = (d.tunnel ≡ c.tunnel) × (d.remote ≡ c.remote)

-- what the one has the other has
record Again (b : Kept) (q : ℕ) (c : BookCall) : Type 0 where
  call : BookCall
  has : call_at b q ≡ Some call
  tunnel : call.tunnel ≡ c.tunnel
  remote : call.remote ≡ c.remote

again : (e x : End) (k b : Kept) → Mirrors e k → Mirrors x b → (q : ℕ)
    → ((j : ℕ) → LooksLike (call_in (at e.tunnels j) q) (call_in (at x.tunnels j) q)) → (c : BookCall) → call_at k q ≡ Some c → Again b q c
again e x k b old new q like c has = by (at x.tunnels c.tunnel) refl (subst (λ o. LooksLike o (call_in (at x.tunnels c.tunnel) q)) was
    (like c.tunnel))
  where
    f : Booked e q c
    f = booked_live e k old q c has

    was : call_in (at e.tunnels c.tunnel) q ≡ Some f.call
    was = ap (λ o. call_in o q) f.there ∙ f.live

    by_call : (t : Tunnel) → at x.tunnels c.tunnel ≡ Some t → (o : Option Call) → at t.calls q ≡ o → LooksLike (Some f.call) o → Again b q c
    by_call t there None is l = absurd l
    by_call t there (Some d) is l = record {
      call = booked_call c.tunnel q d;
      has = live_booked x b new c.tunnel q t d there is (ap is_up l.0 ∙ f.up);
      tunnel = refl;
      remote = l.1 ∙ f.remote;
    }

    by : (o : Option Tunnel) → at x.tunnels c.tunnel ≡ o → LooksLike (Some f.call) (call_in (at x.tunnels c.tunnel) q) → Again b q c
    by None is l = absurd (subst (λ o. LooksLike (Some f.call) (call_in o q)) is l)
    by (Some t) is l = by_call t is (at t.calls q) refl (subst (λ o. LooksLike (Some f.call) (call_in o q)) is l)

pub same_session : (e x : End) (k b : Kept) → Mirrors e k → Mirrors x b → (q : ℕ) → AreLike e x q → BookLike (call_at k q) (call_at b q)
same_session e x k b old new q like = by (call_at k q) (call_at b q) refl refl
  where
    by : (o p : Option BookCall) → call_at k q ≡ o → call_at b q ≡ p → BookLike o p
    by None None is so = tt
    by (Some c) None is so = let f = again e x k b old new q like c is in absurd (none-some f.call (sym so ∙ f.has))
    by None (Some d) is so =
        let f = again x e b k new old q (λ j. like_back (call_in (at e.tunnels j) q) (call_in (at x.tunnels j) q) (like j)) d so in
        absurd (none-some f.call (sym is ∙ f.has))
    by (Some c) (Some d) is so =
        let f = again e x k b old new q like c is in
        let same : f.call ≡ d = same_Some f.call d (sym f.has ∙ so) in
        (ap (λ (y : BookCall). y.tunnel) (sym same) ∙ f.tunnel, ap (λ (y : BookCall). y.remote) (sym same) ∙ f.remote)

like_some : (o p : Option BookCall) → BookLike o p → is_some p ≡ is_some o
like_some None None l = refl
like_some None (Some d) l = absurd l
like_some (Some c) None l = absurd l
like_some (Some c) (Some d) l = refl

-- ---- sessions

pub record SessionSame (e x : End) (m z : machine.World) (n q : ℕ) : Type 0 where
  pub like : AreLike e x q
  pub stays : CallStays m z (name n q)

-- or it is said to be joined
pub record SessionIs (x : End) (b : Kept) (z : machine.World) (g : History) (n q : ℕ) : Type 0 where
  pub live : (j : ℕ) (t : Tunnel) → at x.tunnels j ≡ Some t → (c : Call) → at t.calls q ≡ Some c
      → CallJoined z n j (g.accounts n j 0).peer q c
  pub gone : ((j : ℕ) (t : Tunnel) → at x.tunnels j ≡ Some t → at t.calls q ≡ None) → z.calls.state (name n q) ≡ NoCall
  pub kept : (c : BookCall) → call_at b q ≡ Some c → BookCallJoined z g n q c
  pub booked : z.calls.booked (name n q) ≡ is_some (call_at b q)
  pub home : lives (z.calls.state (name n q)) ≡ true → z.tunnels.node (z.calls.tunnel (name n q)) ≡ n
  pub undrawn : x.session_ids.next ≤ q → z.calls.drawn (name n q) ≡ false

-- all of them
pub record Sessions (node : Node) (x : End) (k b : Kept) (m z : machine.World) (h g : History) (n : ℕ) : Type 0 where
  pub old : Mirrors node.end k
  pub new : Mirrors x b
  pub bounded : Bounded x
  pub peers : (j : ℕ) → (g.accounts n j 0).peer ≡ (h.accounts n j 0).peer
  pub nodes : (y : ℕ) → m.tunnels.node y ≡ n → z.tunnels.node y ≡ n
  pub rises : node.end.session_ids.next ≤ x.session_ids.next
  pub zero : z.calls.drawn (name n 0) ≡ m.calls.drawn (name n 0)
  pub each : (q : ℕ) → q < 65536 → SessionSame node.end x m z n q ⊎ SessionIs x b z g n q

module _ (node : Node) (x : End) (k b : Kept) (m z : machine.World) (h g : History) (n : ℕ) (o : Sessions node x k b m z h g n)
    (was : CallsJoined m h n (booked node k)) where
  -- a live call that looks as one did
  record Was (j q : ℕ) (c : Call) : Type 0 where
    tunnel : Tunnel
    there : at node.end.tunnels j ≡ Some tunnel
    call : Call
    live : at tunnel.calls q ≡ Some call
    state : c.state ≡ call.state
    remote : c.remote ≡ call.remote

  was_there : (j q : ℕ) (c : Call) (f : Option Tunnel) → at node.end.tunnels j ≡ f → LooksLike (call_in f q) (Some c) → Was j q c
  was_there j q c None is l = absurd l
  was_there j q c (Some t) is l = by (at t.calls q) refl l
    where
      by : (y : Option Call) → at t.calls q ≡ y → LooksLike y (Some c) → Was j q c
      by None live l = absurd l
      by (Some call) live l = record { tunnel = t; there = is; call = call; live = live; state = l.0; remote = l.1 }

  live : (j : ℕ) (t : Tunnel) → at x.tunnels j ≡ Some t → (q : ℕ) (c : Call) → at t.calls q ≡ Some c
      → CallJoined z n j (g.accounts n j 0).peer q c
  live j t there q c at_c = ⊎_elim
      (λ (s : SessionSame node.end x m z n q).
      let f = was_there j q c (at node.end.tunnels j) refl
      (subst (λ y. LooksLike (call_in (at node.end.tunnels j) q) y) (ap (λ y. call_in y q) there ∙ at_c) (s.like j)) in
      let p = was.live j f.tunnel f.there q f.call f.live in
      record {
        some = p.some;
        state = s.stays.state ∙ (p.state ∙ ap state_of (sym f.state));
        tunnel = s.stays.tunnel ∙ p.tunnel;
        remote = s.stays.remote ∙ (p.remote ∙ (ap (λ y. name_of y f.call.remote) (sym (o.peers j))
            ∙ ap (name_of (g.accounts n j 0).peer) (sym f.remote)));
      })
      (λ (s : SessionIs x b z g n q). s.live j t there c at_c)
      (o.each q (o.bounded.sessions j t there q c at_c))

  none_before : (q : ℕ) → AreLike node.end x q → HasNoCall (left node x b) q → HasNoCall (booked node k) q
  none_before q like none j t there =
      by_call (at t.calls q) refl (at x.tunnels j) refl (subst (λ o. LooksLike (call_in o q) (call_in (at x.tunnels j) q)) there (like j))
    where
      by_call : (y : Option Call) → at t.calls q ≡ y → (f : Option Tunnel) → at x.tunnels j ≡ f
          → LooksLike (at t.calls q) (call_in (at x.tunnels j) q) → at t.calls q ≡ None
      by_call None is f so l = is
      by_call (Some c) is None so l =
          absurd (subst (λ y. LooksLike y (call_in None q)) is (subst (λ f. LooksLike (at t.calls q) (call_in f q)) so l))
      by_call (Some c) is (Some r) so l =
          absurd (subst (λ y. LooksLike (Some c) y) (none j r so)
          (subst (λ y. LooksLike y (at r.calls q)) is (subst (λ f. LooksLike (at t.calls q) (call_in f q)) so l)))

  kept : (q : ℕ) (c : BookCall) → call_at b q ≡ Some c → BookCallJoined z g n q c
  kept q c has = ⊎_elim
      (λ (s : SessionSame node.end x m z n q).
      by s (call_at k q) refl (subst (λ y. BookLike (call_at k q) y) has (same_session node.end x k b o.old o.new q s.like)))
      (λ (s : SessionIs x b z g n q). s.kept c has)
      (o.each q (book_bound x b o.new o.bounded q c has))
    where
      by : SessionSame node.end x m z n q → (y : Option BookCall) → call_at k q ≡ y → BookLike (call_at k q) (Some c)
          → BookCallJoined z g n q c
      by s None is l = absurd (subst (λ y. BookLike y (Some c)) is l)
      by s (Some d) is l =
          let like : BookLike (Some d) (Some c) = subst (λ y. BookLike y (Some c)) is l in
          let p = was.kept q d is in
          record {
            tunnel = s.stays.tunnel ∙ (p.tunnel ∙ ap (name n) (sym like.0));
            remote = s.stays.remote
                ∙ (p.remote ∙ (ap (λ y. name_of (h.accounts n y 0).peer d.remote) (sym like.0)
                ∙ (ap (λ y. name_of y d.remote) (sym (o.peers c.tunnel)) ∙ ap (name_of (g.accounts n c.tunnel 0).peer) (sym like.1))));
          }

  pub sessions_joined : CallsJoined z g n (left node x b)
  sessions_joined = record {
    live = live;
    gone = λ q fits none. ⊎_elim
        (λ (s : SessionSame node.end x m z n q). s.stays.state ∙ was.gone q fits (none_before q s.like none))
        (λ (s : SessionIs x b z g n q). s.gone none)
        (o.each q fits);
    kept = kept;
    booked = λ q fits. ⊎_elim
        (λ (s : SessionSame node.end x m z n q).
        s.stays.booked
        ∙ (was.booked q fits ∙ sym (like_some (call_at k q) (call_at b q) (same_session node.end x k b o.old o.new q s.like))))
        (λ (s : SessionIs x b z g n q). s.booked)
        (o.each q fits);
    home = λ q fits lives_on. ⊎_elim
        (λ (s : SessionSame node.end x m z n q).
        ap (λ y. z.tunnels.node y) s.stays.tunnel ∙ o.nodes (m.calls.tunnel (name n q)) (was.home q fits (ap lives (sym s.stays.state)
        ∙ lives_on)))
        (λ (s : SessionIs x b z g n q). s.home lives_on)
        (o.each q fits);
    undrawn = λ q le fits. ⊎_elim
        (λ (s : SessionSame node.end x m z n q). s.stays.drawn ∙ was.undrawn q (let up = o.rises in omega (arith, le, up)) fits)
        (λ (s : SessionIs x b z g n q). s.undrawn le)
        (o.each q fits);
    zero = o.zero ∙ was.zero;
  }

-- ---- no session changes

pub same_stays : (m z : machine.World) (y : ℕ) → z.calls ≡ m.calls → CallStays m z y
same_stays m z y same = record {
  drawn = ap (λ (c : Calls). c.drawn y) same;
  tunnel = ap (λ (c : Calls). c.tunnel y) same;
  state = ap (λ (c : Calls). c.state y) same;
  remote = ap (λ (c : Calls). c.remote y) same;
  booked = ap (λ (c : Calls). c.booked y) same;
}

-- a session looks so in one tunnel as it did, and all others are as they were
pub like_in : (e x : End) (i : ℕ) (t r : Tunnel) (q : ℕ) → at e.tunnels i ≡ Some t → at x.tunnels i ≡ Some r
    → ((j : ℕ) → (j ≡ i → ⊥) → at x.tunnels j ≡ at e.tunnels j) → LooksLike (at t.calls q) (at r.calls q) → AreLike e x q
like_in e x i t r q at_t at_r others like j = ⊎_elim
    (λ (p : j ≡ i).
    subst (λ y. LooksLike (call_in (at e.tunnels y) q) (call_in (at x.tunnels y) q)) (sym p)
    (subst (λ y. LooksLike (call_in y q) (call_in (at x.tunnels i) q)) (sym at_t) (subst (λ y. LooksLike (at t.calls q) (call_in y q))
    (sym at_r) like)))
    (λ o. like_same (call_in (at e.tunnels j) q) (call_in (at x.tunnels j) q) (ap (λ y. call_in y q) (others j o)))
    (same_or_not j i)

-- so all sessions are as they were where neither the end's calls nor the machine's change
module _ (node : Node) (x : End) (k b : Kept) (m z : machine.World) (h g : History) (n : ℕ) (old : Mirrors node.end k) (new : Mirrors x b)
    (bounded : Bounded x) (peers : (j : ℕ) → (g.accounts n j 0).peer ≡ (h.accounts n j 0).peer) (calls : z.calls ≡ m.calls)
    (tunnels : z.tunnels ≡ m.tunnels) (ids : x.session_ids ≡ node.end.session_ids) (like : (q : ℕ) → AreLike node.end x q) where
  pub unchanged : Sessions node x k b m z h g n
  unchanged = record {
    old = old;
    new = new;
    bounded = bounded;
    peers = peers;
    nodes = λ y is. ap (λ (T : Tunnels). T.node y) tunnels ∙ is;
    rises = (let e = ap (λ (s : Space). s.next) ids in omega (arith, e));
    zero = ap (λ (c : Calls). c.drawn (name n 0)) calls;
    each = λ q fits. inl (record { like = like q; stays = same_stays m z (name n q) calls });
  }
