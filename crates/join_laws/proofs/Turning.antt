-- One call of a tunnel goes on, or ends, and so does the machine's: all other calls are as they were, and no birth is given.
use Rattle.std.proofs.Common.{◌≡◌, ◌⊎◌, inl, inr, ⊎_elim, ℕ, ◌<◌, ◌≤◌, Bool, true, false, refl, sym, ap, ap₂, ◌∙◌, subst, Option, Some, None, arith, eq-eqb, ne_eqb}
use Rattle.std.proofs.lemmas.Bool.{true≢false}
use Rattle.std.proofs.lemmas.Option.{none-some, same_Some}
use Rattle.std.specs.Prelude.{is_some, if◌then◌else◌}
use Rattle.id_source.specs.Spaces.{Space}
use Rattle.id_table.specs.Ids.{at}
use Rattle.id_table.specs.Order.{same_or_not}
use Rattle.session_book.specs.declared.record.BookCall.{BookCall}
use Rattle.session_book.specs.Books.{Kept, call_at}
use Rattle.call_fsm.specs.declared.table.CallState.{CallState}
use Rattle.call_fsm.specs.declared.table.CallState.TheVariants as call
use Rattle.end_names.specs.declared.role.Role.{Role}
use Rattle.end_names.specs.declared.role.Role.TheVariants.{Lac, Lns}
use Rattle.end_model.specs.declared.event.Event.{Event}
use Rattle.end_model.specs.declared.moves.Move.{Move}
use Rattle.end_model.specs.declared.tunnel.Call.{Call}
use Rattle.end_model.specs.Calls.{is_up}
use Rattle.end_model.specs.Tunnels.{Tunnel}
use Rattle.end_model.specs.End.{End}
use Rattle.world_model.specs.World.{World, Node, Sender, Deed}
use Rattle.step_laws.specs.Left.{CanBe}
use Rattle.book_laws.specs.Books.{Mirrors}
use Rattle.epoch_machine.specs.Tunnels.{Tunnels}
use Rattle.epoch_machine.specs.Calls as calls
use Rattle.epoch_machine.specs.Calls.{Calls, NoCall, WaitsReply, Up, is_call, ends, is_asked_for, is_second_up}
use Rattle.epoch_machine.specs.Worlds as machine
use Rattle.session_laws.specs.Names.{name, name_of, state_of}
use Rattle.session_laws.specs.Joined as runs
use Rattle.session_laws.proofs.Names.{same_name}
use Rattle.channel_laws.specs.Accounts.{History, after}
use Rattle.recovery_laws.specs.Joined.{CallJoined, CallsJoined}
use Rattle.recovery_laws.specs.Queries.{CallsAreNamed}
use Rattle.join_laws.specs.Steps as steps
use Rattle.join_laws.proofs.Ahead.{left}
use Rattle.join_laws.proofs.Books.{booked}
use Rattle.join_laws.proofs.Bounds.{fit_bounded}
use Rattle.join_laws.proofs.Calls.{like_same, booked_live, live_booked, SessionIs, sessions_joined}
use Rattle.join_laws.proofs.Finish.{named_as}
use Rattle.join_laws.proofs.Made as made
use Rattle.join_laws.proofs.OneCall.{has_session, gone_session, alone_in, one_session}
use Rattle.join_laws.proofs.OneTunnel.{CallStays}

-- ---- states

-- a state that a call of the role can be in
pub fits_role : (r : Role) (s : CallState) → CanBe r s → runs.FitsRole r s
fits_role Lac call.Idle can = absurd can
fits_role Lac call.WaitTunnel can = tt
fits_role Lac call.WaitReply can = tt
fits_role Lac call.WaitConnect can = absurd can
fits_role Lac call.Established can = tt
fits_role Lns call.Idle can = absurd can
fits_role Lns call.WaitTunnel can = absurd can
fits_role Lns call.WaitReply can = absurd can
fits_role Lns call.WaitConnect can = tt
fits_role Lns call.Established can = tt

pub up_of : (s : CallState) → is_up s ≡ true → calls.is_up (state_of s) ≡ true
up_of call.Idle up = absurd (true≢false (sym up))
up_of call.WaitTunnel up = absurd (true≢false (sym up))
up_of call.WaitReply up = absurd (true≢false (sym up))
up_of call.WaitConnect up = absurd (true≢false (sym up))
up_of call.Established up = refl

-- a call that isn't established in the machine isn't in the end
pub not_up : (s : calls.CallState) (c : Call) → state_of c.state ≡ s → calls.is_up s ≡ false → is_up c.state ≡ false
not_up s c is down = by (is_up c.state) refl
  where
    by : (u : Bool) → is_up c.state ≡ u → is_up c.state ≡ false
    by true up = absurd (true≢false (sym (up_of c.state up) ∙ (ap calls.is_up is ∙ down)))
    by false no_up = no_up

-- ---- in the machine

-- one call of the machine's comes to this state, knows this name of the other end's, and is in the book or not
pub record Turns (c v : Calls) (z : ℕ) (state : calls.CallState) (remote : ℕ) (in_book : Bool) : Type 0 where
  pub state_is : v.state z ≡ state
  pub remote_is : v.remote z ≡ remote
  pub booked_is : v.booked z ≡ in_book
  pub tunnel : v.tunnel ≡ c.tunnel
  pub drawn : v.drawn ≡ c.drawn
  pub births : v.births ≡ c.births
  pub birth : v.birth ≡ c.birth
  pub asks : v.asks ≡ c.asks
  pub held : v.held ≡ c.held
  pub others : (y : ℕ) → (y ≡ z → ⊥) → (v.state y ≡ c.state y) × (v.remote y ≡ c.remote y) × (v.booked y ≡ c.booked y)

pub asked_turns : (c : Calls) (z e : ℕ) → Turns c (is_asked_for c z e) z WaitsReply (c.remote z) (c.booked z)
unfolding is_asked_for
asked_turns c z e = record {
  state_is = ap (λ b. if b then WaitsReply else c.state z) (eq-eqb z z refl);
  remote_is = refl;
  booked_is = refl;
  tunnel = refl;
  drawn = refl;
  births = refl;
  birth = refl;
  asks = refl;
  held = refl;
  others = λ y other. (ap (λ b. if b then WaitsReply else c.state y) (ne_eqb y z other), refl, refl);
}

pub second_turns : (c : Calls) (z : ℕ) → Turns c (is_second_up c z) z Up (c.remote z) true
unfolding is_second_up
second_turns c z = record {
  state_is = ap (λ b. if b then Up else c.state z) (eq-eqb z z refl);
  remote_is = refl;
  booked_is = ap (λ b. if b then true else c.booked z) (eq-eqb z z refl);
  tunnel = refl;
  drawn = refl;
  births = refl;
  birth = refl;
  asks = refl;
  held = refl;
  others = λ y other. (
    ap (λ b. if b then Up else c.state y) (ne_eqb y z other),
    refl,
    ap (λ b. if b then true else c.booked y) (ne_eqb y
        z other),
  );
}

pub ended_turns : (c : Calls) (z : ℕ) → Turns c (ends c (is_call z)) z NoCall (c.remote z) false
unfolding «ends»
ended_turns c z = record {
  state_is = ap (λ b. if b then NoCall else c.state z) (eq-eqb z z refl);
  remote_is = refl;
  booked_is = ap (λ b. if b then false else c.booked z) (eq-eqb z z refl);
  tunnel = refl;
  drawn = refl;
  births = refl;
  birth = refl;
  asks = refl;
  held = refl;
  others = λ y other. (
    ap (λ b. if b then NoCall else c.state y) (ne_eqb y z other),
    refl,
    ap (λ b. if b then false else c.booked y)
        (ne_eqb y z other),
  );
}

-- ---- the call in the end

-- what it is there, or that it isn't there any more
abbrev pub IsTurned : ℕ → Option Call → calls.CallState → ℕ → Bool → Type 0
IsTurned peer None state remote in_book = (state ≡ NoCall) × (in_book ≡ false)
IsTurned peer (Some c) state remote in_book = (state ≡ state_of c.state) × (remote ≡ name_of peer c.remote) × (in_book ≡ is_up c.state)

-- a call is in the book of its end where it is established
pub in_its_book : (e : End) (k : Kept) → Mirrors e k → (i s : ℕ) (t : Tunnel) (c : Call) → at e.tunnels i ≡ Some t → at t.calls s ≡ Some c
    → ((f : ℕ) (u : Tunnel) → (f ≡ i → ⊥) → at e.tunnels f ≡ Some u → at u.calls s ≡ None) → is_some (call_at k s) ≡ is_up c.state
in_its_book e k mirrors i s t c there live alone = by (is_up c.state) refl
  where
    none : is_up c.state ≡ false → (o : Option BookCall) → call_at k s ≡ o → is_some o ≡ false
    none down None has = refl
    none down (Some d) has =
        let f = booked_live e k mirrors s d has in
        ⊎_elim
        (λ (e2 : d.tunnel ≡ i).
        let same : f.tunnel ≡ t = same_Some f.tunnel t (sym f.there ∙ (ap (at e.tunnels) e2 ∙ there)) in
        let one : f.call ≡ c = same_Some f.call c (sym f.live ∙ (ap (λ (y : Tunnel). at y.calls s) same ∙ live)) in
        absurd (true≢false (sym f.up ∙ (ap (λ (y : Call). is_up y.state) one ∙ down))))
        (λ other. absurd (none-some f.call (sym (alone d.tunnel f.tunnel other f.there) ∙ f.live)))
        (same_or_not d.tunnel i)

    by : (u : Bool) → is_up c.state ≡ u → is_some (call_at k s) ≡ is_up c.state
    by true up = ap (λ o. is_some o) (live_booked e k mirrors i s t c there live up) ∙ sym up
    by false down = none down (call_at k s) refl ∙ sym down

-- such a move: of the tunnel that it is about, and of no other
pub record Turned (w : World) (h : History) (n : ℕ) (node : Node) (x : End) (d : Deed) (k b : Kept) (j z : machine.World) (i s : ℕ) (t
    : Tunnel) : Type 0 where
  pub new : Mirrors x b
  pub at_t : at node.end.tunnels i ≡ Some t
  pub was : Call
  pub live : at t.calls s ≡ Some was
  pub tunnel : Tunnel
  pub at_r : at x.tunnels i ≡ Some tunnel
  pub others : (f : ℕ) → (f ≡ i → ⊥) → at x.tunnels f ≡ at node.end.tunnels f
  pub ids : x.session_ids ≡ node.end.session_ids
  pub sessions : (y : ℕ) → (y ≡ s → ⊥) → at tunnel.calls y ≡ at t.calls y
  pub then_is : Option Call
  pub this : at tunnel.calls s ≡ then_is
  pub peers : (p f : ℕ) → ((after h d).accounts p f 0).peer ≡ (h.accounts p f 0).peer
  -- in the machine
  pub machine_tunnels : z.tunnels ≡ j.tunnels
  pub state : calls.CallState
  pub remote : ℕ
  pub in_book : Bool
  pub turns : Turns j.calls z.calls (name n s) state remote in_book
  pub turned : IsTurned (h.accounts n i 0).peer then_is state remote in_book

module _ (w : World) (h : History) (n : ℕ) (node : Node) (sender : Option Sender) (moment : ℕ) (ev : Event) (mv : Move) (x : End) (d : Deed)
    (k : Kept) (j : machine.World) (q : steps.IsMade w h n node sender moment ev mv x d k j) (b : Kept) (z : machine.World) (i s : ℕ)
    (t : Tunnel) (o : Turned w h n node x d k b j z i s t) where
  abbrev X : ℕ
  X = name n i

  abbrev Z : ℕ
  Z = name n s

  pub before : CallsJoined j h n (booked node k)
  before = made.calls_before w h n node sender moment ev mv x d k j q

  pub was_joined : CallJoined j n i (h.accounts n i 0).peer s o.was
  was_joined = before.live i t o.at_t s o.was o.live

  alone : (f : ℕ) (u : Tunnel) → (f ≡ i → ⊥) → at x.tunnels f ≡ Some u → at u.calls s ≡ None
  alone f u other there =
      alone_in node.end q.moved.fit.tables i s t o.was o.at_t o.live f u other (sym (o.others f other) ∙ there)

  pub session_fits : s < 65536
  session_fits = (fit_bounded node.end q.moved.fit).sessions i t o.at_t s o.was o.live

  drawn : s < node.end.session_ids.next
  drawn = ((q.moved.fit.tables.tunnels i t o.at_t).calls s o.was o.live).drawn

  node_is : z.tunnels.node (name n i) ≡ n
  node_is = ap (λ (T : Tunnels). T.node X) o.machine_tunnels
      ∙ (made.told w h n node sender moment ev mv x d k j q i t o.at_t).node (made.live_ok w h n node sender moment ev mv x d k j q i t
      o.at_t).made

  stays : (y : ℕ) → (y ≡ name n s → ⊥) → CallStays j z y
  stays y other =
      let e = o.turns.others y other in
      record {
        drawn = ap (λ f. f y) o.turns.drawn;
        tunnel = ap (λ f. f y) o.turns.tunnel;
        state = e.0;
        remote = e.1;
        booked = e.2;
      }

  this_session : (p : Option Call) → at o.tunnel.calls s ≡ p → IsTurned (h.accounts n i 0).peer p o.state o.remote o.in_book
      → SessionIs x b z (after h d) n s
  this_session None is turned = gone_session x b z (after h d) n s (record {
    new = o.new;
    none = λ f u there. ⊎_elim
        (λ (e : f ≡ i).
        let same : u ≡ o.tunnel = same_Some u o.tunnel (sym there ∙ (ap (at x.tunnels) e ∙ o.at_r)) in
        ap (λ (y : Tunnel). at y.calls s) same ∙ is)
        (λ other. alone f u other there)
        (same_or_not f i);
    state = o.turns.state_is ∙ turned.0;
    booked = o.turns.booked_is ∙ turned.1;
    undrawn = λ le. (let lt = drawn in let same = ap (λ (y : Space). y.next) o.ids in absurd (omega (arith, lt, le, same)));
  })
  this_session (Some c) is turned = has_session x b z (after h d) n i s o.tunnel c (record {
    new = o.new;
    at_r = o.at_r;
    call = is;
    alone = alone;
    joined = record {
      some = was_joined.some;
      state = o.turns.state_is ∙ turned.0;
      tunnel = ap (λ f. f Z) o.turns.tunnel ∙ was_joined.tunnel;
      remote = o.turns.remote_is ∙ (turned.1 ∙ ap (λ p. name_of p c.remote) (sym (o.peers n i)));
    };
    booked = o.turns.booked_is ∙ turned.2;
    node = node_is;
    below = (let lt = drawn in let same = ap (λ (y : Space). y.next) o.ids in omega (arith, lt, same));
  })

  pub turned_calls : CallsJoined z (after h d) n (left node x b)
  turned_calls = sessions_joined node x k b j z h (after h d) n
      (one_session node x k b j z h (after h d) n i s t o.tunnel (record {
        old = q.mirrors;
        new = o.new;
        bounded = fit_bounded x q.fit;
        peers = o.peers n;
        nodes = λ y is. ap (λ (T : Tunnels). T.node y) o.machine_tunnels ∙ is;
        rises = (let same = ap (λ (y : Space). y.next) o.ids in omega (arith, same));
        at_t = o.at_t;
        at_r = o.at_r;
        others = o.others;
        some = was_joined.some;
        stays = stays;
        calls = λ y other. like_same (at t.calls y) (at o.tunnel.calls y) (o.sessions y other);
        this = this_session o.then_is o.this o.turned;
      }))
      before

  pub turned_stay : (p y : ℕ) → (p ≡ n → ⊥) → p < 256 → y < 65536 → CallStays j z (name p y)
  turned_stay p y off pfits yfits = stays (name p y) (λ same. off (same_name p y n s yfits session_fits same).0)

  pub turned_births : (z.calls.births ≡ j.calls.births) × ((y : ℕ) → z.calls.birth y ≡ j.calls.birth y)
  turned_births = (o.turns.births, λ y. ap (λ f. f y) o.turns.birth)

  pub turned_asks : (y s : ℕ) → z.calls.asks y s ≡ j.calls.asks y s
  turned_asks y e = ap (λ f. f y e) o.turns.asks

  pub turned_held : (y f s : ℕ) → z.calls.held y f s ≡ j.calls.held y f s
  turned_held y f e = ap (λ p. p y f e) o.turns.held

  pub turned_named : CallsAreNamed z
  turned_named = named_as j z o.turns.drawn q.joined.named

  -- the machine has it in the book where the end's book has it
  pub was_booked : j.calls.booked (name n s) ≡ is_up o.was.state
  was_booked =
      before.booked s session_fits
      ∙ in_its_book node.end k q.mirrors i s t o.was o.at_t o.live
      (λ f u other there. alone_in node.end q.moved.fit.tables i s t o.was o.at_t o.live f u other there)
