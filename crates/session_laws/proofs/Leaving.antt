-- A tunnel leaves its state with all its calls, in the machine; and in the end it has no calls any more.
use Rattle.std.proofs.Common.{◌≡◌, inr, ⊎_elim, ℕ, ◌<◌, Bool, true, false, cond, eqb, List, [], ◌∷◌, refl, sym, ap, ◌∙◌, subst, Option, Some, None, eq-eqb, ne_eqb}
use Rattle.std.proofs.lemmas.Option.{none-some}
use Rattle.id_table.specs.Ids.{at, put, at-none}
use Rattle.id_table.specs.Order.{same_or_not, at_new, at_other}
use Rattle.end_model.specs.declared.event.Event.{Event}
use Rattle.end_model.specs.declared.moves.Move.{Move}
use Rattle.end_model.specs.declared.tunnel.Call.{Call}
use Rattle.end_model.specs.Tunnels.{Tunnel}
use Rattle.end_model.specs.End.{End}
use Rattle.world_model.specs.World.{Sender, Deed}
use Rattle.epoch_machine.specs.Letters.{Letter}
use Rattle.epoch_machine.specs.Tunnels.{Phase, left}
use Rattle.epoch_machine.specs.Calls as calls
use Rattle.epoch_machine.specs.Calls.{NoCall, ends}
use Rattle.epoch_machine.specs.Worlds.{World, all_rules, leaves}
use Rattle.epoch_machine.specs.Moves as moves
use Rattle.epoch_machine.specs.Moves.{step, goes_on}
use Rattle.connection_laws.specs.Accounts.{Account, about}
use Rattle.connection_laws.specs.Facts.{Accounts}
use Rattle.connection_laws.specs.Steps.{after}
use Rattle.session_laws.specs.Names.{name}
use Rattle.session_laws.specs.Joined.{FitsRole, Ends, TunnelJoined, HasNoCall, CallsJoined}
use Rattle.session_laws.proofs.Births.{BirthsSame, IsElse, else_follow}
use Rattle.session_laws.proofs.Keeps.{with_end, IsMade, Follows}
use Rattle.session_laws.proofs.Entering.{else_none, after_elsewhere}
use Rattle.session_laws.proofs.Names.{other_id}
use Rattle.session_laws.proofs.Ground.{TunnelStays, CallStays, one_step, call_still, joined_before, ids_now, moves_on_follow}
use Rattle.session_laws.proofs.Letters.{LettersMove}

-- ---- tunnels in the machine

pub leaves_elsewhere : (w : World) (x : ℕ) (p : Phase) (y : ℕ) → (y ≡ x → ⊥) → TunnelStays w (leaves w x p) y
unfolding leaves left «ends»
leaves_elsewhere w x p y other = record {
  drawn = refl;
  opener = refl;
  node = refl;
  peer = refl;
  learned = refl;
  phase = rw (ne_eqb y x other) refl;
  entered = refl;
  sent = refl;
  taken = refl;
  refused = refl;
  asks = λ z. refl;
}

pub leaves_phase : (w : World) (x : ℕ) (p : Phase) → (leaves w x p).tunnels.phase x ≡ p
unfolding leaves left
leaves_phase w x p = rw (eq-eqb x x refl) refl

pub leaves_learned : (w : World) (x : ℕ) (p : Phase) → (leaves w x p).tunnels.learned ≡ w.tunnels.learned
unfolding leaves left
leaves_learned w x p = refl

pub leaves_up : (w : World) (x : ℕ) (p : Phase) → (leaves w x p).tunnels.up ≡ w.tunnels.up
unfolding leaves left
leaves_up w x p = refl

-- what it gave and took before stays
pub leaves_letters : (w v : World) (x : ℕ) (p : Phase) (more : List Letter) (took : ℕ) → LettersMove w v x more took
    → LettersMove w (leaves v x p) x more took
unfolding leaves left «ends»
leaves_letters w v x p more took g = record {
  drawn = g.drawn;
  opener = g.opener;
  node = g.node;
  peer = g.peer;
  entered = g.entered;
  sent = g.sent;
  taken = g.taken;
  refused = g.refused;
  asks = g.asks;
}

-- ---- calls in the machine

-- the calls of tunnel x end, and no other one changes
pub record CallsLeave (w v : World) (x : ℕ) : Type 0 where
  pub stay : (z : ℕ) → CallStays w v x z
  pub gone : (z : ℕ) → w.calls.tunnel z ≡ x → v.calls.state z ≡ NoCall
  pub births : BirthsSame w v

-- a call stays, unless it lives and is the tunnel's
state_stays : (b : Bool) (s : calls.CallState) → s ≡ NoCall → cond b NoCall s ≡ s
state_stays true s none = sym none
state_stays false s none = refl

-- from a world with the same calls
pub leaves_calls : (w v : World) (x : ℕ) (p : Phase) → v.calls ≡ w.calls → CallsLeave w (leaves v x p) x
unfolding leaves «ends»
leaves_calls w v x p same = record {
  stay = λ z. record {
    drawn = ap (λ (c : calls.Calls). c.drawn z) same;
    tunnel = ap (λ (c : calls.Calls). c.tunnel z) same;
    remote = ap (λ (c : calls.Calls). c.remote z) same;
    state = λ either.
        rw same (⊎_elim
        (λ (other : w.calls.tunnel z ≡ x → ⊥). rw (ne_eqb (w.calls.tunnel z) x other) refl)
        (λ (none : w.calls.state z ≡ NoCall). state_stays (eqb (w.calls.tunnel z) x) (w.calls.state z) none)
        either);
  };
  gone = λ z is. rw (same, is, eq-eqb x x refl) refl;
  births = record {
    count = ap (λ (c : calls.Calls). c.births) same;
    birth = λ z. ap (λ (c : calls.Calls). c.birth z) same;
    mate = λ z. ap (λ (c : calls.Calls). c.mate z) same;
    remote = λ z. ap (λ (c : calls.Calls). c.remote z) same;
  };
}

-- ---- in the end

-- tunnel i has no calls any more, or isn't there, and no other tunnel changes
pub record HasLeft (e x : End) (i : ℕ) (t : Tunnel) : Type 0 where
  pub there : at e.tunnels i ≡ Some t
  pub elsewhere : (j : ℕ) → (j ≡ i → ⊥) → at x.tunnels j ≡ at e.tunnels j
  pub none : (u : Tunnel) → at x.tunnels i ≡ Some u → u.calls ≡ []
  pub sessions : x.session_ids ≡ e.session_ids
  pub role : x.role ≡ e.role

pub left_put : (e x : End) (i : ℕ) (t u : Tunnel) → at e.tunnels i ≡ Some t → x.tunnels ≡ put e.tunnels i u → u.calls ≡ []
    → x.session_ids ≡ e.session_ids → x.role ≡ e.role → HasLeft e x i t
left_put e x i t u there put_is none sessions role = record {
  there = there;
  elsewhere = λ j other. rw put_is (at_other e.tunnels i u j other);
  none = λ k is.
      (let same : u ≡ k = let g = sym (at_new e.tunnels i u) ∙ subst (λ ts. at ts i ≡ Some k) put_is is in cc in
      ap (λ (y : Tunnel). y.calls) (sym same) ∙ none);
  sessions = sessions;
  role = role;
}

module _ (accs ms : Accounts) (w v : World) (n i : ℕ) (e x : End) (t : Tunnel) (old : CallsJoined w accs n e)
    (ids : (j : ℕ) (k : Tunnel) → at x.tunnels j ≡ Some k → j < 65536) (peers : (j : ℕ) → (j ≡ i → ⊥) → (ms n j).peer ≡ (accs n j).peer)
    (g : CallsLeave w v (name n i)) (h : HasLeft e x i t) where
  -- a tunnel that has a call is another one, as it was
  was : (j : ℕ) (u : Tunnel) (s : ℕ) (c : Call) → at x.tunnels j ≡ Some u → at u.calls s ≡ Some c → (j ≡ i → ⊥) × (at e.tunnels j ≡ Some u)
  was j u s c there call =
      ⊎_elim
      (λ (p : j ≡ i).
      absurd (none-some c (sym (at-none s) ∙ sym (ap (λ ks. at ks s) (h.none u (subst (λ k. at x.tunnels k ≡ Some u) p there))) ∙ call)))
      (λ other. (other, sym (h.elsewhere j other) ∙ there))
      (same_or_not j i)

  -- where no tunnel has the call any more, the one that left had it or none had it
  none_else : (s : ℕ) → HasNoCall x s → at t.calls s ≡ None → HasNoCall e s
  none_else s none here j u there =
      ⊎_elim
      (λ (p : j ≡ i).
      let same : t ≡ u = let k = sym h.there ∙ subst (λ q. at e.tunnels q ≡ Some u) p there in cc in
      subst (λ (y : Tunnel). at y.calls s ≡ None) same here)
      (λ other. none j u (h.elsewhere j other ∙ there))
      (same_or_not j i)

  gone : (s : ℕ) → s < 65536 → HasNoCall x s → v.calls.state (name n s) ≡ NoCall
  gone s few none = by (at t.calls s) refl
    where
      by : (o : Option Call) → at t.calls s ≡ o → v.calls.state (name n s) ≡ NoCall
      by None here =
          let nothing = old.gone s few (none_else s none here) in
          (g.stay (name n s)).state (inr nothing) ∙ nothing
      by (Some c) here = g.gone (name n s) (old.live i t h.there s c here).tunnel

  left_joined : CallsJoined v ms n x
  left_joined = record {
    live = λ j u there s c call.
        (let k = was j u s c there call in
        rw (peers j k.0)
        (call_still w v (name n i) n j (accs n j).peer s c (g.stay (name n s)) (other_id n j i k.0) (old.live j u k.1 s c call)));
    drawn = λ j u there s c call. rw h.sessions (old.drawn j u (was j u s c there call).1 s c call);
    gone = gone;
    undrawn = λ s le few. (g.stay (name n s)).drawn ∙ old.undrawn s (rw h.sessions at le) few;
    waiting = λ j u there one s c call. old.waiting j u (was j u s c there call).1 one s c call;
    most = rw h.sessions old.most;
    ids = ids;
    zero = (g.stay (name n 0)).drawn ∙ old.zero;
    roles = λ j u there s c call. subst (λ r. FitsRole r c.state) (sym h.role) (old.roles j u (was j u s c there call).1 s c call);
  }

-- ---- the ground of such moves

-- what becomes of tunnels in the machine, by one move
pub record TunnelLeaves (ms : Accounts) (w v : World) (n i : ℕ) (o : Option Tunnel) : Type 0 where
  pub tunnels : (y : ℕ) → (y ≡ name n i → ⊥) → TunnelStays w v y
  pub tunnel : TunnelJoined v n i (ms n i) o
  pub up : v.tunnels.up ≡ w.tunnels.up
  pub move : moves.Move
  pub does : step all_rules w move ≡ v

module _ (accs : Accounts) (ends : Ends) (w : World) (n : ℕ) (e x : End) (sender : Option Sender) (moment : ℕ) (ev : Event) (m : Move) (d : Deed)
    (h : IsMade accs ends w n e x sender moment ev m d) (v : World) (t : Tunnel) where
  abbrev i : ℕ
  i = about m

  pub left_follows : IsElse m → HasLeft e x i t → CallsLeave w v (name n i) → TunnelLeaves (after accs d) w v n i (at x.tunnels i)
      → Follows w n e x m (after accs d) (with_end ends n x)
  left_follows is left leave g =
      let before = joined_before accs ends w n e x sender moment ev m d h in
      let peers = λ (j : ℕ) (other : j ≡ i → ⊥). ap (λ (a : Account). a.peer)
      (after_elsewhere accs d n m h.moved.deed.node_is h.moved.deed.move_is (else_none m is) n j (λ both. other both.1)) in
      moves_on_follow accs ends w n e x sender moment ev m d h v (record {
        id = before.ids i t left.there;
        declines = else_none m is;
        elsewhere = left.elsewhere;
        tunnels = g.tunnels;
        tunnel = g.tunnel;
        stay = λ k s other kfits few. leave.stay (name k s);
        calls = left_joined accs (after accs d) w v n i e x t before (ids_now accs ends w n e x sender moment ev m d h) peers leave left;
        births = else_follow w v n e x m is leave.births left.role left.sessions;
        up = λ k. ap (λ (f : ℕ → Bool). f k) g.up;
        more = g.move ∷ [];
        run = sym (one_step all_rules w g.move ∙ g.does);
      })
