-- One tunnel of a node changes, with its calls, and in the machine that tunnel alone: then all is joined again.
use Rattle.std.proofs.Common.{◌≡◌, ◌⊎◌, inl, inr, ⊎_elim, ℕ, ◌<◌, List, [], ◌∷◌, ◌++◌, refl, sym, ap, ◌∙◌, subst, Option, Some, None, arith}
use Rattle.std.proofs.lemmas.Option.{none-some}
use mathlib.Core.Path.{fun_ext}
use Rattle.id_table.specs.Ids.{at, put, at-none}
use Rattle.id_table.specs.Order.{same_or_not, at_new, at_other, found_put}
use Rattle.tunnel_fsm.specs.Rows.{state_number}
use Rattle.end_model.specs.declared.event.Event.{Event}
use Rattle.end_model.specs.declared.moves.Move.{Move}
use Rattle.end_model.specs.declared.tunnel.Call.{Call}
use Rattle.end_model.specs.Tunnels.{Tunnel}
use Rattle.end_model.specs.End.{End}
use Rattle.world_model.specs.World.{Sender, Deed}
use Rattle.epoch_machine.specs.Worlds as machine
use Rattle.epoch_machine.specs.Worlds.{all_rules, empty_world}
use Rattle.epoch_machine.specs.Moves as moves
use Rattle.epoch_machine.specs.Moves.{step, goes_on}
use Rattle.epoch_machine.specs.Calls as calls
use Rattle.epoch_machine.specs.Calls.{NoCall}
use Rattle.connection_laws.specs.Accounts.{Account, about, entered_by}
use Rattle.connection_laws.specs.Facts.{Accounts, IsInState, LiveOk}
use Rattle.connection_laws.specs.Facts as facts
use Rattle.connection_laws.specs.Steps.{after}
use Rattle.session_laws.specs.Names.{name}
use Rattle.session_laws.specs.Joined.{Ends, tunnel_in, TunnelJoined, CallJoined, HasNoCall, CallsJoined, NodeJoined, AreJoined}
use Rattle.session_laws.proofs.Births.{BirthsFollow, IsElse, same_calls, else_follow}
use Rattle.session_laws.proofs.Keeps.{with_end, IsMade, Follows}
use Rattle.session_laws.proofs.Roles.{fit_on}
use Rattle.session_laws.proofs.Entering.{here_or_not, DeclinesNone, else_none, after_elsewhere, all_still, with_here, with_there}
use Rattle.session_laws.proofs.Names.{other_name, other_node}

-- ---- what stays in the machine

-- a tunnel is in the machine's new world as it was in the old one
pub record TunnelStays (w v : machine.World) (y : ℕ) : Type 0 where
  pub drawn : v.tunnels.drawn y ≡ w.tunnels.drawn y
  pub opener : v.tunnels.opener y ≡ w.tunnels.opener y
  pub node : v.tunnels.node y ≡ w.tunnels.node y
  pub peer : v.tunnels.peer y ≡ w.tunnels.peer y
  pub learned : v.tunnels.learned y ≡ w.tunnels.learned y
  pub phase : v.tunnels.phase y ≡ w.tunnels.phase y
  pub entered : v.tunnels.entered y ≡ w.tunnels.entered y
  pub sent : v.channels.sent y 0 ≡ w.channels.sent y 0
  pub taken : v.channels.taken y 0 ≡ w.channels.taken y 0
  pub refused : v.channels.refused y ≡ w.channels.refused y
  pub asks : (z : ℕ) → v.calls.asks y z ≡ w.calls.asks y z

-- a call is as it was; its state may change only where it lives and is of tunnel x
pub record CallStays (w v : machine.World) (x z : ℕ) : Type 0 where
  pub drawn : v.calls.drawn z ≡ w.calls.drawn z
  pub tunnel : v.calls.tunnel z ≡ w.calls.tunnel z
  pub remote : v.calls.remote z ≡ w.calls.remote z
  pub state : (w.calls.tunnel z ≡ x → ⊥) ⊎ (w.calls.state z ≡ NoCall) → v.calls.state z ≡ w.calls.state z

-- ---- one tunnel changes, and its calls

-- tunnel i of node n changes, from end e to x; the machine goes on from w to v. Of other tunnels and of other nodes' calls
-- nothing changes, and of this tunnel and this node's calls the new facts are given
pub record MovesOn (ms : Accounts) (w v : machine.World) (n i : ℕ) (e x : End) (m : Move) : Type 0 where
  pub id : i < 65536
  pub declines : DeclinesNone m
  pub elsewhere : (j : ℕ) → (j ≡ i → ⊥) → at x.tunnels j ≡ at e.tunnels j
  pub tunnels : (y : ℕ) → (y ≡ name n i → ⊥) → TunnelStays w v y
  pub tunnel : TunnelJoined v n i (ms n i) (at x.tunnels i)
  pub stay : (k s : ℕ) → (k ≡ n → ⊥) → k < 256 → s < 65536 → CallStays w v (name n i) (name k s)
  pub calls : CallsJoined v ms n x
  pub births : BirthsFollow w v n e x m
  pub up : (m : ℕ) → v.tunnels.up m ≡ w.tunnels.up m
  -- no move of the machine, or some
  pub more : List moves.Move
  pub run : v ≡ goes_on all_rules w more

-- ---- one tunnel changes, and no call

-- the tunnel that was there, with the same calls; or there was none, and there are no calls
pub data Before (accs ms : Accounts) (n i : ℕ) (e : End) (u : Tunnel) : Type 0 where
  Old : (t : Tunnel) → at e.tunnels i ≡ Some t → u.calls ≡ t.calls → (state_number u.control.state ≡ 1 → state_number t.control.state ≡ 1)
      → (ms n i).peer ≡ (accs n i).peer → Before accs ms n i e u
  New : at e.tunnels i ≡ None → u.calls ≡ [] → Before accs ms n i e u

pub record TunnelMoves (accs ms : Accounts) (w v : machine.World) (n i : ℕ) (e x : End) (u : Tunnel) : Type 0 where
  pub id : i < 65536
  pub put_is : x.tunnels ≡ put e.tunnels i u
  pub sessions : x.session_ids ≡ e.session_ids
  pub role : x.role ≡ e.role
  pub before : Before accs ms n i e u
  pub tunnels : (y : ℕ) → (y ≡ name n i → ⊥) → TunnelStays w v y
  pub tunnel : TunnelJoined v n i (ms n i) (Some u)
  pub calls : v.calls ≡ w.calls
  pub up : (m : ℕ) → v.tunnels.up m ≡ w.tunnels.up m
  pub more : List moves.Move
  pub run : v ≡ goes_on all_rules w more

-- ---- the four lemmas for moves

-- all is joined again
abbrev pub MovesOnFollow : Type 0
MovesOnFollow = (accs : Accounts) (ends : Ends) (w : machine.World) (n : ℕ) (e x : End) (sender : Option Sender) (moment : ℕ) (ev : Event) (m : Move) (d : Deed)
    → IsMade accs ends w n e x sender moment ev m d → (v : machine.World) → MovesOn (after accs d) w v n (about m) e x m
    → Follows w n e x m (after accs d) (with_end ends n x)

abbrev pub TunnelMovesFollow : Type 0
TunnelMovesFollow = (accs : Accounts) (ends : Ends) (w : machine.World) (n : ℕ) (e x : End) (sender : Option Sender) (moment : ℕ) (ev : Event) (m : Move)
    (d : Deed)
    → IsMade accs ends w n e x sender moment ev m d → IsElse m → (v : machine.World) (u : Tunnel) → TunnelMoves accs (after accs d) w v n (about m) e x u
    → Follows w n e x m (after accs d) (with_end ends n x)

-- no account changes, nor the end
abbrev pub EndStaysFollow : Type 0
EndStaysFollow = (accs : Accounts) (ends : Ends) (w : machine.World) (n : ℕ) (e x : End) (sender : Option Sender) (moment : ℕ) (ev : Event) (m : Move)
    (d : Deed)
    → IsMade accs ends w n e x sender moment ev m d → IsElse m → entered_by d m (accs n (about m)) ≡ accs n (about m) → x ≡ e
    → Follows w n e x m (after accs d) (with_end ends n x)

-- no account changes, and of the end only the channel of a tunnel
abbrev pub ChannelFollows : Type 0
ChannelFollows = (accs : Accounts) (ends : Ends) (w : machine.World) (n : ℕ) (e x : End) (sender : Option Sender) (moment : ℕ) (ev : Event) (m : Move)
    (d : Deed)
    → IsMade accs ends w n e x sender moment ev m d → IsElse m → entered_by d m (accs n (about m)) ≡ accs n (about m)
    → (t u : Tunnel) → at e.tunnels (about m) ≡ Some t → u.calls ≡ t.calls → u.control.state ≡ t.control.state
    → x.tunnels ≡ put e.tunnels (about m) u → x.session_ids ≡ e.session_ids → x.role ≡ e.role
    → Follows w n e x m (after accs d) (with_end ends n x)

-- ---- runs

pub run_on : (r : machine.Rules) (w : machine.World) (before more : List moves.Move) → goes_on r w (before ++ more) ≡ goes_on r (goes_on r w before) more
unfolding goes_on
run_on r w [] more = refl
run_on r w (m ∷ before) more = run_on r (step r w m) before more

pub one_step : (r : machine.Rules) (w : machine.World) (m : moves.Move) → goes_on r w (m ∷ []) ≡ step r w m
unfolding goes_on
one_step r w m = refl

pub no_step : (r : machine.Rules) (w : machine.World) → goes_on r w [] ≡ w
unfolding goes_on
no_step r w = refl

-- ---- what was made

-- a live tunnel was made
pub live_made : (accs : Accounts) (n i : ℕ) (a : Account) (t : Tunnel) → LiveOk accs n i a t → facts.IsMade a
live_made accs n i a t h none = subst (λ p. IsInState accs i a t p) none h.state

-- ---- what stays is joined still

pub tunnel_still : (w v : machine.World) (n i : ℕ) (a : Account) (o : Option Tunnel) → TunnelStays w v (name n i) → TunnelJoined w n i a o
    → TunnelJoined v n i a o
tunnel_still w v n i a o s h = record {
  drawn = s.drawn ∙ h.drawn;
  opener = s.opener ∙ h.opener;
  node = λ made. s.node ∙ h.node made;
  peer = λ made. s.peer ∙ h.peer made;
  learned = s.learned ∙ h.learned;
  phase = s.phase ∙ h.phase;
  entered = s.entered ∙ h.entered;
  sent = s.sent ∙ h.sent;
  taken = s.taken ∙ h.taken;
  refused = s.refused ∙ h.refused;
  asks = λ z. s.asks z ∙ h.asks z;
}

-- a call that isn't of the tunnel that changes
pub call_still : (w v : machine.World) (x n i peer s : ℕ) (c : Call) → CallStays w v x (name n s) → (name n i ≡ x → ⊥) → CallJoined w n i peer s c
    → CallJoined v n i peer s c
call_still w v x n i peer s c stays other h = record {
  some = h.some;
  state = stays.state (inl (λ is. other (sym h.tunnel ∙ is))) ∙ h.state;
  tunnel = stays.tunnel ∙ h.tunnel;
  remote = stays.remote ∙ h.remote;
}

gone_still : (w v : machine.World) (x z : ℕ) → CallStays w v x z → w.calls.state z ≡ NoCall → v.calls.state z ≡ NoCall
gone_still w v x z s none = s.state (inr none) ∙ none

-- another node
module _ (accs ms : Accounts) (w v : machine.World) (x m : ℕ) (same : (j : ℕ) → ms m j ≡ accs m j)
    (stay : (s : ℕ) → s < 65536 → CallStays w v x (name m s)) (other : (j : ℕ) → j < 65536 → name m j ≡ x → ⊥) where
  calls_still : (e : End) → CallsJoined w accs m e → CallsJoined v ms m e
  calls_still e h = record {
    live = λ j t there s c call.
        (let lt = h.drawn j t there s c call in
        let most = h.most in
        let fits : s < 65536 = omega arith in
        rw (same j) (call_still w v x m j (accs m j).peer s c (stay s fits) (other j (h.ids j t there)) (h.live j t there s c call)));
    drawn = h.drawn;
    gone = λ s fits none. gone_still w v x (name m s) (stay s fits) (h.gone s fits none);
    undrawn = λ s le fits. (stay s fits).drawn ∙ h.undrawn s le fits;
    waiting = h.waiting;
    most = h.most;
    ids = h.ids;
    zero = (stay 0 (omega arith)).drawn ∙ h.zero;
    roles = h.roles;
  }

  node_still : (o : Option End) → NodeJoined w accs m o → NodeJoined v ms m o
  node_still None h = λ s fits. (gone_still w v x (name m s) (stay s fits) (h s fits).0, (stay s fits).drawn ∙ (h s fits).1)
  node_still (Some e) h = calls_still e h

-- ---- the ground of moves

module _ (accs : Accounts) (ends : Ends) (w : machine.World) (n : ℕ) (e x : End) (sender : Option Sender) (moment : ℕ) (ev : Event) (m : Move) (d : Deed)
    (h : IsMade accs ends w n e x sender moment ev m d) where
  abbrev ms : Accounts
  ms = after accs d

  abbrev i : ℕ
  i = about m

  -- the ids of tunnels that live have 16 bits
  pub ids_now : (j : ℕ) (t : Tunnel) → at x.tunnels j ≡ Some t → j < 65536
  ids_now j t there = (h.leads.accounts n j).id (live_made ms n j (ms n j) t (h.leads.end.live j t there))

  module _ (v : machine.World) (g : MovesOn ms w v n i e x m) where
    elsewhere : (k j : ℕ) → ((k ≡ n) × (j ≡ i) → ⊥) → ms k j ≡ accs k j
    elsewhere = after_elsewhere accs d n m h.moved.deed.node_is h.moved.deed.move_is g.declines

    -- the same tunnel in both ends
    same_there : (k j : ℕ) → ((k ≡ n) × (j ≡ i) → ⊥) → tunnel_in (with_end ends n x k) j ≡ tunnel_in (ends k) j
    same_there k j apart =
        ⊎_elim
        (λ (p : k ≡ n).
        let new : with_end ends n x k ≡ Some x = rw p (with_here ends n x) in
        let old : ends k ≡ Some e = rw p h.here in
        ap (λ o. tunnel_in o j) new ∙ g.elsewhere j (λ q. apart (p, q)) ∙ sym (ap (λ o. tunnel_in o j) old))
        (λ other. ap (λ o. tunnel_in o j) (with_there ends n x k other))
        (same_or_not k n)

    tunnels : (k j : ℕ) → k < 256 → j < 65536 → TunnelJoined v k j (ms k j) (tunnel_in (with_end ends n x k) j)
    tunnels k j kfits jfits =
        ⊎_elim
        (λ (p : (k ≡ n) × (j ≡ i)). rw (p.0, p.1, with_here ends n x) g.tunnel)
        (λ apart.
        rw (elsewhere k j apart, same_there k j apart)
        (tunnel_still w v k j (accs k j) (tunnel_in (ends k) j)
        (g.tunnels (name k j) (other_name k j n i jfits g.id apart)) (h.joined.tunnels k j kfits jfits)))
        (here_or_not k n j i)

    nodes : (k : ℕ) → k < 256 → NodeJoined v ms k (with_end ends n x k)
    nodes k kfits =
        ⊎_elim
        (λ (p : k ≡ n). rw (p, with_here ends n x) g.calls)
        (λ other.
        rw (with_there ends n x k other)
        (node_still accs ms w v (name n i) k (λ j. elsewhere k j (λ both. other both.0)) (λ s fits. g.stay k s other kfits fits)
        (λ j jfits. other_node k j n i jfits g.id other) (ends k) (h.joined.nodes k kfits)))
        (same_or_not k n)

    joined : AreJoined ms (with_end ends n x) v
    joined = record {
      tunnels = tunnels;
      nodes = nodes;
      fit = fit_on accs ends w n e x sender moment ev m d h g.declines g.births.role;
      up = λ k. g.up k ∙ h.joined.up k;
      moves = h.joined.moves ++ g.more;
      run = g.run ∙ ap (λ u. goes_on all_rules u g.more) h.joined.run ∙ sym (run_on all_rules empty_world h.joined.moves g.more);
    }

pub moves_on_follow : MovesOnFollow
moves_on_follow accs ends w n e x sender moment ev m d h v g = record {
  world = v;
  joined = joined accs ends w n e x sender moment ev m d h v g;
  births = g.births;
}

-- ---- one tunnel changes, and no call

-- what the new tunnel's call was
record Was (accs ms : Accounts) (n : ℕ) (e : End) (j : ℕ) (u : Tunnel) (s : ℕ) (c : Call) : Type 0 where
  tunnel : Tunnel
  there : at e.tunnels j ≡ Some tunnel
  call : at tunnel.calls s ≡ Some c
  peer : (ms n j).peer ≡ (accs n j).peer
  waits : state_number u.control.state ≡ 1 → state_number tunnel.control.state ≡ 1

was_before : (accs ms : Accounts) (n i : ℕ) (e : End) (u : Tunnel) (s : ℕ) (c : Call) → at u.calls s ≡ Some c → Before accs ms n i e u
    → Was accs ms n e i u s c
was_before accs new n i e u s c call (Old t there calls waits peer) = record {
  tunnel = t;
  there = there;
  call = sym (ap (λ ks. at ks s) calls) ∙ call;
  peer = peer;
  waits = waits;
}
was_before accs new n i e u s c call (New none empty) =
    absurd (none-some c (sym (at-none s) ∙ sym (ap (λ ks. at ks s) empty) ∙ call))

-- a tunnel that was there has no call where the new one has none
none_before : (accs ms : Accounts) (n i : ℕ) (e : End) (u t : Tunnel) (s : ℕ) → at e.tunnels i ≡ Some t → at u.calls s ≡ None → Before accs ms n i e u
    → at t.calls s ≡ None
none_before accs new n i e u t s there none (Old k was calls waits peer) =
    let same : k ≡ t = let g = sym was ∙ there in cc in
    ap (λ (y : Tunnel). at y.calls s) (sym same) ∙ sym (ap (λ ks. at ks s) calls) ∙ none
none_before accs new n i e u t s there none (New nothing empty) = absurd (none-some t (sym nothing ∙ there))

module _ (accs : Accounts) (ends : Ends) (w : machine.World) (n : ℕ) (e x : End) (sender : Option Sender) (moment : ℕ) (ev : Event) (m : Move) (d : Deed)
    (h : IsMade accs ends w n e x sender moment ev m d) where
  -- what is joined of this node
  pub joined_before : CallsJoined w accs n e
  joined_before = subst (λ o. NodeJoined w accs n o) h.here (h.joined.nodes n h.moved.within.end.node)

  pub tunnel_before : (j : ℕ) → j < 65536 → TunnelJoined w n j (accs n j) (at e.tunnels j)
  tunnel_before j fits = subst (λ o. TunnelJoined w n j (accs n j) (tunnel_in o j)) h.here (h.joined.tunnels n j h.moved.within.end.node fits)

  module _ (is_else : IsElse m) (v : machine.World) (u : Tunnel) (g : TunnelMoves accs (after accs d) w v n (about m) e x u) where
    abbrev new : Accounts
    new = after accs d

    found : (j : ℕ) (t : Tunnel) → at x.tunnels j ≡ Some t → ((j ≡ about m) × (u ≡ t)) ⊎ ((j ≡ about m → ⊥) × (at e.tunnels j ≡ Some t))
    found j t there = found_put e.tunnels (about m) u j t (subst (λ ts. at ts j ≡ Some t) g.put_is there)

    was : (j : ℕ) (t : Tunnel) (s : ℕ) (c : Call) → at x.tunnels j ≡ Some t → at t.calls s ≡ Some c → Was accs new n e j t s c
    was j t s c there call =
        ⊎_elim
        (λ (p : (j ≡ about m) × (u ≡ t)).
        rw (p.0, ← p.1) (was_before accs new n (about m) e u s c (ap (λ (y : Tunnel). at y.calls s) p.1 ∙ call) g.before))
        (λ (p : (j ≡ about m → ⊥) × (at e.tunnels j ≡ Some t)). record {
          tunnel = t;
          there = p.1;
          call = call;
          peer = ap (λ (a : Account). a.peer)
              (after_elsewhere accs d n m h.moved.deed.node_is h.moved.deed.move_is (else_none m is_else) n j (λ both. p.0 both.1));
          waits = λ one. one;
        })
        (found j t there)

    none_of : (s : ℕ) → HasNoCall x s → HasNoCall e s
    none_of s none j t there =
        ⊎_elim
        (λ (p : j ≡ about m).
        none_before accs new n (about m) e u t s (subst (λ k. at e.tunnels k ≡ Some t) p there)
        (none (about m) u (rw g.put_is (at_new e.tunnels (about m) u))) g.before)
        (λ other. none j t (rw g.put_is (at_other e.tunnels (about m) u j other) ∙ there))
        (same_or_not j (about m))

    calls_on : CallsJoined v new n x
    calls_on =
        let old = joined_before in
        record {
          live = λ j t there s c call.
              (let k = was j t s c there call in
              subst (λ p. CallJoined v n j p s c) (sym k.peer)
              (let q = old.live j k.tunnel k.there s c k.call in
              record {
                some = q.some;
                state = ap (λ (y : calls.Calls). y.state (name n s)) g.calls ∙ q.state;
                tunnel = ap (λ (y : calls.Calls). y.tunnel (name n s)) g.calls ∙ q.tunnel;
                remote = ap (λ (y : calls.Calls). y.remote (name n s)) g.calls ∙ q.remote;
              }));
          drawn = λ j t there s c call.
              (let k = was j t s c there call in
              rw g.sessions (old.drawn j k.tunnel k.there s c k.call));
          gone = λ s fits none. ap (λ (y : calls.Calls). y.state (name n s)) g.calls ∙ old.gone s fits (none_of s none);
          undrawn = λ s le fits.
              ap (λ (y : calls.Calls). y.drawn (name n s)) g.calls ∙ old.undrawn s (rw g.sessions at le) fits;
          waiting = λ j t there one s c call.
              (let k = was j t s c there call in
              old.waiting j k.tunnel k.there (k.waits one) s c k.call);
          most = rw g.sessions old.most;
          ids = ids_now accs ends w n e x sender moment ev m d h;
          zero = ap (λ (y : calls.Calls). y.drawn (name n 0)) g.calls ∙ old.zero;
          roles = λ j t there s c call.
              (let k = was j t s c there call in
              rw g.role (old.roles j k.tunnel k.there s c k.call));
        }

    moves_on : MovesOn new w v n (about m) e x m
    moves_on = record {
      id = g.id;
      declines = else_none m is_else;
      elsewhere = λ j other. rw g.put_is (at_other e.tunnels (about m) u j other);
      tunnels = g.tunnels;
      tunnel = rw (g.put_is, at_new e.tunnels (about m) u) g.tunnel;
      stay = λ k s other kfits fits. record {
        drawn = ap (λ (y : calls.Calls). y.drawn (name k s)) g.calls;
        tunnel = ap (λ (y : calls.Calls). y.tunnel (name k s)) g.calls;
        remote = ap (λ (y : calls.Calls). y.remote (name k s)) g.calls;
        state = λ either. ap (λ (y : calls.Calls). y.state (name k s)) g.calls;
      };
      calls = calls_on;
      births = else_follow w v n e x m is_else (same_calls w v g.calls) g.role g.sessions;
      up = g.up;
      more = g.more;
      run = g.run;
    }

pub tunnel_moves_follow : TunnelMovesFollow
tunnel_moves_follow accs ends w n e x sender moment ev m d h is v u g =
    moves_on_follow accs ends w n e x sender moment ev m d h v (moves_on accs ends w n e x sender moment ev m d h is v u g)

-- ---- nothing changes in the machine

all_same : (accs : Accounts) (d : Deed) (n : ℕ) (m : Move) → d.node ≡ n → d.move ≡ m → DeclinesNone m
    → entered_by d m (accs n (about m)) ≡ accs n (about m) → after accs d ≡ accs
all_same accs d n m node is none still = fun_ext (λ k. fun_ext (λ j. all_still accs d n m node is none still k j))

pub ends_same : (ends : Ends) (n : ℕ) (e : End) → ends n ≡ Some e → with_end ends n e ≡ ends
ends_same ends n e here = fun_ext (λ k. ⊎_elim
    (λ (p : k ≡ n). rw (p, with_here ends n e) (sym here))
    (λ other. with_there ends n e k other)
    (same_or_not k n))

pub end_stays_follows : EndStaysFollow
end_stays_follows accs ends w n e x sender moment ev m d h is still same = record {
  births = else_follow w w n e x m is (same_calls w w refl) (ap (λ (y : End). y.role) same) (ap (λ (y : End). y.session_ids) same);
  world = w;
  joined = rw (all_same accs d n m h.moved.deed.node_is h.moved.deed.move_is (else_none m is) still, same, ends_same ends n e h.here) h.joined;
}

-- of a tunnel no more is seen than its state
pub state_still : (w : machine.World) (n i : ℕ) (a : Account) (t u : Tunnel) → u.control.state ≡ t.control.state → TunnelJoined w n i a (Some t)
    → TunnelJoined w n i a (Some u)
state_still w n i a t u state h = record {
  drawn = h.drawn;
  opener = h.opener;
  node = h.node;
  peer = h.peer;
  learned = h.learned;
  phase = rw state h.phase;
  entered = h.entered;
  sent = h.sent;
  taken = h.taken;
  refused = h.refused;
  asks = h.asks;
}

-- nothing changes
pub tunnel_same : (w : machine.World) (y : ℕ) → TunnelStays w w y
tunnel_same w y = record {
  drawn = refl;
  opener = refl;
  node = refl;
  peer = refl;
  learned = refl;
  phase = refl;
  entered = refl;
  sent = refl;
  taken = refl;
  refused = refl;
  asks = λ z. refl;
}

pub channel_follows : ChannelFollows
channel_follows accs ends w n e x sender moment ev m d h is still t u there calls state put_is sessions role =
    let i = about m in
    let ok = h.moved.within.accounts n i in
    let fits = ok.id (live_made accs n i (accs n i) t (h.moved.within.end.live i t there)) in
    let same = all_still accs d n m h.moved.deed.node_is h.moved.deed.move_is (else_none m is) still n i in
    tunnel_moves_follow accs ends w n e x sender moment ev m d h is w u (record {
      id = fits;
      put_is = put_is;
      sessions = sessions;
      role = role;
      before = Old t there calls (λ one. rw state at one) (ap (λ (a : Account). a.peer) same);
      tunnels = λ y other. tunnel_same w y;
      tunnel = rw same
          (state_still w n i (accs n i) t u state
          (subst (λ o. TunnelJoined w n i (accs n i) o) there (tunnel_before accs ends w n e x sender moment ev m d h i fits)));
      calls = refl;
      up = λ k. refl;
      more = [];
      run = sym (no_step all_rules w);
    })
