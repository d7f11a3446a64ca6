-- The link of a call is called. The machine knows of no link: to it the call is as before.
use Rattle.std.proofs.Common.{◌≡◌, inr, ℕ, [], refl, sym, ap, subst, Option, Some, arith}
use Rattle.id_table.specs.Ids.{at, put}
use Rattle.id_table.specs.Order.{at_new, at_other}
use Rattle.end_model.specs.declared.event.Event.{Event}
use Rattle.end_model.specs.declared.moves.Negotiated.{Negotiated}
use Rattle.end_model.specs.declared.moves.Counted.{Counted}
use Rattle.end_model.specs.declared.moves.Move.{Move}
use Rattle.end_model.specs.declared.moves.Move.TheVariants as move
use Rattle.end_model.specs.declared.tunnel.Call.{Call}
use Rattle.end_model.specs.Tunnels.{Tunnel}
use Rattle.end_model.specs.Calls.{counted}
use Rattle.end_model.specs.Links.{with_link}
use Rattle.end_model.specs.End.{End}
use Rattle.world_model.specs.World.{Sender, Deed}
use Rattle.call_link.specs.Laws.{turn_at}
use Rattle.epoch_machine.specs.Worlds.{World, all_rules}
use Rattle.connection_laws.specs.Accounts.{about, entered_by}
use Rattle.connection_laws.specs.Facts.{Accounts}
use Rattle.connection_laws.specs.Steps.{after}
use Rattle.session_laws.specs.Joined.{Ends, CallJoined, CallsJoined, TunnelJoined}
use Rattle.session_laws.proofs.Births.{IsElse, same_calls, else_follow}
use Rattle.session_laws.proofs.Entering.{else_none, all_still}
use Rattle.session_laws.proofs.Keeps.{with_end, IsMade, Follows}
use Rattle.session_laws.proofs.Ground.{joined_before, tunnel_before, state_still, tunnel_same, no_step}
use Rattle.session_laws.proofs.CallGround.{OneCall, TunnelGoes, one_call_follows}

-- ---- a call that is kept

-- it has the state and the other end that it had
record IsKept (c k : Call) : Type 0 where
  state : k.state ≡ c.state
  remote : k.remote ≡ c.remote

kept_joined : (w : World) (n i peer s : ℕ) (c k : Call) → IsKept c k → CallJoined w n i peer s c → CallJoined w n i peer s k
kept_joined w n i peer s c k kept h = record {
  some = h.some;
  state = rw kept.state h.state;
  tunnel = h.tunnel;
  remote = rw kept.remote h.remote;
}

-- no account changes, and of the end only what a call of a tunnel keeps for itself
module _ (accs : Accounts) (ends : Ends) (w : World) (n : ℕ) (e x : End) (sender : Option Sender) (moment : ℕ) (ev : Event) (m : Move) (d : Deed)
    (h : IsMade accs ends w n e x sender moment ev m d) (is : IsElse m) (still : entered_by d m (accs n (about m)) ≡ accs n (about m))
    (t : Tunnel) (there : at e.tunnels (about m) ≡ Some t) (s : ℕ) (c k : Call) (live : at t.calls s ≡ Some c) (kept : IsKept c k)
    (put_is : x.tunnels ≡ put e.tunnels (about m) (record t { calls = put t.calls s k })) (sessions : x.session_ids ≡ e.session_ids)
    (role : x.role ≡ e.role) where
  abbrev i : ℕ
  i = about m

  abbrev u : Tunnel
  u = record t { calls = put t.calls s k }

  calls : CallsJoined w accs n e
  calls = joined_before accs ends w n e x sender moment ev m d h

  same : after accs d n i ≡ accs n i
  same = all_still accs d n m h.moved.deed.node_is h.moved.deed.move_is (else_none m is) still n i

  one : OneCall w w n i (accs n i).peer e x t u s
  one = record {
    there = there;
    put_is = put_is;
    role = role;
    rises = rw sessions (omega arith);
    most = rw sessions calls.most;
    some = (calls.live i t there s c live).some;
    below = rw sessions (calls.drawn i t there s c live);
    others = λ q other. at_other t.calls s k q other;
    waits = λ one. one;
    mine = inr (c, live);
    calls = λ j q jfits qfits other. record { drawn = refl; tunnel = refl; remote = refl; state = refl };
    here = rw (at_new t.calls s k) (
      kept_joined w n i (accs n i).peer s c k kept (calls.live i t there s c live),
      rw (role, kept.state) (calls.roles i t there s c live),
      λ one. rw kept.state (calls.waiting i t there one s c live),
    );
  }

  goes : TunnelGoes accs (after accs d) w w n i u
  goes = record {
    tunnels = λ y other. tunnel_same w y;
    tunnel = rw same
        (state_still w n i (accs n i) t u refl
        (subst (λ o. TunnelJoined w n i (accs n i) o) there (tunnel_before accs ends w n e x sender moment ev m d h i (calls.ids i t there))));
    peer = rw same refl;
    up = λ q. refl;
    more = [];
    run = sym (no_step all_rules w);
  }

  kept_follows : Follows w n e x m (after accs d) (with_end ends n x)
  kept_follows = one_call_follows accs ends w n e x sender moment ev m d h (else_none m is) w t u s
      (else_follow w w n e x m is (same_calls w w refl) role sessions)
      (subst (λ a. OneCall w w n i a.peer e x t u s) (sym same) one) goes

-- ---- a call's LCP end

module _ (accs : Accounts) (ends : Ends) (w : World) (n : ℕ) (e x : End) (sender : Option Sender) (moment : ℕ) (ev : Event) where
  pub negotiated_follows : (m : Negotiated) (d : Deed) → IsMade accs ends w n e x sender moment ev (move.Negotiated m) d
      → Follows w n e x (move.Negotiated m) (after accs d) (with_end ends n x)
  negotiated_follows m d h =
      let o = h.moved.does in
      kept_follows accs ends w n e x sender moment ev (move.Negotiated m) d h tt refl o.tunnel o.there m.session o.call
      (with_link (turn_at o.calls.by o.calls.link).link o.call) o.live (record { state = refl; remote = refl })
      (ap (λ (y : End). y.tunnels) o.after) (ap (λ (y : End). y.session_ids) o.after) (ap (λ (y : End). y.role) o.after)

  -- ---- the number of its data messages

  pub counted_follows : (m : Counted) (d : Deed) → IsMade accs ends w n e x sender moment ev (move.Counted m) d
      → Follows w n e x (move.Counted m) (after accs d) (with_end ends n x)
  counted_follows m d h =
      let o = h.moved.does in
      kept_follows accs ends w n e x sender moment ev (move.Counted m) d h tt refl o.tunnel o.there m.session o.call
      (counted o.call) o.live (record { state = refl; remote = refl })
      (ap (λ (y : End). y.tunnels) o.after) (ap (λ (y : End). y.session_ids) o.after) (ap (λ (y : End). y.role) o.after)
