-- One call of a tunnel changes, or none, and in the machine that call alone: then all calls of the node are joined again.
use Rattle.std.proofs.Common.{◌≡◌, ◌⊎◌, ⊎_elim, ℕ, ◌<◌, ◌≤◌, List, refl, sym, ap, ◌∙◌, subst, Option, Some, None, arith}
use Rattle.id_table.specs.Ids.{at, put}
use Rattle.id_table.specs.Order.{same_or_not, at_new, at_other, found_put}
use Rattle.call_fsm.specs.declared.table.CallState.TheVariants.{WaitTunnel}
use Rattle.tunnel_fsm.specs.Rows.{state_number}
use Rattle.end_model.specs.declared.event.Event.{Event}
use Rattle.end_model.specs.declared.moves.Move.{Move}
use Rattle.end_model.specs.declared.tunnel.Call.{Call}
use Rattle.end_names.specs.declared.role.Role.{Role}
use Rattle.end_model.specs.Tunnels.{Tunnel}
use Rattle.end_model.specs.End.{End}
use Rattle.world_model.specs.World.{Sender, Deed}
use Rattle.epoch_machine.specs.Worlds as machine
use Rattle.epoch_machine.specs.Worlds.{all_rules}
use Rattle.epoch_machine.specs.Moves as moves
use Rattle.epoch_machine.specs.Moves.{goes_on}
use Rattle.epoch_machine.specs.Calls.{NoCall}
use Rattle.connection_laws.specs.Accounts.{Account, about}
use Rattle.connection_laws.specs.Facts.{Accounts}
use Rattle.connection_laws.specs.Steps.{after}
use Rattle.session_laws.specs.Names.{name}
use Rattle.session_laws.specs.Joined.{Ends, TunnelJoined, CallJoined, FitsRole, HasNoCall, CallsJoined}
use Rattle.session_laws.proofs.Births.{BirthsFollow}
use Rattle.session_laws.proofs.Keeps.{with_end, IsMade, Follows}
use Rattle.session_laws.proofs.Entering.{DeclinesNone, after_elsewhere}
use Rattle.session_laws.proofs.Names.{same_name}
use Rattle.session_laws.proofs.Ground.{TunnelStays, MovesOn, ids_now, joined_before, moves_on_follow}

-- ---- calls that stay

pub record CallSame (w v : machine.World) (z : ℕ) : Type 0 where
  pub drawn : v.calls.drawn z ≡ w.calls.drawn z
  pub tunnel : v.calls.tunnel z ≡ w.calls.tunnel z
  pub remote : v.calls.remote z ≡ w.calls.remote z
  pub state : v.calls.state z ≡ w.calls.state z

pub call_same : (w v : machine.World) (z n i peer s : ℕ) (c : Call) → z ≡ name n s → CallSame w v z → CallJoined w n i peer s c → CallJoined v n i peer s c
call_same w v z n i peer s c is same h = record {
  some = h.some;
  state = rw is at same.state ∙ h.state;
  tunnel = rw is at same.tunnel ∙ h.tunnel;
  remote = rw is at same.remote ∙ h.remote;
}

-- ---- what changes

-- how the call with session s stands in tunnel u, and in the machine: there is none, or one
abbrev pub CallNow : machine.World → ℕ → ℕ → ℕ → Role → Tunnel → ℕ → Option Call → Type 0
CallNow v n i peer role u s None = v.calls.state (name n s) ≡ NoCall
CallNow v n i peer role u s (Some c) =
    CallJoined v n i peer s c × FitsRole role c.state × (state_number u.control.state ≡ 1 → c.state ≡ WaitTunnel)

-- tunnel i of node n was t and is u: the call with session s changes in it, and no other one
pub record OneCall (w v : machine.World) (n i peer : ℕ) (e x : End) (t u : Tunnel) (s : ℕ) : Type 0 where
  pub there : at e.tunnels i ≡ Some t
  pub put_is : x.tunnels ≡ put e.tunnels i u
  pub role : x.role ≡ e.role
  pub rises : e.session_ids.next ≤ x.session_ids.next
  pub most : x.session_ids.next ≤ 65536
  pub some : 0 < s
  pub below : s < x.session_ids.next
  pub others : (q : ℕ) → (q ≡ s → ⊥) → at u.calls q ≡ at t.calls q
  pub waits : state_number u.control.state ≡ 1 → state_number t.control.state ≡ 1
  -- the session is new, or the tunnel's
  pub mine : (e.session_ids.next ≤ s) ⊎ ((c : Call) × (at t.calls s ≡ Some c))
  pub calls : (m q : ℕ) → m < 256 → q < 65536 → ((m ≡ n) × (q ≡ s) → ⊥) → CallSame w v (name m q)
  pub here : CallNow v n i peer x.role u s (at u.calls s)

-- tunnel i was t and is u, and no call changes
pub record NoCallMoves (w v : machine.World) (n i : ℕ) (e x : End) (t u : Tunnel) : Type 0 where
  pub there : at e.tunnels i ≡ Some t
  pub put_is : x.tunnels ≡ put e.tunnels i u
  pub role : x.role ≡ e.role
  pub sessions : x.session_ids ≡ e.session_ids
  pub same : u.calls ≡ t.calls
  pub waits : state_number u.control.state ≡ 1 → state_number t.control.state ≡ 1
  pub calls : (m q : ℕ) → m < 256 → q < 65536 → CallSame w v (name m q)

-- ---- one call

module _ (accs ms : Accounts) (w v : machine.World) (n i : ℕ) (e x : End) (t u : Tunnel) (s : ℕ) (old : CallsJoined w accs n e)
    (fits : n < 256) (ids : (j : ℕ) (k : Tunnel) → at x.tunnels j ≡ Some k → j < 65536) (peers : (j : ℕ) → (ms n j).peer ≡ (accs n j).peer)
    (g : OneCall w v n i (ms n i).peer e x t u s) where
  -- a tunnel of the new end: this one, or another one as before
  found : (j : ℕ) (k : Tunnel) → at x.tunnels j ≡ Some k → ((j ≡ i) × (u ≡ k)) ⊎ ((j ≡ i → ⊥) × (at e.tunnels j ≡ Some k))
  found j k there = found_put e.tunnels i u j k (subst (λ ts. at ts j ≡ Some k) g.put_is there)

  -- a call of the new end: the one that changes, or another one, which was there
  data Found (j : ℕ) (k : Tunnel) (q : ℕ) (c : Call) : Type 0 where
    It : j ≡ i → q ≡ s → u ≡ k → at u.calls s ≡ Some c → Found j k q c
    Other : (q ≡ s → ⊥) → (b : Tunnel) → at e.tunnels j ≡ Some b → at b.calls q ≡ Some c
        → (state_number k.control.state ≡ 1 → state_number b.control.state ≡ 1) → Found j k q c

  -- no other tunnel has the session
  not_there : (j : ℕ) (k : Tunnel) (c : Call) → (j ≡ i → ⊥) → at e.tunnels j ≡ Some k → at k.calls s ≡ Some c → j < 65536 → ⊥
  not_there j k c other there call jfits =
      ⊎_elim
      (λ (new : e.session_ids.next ≤ s). let lt = old.drawn j k there s c call in let no : ⊥ = omega arith in no)
      (λ (mine : (b : Call) × (at t.calls s ≡ Some b)).
      let one = (old.live j k there s c call).tunnel in
      let two = (old.live i t g.there s mine.0 mine.1).tunnel in
      other (same_name n j n i jfits (old.ids i t g.there) (sym one ∙ two)).1)
      g.mine

  found_call : (j : ℕ) (k : Tunnel) (q : ℕ) (c : Call) → at x.tunnels j ≡ Some k → at k.calls q ≡ Some c → Found j k q c
  found_call j k q c there call =
      ⊎_elim
      (λ (p : (j ≡ i) × (u ≡ k)).
      let in_u : at u.calls q ≡ Some c = ap (λ (y : Tunnel). at y.calls q) p.1 ∙ call in
      ⊎_elim
      (λ (is : q ≡ s). It p.0 is p.1 (rw is at in_u))
      (λ (other : q ≡ s → ⊥).
      Other other t (rw p.0 g.there) (sym (g.others q other) ∙ in_u)
      (λ one. g.waits (ap (λ (y : Tunnel). state_number y.control.state) p.1 ∙ one)))
      (same_or_not q s))
      (λ (p : (j ≡ i → ⊥) × (at e.tunnels j ≡ Some k)).
      ⊎_elim
      (λ (is : q ≡ s). absurd (not_there j k c p.0 p.1 (rw is at call) (ids j k there)))
      (λ (other : q ≡ s → ⊥). Other other k p.1 call (λ one. one))
      (same_or_not q s))
      (found j k there)

  call_now : (c : Call) → at u.calls s ≡ Some c
      → CallJoined v n i (ms n i).peer s c × FitsRole x.role c.state × (state_number u.control.state ≡ 1 → c.state ≡ WaitTunnel)
  call_now c is = subst (λ o. CallNow v n i (ms n i).peer x.role u s o) is g.here

  live_by : (j : ℕ) (k : Tunnel) (q : ℕ) (c : Call) → Found j k q c → CallJoined v n j (ms n j).peer q c
  live_by j k q c (It here is same call) = rw (here, is) (call_now c call).0
  live_by j k q c (Other other b there call waits) =
      let lt = old.drawn j b there q c call in
      let most = old.most in
      let qfits : q < 65536 = omega arith in
      rw (peers j) (call_same w v (name n q) n j (accs n j).peer q c refl
      (g.calls n q fits qfits (λ both. other both.1)) (old.live j b there q c call))

  drawn_by : (j : ℕ) (k : Tunnel) (q : ℕ) (c : Call) → Found j k q c → q < x.session_ids.next
  drawn_by j k q c (It here is same call) = rw is g.below
  drawn_by j k q c (Other other b there call waits) = let lt = old.drawn j b there q c call in let le = g.rises in omega arith

  waiting_by : (j : ℕ) (k : Tunnel) (q : ℕ) (c : Call) → state_number k.control.state ≡ 1 → Found j k q c → c.state ≡ WaitTunnel
  waiting_by j k q c one (It here is same call) = (call_now c call).2 (ap (λ (y : Tunnel). state_number y.control.state) same ∙ one)
  waiting_by j k q c one (Other other b there call waits) = old.waiting j b there (waits one) q c call

  roles_by : (j : ℕ) (k : Tunnel) (q : ℕ) (c : Call) → Found j k q c → FitsRole x.role c.state
  roles_by j k q c (It here is same call) = (call_now c call).1
  roles_by j k q c (Other other b there call waits) = rw g.role (old.roles j b there q c call)

  at_u : at x.tunnels i ≡ Some u
  at_u = rw g.put_is (at_new e.tunnels i u)

  -- another session that no tunnel has, none had
  none_of : (q : ℕ) → (q ≡ s → ⊥) → HasNoCall x q → HasNoCall e q
  none_of q other none j k there =
      ⊎_elim
      (λ (p : j ≡ i).
      let same : t ≡ k = let a = g.there in let b = rw p at there in let c = sym a ∙ b in cc in
      ap (λ (y : Tunnel). at y.calls q) (sym same) ∙ sym (g.others q other) ∙ none i u at_u)
      (λ apart. none j k (rw g.put_is (at_other e.tunnels i u j apart) ∙ there))
      (same_or_not j i)

  gone : (q : ℕ) → q < 65536 → HasNoCall x q → v.calls.state (name n q) ≡ NoCall
  gone q qfits none =
      ⊎_elim
      (λ (is : q ≡ s).
      let empty : at u.calls s ≡ None = rw is at (none i u at_u) in
      rw is (subst (λ o. CallNow v n i (ms n i).peer x.role u s o) empty g.here))
      (λ (other : q ≡ s → ⊥). (g.calls n q fits qfits (λ both. other both.1)).state ∙ old.gone q qfits (none_of q other none))
      (same_or_not q s)

  pub one_call_joined : CallsJoined v ms n x
  one_call_joined = record {
    live = λ j k there q c call. live_by j k q c (found_call j k q c there call);
    drawn = λ j k there q c call. drawn_by j k q c (found_call j k q c there call);
    gone = gone;
    undrawn = λ q le qfits.
        (let lt = g.below in
        let rises = g.rises in
        (g.calls n q fits qfits (λ both. let is = both.1 in let no : ⊥ = omega arith in no)).drawn ∙ old.undrawn q (omega arith) qfits);
    waiting = λ j k there one q c call. waiting_by j k q c one (found_call j k q c there call);
    most = g.most;
    ids = ids;
    zero = (let some = g.some in
        (g.calls n 0 fits (omega arith) (λ both. let is = both.1 in let no : ⊥ = omega arith in no)).drawn ∙ old.zero);
    roles = λ j k there q c call. roles_by j k q c (found_call j k q c there call);
  }

-- ---- no call

module _ (accs ms : Accounts) (w v : machine.World) (n i : ℕ) (e x : End) (t u : Tunnel) (old : CallsJoined w accs n e) (fits : n < 256)
    (ids : (j : ℕ) (k : Tunnel) → at x.tunnels j ≡ Some k → j < 65536) (peers : (j : ℕ) → (ms n j).peer ≡ (accs n j).peer)
    (g : NoCallMoves w v n i e x t u) where
  -- a tunnel of the new end has the calls of the one that was there
  record Had (j : ℕ) (k : Tunnel) : Type 0 where
    b : Tunnel
    had : at e.tunnels j ≡ Some b
    same : k.calls ≡ b.calls
    waits : state_number k.control.state ≡ 1 → state_number b.control.state ≡ 1

  had : (j : ℕ) (k : Tunnel) → at x.tunnels j ≡ Some k → Had j k
  had j k there =
      ⊎_elim
      (λ (p : (j ≡ i) × (u ≡ k)). record {
        b = t;
        had = rw p.0 g.there;
        same = ap (λ (y : Tunnel). y.calls) (sym p.1) ∙ g.same;
        waits = λ one. g.waits (ap (λ (y : Tunnel). state_number y.control.state) p.1 ∙ one);
      })
      (λ (p : (j ≡ i → ⊥) × (at e.tunnels j ≡ Some k)). record { b = k; had = p.1; same = refl; waits = λ one. one })
      (found_put e.tunnels i u j k (subst (λ ts. at ts j ≡ Some k) g.put_is there))

  had_call : (j : ℕ) (k : Tunnel) (h : Had j k) (q : ℕ) (c : Call) → at k.calls q ≡ Some c → at h.b.calls q ≡ Some c
  had_call j k h q c call = ap (λ cs. at cs q) (sym h.same) ∙ call

  none_had : (q : ℕ) → HasNoCall x q → HasNoCall e q
  none_had q none j k there =
      ⊎_elim
      (λ (p : j ≡ i).
      let same : t ≡ k = let a = g.there in let b = rw p at there in let c = sym a ∙ b in cc in
      ap (λ (y : Tunnel). at y.calls q) (sym same) ∙ ap (λ cs. at cs q) (sym g.same) ∙ none i u (rw g.put_is (at_new e.tunnels i u)))
      (λ apart. none j k (rw g.put_is (at_other e.tunnels i u j apart) ∙ there))
      (same_or_not j i)

  pub no_call_joined : CallsJoined v ms n x
  no_call_joined = record {
    live = λ j k there q c call.
        (let h = had j k there in
        let is = had_call j k h q c call in
        let lt = old.drawn j h.b h.had q c is in
        let most = old.most in
        rw (peers j) (call_same w v (name n q) n j (accs n j).peer q c refl (g.calls n q fits (omega arith)) (old.live j h.b h.had q c is)));
    drawn = λ j k there q c call. (let h = had j k there in rw g.sessions (old.drawn j h.b h.had q c (had_call j k h q c call)));
    gone = λ q qfits none. (g.calls n q fits qfits).state ∙ old.gone q qfits (none_had q none);
    undrawn = λ q le qfits. (g.calls n q fits qfits).drawn ∙ old.undrawn q (rw g.sessions at le) qfits;
    waiting = λ j k there one q c call. (let h = had j k there in old.waiting j h.b h.had (h.waits one) q c (had_call j k h q c call));
    most = rw g.sessions old.most;
    ids = ids;
    zero = (g.calls n 0 fits (omega arith)).drawn ∙ old.zero;
    roles = λ j k there q c call. (let h = had j k there in rw g.role (old.roles j h.b h.had q c (had_call j k h q c call)));
  }

-- ---- the ground of moves about calls

-- what the machine does beside calls, and what becomes of the tunnel
pub record TunnelGoes (accs ms : Accounts) (w v : machine.World) (n i : ℕ) (u : Tunnel) : Type 0 where
  pub tunnels : (y : ℕ) → (y ≡ name n i → ⊥) → TunnelStays w v y
  pub tunnel : TunnelJoined v n i (ms n i) (Some u)
  pub peer : (ms n i).peer ≡ (accs n i).peer
  pub up : (m : ℕ) → v.tunnels.up m ≡ w.tunnels.up m
  pub more : List moves.Move
  pub run : v ≡ goes_on all_rules w more

module _ (accs : Accounts) (ends : Ends) (w : machine.World) (n : ℕ) (e x : End) (sender : Option Sender) (moment : ℕ) (ev : Event) (m : Move) (d : Deed)
    (h : IsMade accs ends w n e x sender moment ev m d) (declines : DeclinesNone m) (v : machine.World) (t u : Tunnel) where
  abbrev ms : Accounts
  ms = after accs d

  abbrev i : ℕ
  i = about m

  peers : (ms n i).peer ≡ (accs n i).peer → (j : ℕ) → (ms n j).peer ≡ (accs n j).peer
  peers same j = ⊎_elim
      (λ (p : j ≡ i). rw p same)
      (λ other. ap (λ (a : Account). a.peer)
      (after_elsewhere accs d n m h.moved.deed.node_is h.moved.deed.move_is declines n j (λ both. other both.1)))
      (same_or_not j i)

  -- where the calls of the node are joined again
  moves_on : at e.tunnels i ≡ Some t → x.tunnels ≡ put e.tunnels i u → TunnelGoes accs ms w v n i u
      → ((k q : ℕ) → (k ≡ n → ⊥) → k < 256 → q < 65536 → CallSame w v (name k q)) → CallsJoined v ms n x → BirthsFollow w v n e x m
      → MovesOn ms w v n i e x m
  moves_on there put_is g others calls births = record {
    id = (joined_before accs ends w n e x sender moment ev m d h).ids i t there;
    declines = declines;
    elsewhere = λ j other. rw put_is (at_other e.tunnels i u j other);
    tunnels = g.tunnels;
    tunnel = rw (put_is, at_new e.tunnels i u) g.tunnel;
    stay = λ k q other kfits qfits.
        (let c = others k q other kfits qfits in
        record { drawn = c.drawn; tunnel = c.tunnel; remote = c.remote; state = λ either. c.state });
    calls = calls;
    births = births;
    up = g.up;
    more = g.more;
    run = g.run;
  }

  pub one_call_follows : (s : ℕ) → BirthsFollow w v n e x m → OneCall w v n i (ms n i).peer e x t u s → TunnelGoes accs ms w v n i u → Follows w n e x m ms (with_end ends n x)
  one_call_follows s births one g =
      moves_on_follow accs ends w n e x sender moment ev m d h v
      (moves_on one.there one.put_is g
      (λ k q other kfits qfits. one.calls k q kfits qfits (λ both. other both.0))
      (one_call_joined accs ms w v n i e x t u s (joined_before accs ends w n e x sender moment ev m d h) h.moved.within.end.node
      (ids_now accs ends w n e x sender moment ev m d h) (peers g.peer) one) births)

  pub no_call_follows : BirthsFollow w v n e x m → NoCallMoves w v n i e x t u → TunnelGoes accs ms w v n i u → Follows w n e x m ms (with_end ends n x)
  no_call_follows births none g =
      moves_on_follow accs ends w n e x sender moment ev m d h v
      (moves_on none.there none.put_is g
      (λ k q other kfits qfits. none.calls k q kfits qfits)
      (no_call_joined accs ms w v n i e x t u (joined_before accs ends w n e x sender moment ev m d h) h.moved.within.end.node
      (ids_now accs ends w n e x sender moment ev m d h) (peers g.peer) none) births)
