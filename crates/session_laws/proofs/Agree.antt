-- Ends that agree hold the same sessions: from what the machine's ends hold.
use Rattle.std.proofs.Common.{◌≡◌, ⊎_elim, ℕ, ◌+◌, ◌^◌, ◌<◌, ◌≤◌, Bool, true, false, ◌&&◌, length, refl, sym, ap, ◌∙◌, subst, Option, Some, None, arith}
use Rattle.std.proofs.lemmas.Bool.{true≢false}
use Rattle.std.proofs.lemmas.List.{length-map}
use Rattle.std.proofs.lemmas.Option.{none-some}
use Rattle.std.specs.Prelude.{◌==◌, map}
use Rattle.id_table.specs.Ids.{at}
use Rattle.tunnel_fsm.specs.declared.table.TunnelState.{TunnelState}
use Rattle.tunnel_fsm.specs.declared.table.TunnelState.TheVariants as tunnel
use Rattle.tunnel_fsm.specs.Rows.{state_number}
use Rattle.call_fsm.specs.declared.table.CallState.{CallState}
use Rattle.call_fsm.specs.declared.table.CallState.TheVariants as call
use Rattle.control_channel.specs.Numbers.{next_given}
use Rattle.end_model.specs.declared.tunnel.Call.{Call}
use Rattle.end_model.specs.Calls.{is_up}
use Rattle.end_model.specs.Tunnels.{Tunnel}
use Rattle.end_model.specs.End.{End}
use Rattle.world_model.specs.World.{World, Node}
use Rattle.epoch_machine.specs.Worlds as machine
use Rattle.epoch_machine.specs.Worlds.{all_rules}
use Rattle.epoch_machine.specs.Tunnels.{Linked, Open}
use Rattle.epoch_machine.specs.Calls as calls
use Rattle.birth_laws.specs.Births as births
use Rattle.coverage_laws.specs.Coverage as coverage
use Rattle.connection_laws.specs.Accounts.{Part, Unmade, Opener, Acceptor, heeded}
use Rattle.connection_laws.specs.Facts as facts
use Rattle.connection_laws.specs.Facts.{Accounts, IsOpen, IsMade, AccountOk, IsAcceptor, IsPart, LiveOk, IsInState, EndOk, NodeOk}
use Rattle.session_laws.specs.Names.{name, name_of, letter_of, phase_of, state_of}
use Rattle.session_laws.specs.Joined.{tunnel_in, TunnelJoined, CallJoined, CallsJoined, HasNoCall, NodeJoined, AreJoined, ends_of}
use Rattle.session_laws.specs.Sessions.{HoldsSession}
use Rattle.session_laws.proofs.Learned.{open_learned}
use Rattle.session_laws.proofs.Names.{same_name, known_name, name_not_zero}
use Rattle.session_laws.proofs.States.{not_closed, at_work, heeds_all}

pub and_left : (a b : Bool) → (a && b) ≡ true → a ≡ true
and_left true b h = refl
and_left false b h = h

pub and_right : (a b : Bool) → (a && b) ≡ true → b ≡ true
and_right true b h = h
and_right false b h = absurd (true≢false (sym h))

is_open : (s : TunnelState) → state_number s ≡ 3 → phase_of s ≡ Open
is_open tunnel.Idle h = absurd (omega (arith, h))
is_open tunnel.WaitCtlReply h = absurd (omega (arith, h))
is_open tunnel.WaitCtlConn h = absurd (omega (arith, h))
is_open tunnel.Established h = refl
is_open tunnel.Closed h = absurd (omega (arith, h))

up_state : (s : CallState) → is_up s ≡ true → state_of s ≡ calls.Up
up_state call.Idle h = absurd (true≢false (sym h))
up_state call.WaitTunnel h = absurd (true≢false (sym h))
up_state call.WaitReply h = absurd (true≢false (sym h))
up_state call.WaitConnect h = absurd (true≢false (sym h))
up_state call.Established h = refl

state_up : (s : CallState) → state_of s ≡ calls.Up → is_up s ≡ true
state_up call.Idle h = absurd cc
state_up call.WaitTunnel h = absurd cc
state_up call.WaitReply h = absurd cc
state_up call.WaitConnect h = absurd cc
state_up call.Established h = refl

no_call_up : calls.NoCall ≡ calls.Up → ⊥
no_call_up h = cc

module _ (w : World) (accs : Accounts) (most : ℕ) (few : most + 8192 < 2 ^ 64) (holds : facts.Holds w accs)
    (given : (n i : ℕ) → length (accs n i).given ≤ most) (mw : machine.World) (joined : AreJoined accs (ends_of w.nodes) mw)
    (known : births.CallsHold mw.tunnels mw.calls) (agrees : coverage.EndsAgree mw) where
  -- a tunnel that is open at a node
  pub record OpenAt (n i : ℕ) (t : Tunnel) : Type 0 where
    pub node : Node
    pub is : at w.nodes n ≡ Some node
    pub there : at node.end.tunnels i ≡ Some t
    pub open_is : state_number t.control.state ≡ 3

  -- what is known of it
  pub record Seen (n i : ℕ) (t : Tunnel) (e : End) : Type 0 where
    pub node : n < 256
    pub id : i < 65536
    pub some : 0 < i
    pub learned : (accs n i).remote ≡ 0 → ⊥
    -- it heeded all that it took
    pub took : heeded (accs n i) ≡ length (accs n i).taken
    pub is_open : IsOpen (accs n i)
    pub live : LiveOk accs n i (accs n i) t
    pub machine_is : TunnelJoined mw n i (accs n i) (Some t)
    pub phase : mw.tunnels.phase (name n i) ≡ Open
    pub calls_are : CallsJoined mw accs n e
    pub peer_fits : (accs n i).peer < 256
    pub remote_fits : (accs n i).remote < 65536

  made_of : (n i : ℕ) (t : Tunnel) (q : Part) → (accs n i).part ≡ q → IsInState accs i (accs n i) t q → IsMade (accs n i)
  made_of n i t Unmade is h = λ z. h
  made_of n i t Opener is h = λ z. cc
  made_of n i t Acceptor is h = λ z. cc

  learned_of : (n i : ℕ) (t : Tunnel) → state_number t.control.state ≡ 3 → (q : Part) → IsPart accs n i (accs n i) q → IsInState accs i (accs n i) t q
      → (accs n i).remote ≡ 0 → ⊥
  learned_of n i t open_is Unmade p h = λ z. h
  learned_of n i t open_is Opener p h = ⊎_elim
      (λ one. λ z. absurd (omega (arith, open_is, one.0)))
      (λ more. ⊎_elim (λ three. three.1) (λ four. λ z. absurd (omega (arith, open_is, four.0))) more)
      h
  learned_of n i t open_is Acceptor p h = p.known

  seen : (n i : ℕ) (t : Tunnel) (o : OpenAt n i t) → Seen n i t o.node.end
  seen n i t o =
      let a = accs n i in
      let ok : EndOk accs n o.node.end = (let h : NodeOk accs n (Some o.node) = subst (NodeOk accs n) o.is (holds.nodes n) in h.0) in
      let live = ok.live i t o.there in
      let account = holds.accounts n i in
      let made = made_of n i t a.part refl live.state in
      let works = at_work accs n i a t live (not_closed t.control.state 3 o.open_is (omega arith)) in
      let here : ends_of w.nodes n ≡ Some o.node.end = ap (λ (x : Option Node). Rattle.std.specs.Prelude.option_map (λ (node : Node). node.end) x) o.is in
      let there : tunnel_in (ends_of w.nodes n) i ≡ Some t = ap (λ (x : Option End). tunnel_in x i) here ∙ o.there in
      let k : TunnelJoined mw n i a (Some t) = subst (TunnelJoined mw n i a) there (joined.tunnels n i ok.node (account.id made)) in
      record {
        node = ok.node;
        id = account.id made;
        some = account.some made;
        learned = learned_of n i t o.open_is a.part account.part live.state;
        took = heeds_all a works.is_open;
        is_open = works.is_open;
        live = live;
        machine_is = k;
        phase = k.phase ∙ is_open t.control.state o.open_is;
        calls_are = subst (λ (x : Option End). NodeJoined mw accs n x) here (joined.nodes n ok.node);
        peer_fits = account.peer;
        remote_fits = account.remote;
      }

  -- two tunnels that have learned each other, of which each took all that was given to the other
  pub record Pair (n i : ℕ) (t : Tunnel) (m j : ℕ) (u : Tunnel) : Type 0 where
    pub one : OpenAt n i t
    pub other : OpenAt m j u
    pub forth : (accs n i).remote ≡ j
    pub goes : (accs n i).peer ≡ m
    pub back : (accs m j).remote ≡ i
    pub comes : (accs m j).peer ≡ n
    pub took : t.control.channel.inbox.taken ≡ next_given u.control.channel
    pub taken : u.control.channel.inbox.taken ≡ next_given t.control.channel

  pub swapped : (n i : ℕ) (t : Tunnel) (m j : ℕ) (u : Tunnel) → Pair n i t m j u → Pair m j u n i t
  swapped n i t m j u p = record {
    one = p.other;
    other = p.one;
    forth = p.back;
    goes = p.comes;
    back = p.forth;
    comes = p.goes;
    took = p.taken;
    taken = p.took;
  }

  -- the number of the next letter is how many were given
  next_is : (n i : ℕ) (t : Tunnel) → LiveOk accs n i (accs n i) t → next_given t.control.channel ≡ length (accs n i).given
  next_is n i t live = let le = given n i in let c = live.counted in omega (arith, few)

  module _ (n i : ℕ) (t : Tunnel) (m j : ℕ) (u : Tunnel) (p : Pair n i t m j u) where
    a : Seen n i t p.one.node.end
    a = seen n i t p.one

    b : Seen m j u p.other.node.end
    b = seen m j u p.other

    forth_name : mw.tunnels.learned (name n i) ≡ name m j
    forth_name = a.machine_is.learned ∙ open_learned (accs n i) a.is_open ∙ (rw (p.goes, p.forth) (known_name m j b.some))

    back_name : mw.tunnels.learned (name m j) ≡ name n i
    back_name = b.machine_is.learned ∙ open_learned (accs m j) b.is_open ∙ (rw (p.comes, p.back) (known_name n i a.some))

    linked : Linked mw.tunnels.learned (name n i) (name m j)
    linked = record { forth = forth_name; back = back_name; from_name = name_not_zero n i a.some; to_name = name_not_zero m j b.some }

    -- each took all
    all_taken : coverage.AllTaken mw (name n i) (name m j)
    all_taken =
        let sent = length-map (accs n i).given (λ l. letter_of n (accs n i).peer l) in
        let count = b.live.taken in
        let next = next_is n i t a.live in
        let took = p.taken in
        rw (a.machine_is.entered, a.machine_is.sent, b.machine_is.taken, b.took) (omega arith)

    -- a call that is found at the other end
    found : (s : ℕ) (c : Call) → at t.calls s ≡ Some c → is_up c.state ≡ true → coverage.HeldByBoth mw (name m j) (name n s)
        → HoldsSession u c.remote s
    found s c there up held =
        let k : CallJoined mw n i (accs n i).peer s c = a.calls_are.live i t p.one.there s c there in
        let fits : s < 65536 = (let lt = a.calls_are.drawn i t p.one.there s c there in let le = a.calls_are.most in omega arith) in
        let up_m : mw.calls.state (name n s) ≡ calls.Up = k.state ∙ up_state c.state up in
        let some : mw.calls.remote (name n s) ≡ 0 → ⊥ = known.up_remote (name n s) (known.booked_up (name n s) (known.up_booked (name n s) up_m)) in
        let some_remote : 0 < c.remote = remote_some c.remote (λ z. some (k.remote ∙ ap (λ q. name_of (accs n i).peer q) z)) in
        let other_is : held.other ≡ name m c.remote = sym held.known ∙ (k.remote ∙ (rw p.goes (known_name m c.remote some_remote))) in
        let cfits : c.remote < 65536 = a.live.calls s c there in
        by_found c.remote s cfits some_remote fits k.some (at u.calls c.remote) refl
        (subst (λ q. mw.calls.state q ≡ calls.Up) other_is held.established)
        (subst (λ q. mw.calls.tunnel q ≡ name m j) other_is held.tunnel)
        (subst (λ q. mw.calls.remote q ≡ name n s) other_is held.knows)
      where
        remote_some : (q : ℕ) → (q ≡ 0 → ⊥) → 0 < q
        remote_some q h = ⊎_elim (λ (z : q ≡ 0). absurd (h z)) (λ (z : q ≡ 0 → ⊥). omega (arith, z)) (Rattle.id_table.specs.Order.same_or_not q 0)

        same_remote : (q s : ℕ) → q < 65536 → s < 65536 → name_of n q ≡ name n s → 0 < s → q ≡ s
        same_remote q s qfits sfits h some = ⊎_elim
            (λ (z : q ≡ 0). absurd (name_not_zero n s some (sym h ∙ ap (λ x. name_of n x) z)))
            (λ (z : q ≡ 0 → ⊥). (same_name n q n s qfits sfits (sym (known_name n q (omega (arith, z))) ∙ h)).1)
            (Rattle.id_table.specs.Order.same_or_not q 0)

        no_other : (r : ℕ) → r < 65536 → at u.calls r ≡ None → mw.calls.tunnel (name m r) ≡ name m j → HasNoCall p.other.node.end r
        no_other r rfits none tunnel k v there = none_of (at v.calls r) refl
          where
            some_same : (x y : Tunnel) → Some x ≡ Some y → x ≡ y
            some_same x y h = cc

            tunnel_fits : (k : ℕ) (v : Tunnel) → at p.other.node.end.tunnels k ≡ Some v → k < 65536
            tunnel_fits k v there =
                let ok : EndOk accs m p.other.node.end = (let h : NodeOk accs m (Some p.other.node) = subst (NodeOk accs m) p.other.is (holds.nodes m) in h.0) in
                let live = ok.live k v there in
                (holds.accounts m k).id (made_of m k v (accs m k).part refl live.state)

            none_of : (o : Option Call) → at v.calls r ≡ o → at v.calls r ≡ None
            none_of None is = is
            none_of (Some d) is =
                let q : CallJoined mw m k (accs m k).peer r d = b.calls_are.live k v there r d is in
                let kfits : k < 65536 = tunnel_fits k v there in
                let same : k ≡ j = (same_name m k m j kfits b.id (sym q.tunnel ∙ tunnel)).1 in
                let v_is : v ≡ u = some_same v u (sym (subst (λ x. at p.other.node.end.tunnels x ≡ Some v) same there) ∙ p.other.there) in
                absurd (none-some d (sym none ∙ subst (λ (x : Tunnel). at x.calls r ≡ Some d) v_is is))

        by_found : (r s : ℕ) → r < 65536 → 0 < r → s < 65536 → 0 < s → (o : Option Call) → at u.calls r ≡ o → mw.calls.state (name m r) ≡ calls.Up
            → mw.calls.tunnel (name m r) ≡ name m j → mw.calls.remote (name m r) ≡ name n s → HoldsSession u r s
        by_found r s rfits rsome sfits ssome (Some d) is up tunnel remote =
            let k : CallJoined mw m j (accs m j).peer r d = b.calls_are.live j u p.other.there r d is in
            let known_s : name_of n d.remote ≡ name n s = subst (λ q. name_of q d.remote ≡ name n s) p.comes (sym k.remote ∙ remote) in
            record { call = d; live = is; up = state_up d.state (sym k.state ∙ up); known = same_remote d.remote s (b.live.calls r d is) sfits known_s ssome }
        by_found r s rfits rsome sfits ssome None is up tunnel remote =
            absurd (no_call_up (sym (b.calls_are.gone r rfits (no_other r rfits is tunnel)) ∙ up))

  -- each call that the one holds established is held by the other
  pub one_way : (n i : ℕ) (t : Tunnel) (m j : ℕ) (u : Tunnel) → Pair n i t m j u → (s r : ℕ) → HoldsSession t s r → HoldsSession u r s
  one_way n i t m j u p s r h =
      let k = a n i t m j u p in
      let l = b n i t m j u p in
      let c : CallJoined mw n i (accs n i).peer s h.call = k.calls_are.live i t p.one.there s h.call h.live in
      let held = agrees.agree (name n i) (name m j) (name n s) (linked n i t m j u p) k.phase l.phase (λ z. k.machine_is.asks z) (λ z. l.machine_is.asks z)
      (all_taken n i t m j u p) (all_taken m j u n i t (swapped n i t m j u p)) c.tunnel (c.state ∙ up_state h.call.state h.up) in
      subst (λ q. HoldsSession u q s) h.known (found n i t m j u p s h.call h.live h.up held)
