-- Two tunnels of a world that have learned each other, where the world is joined with the machine: they are linked there too, and
-- in one epoch.
use Rattle.std.proofs.Common.{◌≡◌, ◌⊎◌, inl, inr, ⊎_elim, ℕ, ◌+◌, ◌<◌, true, false, length, refl, sym, ap, ap₂, ◌∙◌, subst, Option, Some, None, arith}
use Rattle.std.proofs.lemmas.Bool.{true≢false, cases_Bool}
use Rattle.std.proofs.lemmas.Option.{none-some}
use Rattle.std.specs.Prelude.{unwrap_or}
use Rattle.id_table.specs.Ids.{at, at-none}
use Rattle.id_table.specs.Order.{same_or_not}
use Rattle.tunnel_fsm.specs.declared.table.TunnelState.{TunnelState}
use Rattle.tunnel_fsm.specs.declared.table.TunnelState.TheVariants as tunnel
use Rattle.tunnel_fsm.specs.Rows.{state_number}
use Rattle.call_fsm.specs.declared.table.CallState.{CallState}
use Rattle.call_fsm.specs.declared.table.CallState.TheVariants as call
use Rattle.end_names.specs.Names.{node_of}
use Rattle.end_model.specs.declared.tunnel.Call.{Call}
use Rattle.end_model.specs.Calls.{is_up}
use Rattle.end_model.specs.End.{End}
use Rattle.end_model.specs.Tunnels.{Tunnel, mode_of, is_current}
use Rattle.world_model.specs.World.{World, epoch_of}
use Rattle.epoch_machine.specs.Worlds as machine
use Rattle.epoch_machine.specs.Tunnels.{Linked, Open}
use Rattle.epoch_machine.specs.Calls as calls
use Rattle.birth_laws.specs.Births.{CallsHold, BirthsOfRuns}
use Rattle.coverage_laws.specs.Coverage.{PairsCovered, CoverageOfRuns}
use Rattle.node_laws.specs.Nodes.{HoldsUp}
use Rattle.session_laws.specs.Names.{name, name_of, phase_of, state_of}
use Rattle.session_laws.specs.Sessions.{HoldsSession}
use Rattle.session_laws.proofs.Names.{node_again}
use Rattle.channel_laws.specs.Accounts.{Part, Unmade, Opener, Acceptor, Renewed, Account, heeded, History}
use Rattle.channel_laws.specs.Facts.{IsMade, IsOpen, partner_in, IsPart, IsInState, IsRenewed, AccountOk, AreLinked, LiveOk, ChannelOk, EndOk, BookOk, NodeOk, NodesHold, Holds}
use Rattle.channel_laws.specs.Epochs.{IsLive}
use Rattle.channel_laws.proofs.Linked.{part_cases, linked_back, BeginAlike, renewed_alike, opener_of, acceptor_of, renewed_of}
use Rattle.recovery_laws.specs.Joined.{TunnelJoined, CallJoined, CallsJoined, HasNoCall, NodeJoined, live_in, kept_in, AreJoined}
use Rattle.recovery_laws.specs.Covered.{AreOpen}
use Rattle.recovery_laws.proofs.Epochs.{some_name, same_name, known_name, learned_so, current_phase}

-- ---- two tunnels

pub open_phase : (s : TunnelState) → state_number s ≡ 3 → phase_of s ≡ Open
open_phase tunnel.Idle h = absurd (omega (arith, h))
open_phase tunnel.WaitCtlReply h = absurd (omega (arith, h))
open_phase tunnel.WaitCtlConn h = absurd (omega (arith, h))
open_phase tunnel.Established h = refl
open_phase tunnel.Closed h = absurd (omega (arith, h))

pub up_state : (s : CallState) → is_up s ≡ true → state_of s ≡ calls.Up
up_state call.Idle h = absurd (true≢false (sym h))
up_state call.WaitTunnel h = absurd (true≢false (sym h))
up_state call.WaitReply h = absurd (true≢false (sym h))
up_state call.WaitConnect h = absurd (true≢false (sym h))
up_state call.Established h = refl

pub state_up : (s : CallState) → state_of s ≡ calls.Up → is_up s ≡ true
state_up call.Idle h = absurd cc
state_up call.WaitTunnel h = absurd cc
state_up call.WaitReply h = absurd cc
state_up call.WaitConnect h = absurd cc
state_up call.Established h = refl

pub no_call_up : calls.NoCall ≡ calls.Up → ⊥
no_call_up h = cc

pub some_number : (q : ℕ) → (q ≡ 0 → ⊥) → 0 < q
some_number q h = ⊎_elim (λ (z : q ≡ 0). absurd (h z)) (λ (z : q ≡ 0 → ⊥). omega (arith, z)) (same_or_not q 0)

pub same_some : {X : Type 0} (x y : X) → Some x ≡ Some y → x ≡ y
same_some x y h = cc

-- all that is known of a world and its machine
pub record Ground (w : World) (h : History) (m : machine.World) : Type 0 where
  pub nodes : NodesHold w
  pub holds : Holds w h
  pub joined : AreJoined w h m
  pub known : CallsHold m.tunnels m.calls
  pub covered : PairsCovered m

pub ground_of : BirthsOfRuns → CoverageOfRuns → (w : World) (h : History) (m : machine.World) → NodesHold w → Holds w h → AreJoined w h m
    → Ground w h m
ground_of births coverage w h m nodes holds joined = record {
  nodes = nodes;
  holds = holds;
  joined = joined;
  known = subst (λ (v : machine.World). CallsHold v.tunnels v.calls) (sym joined.run) (births.calls joined.moves);
  covered = subst PairsCovered (sym joined.run) (coverage.pairs_covered joined.moves);
}

module _ (w : World) (h : History) (m : machine.World) (g : Ground w h m) where
  -- what a channel that is open isn't
  open_channel : (n i e : ℕ) (a : Account) (t : Tunnel) (p : Part) → IsInState h.accounts i e a t p → state_number t.control.state ≡ 3
      → IsOpen a
  open_channel n i e a t Unmade s three = absurd s
  open_channel n i e a t Opener (inl one) three = absurd (omega (arith, one.0, three))
  open_channel n i e a t Opener (inr (inl is)) three = is.2
  open_channel n i e a t Opener (inr (inr shut)) three = absurd (omega (arith, shut.0, three))
  open_channel n i e a t Acceptor (inl two) three = absurd (omega (arith, two.0, three))
  open_channel n i e a t Acceptor (inr (inl is)) three = is.2
  open_channel n i e a t Acceptor (inr (inr shut)) three = absurd (omega (arith, shut.0, three))
  open_channel n i e a t Renewed (inl is) three = is.1
  open_channel n i e a t Renewed (inr shut) three = absurd (omega (arith, shut.0, three))

  made_channel : (n i e : ℕ) (a : Account) (t : Tunnel) (p : Part) → IsInState h.accounts i e a t p → p ≡ Unmade → ⊥
  made_channel n i e a t Unmade s is = s
  made_channel n i e a t Opener s is = cc
  made_channel n i e a t Acceptor s is = cc
  made_channel n i e a t Renewed s is = cc

  -- a channel is of epoch 0, or it began anew
  pub first_or_renewed : (n i e : ℕ) (a : Account) → AccountOk w h n i e a → IsMade a → (e ≡ 0) ⊎ (a.part ≡ Renewed)
  first_or_renewed n i e a ok made = ⊎_elim
      (λ (is : a.part ≡ Opener). inl (opener_of w h n i e a ok is).0)
      (λ (k : (a.part ≡ Acceptor) ⊎ (a.part ≡ Renewed)). ⊎_elim (λ is. inl (acceptor_of w h n i e a ok is).0) (λ is. inr is) k)
      (part_cases a.part made)

  pub heeds_all : (a : Account) → IsOpen a → heeded a ≡ length a.taken
  heeds_all a is = ap (λ o. unwrap_or o (length a.taken)) is

  -- what is known of a live tunnel that is open, and neither frozen nor restored
  pub record Seen (n i : ℕ) (t : Tunnel) (is : IsLive w n i t) : Type 0 where
    pub node : n < 256
    pub live : LiveOk w h n i t
    pub account : AccountOk w h n i (epoch_of w n i) (h.accounts n i (epoch_of w n i))
    pub channel : ChannelOk h.accounts n i (epoch_of w n i) (h.accounts n i (epoch_of w n i)) t
    pub made : IsMade (h.accounts n i (epoch_of w n i))
    pub is_open : IsOpen (h.accounts n i (epoch_of w n i))
    pub some : 0 < i
    pub fits : i < 65536
    pub here : TunnelJoined m w h n i (Some t) (kept_in (at w.nodes n) i)
    pub phase : m.tunnels.phase (name n i) ≡ Open
    pub calls_are : CallsJoined m h n is.node
    pub up : HoldsUp is.node

  pub ups : (n i : ℕ) (t : Tunnel) (is : IsLive w n i t) → HoldsUp is.node
  ups n i t is = ⊎_elim
      (λ (e : is.node.up ≡ true). (g.nodes n is.node is.is).up e)
      (λ (e : is.node.up ≡ false).
      absurd (none-some t (sym (at-none i) ∙ (ap (λ (x : End). at x.tunnels i) (sym ((g.nodes n is.node is.is).down e)) ∙ is.there))))
      (cases_Bool is.node.up)

  pub seen : (n i : ℕ) (t : Tunnel) (is : IsLive w n i t) → is_current (mode_of t.recovery) ≡ true → state_number t.control.state ≡ 3
      → Seen n i t is
  seen n i t is current three =
      let k : EndOk w h n is.node.end × BookOk h n is.node.checkpoint.book = subst (NodeOk w h n) is.is (g.holds.nodes n) in
      let live = k.0.live i t is.there in
      let e = epoch_of w n i in
      let a = h.accounts n i e in
      let account = g.holds.accounts n i e in
      let channel = live.channel current in
      let made = made_channel n i e a t a.part channel.state in
      let there : live_in (at w.nodes n) i ≡ Some t = ap (λ o. live_in o i) is.is ∙ is.there in
      let j : TunnelJoined m w h n i (Some t) (kept_in (at w.nodes n) i) =
      subst (λ o. TunnelJoined m w h n i o (kept_in (at w.nodes n) i)) there (g.joined.tunnels n i (account.node made) (account.id made)) in
      let c : NodeJoined m h n (Some is.node) = subst (NodeJoined m h n) is.is (g.joined.nodes n (account.node made)) in
      record {
        node = account.node made;
        live = live;
        account = account;
        channel = channel;
        made = made;
        is_open = open_channel n i e a t a.part channel.state three;
        some = account.some made;
        fits = account.id made;
        here = j;
        phase = j.phase ∙ (current_phase n t t.recovery current ∙ open_phase t.control.state three);
        calls_are = c.1;
        up = ups n i t is;
      }

  pub session_fits : (n i : ℕ) (t : Tunnel) (is : IsLive w n i t) → HoldsUp is.node → (s : ℕ) (c : Call) → at t.calls s ≡ Some c → s < 65536
  session_fits n i t is up s c there =
      let below = up.looks.sessions s _ (up.looks.seen i t is.there s c there) in
      let space = up.fit.session_ids in
      let drawn = space.drawn in
      let within = space.within in
      omega (arith, below, drawn, within)

  -- where a tunnel has no call of a session, and the machine's call is the tunnel's, no tunnel of the node has one
  pub no_other : (n i : ℕ) (t : Tunnel) (is : IsLive w n i t) → CallsJoined m h n is.node → i < 65536 → (r : ℕ) → at t.calls r ≡ None
      → m.calls.tunnel (name n r) ≡ name n i → HasNoCall is.node r
  no_other n i t is calls_are fits r none tunnel q v there = none_of (at v.calls r) refl
    where
      v_made : IsMade (h.accounts n q 0)
      v_made =
          let z : EndOk w h n is.node.end × BookOk h n is.node.checkpoint.book = subst (NodeOk w h n) is.is (g.holds.nodes n) in
          (z.0.live q v there).made

      none_of : (o : Option Call) → at v.calls r ≡ o → at v.calls r ≡ None
      none_of None at_none = at_none
      none_of (Some d) at_it =
          let y : CallJoined m n q (h.accounts n q 0).peer r d = calls_are.live q v there r d at_it in
          let same : q ≡ i = (same_name n q n i ((g.holds.accounts n q 0).id v_made) fits (sym y.tunnel ∙ tunnel)).1 in
          let v_is : v ≡ t = same_some v t (sym (subst (λ x. at is.node.end.tunnels x ≡ Some v) same there) ∙ is.there) in
          absurd (none-some d (sym none ∙ subst (λ (x : Tunnel). at x.calls r ≡ Some d) v_is at_it))

  -- two tunnels that have learned each other
  pub record Two (n i k j : ℕ) (t u : Tunnel) : Type 0 where
    pub one : IsLive w n i t
    pub other : IsLive w k j u
    pub here : Seen n i t one
    pub there : Seen k j u other
    pub to : t.control.remote ≡ j
    pub goes : node_of t.control.peer ≡ k
    pub back : u.control.remote ≡ i
    pub comes : node_of u.control.peer ≡ n
    pub three : state_number t.control.state ≡ 3
    pub three_there : state_number u.control.state ≡ 3

  pub swapped : (n i k j : ℕ) (t u : Tunnel) → Two n i k j t u → Two k j n i u t
  swapped n i k j t u p = record {
    one = p.other;
    other = p.one;
    here = p.there;
    there = p.here;
    to = p.back;
    goes = p.comes;
    back = p.to;
    comes = p.goes;
    three = p.three_there;
    three_there = p.three;
  }

  pub two_of : (n i k j : ℕ) (t u : Tunnel) → AreOpen w n i k j t u → Two n i k j t u
  two_of n i k j t u x = record {
    one = x.one;
    other = x.other;
    here = seen n i t x.one x.current x.established;
    there = seen k j u x.other x.current_there x.established_there;
    to = x.to;
    goes = x.goes;
    back = x.back;
    comes = x.comes;
    three = x.established;
    three_there = x.established_there;
  }

  module _ (n i k j : ℕ) (t u : Tunnel) (p : Two n i k j t u) where
    abbrev e : ℕ
    e = epoch_of w n i

    abbrev f : ℕ
    f = epoch_of w k j

    abbrev a : Account
    a = h.accounts n i e

    abbrev c : Account
    c = h.accounts k j f

    peer_is : a.peer ≡ k
    peer_is = sym (ap node_of p.here.channel.peer ∙ node_again a.peer p.here.account.peer) ∙ p.goes

    remote_is : a.remote ≡ j
    remote_is = sym p.here.channel.remote ∙ p.to

    peer_comes : c.peer ≡ n
    peer_comes = sym (ap node_of p.there.channel.peer ∙ node_again c.peer p.there.account.peer) ∙ p.comes

    remote_comes : c.remote ≡ i
    remote_comes = sym p.there.channel.remote ∙ p.back

    first_part : e ≡ 0 → (q : Part) → a.part ≡ q → (h.accounts n i 0).part ≡ q
    first_part z q part = subst (λ x. (h.accounts n i x).part ≡ q) z part

    not_early_of : (c : Account) → IsOpen c → c.closed ≡ Some 0 → ⊥
    not_early_of c is early = none-some 0 (sym is ∙ early)

    linked_by : e ≡ 0 → f ≡ 0
        → (((h.accounts n i 0).part ≡ Opener) × ((h.accounts k j 0).part ≡ Acceptor)) ⊎
        (((h.accounts n i 0).part ≡ Acceptor) × ((h.accounts k j 0).part ≡ Opener))
        → AreLinked h.accounts n i k j
    linked_by z y parts = record {
      forth_peer = subst (λ x. (h.accounts n i x).peer ≡ k) z peer_is;
      forth = subst (λ x. (h.accounts n i x).remote ≡ j) z remote_is;
      back_peer = subst (λ x. (h.accounts k j x).peer ≡ n) y peer_comes;
      back = subst (λ x. (h.accounts k j x).remote ≡ i) y remote_comes;
      from_some = p.here.some;
      to_some = p.there.some;
      from_late = not_early_of (h.accounts n i 0) (subst (λ x. IsOpen (h.accounts n i x)) z p.here.is_open);
      to_late = not_early_of (h.accounts k j 0) (subst (λ x. IsOpen (h.accounts k j x)) y p.there.is_open);
      parts = parts;
    }

    -- in epoch 0 the one opened the link and the other accepted it
    first_link : e ≡ 0 → f ≡ 0 → (q : Part) → a.part ≡ q → IsPart w h n i e a q → IsInState h.accounts i e a t q
        → state_number t.control.state ≡ 3
        → AreLinked h.accounts n i k j
    first_link z y Unmade part is s three = absurd s
    first_link z y Renewed part is s three = (let later = is.later in absurd (omega (arith, later, z)))
    first_link z y Opener part is s three =
        let known : a.remote ≡ 0 → ⊥ = ⊎_elim (λ one. λ none. absurd (omega (arith, one.0, three)))
        (λ more. ⊎_elim (λ yes. yes.1) (λ shut. λ none. absurd (omega (arith, shut.0, three))) more) s in
        let partner : partner_in h.accounts 0 a ≡ h.accounts k j 0 = ap₂ (λ x y. h.accounts x y 0) peer_is remote_is in
        linked_by z y (inl (first_part z Opener part, sym (ap (λ (x : Account). x.part) partner) ∙ is.1.part known))
    first_link z y Acceptor part is s three =
        let partner : partner_in h.accounts 0 a ≡ h.accounts k j 0 = ap₂ (λ x y. h.accounts x y 0) peer_is remote_is in
        linked_by z y (inr (first_part z Acceptor part, sym (ap (λ (x : Account). x.part) partner) ∙ is.1.part))

    pub later_link : IsRenewed w h n i e a → AreLinked h.accounts n i k j
    later_link r = subst (λ x. AreLinked h.accounts n i k x) remote_is (subst (λ x. AreLinked h.accounts n i x a.remote) peer_is r.linked)

    later_back : IsRenewed w h k j f c → AreLinked h.accounts n i k j
    later_back r =
        linked_back h.accounts k j n i
        (subst (λ x. AreLinked h.accounts k j n x) remote_comes (subst (λ x. AreLinked h.accounts k j x c.remote) peer_comes r.linked))

    pub link : AreLinked h.accounts n i k j
    link = ⊎_elim
        (λ (z : e ≡ 0). ⊎_elim
        (λ (y : f ≡ 0). first_link z y a.part refl p.here.account.part p.here.channel.state p.three)
        (λ (is : c.part ≡ Renewed). later_back (renewed_of w h k j f c p.there.account is))
        (first_or_renewed k j f c p.there.account p.there.made))
        (λ (is : a.part ≡ Renewed). later_link (renewed_of w h n i e a p.here.account is))
        (first_or_renewed n i e a p.here.account p.here.made)

    -- the machine's ends have learned each other
    pub linked : Linked m.tunnels.learned (name n i) (name k j)
    linked =
        let l = link in
        record {
          forth = learned_so h.accounts n i k j _ p.here.here.learned l.forth_peer l.forth l.to_some l.from_late;
          back = learned_so h.accounts k j n i _ p.there.here.learned l.back_peer l.back l.from_some l.to_late;
          from_name = some_name n i l.from_some;
          to_name = some_name k j l.to_some;
        }

    -- so both are in one epoch
    pub epochs : epoch_of w k j ≡ epoch_of w n i
    epochs = sym (sym p.here.here.entered ∙
        (g.covered.one_epoch (name n i) (name k j) linked p.here.phase p.there.phase ∙ p.there.here.entered))

    abbrev b : Account
    b = h.accounts k j e

    pub b_open : IsOpen b
    b_open = subst (λ q. IsOpen (h.accounts k j q)) epochs p.there.is_open

    pub b_made : IsMade b
    b_made = subst (λ q. IsMade (h.accounts k j q)) epochs p.there.made

    pub b_taken : u.control.channel.inbox.taken ≡ b.first_taken + length b.taken
    b_taken = subst (λ q. u.control.channel.inbox.taken ≡ (h.accounts k j q).first_taken + length
        (h.accounts k j q).taken) epochs p.there.channel.taken

    -- each is the partner of the other in it
    pub partner : partner_in h.accounts e a ≡ b
    partner = ap₂ (λ x y. h.accounts x y e) peer_is remote_is

    pub partner_back : partner_in h.accounts e b ≡ a
    partner_back = ap₂ (λ x y. h.accounts x y e) (subst (λ q. (h.accounts k j q).peer ≡ n) epochs peer_comes)
        (subst (λ q. (h.accounts k j q).remote ≡ i) epochs remote_comes)

    pub goes_to : a.peer ≡ k
    goes_to = peer_is

    pub goes_for : a.remote ≡ j
    goes_for = remote_is

    pub goes_back : b.remote ≡ i
    goes_back = subst (λ q. (h.accounts k j q).remote ≡ i) epochs remote_comes

    -- the one's letters begin with the number that the other expects
    pub alike : BeginAlike a b
    alike = ⊎_elim
        (λ (z : e ≡ 0).
        let x = p.here.account.from_none z in
        let y = (g.holds.accounts k j e).from_none z in
        record { here = x.0 ∙ sym y.1; there = y.0 ∙ sym x.1 })
        (λ (is : a.part ≡ Renewed). later_alike (renewed_of w h n i e a p.here.account is)
        (first_or_renewed k j e b (g.holds.accounts k j e) b_made))
        (first_or_renewed n i e a p.here.account p.here.made)
      where
        later_alike : IsRenewed w h n i e a → (e ≡ 0) ⊎ (b.part ≡ Renewed) → BeginAlike a b
        later_alike r (inl z) = (let later = r.later in absurd (omega (arith, later, z)))
        later_alike r (inr is) =
            renewed_alike w h n i k j e a b r (renewed_of w h k j e b (g.holds.accounts k j e) is) (later_link r)
            (sym (r.same (ap (λ (x : Account). x.part) partner ∙ is)) ∙ ap (λ (x : Account). x.answer) partner)

    -- ---- calls

    -- a live call of the one's, and of the machine
    pub call_joined : (s : ℕ) (c : Call) → at t.calls s ≡ Some c → CallJoined m n i (h.accounts n i 0).peer s c
    call_joined s c there = p.here.calls_are.live i t p.one.there s c there

    -- an established call of the one's knows the other's by its name
    pub remote_some : (s r : ℕ) → HoldsSession t s r → 0 < r
    remote_some s r x =
        let y = call_joined s x.call x.live in
        let up : m.calls.state (name n s) ≡ calls.Up = y.state ∙ up_state x.call.state x.up in
        let some : m.calls.remote (name n s) ≡ 0 → ⊥ = g.known.up_remote (name n s)
        (g.known.booked_up (name n s) (g.known.up_booked (name n s) up)) in
        some_number r (λ z. some (y.remote ∙ ap (λ q. name_of (h.accounts n i 0).peer q) (x.known ∙ z)))

    pub remote_name : (s r : ℕ) → HoldsSession t s r → m.calls.remote (name n s) ≡ name k r
    remote_name s r x =
        (call_joined s x.call x.live).remote ∙ (ap₂ (λ q d. name_of q d) link.forth_peer x.known ∙ known_name k r (remote_some s r x))

    pub session_of : (s r : ℕ) → HoldsSession t s r → s < 65536
    session_of s r x = session_fits n i t p.one p.here.up s x.call x.live

    pub remote_of : (s r : ℕ) → HoldsSession t s r → r < 65536
    remote_of s r x = let fits = p.here.live.calls s x.call x.live in let same = x.known in omega (arith, fits, same)

    -- a call of the machine's that is established there is one of the other's
    pub found : (s r : ℕ) → s < 65536 → 0 < s → r < 65536 → m.calls.state (name k r) ≡ calls.Up → m.calls.tunnel (name k r) ≡ name k j
        → m.calls.remote (name k r) ≡ name n s → HoldsSession u r s
    found s r sfits ssome rfits up tunnel remote = by_found (at u.calls r) refl
      where
        same_remote : (q : ℕ) → q < 65536 → name_of n q ≡ name n s → q ≡ s
        same_remote q qfits h = ⊎_elim
            (λ (z : q ≡ 0). absurd (some_name n s ssome (sym h ∙ ap (λ x. name_of n x) z)))
            (λ (z : q ≡ 0 → ⊥). (same_name n q n s qfits sfits (sym (known_name n q (some_number q z)) ∙ h)).1)
            (same_or_not q 0)

        by_found : (o : Option Call) → at u.calls r ≡ o → HoldsSession u r s
        by_found (Some d) is =
            let y : CallJoined m k j (h.accounts k j 0).peer r d = p.there.calls_are.live j u p.other.there r d is in
            let known_s : name_of n d.remote ≡ name n s = subst (λ q. name_of q d.remote ≡ name n s) link.back_peer
            (sym y.remote ∙ remote) in
            record {
              call = d;
              live = is;
              up = state_up d.state (sym y.state ∙ up);
              known = same_remote d.remote
                  (p.there.live.calls r d is) known_s;
            }
        by_found None is = absurd
            (no_call_up (sym (p.there.calls_are.gone r rfits (no_other k j u p.other p.there.calls_are p.there.fits r is tunnel)) ∙ up))
