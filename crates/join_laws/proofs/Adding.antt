-- A call is added, and is born: so is the machine's.
use Rattle.std.proofs.Common.{◌≡◌, ◌⊎◌, ⊎_elim, ℕ, suc, ◌+◌, ◌<◌, ◌≤◌, true, false, [], refl, sym, ap, ◌∙◌, subst, Option, Some, None, arith, eq-eqb, ne_eqb, lt-ltb}
use Rattle.std.proofs.lemmas.Option.{same_Some}
use Rattle.std.specs.Prelude.{min, ◌^◌, ◌-◌, ◌||◌, if◌then◌else◌}
use Rattle.id_table.specs.Ids.{at, put}
use Rattle.id_table.specs.Order.{at_new, at_other, same_or_not}
use Rattle.session_book.specs.Books.{Kept}
use Rattle.tunnel_fsm.specs.Rows.{state_number}
use Rattle.tunnel_fsm.specs.declared.table.TunnelState.{TunnelState}
use Rattle.tunnel_fsm.specs.declared.table.TunnelState.TheVariants as tunnel
use Rattle.call_fsm.specs.declared.table.CallState.TheVariants.{WaitTunnel}
use Rattle.end_names.specs.declared.role.Role.TheVariants.{Lac}
use Rattle.end_model.specs.declared.event.Event.{Event}
use Rattle.end_model.specs.declared.moves.Added.{Added}
use Rattle.end_model.specs.declared.moves.Move.{Move}
use Rattle.end_model.specs.declared.moves.Move.TheVariants as move
use Rattle.end_model.specs.declared.tunnel.Call.{Call}
use Rattle.end_model.specs.Calls.{rung, is_up}
use Rattle.end_model.specs.Tunnels.{Tunnel, mode_of, is_current}
use Rattle.end_model.specs.End.{End}
use Rattle.world_model.specs.World.{World, Node, Sender, Deed, epoch_of, birth_of, with_birth, is_born, moved}
use Rattle.step_laws.specs.Callers.{wanted_by_lac}
use Rattle.book_laws.specs.Books.{Mirrors}
use Rattle.birth_laws.specs.Births.{CallsHold, BirthsOfRuns}
use Rattle.epoch_machine.specs.Tunnels.{Tunnels, is_open, is_wait_reply}
use Rattle.epoch_machine.specs.Calls as calls
use Rattle.epoch_machine.specs.Calls.{Calls, Waits}
use Rattle.epoch_machine.specs.Worlds as machine
use Rattle.epoch_machine.specs.Worlds.{all_rules}
use Rattle.epoch_machine.specs.Moves.{AddsCall, step, may_add, adds_call}
use Rattle.stop_laws.specs.Records.{node_of}
use Rattle.session_laws.specs.Names.{name, name_of, phase_of, state_of}
use Rattle.session_laws.proofs.CallRows.{rung_row, rung_remote}
use Rattle.session_laws.proofs.Names.{same_name}
use Rattle.channel_laws.specs.Accounts.{Account, History, attempts_by, answers_by, after}
use Rattle.channel_laws.specs.Steps.{with_end, moves_on}
use Rattle.recovery_laws.specs.Growing.{TakenStay}
use Rattle.recovery_laws.specs.Joined.{AreJoined}
use Rattle.recovery_laws.specs.Queries.{QueriesJoined}
use Rattle.recovery_laws.proofs.Epochs.{current_phase}
use Rattle.join_laws.specs.Steps as steps
use Rattle.join_laws.specs.Steps.{with_book, Follows, Joins, IsJoined}
use Rattle.join_laws.proofs.Ahead.{behind, left, births_as}
use Rattle.join_laws.proofs.Asks.{asks_on}
use Rattle.join_laws.proofs.Books.{booked, book_born}
use Rattle.join_laws.proofs.Born.{HasBirth, has_birth, Births, with_births, new_born, new_birth, other_births, unborn, born_one, asked_by_one}
use Rattle.join_laws.proofs.Finish.{Went, went_one}
use Rattle.join_laws.proofs.Fresh as fresh
use Rattle.join_laws.proofs.Letters.{Talks, talks_one}
use Rattle.join_laws.proofs.Made as made
use Rattle.join_laws.proofs.Moved.{book_births}
use Rattle.join_laws.proofs.OneTunnel.{CallStays, OneTunnel, one_joined, this_or_not}
use Rattle.join_laws.proofs.Roots.{account_stays}
use Rattle.join_laws.proofs.Silent.{KnowsNoMore, Silent, silent_talks}

-- ---- in the machine

abbrev with_call : machine.World → ℕ → ℕ → machine.World
with_call w x z = record w { calls = calls.is_born w.calls x z }

adds_is : (w : machine.World) (x z : ℕ) → (is_open (w.tunnels.phase x) || is_wait_reply (w.tunnels.phase x)) ≡ true → 0 < z
    → w.calls.drawn z ≡ false → step all_rules w (AddsCall x z) ≡ with_call w x z
unfolding step may_add adds_call
adds_is w x z goes some new = rw (goes, lt-ltb 0 z some, new) refl

adds_node : (w : machine.World) (x z : ℕ) → node_of w (AddsCall x z) ≡ w.tunnels.node x
unfolding node_of
adds_node w x z = refl

record IsBornSo (c : Calls) (x z : ℕ) : Type 0 where
  state : (calls.is_born c x z).state z ≡ Waits
  tunnel : (calls.is_born c x z).tunnel z ≡ x
  remote : (calls.is_born c x z).remote z ≡ c.remote z
  in_book : (calls.is_born c x z).booked z ≡ c.booked z
  births : (calls.is_born c x z).births ≡ suc c.births
  birth : (calls.is_born c x z).birth z ≡ suc c.births
  other_births : (y : ℕ) → (y ≡ z → ⊥) → (calls.is_born c x z).birth y ≡ c.birth y
  asks : (calls.is_born c x z).asks ≡ c.asks
  held : (calls.is_born c x z).held ≡ c.held

born_so : (c : Calls) (x z : ℕ) → IsBornSo c x z
unfolding calls.is_born
born_so c x z = record {
  state = ap (λ b. if b then Waits else c.state z) (eq-eqb z z refl);
  tunnel = ap (λ b. if b then x else c.tunnel z) (eq-eqb z z refl);
  remote = refl;
  in_book = refl;
  births = refl;
  birth = ap (λ b. if b then suc c.births else c.birth z) (eq-eqb z z refl);
  other_births = λ y other. ap (λ b. if b then suc c.births else c.birth y) (ne_eqb y z other);
  asks = refl;
  held = refl;
}

-- the other calls are as they were, whatever births are told of
born_stays : (m : machine.World) (x z y : ℕ) → (y ≡ z → ⊥) → CallStays m (unborn m (with_call m x z)) y
unfolding calls.is_born
born_stays m x z y other = record {
  drawn = ap (λ b. if b then true else m.calls.drawn y) (ne_eqb y z other);
  tunnel = ap (λ b. if b then x else m.calls.tunnel y) (ne_eqb y z other);
  state = ap (λ b. if b then Waits else m.calls.state y) (ne_eqb y z other);
  remote = refl;
  booked = refl;
}

-- a tunnel that is open, or waits for its SCCRP
goes_phase : (s : TunnelState) → (state_number s ≡ 3) ⊎ (state_number s ≡ 1) → (is_open (phase_of s) || is_wait_reply (phase_of s)) ≡ true
goes_phase tunnel.Idle h = absurd (⊎_elim (λ (k : 0 ≡ 3). omega (arith, k)) (λ (k : 0 ≡ 1). omega (arith, k)) h)
goes_phase tunnel.WaitCtlReply h = refl
goes_phase tunnel.WaitCtlConn h = absurd (⊎_elim (λ (k : 2 ≡ 3). omega (arith, k)) (λ (k : 2 ≡ 1). omega (arith, k)) h)
goes_phase tunnel.Established h = refl
goes_phase tunnel.Closed h = absurd (⊎_elim (λ (k : 4 ≡ 3). omega (arith, k)) (λ (k : 4 ≡ 1). omega (arith, k)) h)

-- ---- the move

module _ (stay : TakenStay) (runs : BirthsOfRuns) (w : World) (h : History) (n : ℕ) (node : Node) (sender : Option Sender) (moment : ℕ)
    (ev : Event) (m : Added) (x : End) (d : Deed) (k : Kept) (j : machine.World)
    (q : steps.IsMade w h n node sender moment ev (move.Added m) x d k j) (b : Kept) (new : Mirrors x b) where
  abbrev mv : Move
  mv = move.Added m

  abbrev i : ℕ
  i = m.tunnel

  abbrev s : ℕ
  s = m.session

  abbrev t : Tunnel
  t = q.moved.does.tunnel

  abbrev c : Call
  c = rung node.end.role m.subscriber moment

  abbrev r : Tunnel
  r = record t { calls = put t.calls m.session c }

  abbrev X : ℕ
  X = name n i

  abbrev Z : ℕ
  Z = name n s

  abbrev g : History
  g = after h d

  abbrev z : machine.World
  z = with_call j X Z

  abbrev base : World
  base = with_end w n node x

  abbrev birth : ℕ
  birth = min (base.born + 1) (2 ^ 64 - 1)

  abbrev led : World
  led = with_birth (record base { born = birth }) n s birth

  led_is : moves_on w n node mv x ≡ led
  unfolding moved is_born
  led_is = refl

  base_here : at base.nodes n ≡ Some (record node { end = x })
  base_here = at_new w.nodes n (record node { end = x })

  has : HasBirth base led n s birth birth
  has = has_birth base n s birth birth (record node { end = x }) base_here

  abbrev u : World
  u = with_book led n b

  abbrev then_node : Node
  then_node = booked (record node { end = x; births = put node.births s birth }) b

  at_t : at node.end.tunnels i ≡ Some t
  at_t = q.moved.does.there

  some_name : 0 < Z
  some_name = fresh.fresh_name w h n node sender moment ev mv x d k j q s q.moved.does.drawn

  undrawn : j.calls.drawn Z ≡ false
  undrawn = fresh.fresh_undrawn w h n node sender moment ev mv x d k j q s q.moved.does.drawn

  hold : CallsHold j.tunnels j.calls
  hold = subst (λ (y : machine.World). CallsHold y.tunnels y.calls) (sym q.joined.joined.run) (runs.calls q.joined.joined.moves)

  so : IsBornSo j.calls X Z
  so = born_so j.calls X Z

  waits : c.state ≡ WaitTunnel
  waits = rw (wanted_by_lac node.end ev t.control.peer q.moved.does.wants) (rung_row m.subscriber moment)

  tunnels : x.tunnels ≡ put node.end.tunnels i r
  tunnels = ap (λ (y : End). y.tunnels) q.moved.does.after

  at_r : at x.tunnels i ≡ Some r
  at_r = ap (λ ts. at ts i) tunnels ∙ at_new node.end.tunnels i r

  others : (f : ℕ) → (f ≡ i → ⊥) → at x.tunnels f ≡ at node.end.tunnels f
  others f other = ap (λ ts. at ts f) tunnels ∙ at_other node.end.tunnels i r f other

  knows : KnowsNoMore h g
  knows = record {
    accounts = account_stays h d mv q.moved.deed.move_is (λ a. refl) (λ y f. refl);
    attempts = λ y f. ap (λ e. attempts_by d e y f (h.attempts y f)) q.moved.deed.move_is;
    answers = λ y f. ap (λ e. answers_by d e y f (h.answers y f)) q.moved.deed.move_is;
  }

  stays : (y : ℕ) → (y ≡ Z → ⊥) → CallStays j (unborn j z) y
  stays y other = born_stays j X Z y other

  freshly : fresh.Freshly w h n node sender moment ev mv x d k j q s q.moved.does.drawn g b (unborn j z) i t r c
  freshly = record {
    new = new;
    at_t = at_t;
    at_r = at_r;
    others = others;
    ids = ap (λ (y : End). y.session_ids) q.moved.does.after;
    sessions = λ y other. at_other t.calls s c y other;
    this = at_new t.calls s c;
    peers = λ f. ap (λ (a : Account). a.peer) (knows.accounts n f 0);
    nodes = λ y. refl;
    state = so.state ∙ sym (ap state_of waits);
    tunnel = so.tunnel;
    remote = so.remote ∙ ((hold.nameless Z undrawn).remote
        ∙ sym (ap (name_of (h.accounts n i 0).peer) (rung_remote node.end.role m.subscriber moment)));
    in_book = so.in_book ∙ ((hold.nameless Z undrawn).booked ∙ sym (ap is_up waits));
    stays = stays;
  }

  talks : Talks w h g n node x k b j (unborn j z) i (epoch_of w n i) t r [] [] 0
  talks = silent_talks w h n node sender moment ev mv x d k j q b (unborn j z) i t r g (record {
    new = new;
    at_t = at_t;
    at_r = at_r;
    state = refl;
    recovery = refl;
    others = others;
    knows = knows;
    tunnels = refl;
    channels = refl;
    calls = fresh.fresh_calls w h n node sender moment ev mv x d k j q s q.moved.does.drawn g b (unborn j z) i t r c freshly;
    calls_stay = fresh.fresh_stay w h n node sender moment ev mv x d k j q s q.moved.does.drawn g b (unborn j z) i t r c freshly;
    births = (refl, λ y. refl);
  })

  -- ---- births

  differs : Births (behind w n node x b) u n (left node x b) then_node
  differs = with_births base n s birth birth (record node { end = x }) base_here led has b

  birth_is : birth ≡ suc w.born
  birth_is = (let small = q.born in omega (arith, small))

  session_fits : s < 65536
  session_fits = fresh.fresh_fits w h n node sender moment ev mv x d k j q s q.moved.does.drawn

  births_then : (y f : ℕ) → y < 256 → f < 65536 → z.calls.birth (name y f) ≡ birth_of u y f
  births_then y f yfits ffits = ⊎_elim
      (λ (e : (y ≡ n) × (f ≡ s)).
      rw (e.0, e.1) (so.birth ∙ (ap suc (q.joined.joined.births.0 ∙ book_born w n k node q.moved.there)
      ∙ (sym birth_is ∙ sym (new_birth base n s birth birth (record node { end = x }) base_here led has b)))))
      (λ apart.
      so.other_births (name y f) (λ same. apart (same_name y f n s ffits session_fits same))
      ∙ (q.joined.joined.births.1 y f yfits ffits
      ∙ (sym (births_as w n node q.moved.there x k b y f)
      ∙ (book_births base n (record node { end = x }) base_here b y f
      ∙ sym (other_births base n s birth birth (record node { end = x }) base_here led has b y f apart)))))
      (this_or_not y f n s)

  one : OneTunnel (with_book w n k) u h g j z n i (booked node k) then_node
  one = born_one (with_book w n k) (behind w n node x b) u h g j z n i (booked node k) (left node x b) then_node
      (talks_one stay w h g n node x k b j (unborn j z) i (epoch_of w n i) t r [] [] 0 talks q.joined.joined) differs (
        so.births ∙ (ap suc (q.joined.joined.births.0 ∙ book_born w n k node q.moved.there)
            ∙ (sym birth_is ∙ sym (new_born base n s birth birth (record node { end = x }) base_here led has b))),
        births_then,
      )

  queries : QueriesJoined u g z
  queries = asks_on (with_book w n k) u h g j z (record {
    peers = λ y f. ap (λ (a : Account). a.peer) (knows.accounts y f 0);
    asks = λ y e. ap (λ f. f y e) so.asks;
    held = λ y f e. ap (λ p. p y f e) so.held;
    entered = λ y. refl;
    asked = asked_by_one (with_book w n k) u h g j z n i (booked node k) then_node one (λ v at_v current three.
        (let same : r ≡ v = same_Some r v (sym at_r ∙ at_v) in (
          t,
          at_t,
          ap (λ (y : Tunnel). is_current (mode_of y.recovery)) same ∙ current,
          ap (λ (y : Tunnel). state_number y.control.state) same ∙ three,
          ap (λ (y : Tunnel). y.query) (sym same),
        )));
  }) q.joined.queries

  phase_goes : (is_open (j.tunnels.phase X) || is_wait_reply (j.tunnels.phase X)) ≡ true
  phase_goes = ap (λ p. is_open p || is_wait_reply p)
      ((made.told w h n node sender moment ev mv x d k j q i t at_t).phase ∙ current_phase n t t.recovery q.moved.does.current)
      ∙ goes_phase t.control.state q.moved.does.goes

  went : Went ev n j z
  went = went_one ev n j z (AddsCall X Z)
      (adds_node j X Z ∙ (made.told w h n node sender moment ev mv x d k j q i t at_t).node
      (made.live_ok w h n node sender moment ev mv x d k j q i t at_t).made)
      refl tt (adds_is j X Z phase_goes some_name undrawn)

  pub added_follows : Follows ev (with_book (moves_on w n node mv x) n b) (after h d) n j
  added_follows = subst (λ v. Follows ev (with_book v n b) (after h d) n j) (sym led_is) (record {
    moves = went.moves;
    own = went.own;
    heard = went.heard;
    joined = subst (IsJoined u g) went.goes (record {
      joined = one_joined stay (with_book w n k) u h g j z n i (booked node k) then_node q.joined.joined one went.moves went.goes;
      queries = queries;
      named = fresh.fresh_named w h n node sender moment ev mv x d k j q s q.moved.does.drawn z
          (λ y other. (let e = stays y other in record {
            drawn = e.drawn;
            tunnel = e.tunnel;
            state = e.state;
            remote = e.remote;
            booked =
                e.booked;
          }));
    });
  })

pub added_joins : TakenStay → BirthsOfRuns → (m : Added) → Joins (move.Added m)
added_joins stay runs m w h n node sender moment ev x d k j q b new = added_follows stay runs w h n node sender moment ev m x d k j q b new
