-- A request is answered by a new call, which has the birth of the one that asks: so it is in the machine.
use Rattle.std.proofs.Common.{◌≡◌, ◌⊎◌, inl, inr, ⊎_elim, ℕ, ◌+◌, ◌<◌, ◌≤◌, true, false, List, [], ◌∷◌, ◌++◌, slice_get, refl, sym, ap, ap₂, ◌∙◌, subst, Option, Some, None, arith, eq-eqb, ne_eqb, lt-ltb}
use Rattle.std.proofs.lemmas.Option.{same_Some}
use Rattle.std.specs.Prelude.{if◌then◌else◌, ◌==◌}
use Rattle.id_table.specs.Ids.{at, put}
use Rattle.id_table.specs.Order.{at_new, at_other, same_or_not}
use Rattle.wire_base.specs.declared.pair.Pair.{Pair}
use Rattle.tunnel_fsm.specs.Rows.{state_number}
use Rattle.control_message.specs.declared.message.Message.{Message}
use Rattle.control_message.specs.declared.message.Message.TheVariants.{Icrq, Icrp}
use Rattle.call_fsm.specs.declared.table.CallState.TheVariants.{Idle}
use Rattle.call_fsm.specs.declared.table.CallEvent.TheVariants as call_event
use Rattle.session_book.specs.Books.{Kept}
use Rattle.end_names.specs.Names.{node_of, address_of}
use Rattle.end_model.specs.declared.event.Event.{Event}
use Rattle.end_model.specs.declared.moves.Replied.{Replied}
use Rattle.end_model.specs.declared.moves.Move.{Move}
use Rattle.end_model.specs.declared.moves.Move.TheVariants as move
use Rattle.end_model.specs.declared.tunnel.Call.{Call}
use Rattle.end_model.specs.Calls.{asked_for, row_of_none, is_up}
use Rattle.end_model.specs.Channels.{counts_taken}
use Rattle.end_model.specs.Tunnels.{Tunnel, mode_of, is_current}
use Rattle.end_model.specs.End.{End}
use Rattle.world_model.specs.declared.standing.Standing.{Standing}
use Rattle.world_model.specs.World.{World, Node, Sender, Deed, standing_of, epoch_of, birth_of, with_birth, moved}
use Rattle.step_laws.specs.Letters.{Letter}
use Rattle.step_laws.specs.Moves.{with_letter}
use Rattle.book_laws.specs.Books.{Mirrors}
use Rattle.birth_laws.specs.Births.{CallsHold, BirthsOfRuns}
use Rattle.frame_laws.specs.Written.{IsWritten}
use Rattle.connection_laws.specs.Facts.{IsStopCcn, IsSpelled}
use Rattle.epoch_machine.specs.Letters as machine_letters
use Rattle.epoch_machine.specs.Tunnels.{Tunnels, Open}
use Rattle.epoch_machine.specs.Calls as calls
use Rattle.epoch_machine.specs.Calls.{Calls, NoCall, WaitsConnect, replies}
use Rattle.epoch_machine.specs.Worlds as machine
use Rattle.epoch_machine.specs.Worlds.{all_rules, took_one, takes, takes_open, answers_request}
use Rattle.epoch_machine.specs.Moves.{Delivers, delivers, step}
use Rattle.session_laws.specs.Names.{name, name_of, state_of}
use Rattle.session_laws.proofs.CallRows.{GoesOn, reply_row, asked_state, asked_remote}
use Rattle.session_laws.proofs.Names.{known_name, same_name}
use Rattle.channel_laws.specs.Accounts.{Account, History, after}
use Rattle.channel_laws.specs.Facts.{IsOfQuery}
use Rattle.channel_laws.specs.Steps.{with_end, moves_on}
use Rattle.recovery_laws.specs.Asking as asking
use Rattle.recovery_laws.specs.Growing.{ChannelsGrow}
use Rattle.recovery_laws.specs.Joined.{CallJoined, CallsJoined}
use Rattle.recovery_laws.specs.Queries.{said_in, letters_in, question_of, questions_in, weight, QueriesJoined}
use Rattle.recovery_laws.proofs.Asking.{may_take_it}
use Rattle.join_laws.specs.Steps as steps
use Rattle.join_laws.specs.Steps.{with_book, Follows, Joins, IsJoined}
use Rattle.join_laws.proofs.Ahead.{behind, left, births_as, end_standings}
use Rattle.join_laws.proofs.Asks.{asks_on}
use Rattle.join_laws.proofs.Books.{booked, book_born}
use Rattle.join_laws.proofs.Born.{HasBirth, has_birth, Births, with_births, new_born, new_birth, other_births, birth_standings, own_address, unborn, born_one, asked_by_one}
use Rattle.join_laws.proofs.CallMoves.{then_gives, then_gives_tunnels, then_gives_calls, then_gives_goes, delivers_node}
use Rattle.join_laws.proofs.Channel.{gives_is, sent_one}
use Rattle.join_laws.proofs.Finish.{Went, went_one}
use Rattle.join_laws.proofs.Fresh as fresh
use Rattle.join_laws.proofs.Letters.{Talks, talks_one}
use Rattle.join_laws.proofs.Hearing.{heard_said}
use Rattle.join_laws.proofs.Made as made
use Rattle.join_laws.proofs.Moved.{book_births}
use Rattle.join_laws.proofs.OneTunnel.{CallStays, OneTunnel, one_joined, this_or_not}
use Rattle.join_laws.proofs.Taking as taking
use Rattle.join_laws.proofs.Taking.{Takes, TakesIn, TookLetter, spelled_so}
use Rattle.join_laws.proofs.Turning.{not_up}
use Rattle.join_laws.proofs.Within.{partner_by}

-- ---- in the machine

abbrev replied : machine.World → ℕ → ℕ → ℕ → ℕ → machine.World
replied w x e z own = then_gives w x (replies w.calls x e z own) (machine_letters.Reply z own)

takes_request : (w : machine.World) (x s e own z : ℕ) → w.tunnels.phase x ≡ Open → w.tunnels.entered x ≡ e → 0 < z
    → w.calls.drawn z ≡ false
    → takes all_rules (took_one w x) x s (machine_letters.Request own) z ≡ replied w x e z own
unfolding takes took_one takes_open answers_request
takes_request w x s e own z phase entered some new = rw (phase, entered, lt-ltb 0 z some, new) refl

request_step : (w : machine.World) (x s e k own z : ℕ) → asking.TakesFrom w x s e k
    → slice_get (w.channels.sent s e) k ≡ Some (machine_letters.Request own) → 0 < z → w.calls.drawn z ≡ false
    → step all_rules w (Delivers x s e k z) ≡ replied w x e z own
unfolding step delivers
request_step w x s e k own z t stands some new =
    ap (λ o. delivers all_rules w x s e k z o) stands
    ∙ (ap (λ b. if b then takes all_rules (took_one w x) x s (machine_letters.Request own) z else w) (may_take_it w x s e k
    (machine_letters.Request own) t)
    ∙ takes_request w x s e own z t.open_is t.entered some new)

record IsReply (c : Calls) (x e z own : ℕ) : Type 0 where
  state : (replies c x e z own).state z ≡ WaitsConnect
  tunnel : (replies c x e z own).tunnel z ≡ x
  remote : (replies c x e z own).remote z ≡ own
  in_book : (replies c x e z own).booked z ≡ c.booked z
  births : (replies c x e z own).births ≡ c.births
  birth : (replies c x e z own).birth z ≡ c.birth own
  other_births : (y : ℕ) → (y ≡ z → ⊥) → (replies c x e z own).birth y ≡ c.birth y
  asks : (replies c x e z own).asks ≡ c.asks
  held : (replies c x e z own).held ≡ c.held

reply_is : (c : Calls) (x e z own : ℕ) → IsReply c x e z own
unfolding replies
reply_is c x e z own = record {
  state = ap (λ b. if b then WaitsConnect else c.state z) (eq-eqb z z refl);
  tunnel = ap (λ b. if b then x else c.tunnel z) (eq-eqb z z refl);
  remote = ap (λ b. if b then own else c.remote z) (eq-eqb z z refl);
  in_book = refl;
  births = refl;
  birth = ap (λ b. if b then c.birth own else c.birth z) (eq-eqb z z refl);
  other_births = λ y other. ap (λ b. if b then c.birth own else c.birth y) (ne_eqb y z other);
  asks = refl;
  held = refl;
}

reply_stays : (m v : machine.World) (x e z own y : ℕ) → v.calls ≡ replies m.calls x e z own → (y ≡ z → ⊥) → CallStays m v y
unfolding replies
reply_stays m v x e z own y same other = record {
  drawn = ap (λ (c : Calls). c.drawn y) same ∙ ap (λ b. if b then true else m.calls.drawn y) (ne_eqb y z other);
  tunnel = ap (λ (c : Calls). c.tunnel y) same ∙ ap (λ b. if b then x else m.calls.tunnel y) (ne_eqb y z other);
  state = ap (λ (c : Calls). c.state y) same ∙ ap (λ b. if b then WaitsConnect else m.calls.state y) (ne_eqb y z other);
  remote = ap (λ (c : Calls). c.remote y) same ∙ ap (λ b. if b then own else m.calls.remote y) (ne_eqb y z other);
  booked = ap (λ (c : Calls). c.booked y) same;
}

-- nothing else is said of births
unborn_stays : (m z : machine.World) (y : ℕ) → CallStays m z y → CallStays m (unborn m z) y
unborn_stays m z y k = record { drawn = k.drawn; tunnel = k.tunnel; state = k.state; remote = k.remote; booked = k.booked }

unborn_goes : (m z : machine.World) (x e : ℕ) (ls : List machine_letters.Letter) (took : ℕ) → asking.GoesOn m z x e ls took
    → asking.GoesOn m (unborn m z) x e ls took
unborn_goes m z x e ls took k = record {
  tunnels = k.tunnels;
  refused = k.refused;
  sent = k.sent;
  taken = k.taken;
  others_sent = k.others_sent;
  others_taken = k.others_taken;
}

-- ---- the move

module _ (grow : ChannelsGrow) (runs : BirthsOfRuns) (w : World) (h : History) (n : ℕ) (node : Node) (sender : Option Sender) (moment : ℕ)
    (ev : Event) (m : Replied) (x : End) (d : Deed) (k : Kept) (j : machine.World)
    (q : steps.IsMade w h n node sender moment ev (move.Replied m) x d k j) (b : Kept) (new : Mirrors x b) where
  abbrev mv : Move
  mv = move.Replied m

  abbrev i : ℕ
  i = m.tunnel

  abbrev s : ℕ
  s = m.session

  abbrev e : ℕ
  e = epoch_of w n m.tunnel

  abbrev t : Tunnel
  t = q.moved.does.tunnel

  abbrev c : Call
  c = asked_for node.end.role m.remote moment

  abbrev r : Tunnel
  r = with_letter m.remote (Icrp m.session) (record t { control = counts_taken t.control; calls = put t.calls m.session c })

  abbrev l : Letter
  l = record { tunnel = m.tunnel; place = m.given; session = m.remote; message = Icrp m.session; hidden = None }

  abbrev g : History
  g = after h d

  abbrev base : World
  base = with_end w n node x

  abbrev birth : ℕ
  birth = birth_of base (node_of m.peer) m.remote

  abbrev led : World
  led = with_birth base n s birth

  led_is : moves_on w n node mv x ≡ led
  unfolding moved
  led_is = refl

  base_here : at base.nodes n ≡ Some (record node { end = x })
  base_here = at_new w.nodes n (record node { end = x })

  has : HasBirth base led n s birth w.born
  has = has_birth base n s birth w.born (record node { end = x }) base_here

  at_t : at node.end.tunnels i ≡ Some t
  at_t = q.moved.does.there

  epoch_stays : d.epoch ≡ epoch_of w n m.tunnel
  epoch_stays =
      q.moved.epoch
      ∙ (ap (λ v. epoch_of v n i) led_is ∙ (ap (λ (a : Standing). a.epoch) (born_standing n i)
      ∙ ap (λ (a : Standing). a.epoch) (end_standings w n node q.moved.there x n i)))
    where
      born_standing : (y f : ℕ) → standing_of led y f ≡ standing_of base y f
      born_standing = birth_standings base n s birth w.born (record node { end = x }) base_here led has b

  takes_it : Takes w h n node mv x d t m.taken.number (l ∷ [])
  takes_it = record {
    epoch = epoch_stays;
    plain = record { declines = λ p f. refl; attempts = λ p a o. refl; answers = λ p a o. refl };
    at_t = at_t;
    current = q.moved.does.current;
    three = q.moved.does.open_is;
    enters = λ a.
        ap (λ ls. record a {
          given = a.given ++ ls;
          taken = a.taken ++ (record { sender = d.sender; number = m.taken.number; move = d.move }) ∷ [];
        })
        (gives_is d n node.end.role sender mv q.moved.deed);
  }

  took : TookLetter w h n node sender moment ev mv x d k j q t m.taken.number (l ∷ []) takes_it
  took = taking.took_letter w h n node sender moment ev mv x d k j q t m.taken.number (l ∷ []) takes_it

  no_stop : IsStopCcn took.letter.message → ⊥
  no_stop stops = subst IsStopCcn took.tells.2 stops

  no_query : IsOfQuery took.letter.message → ⊥
  no_query asks = subst IsOfQuery took.tells.2 asks

  abbrev X : ℕ
  X = name n i

  abbrev Z : ℕ
  Z = name n s

  abbrev S : ℕ
  S = name took.from.node took.from.tunnel

  abbrev own : ℕ
  own = name took.from.node m.remote

  abbrev z : machine.World
  z = replied j X e Z own

  abbrev place : ℕ
  place = taking.place w h n node sender moment ev mv x d k j q t m.taken.number (l ∷ []) takes_it took no_stop

  from : asking.TakesFrom j X S e place
  from = taking.takes_from w h n node sender moment ev mv x d k j q t m.taken.number (l ∷ []) takes_it took no_stop

  peer : (h.accounts n i 0).peer ≡ took.from.node
  peer = taking.took_peer w h n node sender moment ev mv x d k j q t m.taken.number (l ∷ []) takes_it took no_stop

  stands : slice_get (j.channels.sent S e) place ≡ Some (machine_letters.Request own)
  stands = taking.takes_stands w h n node sender moment ev mv x d k j q t m.taken.number (l ∷ []) takes_it took no_stop
      (machine_letters.Request own)
      (λ asked. ap (λ y. said_in took.from.node n asked took.letter.session y) took.tells.2)

  spelled : IsSpelled took.letter
  spelled = spelled_so e took.letter no_query took.spelled

  remote_fits : m.remote < 65536
  remote_fits = (let lt = (subst IsWritten took.tells.2 spelled.written).0 in omega (arith, lt))

  some_remote : 0 < m.remote
  some_remote = by_remote m.remote (λ none. q.moved.does.granted.free (inl none))
    where
      by_remote : (y : ℕ) → (y ≡ 0 → ⊥) → 0 < y
      by_remote y some = omega (arith, some)

  undrawn : j.calls.drawn Z ≡ false
  undrawn = fresh.fresh_undrawn w h n node sender moment ev mv x d k j q s q.moved.does.drawn

  hold : CallsHold j.tunnels j.calls
  hold = subst (λ (y : machine.World). CallsHold y.tunnels y.calls) (sym q.joined.joined.run) (runs.calls q.joined.joined.moves)

  so : IsReply j.calls X e Z own
  so = reply_is j.calls X e Z own

  machine_tunnels : z.tunnels ≡ j.tunnels
  machine_tunnels = then_gives_tunnels j X (replies j.calls X e Z own) (machine_letters.Reply Z own)

  machine_calls : z.calls ≡ replies j.calls X e Z own
  machine_calls = then_gives_calls j X (replies j.calls X e Z own) (machine_letters.Reply Z own)

  row : GoesOn node.end.role Idle (row_of_none node.end.role call_event.IcrqAcc).0 NoCall WaitsConnect
  row = reply_row node.end.role q.moved.does.row

  now : state_of c.state ≡ WaitsConnect
  now = ap state_of (asked_state node.end.role m.remote moment) ∙ row.is

  tunnels : x.tunnels ≡ put node.end.tunnels i r
  tunnels = ap (λ (y : End). y.tunnels) q.moved.does.after

  at_r : at x.tunnels i ≡ Some r
  at_r = ap (λ ts. at ts i) tunnels ∙ at_new node.end.tunnels i r

  others : (f : ℕ) → (f ≡ i → ⊥) → at x.tunnels f ≡ at node.end.tunnels f
  others f other = ap (λ ts. at ts f) tunnels ∙ at_other node.end.tunnels i r f other

  peers : (p f : ℕ) → (g.accounts p f 0).peer ≡ (h.accounts p f 0).peer
  peers = taking.took_peers w h n node sender moment ev mv x d k j q t m.taken.number (l ∷ []) takes_it

  stays : (y : ℕ) → (y ≡ Z → ⊥) → CallStays j z y
  stays y other = reply_stays j z X e Z own y machine_calls other

  freshly : fresh.Freshly w h n node sender moment ev mv x d k j q s q.moved.does.drawn g b (unborn j z) i t r c
  freshly = record {
    new = new;
    at_t = at_t;
    at_r = at_r;
    others = others;
    ids = ap (λ (y : End). y.session_ids) q.moved.does.after;
    sessions = λ y other. at_other t.calls s c y other;
    this = at_new t.calls s c;
    peers = peers n;
    nodes = λ y. ap (λ (T : Tunnels). T.node y) machine_tunnels;
    state = ap (λ (y : Calls). y.state Z) machine_calls ∙ (so.state ∙ sym now);
    tunnel = ap (λ (y : Calls). y.tunnel Z) machine_calls ∙ so.tunnel;
    remote = ap (λ (y : Calls). y.remote Z) machine_calls ∙ (so.remote
        ∙ (sym (known_name took.from.node m.remote some_remote)
        ∙ sym (ap₂ name_of peer (asked_remote node.end.role m.remote moment))));
    in_book = ap (λ (y : Calls). y.booked Z) machine_calls ∙ (so.in_book ∙ ((hold.nameless Z undrawn).booked
        ∙ sym (not_up WaitsConnect c now refl)));
    stays = λ y other. unborn_stays j z y (stays y other);
  }

  in_tunnel : TakesIn h (after h d) n node mv x b j (unborn j z) i e r (l ∷ []) (machine_letters.Reply Z own ∷ []) 1 t
  in_tunnel = record {
    new = new;
    at_r = at_r;
    state = refl;
    recovery = refl;
    others = others;
    sent = λ tk is.
        sent_one grow n (h.accounts n i e).peer (h.accounts n i e).taken (h.accounts n i e).given tk l (ap question_of is) refl
        ∙ ap (λ p. letters_in n (h.accounts n i e).peer (questions_in (h.accounts n i e).taken) (h.accounts n i e).given
        ++ machine_letters.Reply Z (name p m.remote) ∷ []) (partner_by (h.accounts n i e) took.from took.partner).0;
    goes = unborn_goes j z X e (machine_letters.Reply Z own ∷ []) 1
        (then_gives_goes j X S e place (replies j.calls X e Z own) (machine_letters.Reply Z own) from);
    calls = fresh.fresh_calls w h n node sender moment ev mv x d k j q s q.moved.does.drawn g b (unborn j z) i t r c freshly;
    calls_stay = fresh.fresh_stay w h n node sender moment ev mv x d k j q s q.moved.does.drawn g b (unborn j z) i t r c freshly;
    births = (refl, λ y. refl);
  }

  talks : Talks w h g n node x k b j (unborn j z) i e t r (l ∷ []) (machine_letters.Reply Z own ∷ []) 1
  talks = taking.takes_talks w h n node sender moment ev mv x d k j q t m.taken.number (l ∷ []) takes_it took no_stop grow b
      (unborn j z) r (machine_letters.Reply Z own ∷ []) 1 in_tunnel (ap weight took.tells.2)

  -- ---- births

  abbrev u : World
  u = with_book led n b

  abbrev then_node : Node
  then_node = booked (record node { end = x; births = put node.births s birth }) b

  differs : Births (behind w n node x b) u n (left node x b) then_node
  differs = with_births base n s birth w.born (record node { end = x }) base_here led has b

  session_fits : s < 65536
  session_fits = fresh.fresh_fits w h n node sender moment ev mv x d k j q s q.moved.does.drawn

  base_births : (y f : ℕ) → birth_of (with_book w n k) y f ≡ birth_of base y f
  base_births y f =
      sym (births_as w n node q.moved.there x k b y f) ∙ book_births base n (record node { end = x }) base_here b y f

  peer_is : node_of m.peer ≡ took.from.node
  peer_is =
      ap node_of (q.moved.does.peer ∙ (made.live_ok w h n node sender moment ev mv x d k j q i t at_t).peer)
      ∙ (own_address (h.accounts n i 0).peer (q.moved.holds.accounts n i 0).peer ∙ peer)

  pfits : took.from.node < 256
  pfits = (let lt = (q.moved.holds.accounts n i 0).peer in let same = peer in omega (arith, lt, same))

  births_then : (y f : ℕ) → y < 256 → f < 65536 → z.calls.birth (name y f) ≡ birth_of u y f
  births_then y f yfits ffits = ap (λ (a : Calls). a.birth (name y f)) machine_calls ∙ ⊎_elim
      (λ (a : (y ≡ n) × (f ≡ s)).
      rw (a.0, a.1) (so.birth ∙ (q.joined.joined.births.1 took.from.node m.remote pfits remote_fits
      ∙ (base_births took.from.node m.remote
      ∙ (ap (λ o. birth_of base o m.remote) (sym peer_is)
      ∙ sym (new_birth base n s birth w.born (record node { end = x }) base_here led has b))))))
      (λ apart.
      so.other_births (name y f) (λ same. apart (same_name y f n s ffits session_fits same))
      ∙ (q.joined.joined.births.1 y f yfits ffits
      ∙ (base_births y f
      ∙ sym (other_births base n s birth w.born (record node { end = x }) base_here led has b y f apart))))
      (this_or_not y f n s)

  one : OneTunnel (with_book w n k) u h g j z n i (booked node k) then_node
  one = born_one (with_book w n k) (behind w n node x b) u h g j z n i (booked node k) (left node x b) then_node
      (talks_one grow.stay w h g n node x k b j (unborn j z) i e t r (l ∷ []) (machine_letters.Reply Z own ∷ []) 1 talks
      q.joined.joined) differs (
        ap (λ (a : Calls). a.births) machine_calls
            ∙ (so.births ∙ (q.joined.joined.births.0 ∙ (book_born w n k node q.moved.there
            ∙ sym (new_born base n s birth w.born (record node { end = x }) base_here led has b)))),
        births_then,
      )

  queries : QueriesJoined u g z
  queries = asks_on (with_book w n k) u h g j z (record {
    peers = peers;
    asks = λ y f. ap (λ (a : Calls). a.asks y f) machine_calls ∙ ap (λ a. a y f) so.asks;
    held = λ y f a. ap (λ (p : Calls). p.held y f a) machine_calls ∙ ap (λ p. p y f a) so.held;
    entered = λ y. ap (λ (T : Tunnels). T.entered y) machine_tunnels;
    asked = asked_by_one (with_book w n k) u h g j z n i (booked node k) then_node one (λ v at_v current three.
        (let same : r ≡ v = same_Some r v (sym at_r ∙ at_v) in (
          t,
          at_t,
          ap (λ (y : Tunnel). is_current (mode_of y.recovery)) same ∙ current,
          ap (λ (y : Tunnel). state_number y.control.state) same ∙ three,
          ap (λ (y : Tunnel). y.query) (sym same),
        )));
  }) q.joined.queries

  went : Went ev n j z
  went = went_one ev n j z (Delivers X S e place Z)
      (delivers_node j X S e place Z
      ∙ (made.told w h n node sender moment ev mv x d k j q i t at_t).node (made.live_ok w h n node sender moment ev mv x d k j q i t
      at_t).made)
      refl
      (heard_said ev j X S e place Z (machine_letters.Request own) stands q.moved.does.letter q.moved.does.takes.next.comes.came
      (Icrq m.remote q.moved.does.serial q.moved.does.calling) q.moved.does.said refl)
      (request_step j X S e place own Z from stands (fresh.fresh_name w h n node sender moment ev mv x d k j q s q.moved.does.drawn)
      undrawn)

  pub replied_follows : Follows ev (with_book (moves_on w n node mv x) n b) (after h d) n j
  replied_follows = subst (λ v. Follows ev (with_book v n b) (after h d) n j) (sym led_is) (record {
    moves = went.moves;
    own = went.own;
    heard = went.heard;
    joined = subst (IsJoined u g) went.goes (record {
      joined = one_joined grow.stay (with_book w n k) u h g j z n i (booked node k) then_node q.joined.joined one went.moves went.goes;
      queries = queries;
      named = fresh.fresh_named w h n node sender moment ev mv x d k j q s q.moved.does.drawn z stays;
    });
  })

pub replied_joins : ChannelsGrow → BirthsOfRuns → (m : Replied) → Joins (move.Replied m)
replied_joins grow runs m w h n node sender moment ev x d k j q b new =
    replied_follows grow runs w h n node sender moment ev m x d k j q b new
