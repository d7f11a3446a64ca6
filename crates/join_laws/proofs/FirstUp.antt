-- A call is established by the reply that its tunnel takes, and so is the machine's.
use Rattle.std.proofs.Common.{◌≡◌, inl, inr, ⊎_elim, ℕ, ◌+◌, ◌<◌, ◌≤◌, true, false, List, [], ◌∷◌, ◌++◌, slice_get, refl, sym, ap, ap₂, ◌∙◌, subst, Option, Some, None, arith, eq-eqb, ne_eqb}
use Rattle.std.proofs.lemmas.Option.{same_Some}
use Rattle.std.specs.Prelude.{if◌then◌else◌, ◌==◌}
use Rattle.id_source.specs.Spaces.{Space}
use Rattle.id_table.specs.Ids.{at, put}
use Rattle.id_table.specs.Order.{at_new, at_other}
use Rattle.wire_base.specs.declared.pair.Pair.{Pair}
use Rattle.control_message.specs.declared.message.Message.{Message}
use Rattle.control_message.specs.declared.message.Message.TheVariants.{Icrp}
use Rattle.call_fsm.specs.declared.table.CallEvent.TheVariants as call_event
use Rattle.session_book.specs.Books.{Kept}
use Rattle.end_model.specs.declared.event.Event.{Event}
use Rattle.end_model.specs.declared.moves.FirstUp.{FirstUp}
use Rattle.end_model.specs.declared.moves.Move.{Move}
use Rattle.end_model.specs.declared.moves.Move.TheVariants as move
use Rattle.end_model.specs.declared.tunnel.Call.{Call}
use Rattle.end_model.specs.Calls.{row_for, advanced, is_up}
use Rattle.end_model.specs.Channels.{counts_taken}
use Rattle.end_model.specs.Messages.{connection}
use Rattle.end_model.specs.Tunnels.{Tunnel}
use Rattle.end_model.specs.End.{End}
use Rattle.world_model.specs.World.{World, Node, Sender, Deed, epoch_of, moved}
use Rattle.step_laws.specs.Letters.{Letter}
use Rattle.step_laws.specs.Moves.{with_letter}
use Rattle.book_laws.specs.Books.{Mirrors}
use Rattle.frame_laws.specs.Written.{IsWritten}
use Rattle.connection_laws.specs.Facts.{IsStopCcn, IsSpelled}
use Rattle.epoch_machine.specs.Letters as machine_letters
use Rattle.epoch_machine.specs.Tunnels.{Tunnels, Open}
use Rattle.epoch_machine.specs.Calls as calls
use Rattle.epoch_machine.specs.Calls.{Calls, WaitsReply, Up, is_first_up}
use Rattle.epoch_machine.specs.Worlds as machine
use Rattle.epoch_machine.specs.Worlds.{all_rules, took_one, takes, takes_open, takes_reply}
use Rattle.epoch_machine.specs.Moves.{Delivers, delivers, step}
use Rattle.session_laws.specs.Names.{name, name_of, state_of}
use Rattle.session_laws.proofs.CallRows.{GoesOn, first_row, advanced_state, advanced_remote}
use Rattle.session_laws.proofs.Names.{known_name, same_name}
use Rattle.recovery_laws.proofs.Pairs.{state_up}
use Rattle.channel_laws.specs.Accounts.{Account, History, after}
use Rattle.channel_laws.specs.Facts.{IsOfQuery}
use Rattle.channel_laws.specs.Steps.{with_end, moves_on}
use Rattle.recovery_laws.specs.Asking as asking
use Rattle.recovery_laws.specs.Growing.{ChannelsGrow}
use Rattle.recovery_laws.specs.Joined.{CallJoined, CallsJoined}
use Rattle.recovery_laws.specs.Queries.{said_in, letters_in, question_of, questions_in, weight}
use Rattle.recovery_laws.proofs.Asking.{may_take_it}
use Rattle.join_laws.specs.Steps as steps
use Rattle.join_laws.specs.Steps.{with_book, Follows, Joins}
use Rattle.join_laws.proofs.Ahead.{behind, left}
use Rattle.join_laws.proofs.Asks.{asks_on, one_asked}
use Rattle.join_laws.proofs.Books.{booked}
use Rattle.join_laws.proofs.Bounds.{fit_bounded}
use Rattle.join_laws.proofs.Calls.{like_same, sessions_joined}
use Rattle.join_laws.proofs.CallMoves.{then_gives, then_gives_tunnels, then_gives_calls, then_gives_goes, delivers_node}
use Rattle.join_laws.proofs.Finish.{Went, went_one, follows, named_as}
use Rattle.join_laws.proofs.Letters.{Talks, talks_one}
use Rattle.join_laws.proofs.Hearing.{heard_said}
use Rattle.join_laws.proofs.Made as made
use Rattle.join_laws.proofs.OneCall.{HasCall, has_session, alone_in, OneSession, one_session}
use Rattle.join_laws.proofs.OneTunnel.{CallStays, one_joined}
use Rattle.join_laws.proofs.Taking as taking
use Rattle.join_laws.proofs.Taking.{Takes, TakesIn, TookLetter, spelled_so}
use Rattle.join_laws.proofs.Talking.{talks_follow}
use Rattle.join_laws.proofs.Within.{partner_by}
use Rattle.join_laws.proofs.Channel.{gives_is, sent_one}

-- ---- in the machine

takes_first : (w : machine.World) (x s own z : ℕ) → w.tunnels.phase x ≡ Open → w.calls.tunnel z ≡ x → w.calls.state z ≡ WaitsReply
    → takes all_rules (took_one w x) x s (machine_letters.Reply own z) 0 ≡ then_gives w x (is_first_up w.calls z own)
    (machine_letters.Connect own)
unfolding takes took_one takes_open takes_reply
takes_first w x s own z phase tunnel state = rw (phase, tunnel, state, eq-eqb x x refl) refl

first_step : (w : machine.World) (x s e k own z : ℕ) → asking.TakesFrom w x s e k
    → slice_get (w.channels.sent s e) k ≡ Some (machine_letters.Reply own z)
    → w.calls.tunnel z ≡ x → w.calls.state z ≡ WaitsReply
    → step all_rules w (Delivers x s e k 0) ≡ then_gives w x (is_first_up w.calls z own) (machine_letters.Connect own)
unfolding step delivers
first_step w x s e k own z t stands tunnel state =
    ap (λ o. delivers all_rules w x s e k 0 o) stands
    ∙ (ap (λ b. if b then takes all_rules (took_one w x) x s (machine_letters.Reply own z) 0 else w) (may_take_it w x s e k
    (machine_letters.Reply own z) t)
    ∙ takes_first w x s own z t.open_is tunnel state)

-- a call that comes up
record ComesUp (c : Calls) (z own : ℕ) : Type 0 where
  state : (is_first_up c z own).state z ≡ Up
  remote : (is_first_up c z own).remote z ≡ own
  tunnel : (is_first_up c z own).tunnel z ≡ c.tunnel z
  booked : (is_first_up c z own).booked z ≡ true
  drawn : (is_first_up c z own).drawn ≡ c.drawn
  births : (is_first_up c z own).births ≡ c.births
  birth : (is_first_up c z own).birth ≡ c.birth
  asks : (is_first_up c z own).asks ≡ c.asks
  held : (is_first_up c z own).held ≡ c.held

comes_up : (c : Calls) (z own : ℕ) → ComesUp c z own
unfolding is_first_up
comes_up c z own = record {
  state = ap (λ b. if b then Up else c.state z) (eq-eqb z z refl);
  remote = ap (λ b. if b then own else c.remote z) (eq-eqb z z refl);
  tunnel = refl;
  booked = ap (λ b. if b then true else c.booked z) (eq-eqb z z refl);
  drawn = refl;
  births = refl;
  birth = refl;
  asks = refl;
  held = refl;
}

up_stays : (m v : machine.World) (z own y : ℕ) → v.calls ≡ is_first_up m.calls z own → (y ≡ z → ⊥) → CallStays m v y
unfolding is_first_up
up_stays m v z own y same other = record {
  drawn = ap (λ (c : Calls). c.drawn y) same;
  tunnel = ap (λ (c : Calls). c.tunnel y) same;
  state = ap (λ (c : Calls). c.state y) same ∙ ap (λ b. if b then Up else m.calls.state y) (ne_eqb y z other);
  remote = ap (λ (c : Calls). c.remote y) same ∙ ap (λ b. if b then own else m.calls.remote y) (ne_eqb y z other);
  booked = ap (λ (c : Calls). c.booked y) same ∙ ap (λ b. if b then true else m.calls.booked y) (ne_eqb y z other);
}

-- ---- the move

module _ (grow : ChannelsGrow) (w : World) (h : History) (n : ℕ) (node : Node) (sender : Option Sender) (moment : ℕ) (ev : Event) (m :
    FirstUp) (x : End)
    (d : Deed) (k : Kept) (j : machine.World) (q : steps.IsMade w h n node sender moment ev (move.FirstUp m) x d k j) (b : Kept) (new :
    Mirrors x b) where
  abbrev mv : Move
  mv = move.FirstUp m

  abbrev e : ℕ
  e = epoch_of w n m.tunnel

  abbrev t : Tunnel
  t = q.moved.does.tunnel

  abbrev was : Call
  was = q.moved.does.call

  abbrev call : Call
  call = advanced node.end.role call_event.IcrpAcc moment (record was { remote = m.remote })

  abbrev r : Tunnel
  r = with_letter m.remote connection (record t { control = counts_taken t.control; calls = put t.calls m.session call })

  abbrev l : Letter
  l = record { tunnel = m.tunnel; place = m.given; session = m.remote; message = connection; hidden = None }

  at_t : at node.end.tunnels m.tunnel ≡ Some t
  at_t = q.moved.does.there

  same : moves_on w n node mv x ≡ with_end w n node x
  unfolding moved
  same = refl

  takes_it : Takes w h n node mv x d t m.taken.number (l ∷ [])
  takes_it = record {
    epoch = made.epoch_is w h n node sender moment ev mv x d k j q same;
    plain = record { declines = λ p i. refl; attempts = λ p a o. refl; answers = λ p c o. refl };
    at_t = at_t;
    current = q.moved.does.current;
    three = q.moved.does.open_is;
    enters = λ a.
        ap (λ ls. record a {
          given = a.given ++ ls;
          taken = a.taken ++ (record {
            sender = d.sender;
            number = m.taken.number;
            move =
                d.move;
          }) ∷ [];
        })
        (gives_is d n node.end.role sender mv q.moved.deed);
  }

  took : TookLetter w h n node sender moment ev mv x d k j q t m.taken.number (l ∷ []) takes_it
  took = taking.took_letter w h n node sender moment ev mv x d k j q t m.taken.number (l ∷ []) takes_it

  no_stop : IsStopCcn took.letter.message → ⊥
  no_stop stops = subst IsStopCcn took.tells.1 stops

  no_query : IsOfQuery took.letter.message → ⊥
  no_query asks = subst IsOfQuery took.tells.1 asks

  spelled : IsSpelled took.letter
  spelled = spelled_so e took.letter no_query took.spelled

  -- the call that replied has a session, and a name
  some_remote : 0 < m.remote
  some_remote = (subst IsWritten took.tells.1 spelled.written).1

  abbrev X : ℕ
  X = name n m.tunnel

  abbrev Z : ℕ
  Z = name n m.session

  abbrev S : ℕ
  S = name took.from.node took.from.tunnel

  abbrev own : ℕ
  own = name took.from.node m.remote

  abbrev c : Calls
  c = is_first_up j.calls Z own

  abbrev z : machine.World
  z = then_gives j X c (machine_letters.Connect own)

  abbrev place : ℕ
  place = taking.place w h n node sender moment ev mv x d k j q t m.taken.number (l ∷ []) takes_it took no_stop

  from : asking.TakesFrom j X S e place
  from = taking.takes_from w h n node sender moment ev mv x d k j q t m.taken.number (l ∷ []) takes_it took no_stop

  peer : (h.accounts n m.tunnel 0).peer ≡ took.from.node
  peer = taking.took_peer w h n node sender moment ev mv x d k j q t m.taken.number (l ∷ []) takes_it took no_stop

  stands : slice_get (j.channels.sent S e) place ≡ Some (machine_letters.Reply own Z)
  stands = taking.takes_stands w h n node sender moment ev mv x d k j q t m.taken.number (l ∷ []) takes_it took no_stop
      (machine_letters.Reply own Z)
      (λ asked. ap₂ (λ s y. said_in took.from.node n asked s y) took.tells.0 took.tells.1)

  before : CallsJoined j h n (booked node k)
  before = made.calls_before w h n node sender moment ev mv x d k j q

  was_joined : CallJoined j n m.tunnel (h.accounts n m.tunnel 0).peer m.session was
  was_joined = before.live m.tunnel t at_t m.session was q.moved.does.asked

  row : GoesOn node.end.role was.state (row_for node.end.role was call_event.IcrpAcc).0 WaitsReply Up
  row = first_row node.end.role was.state q.moved.does.row

  machine_tunnels : z.tunnels ≡ j.tunnels
  machine_tunnels = then_gives_tunnels j X c (machine_letters.Connect own)

  machine_calls : z.calls ≡ c
  machine_calls = then_gives_calls j X c (machine_letters.Connect own)

  up : ComesUp j.calls Z own
  up = comes_up j.calls Z own

  stays : (y : ℕ) → (y ≡ Z → ⊥) → CallStays j z y
  stays y other = up_stays j z Z own y machine_calls other

  peers : (p i : ℕ) → ((after h d).accounts p i 0).peer ≡ (h.accounts p i 0).peer
  peers = taking.took_peers w h n node sender moment ev mv x d k j q t m.taken.number (l ∷ []) takes_it

  tunnels : x.tunnels ≡ put node.end.tunnels m.tunnel r
  tunnels = ap (λ (y : End). y.tunnels) q.moved.does.after

  at_r : at x.tunnels m.tunnel ≡ Some r
  at_r = ap (λ ts. at ts m.tunnel) tunnels ∙ at_new node.end.tunnels m.tunnel r

  others : (i : ℕ) → (i ≡ m.tunnel → ⊥) → at x.tunnels i ≡ at node.end.tunnels i
  others i other = ap (λ ts. at ts i) tunnels ∙ at_other node.end.tunnels m.tunnel r i other

  ids : x.session_ids ≡ node.end.session_ids
  ids = ap (λ (y : End). y.session_ids) q.moved.does.after

  up_now : state_of call.state ≡ Up
  up_now = ap state_of (advanced_state node.end.role call_event.IcrpAcc moment (record was { remote = m.remote })) ∙ row.is

  joined : CallJoined z n m.tunnel ((after h d).accounts n m.tunnel 0).peer m.session call
  joined = record {
    some = was_joined.some;
    state = ap (λ (y : Calls). y.state Z) machine_calls ∙ (up.state ∙ sym up_now);
    tunnel = ap (λ (y : Calls). y.tunnel Z) machine_calls ∙ (up.tunnel ∙ was_joined.tunnel);
    remote = ap (λ (y : Calls). y.remote Z) machine_calls
        ∙ (up.remote ∙ (sym (known_name took.from.node m.remote some_remote)
        ∙ sym (ap₂ (λ p r. name_of p r) (peers n m.tunnel ∙ peer) (advanced_remote node.end.role call_event.IcrpAcc moment (record was
        { remote = m.remote })))));
  }

  has : HasCall x b z (after h d) n m.tunnel m.session r call
  has = record {
    new = new;
    at_r = at_r;
    call = at_new t.calls m.session call;
    alone = λ p u other there.
        alone_in node.end q.moved.fit.tables m.tunnel m.session t was at_t q.moved.does.asked p u other (sym (others p other) ∙ there);
    joined = joined;
    booked = ap (λ (y : Calls). y.booked Z) machine_calls ∙ (up.booked ∙ sym (state_up call.state up_now));
    node = ap (λ (T : Tunnels). T.node X) machine_tunnels
        ∙ (made.told w h n node sender moment ev mv x d k j q m.tunnel t at_t).node (made.live_ok w h n node sender moment ev mv x d k
        j q m.tunnel t at_t).made;
    below = (let lt = ((q.moved.fit.tables.tunnels m.tunnel t at_t).calls m.session was q.moved.does.asked).drawn in
        let same = ap (λ (y : Space). y.next) ids in omega (arith, lt, same));
  }

  calls_joined : CallsJoined z (after h d) n (left node x b)
  calls_joined = sessions_joined node x k b j z h (after h d) n
      (one_session node x k b j z h (after h d) n m.tunnel m.session t r (record {
        old = q.mirrors;
        new = new;
        bounded = fit_bounded x q.fit;
        peers = peers n;
        nodes = λ y is. ap (λ (T : Tunnels). T.node y) machine_tunnels ∙ is;
        rises = (let same = ap (λ (y : Space). y.next) ids in omega (arith, same));
        at_t = at_t;
        at_r = at_r;
        others = others;
        some = was_joined.some;
        stays = stays;
        calls = λ s other. like_same (at t.calls s) (at r.calls s) (at_other t.calls m.session call s other);
        this = has_session x b z (after h d) n m.tunnel m.session r call has;
      }))
      before

  session_fits : m.session < 65536
  session_fits = (fit_bounded node.end q.moved.fit).sessions m.tunnel t at_t m.session was q.moved.does.asked

  in_tunnel : TakesIn h (after h d) n node mv x b j z m.tunnel e r (l ∷ []) (machine_letters.Connect own ∷ []) 1 t
  in_tunnel = record {
    new = new;
    at_r = at_r;
    state = refl;
    recovery = refl;
    others = others;
    sent = λ tk is.
        sent_one grow n (h.accounts n m.tunnel e).peer (h.accounts n m.tunnel e).taken (h.accounts n m.tunnel e).given tk l (ap
        question_of is) refl
        ∙ ap (λ p. letters_in n (h.accounts n m.tunnel e).peer (questions_in (h.accounts n m.tunnel e).taken) (h.accounts n m.tunnel
        e).given
        ++ machine_letters.Connect (name p m.remote) ∷ []) (partner_by (h.accounts n m.tunnel e) took.from took.partner).0;
    goes = then_gives_goes j X S e place c (machine_letters.Connect own) from;
    calls = calls_joined;
    calls_stay = λ p s no pfits sfits. stays (name p s) (λ same. no (same_name p s n m.session sfits session_fits same).0);
    births = (
      ap (λ (y : Calls). y.births) machine_calls ∙ up.births,
      λ y. ap (λ (f : Calls). f.birth y) machine_calls ∙ ap (λ f. f y) up.birth,
    );
  }

  pub first_up_follows : Follows ev (with_book (moves_on w n node mv x) n b) (after h d) n j
  first_up_follows =
      talks_follow grow w h n node sender moment ev mv x d k b j z q t r (l ∷ []) (machine_letters.Connect own ∷ []) 1
      (taking.takes_talks w h n node sender moment ev mv x d k j q t m.taken.number (l ∷ []) takes_it took no_stop grow b z r
      (machine_letters.Connect own ∷ []) 1 in_tunnel (ap weight took.tells.1))
      peers (record {
        same = same;
        query = refl;
        asks = λ y s. ap (λ (f : Calls). f.asks y s) machine_calls ∙ ap (λ f. f y s) up.asks;
        held = λ y f s. ap (λ (p : Calls). p.held y f s) machine_calls ∙ ap (λ p. p y f s) up.held;
        named = named_as j z (ap (λ (f : Calls). f.drawn) machine_calls ∙ up.drawn) q.joined.named;
        went = went_one ev n j z (Delivers X S e place 0)
            (delivers_node j X S e place 0
            ∙ (made.told w h n node sender moment ev mv x d k j q m.tunnel t at_t).node (made.live_ok w h n node sender moment ev mv x
            d k j q m.tunnel t at_t).made)
            refl (heard_said ev j X S e place 0 (machine_letters.Reply own Z) stands q.moved.does.letter
            q.moved.does.takes.next.comes.came (Icrp m.remote) q.moved.does.says.said refl)
            (first_step j X S e place own Z from stands was_joined.tunnel (was_joined.state ∙ row.was));
      })

pub first_up_joins : ChannelsGrow → (m : FirstUp) → Joins (move.FirstUp m)
first_up_joins grow m w h n node sender moment ev x d k j q b new = first_up_follows grow w h n node sender moment ev m x d k j q b new
