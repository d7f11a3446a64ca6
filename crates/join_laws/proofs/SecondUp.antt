-- The end that replied hears that its call is connected, and so does the machine's.
use Rattle.std.proofs.Common.{◌≡◌, ℕ, ◌+◌, ◌<◌, true, false, List, [], ◌∷◌, ◌++◌, slice_get, refl, sym, ap, ap₂, ◌∙◌, subst, Option, Some, None, arith, eq-eqb, append-nil}
use Rattle.std.specs.Prelude.{if◌then◌else◌, ◌==◌}
use Rattle.id_table.specs.Ids.{at, put}
use Rattle.id_table.specs.Order.{at_new, at_other}
use Rattle.wire_base.specs.declared.pair.Pair.{Pair}
use Rattle.control_message.specs.declared.message.Message.{Message}
use Rattle.control_message.specs.declared.message.Message.TheVariants.{Iccn}
use Rattle.call_fsm.specs.declared.table.CallEvent.TheVariants as call_event
use Rattle.call_link.specs.Link.{new_link}
use Rattle.session_book.specs.Books.{Kept}
use Rattle.end_model.specs.declared.event.Event.{Event}
use Rattle.end_model.specs.declared.moves.SecondUp.{SecondUp}
use Rattle.end_model.specs.declared.moves.Move.{Move}
use Rattle.end_model.specs.declared.moves.Move.TheVariants as move
use Rattle.end_model.specs.declared.tunnel.Call.{Call}
use Rattle.end_model.specs.Calls.{row_for, advanced, with_numbers}
use Rattle.end_model.specs.Channels.{counts_taken}
use Rattle.end_model.specs.Links.{with_link}
use Rattle.end_model.specs.Tunnels.{Tunnel}
use Rattle.end_model.specs.End.{End}
use Rattle.world_model.specs.World.{World, Node, Sender, Deed, epoch_of, moved}
use Rattle.step_laws.specs.Letters.{Letter}
use Rattle.book_laws.specs.Books.{Mirrors}
use Rattle.connection_laws.specs.Facts.{IsStopCcn}
use Rattle.epoch_machine.specs.Letters as machine_letters
use Rattle.epoch_machine.specs.Tunnels.{Tunnels, Open}
use Rattle.epoch_machine.specs.Calls as calls
use Rattle.epoch_machine.specs.Calls.{Calls, WaitsConnect, Up, is_second_up}
use Rattle.epoch_machine.specs.Worlds as machine
use Rattle.epoch_machine.specs.Worlds.{all_rules, took_one, takes, takes_open, takes_connect}
use Rattle.epoch_machine.specs.Moves.{Delivers, delivers, step}
use Rattle.session_laws.specs.Names.{name, name_of, state_of}
use Rattle.session_laws.proofs.CallRows.{GoesOn, second_row, advanced_state, advanced_remote}
use Rattle.recovery_laws.proofs.Pairs.{state_up}
use Rattle.channel_laws.specs.Accounts.{Account, History, after}
use Rattle.channel_laws.specs.Steps.{with_end, moves_on}
use Rattle.recovery_laws.specs.Asking as asking
use Rattle.recovery_laws.specs.Growing.{ChannelsGrow}
use Rattle.recovery_laws.specs.Joined.{CallJoined, CallsJoined}
use Rattle.recovery_laws.specs.Queries.{said_in, letters_in, question_of, questions_in, weight}
use Rattle.recovery_laws.proofs.Asking.{may_take_it, heard_one}
use Rattle.join_laws.specs.Steps as steps
use Rattle.join_laws.specs.Steps.{with_book, Follows, Joins}
use Rattle.join_laws.proofs.Books.{booked}
use Rattle.join_laws.proofs.CallMoves.{with_calls, with_calls_tunnels, delivers_node}
use Rattle.join_laws.proofs.Channel.{gives_is, sent_none}
use Rattle.join_laws.proofs.Finish.{went_one}
use Rattle.join_laws.proofs.Hearing.{heard_said}
use Rattle.join_laws.proofs.Made as made
use Rattle.join_laws.proofs.Taking as taking
use Rattle.join_laws.proofs.Taking.{Takes, TakesIn, TookLetter}
use Rattle.join_laws.proofs.Talking.{talks_follow}
use Rattle.join_laws.proofs.Turning as turning
use Rattle.join_laws.proofs.Turning.{fits_role, Turns, second_turns, Turned}

-- ---- in the machine

takes_second : (w : machine.World) (x s z : ℕ) → w.tunnels.phase x ≡ Open → w.calls.tunnel z ≡ x → w.calls.state z ≡ WaitsConnect
    → takes all_rules (took_one w x) x s (machine_letters.Connect z) 0 ≡ with_calls w x (is_second_up w.calls z)
unfolding takes took_one takes_open takes_connect
takes_second w x s z phase tunnel state = rw (phase, tunnel, state, eq-eqb x x refl) refl

second_step : (w : machine.World) (x s e k z : ℕ) → asking.TakesFrom w x s e k
    → slice_get (w.channels.sent s e) k ≡ Some (machine_letters.Connect z) → w.calls.tunnel z ≡ x → w.calls.state z ≡ WaitsConnect
    → step all_rules w (Delivers x s e k 0) ≡ with_calls w x (is_second_up w.calls z)
unfolding step delivers
second_step w x s e k z t stands tunnel state =
    ap (λ o. delivers all_rules w x s e k 0 o) stands
    ∙ (ap (λ b. if b then takes all_rules (took_one w x) x s (machine_letters.Connect z) 0 else w) (may_take_it w x s e k
    (machine_letters.Connect z) t)
    ∙ takes_second w x s z t.open_is tunnel state)

-- ---- the move

module _ (grow : ChannelsGrow) (w : World) (h : History) (n : ℕ) (node : Node) (sender : Option Sender) (moment : ℕ) (ev : Event)
    (m : SecondUp) (x : End) (d : Deed) (k : Kept) (j : machine.World)
    (q : steps.IsMade w h n node sender moment ev (move.SecondUp m) x d k j) (b : Kept) (new : Mirrors x b) where
  abbrev mv : Move
  mv = move.SecondUp m

  abbrev i : ℕ
  i = m.tunnel

  abbrev s : ℕ
  s = m.session

  abbrev e : ℕ
  e = epoch_of w n m.tunnel

  abbrev t : Tunnel
  t = q.moved.does.tunnel

  abbrev was : Call
  was = q.moved.does.call

  abbrev call : Call
  call = with_link (new_link (record { moment = moment; block = q.moved.does.block }))
      (with_numbers m.sequenced (advanced node.end.role call_event.IccnAcc moment was))

  abbrev r : Tunnel
  r = record t { control = counts_taken t.control; calls = put t.calls m.session call }

  at_t : at node.end.tunnels m.tunnel ≡ Some t
  at_t = q.moved.does.there

  same : moves_on w n node mv x ≡ with_end w n node x
  unfolding moved
  same = refl

  takes_it : Takes w h n node mv x d t m.taken.number []
  takes_it = record {
    epoch = made.epoch_is w h n node sender moment ev mv x d k j q same;
    plain = record { declines = λ p f. refl; attempts = λ p a o. refl; answers = λ p c o. refl };
    at_t = at_t;
    current = q.moved.does.current;
    three = q.moved.does.open_is;
    enters = λ a.
        ap (λ ls. record a { given = ls; taken = a.taken ++ (record { sender = d.sender; number = m.taken.number; move = d.move }) ∷ [] })
        (sym (append-nil a.given));
  }

  took : TookLetter w h n node sender moment ev mv x d k j q t m.taken.number [] takes_it
  took = taking.took_letter w h n node sender moment ev mv x d k j q t m.taken.number [] takes_it

  no_stop : IsStopCcn took.letter.message → ⊥
  no_stop stops = subst IsStopCcn took.tells.1.2 stops

  abbrev X : ℕ
  X = name n m.tunnel

  abbrev Z : ℕ
  Z = name n m.session

  abbrev S : ℕ
  S = name took.from.node took.from.tunnel

  abbrev c : Calls
  c = is_second_up j.calls Z

  abbrev z : machine.World
  z = with_calls j X c

  abbrev place : ℕ
  place = taking.place w h n node sender moment ev mv x d k j q t m.taken.number [] takes_it took no_stop

  from : asking.TakesFrom j X S e place
  from = taking.takes_from w h n node sender moment ev mv x d k j q t m.taken.number [] takes_it took no_stop

  before : CallsJoined j h n (booked node k)
  before = made.calls_before w h n node sender moment ev mv x d k j q

  was_joined : CallJoined j n m.tunnel (h.accounts n m.tunnel 0).peer m.session was
  was_joined = before.live m.tunnel t at_t m.session was q.moved.does.made

  stands : slice_get (j.channels.sent S e) place ≡ Some (machine_letters.Connect Z)
  stands = taking.takes_stands w h n node sender moment ev mv x d k j q t m.taken.number [] takes_it took no_stop
      (machine_letters.Connect Z)
      (λ asked. ap₂ (λ s y. said_in took.from.node n asked s y) took.tells.0 took.tells.1.2)

  row : GoesOn node.end.role was.state (row_for node.end.role was call_event.IccnAcc).0 WaitsConnect Up
  row = second_row node.end.role was.state (fits_role node.end.role was.state (q.sound i t at_t s was q.moved.does.made).1) q.moved.does.row

  now : state_of call.state ≡ Up
  now = ap state_of (advanced_state node.end.role call_event.IccnAcc moment was) ∙ row.is

  peers : (p f : ℕ) → ((after h d).accounts p f 0).peer ≡ (h.accounts p f 0).peer
  peers = taking.took_peers w h n node sender moment ev mv x d k j q t m.taken.number [] takes_it

  tunnels : x.tunnels ≡ put node.end.tunnels m.tunnel r
  tunnels = ap (λ (y : End). y.tunnels) q.moved.does.after

  at_r : at x.tunnels m.tunnel ≡ Some r
  at_r = ap (λ ts. at ts m.tunnel) tunnels ∙ at_new node.end.tunnels m.tunnel r

  others : (f : ℕ) → (f ≡ m.tunnel → ⊥) → at x.tunnels f ≡ at node.end.tunnels f
  others f other = ap (λ ts. at ts f) tunnels ∙ at_other node.end.tunnels m.tunnel r f other

  turned : Turned w h n node x d k b j z i s t
  turned = record {
    new = new;
    at_t = at_t;
    was = was;
    live = q.moved.does.made;
    tunnel = r;
    at_r = at_r;
    others = others;
    ids = ap (λ (y : End). y.session_ids) q.moved.does.after;
    sessions = λ y other. at_other t.calls s call y other;
    then_is = Some call;
    this = at_new t.calls s call;
    peers = peers;
    machine_tunnels = with_calls_tunnels j X c;
    state = Up;
    remote = j.calls.remote Z;
    in_book = true;
    turns = second_turns j.calls Z;
    turned = (
      sym now,
      was_joined.remote ∙ ap (name_of (h.accounts n i 0).peer) (sym (advanced_remote node.end.role call_event.IccnAcc moment was)),
      sym (state_up call.state now),
    );
  }

  in_tunnel : TakesIn h (after h d) n node mv x b j z m.tunnel e r [] [] 1 t
  in_tunnel = record {
    new = new;
    at_r = at_r;
    state = refl;
    recovery = refl;
    others = others;
    sent = λ tk is.
        sent_none n (h.accounts n m.tunnel e).peer (h.accounts n m.tunnel e).taken (h.accounts n m.tunnel e).given tk (ap question_of is);
    goes = heard_one j X S e place c from;
    calls = turning.turned_calls w h n node sender moment ev mv x d k j q b z i s t turned;
    calls_stay = turning.turned_stay w h n node sender moment ev mv x d k j q b z i s t turned;
    births = turning.turned_births w h n node sender moment ev mv x d k j q b z i s t turned;
  }

  pub second_up_follows : Follows ev (with_book (moves_on w n node mv x) n b) (after h d) n j
  second_up_follows =
      talks_follow grow w h n node sender moment ev mv x d k b j z q t r [] [] 1
      (taking.takes_talks w h n node sender moment ev mv x d k j q t m.taken.number [] takes_it took no_stop grow b z r
      [] 1 in_tunnel (ap weight took.tells.1.2))
      peers (record {
        same = same;
        query = refl;
        asks = turning.turned_asks w h n node sender moment ev mv x d k j q b z i s t turned;
        held = turning.turned_held w h n node sender moment ev mv x d k j q b z i s t turned;
        named = turning.turned_named w h n node sender moment ev mv x d k j q b z i s t turned;
        went = went_one ev n j z (Delivers X S e place 0)
            (delivers_node j X S e place 0
            ∙ (made.told w h n node sender moment ev mv x d k j q m.tunnel t at_t).node (made.live_ok w h n node sender moment ev mv x
            d k j q m.tunnel t at_t).made)
            refl (heard_said ev j X S e place 0 (machine_letters.Connect Z) stands q.moved.does.letter
            q.moved.does.takes.next.comes.came (Iccn q.moved.does.speed q.moved.does.framing m.sequenced) q.moved.does.says.said refl)
            (second_step j X S e place Z from stands was_joined.tunnel (was_joined.state ∙ row.was));
      })

pub second_up_joins : ChannelsGrow → (m : SecondUp) → Joins (move.SecondUp m)
second_up_joins grow m w h n node sender moment ev x d k j q b new = second_up_follows grow w h n node sender moment ev m x d k j q b new
