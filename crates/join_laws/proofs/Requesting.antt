-- A call is asked for, and so is the machine's.
use Rattle.std.proofs.Common.{◌≡◌, ◌⊎◌, ⊎_elim, ℕ, Bool, true, false, List, [], ◌∷◌, refl, sym, ap, ◌∙◌, subst, Option, Some, None, arith}
use Rattle.std.specs.Prelude.{is_some}
use Rattle.id_table.specs.Ids.{at, put}
use Rattle.id_table.specs.Order.{at_new, at_other}
use Rattle.call_fsm.specs.declared.table.CallEvent.TheVariants as call_event
use Rattle.session_book.specs.Books.{Kept, call_at}
use Rattle.end_model.specs.declared.event.Event.{Event}
use Rattle.end_model.specs.declared.moves.Requested.{Requested}
use Rattle.end_model.specs.declared.moves.Move.{Move}
use Rattle.end_model.specs.declared.moves.Move.TheVariants as move
use Rattle.end_model.specs.declared.tunnel.Call.{Call}
use Rattle.end_model.specs.Calls.{row_for, advanced, is_up}
use Rattle.end_model.specs.Messages.{request_of}
use Rattle.end_model.specs.Tunnels.{Tunnel}
use Rattle.end_model.specs.End.{End}
use Rattle.world_model.specs.World.{World, Node, Sender, Deed, epoch_of, moved}
use Rattle.step_laws.specs.Letters.{Letter}
use Rattle.step_laws.specs.Moves.{with_letter_as}
use Rattle.book_laws.specs.Books.{Mirrors}
use Rattle.epoch_machine.specs.Letters as machine_letters
use Rattle.epoch_machine.specs.Tunnels.{Open}
use Rattle.epoch_machine.specs.Calls as calls
use Rattle.epoch_machine.specs.Calls.{Calls, Waits, WaitsReply, is_asked_for}
use Rattle.epoch_machine.specs.Worlds as machine
use Rattle.epoch_machine.specs.Worlds.{all_rules, gives}
use Rattle.epoch_machine.specs.Moves.{Asks, step, may_ask, asks_for}
use Rattle.stop_laws.specs.Records.{node_of}
use Rattle.session_laws.specs.Names.{name, name_of, state_of}
use Rattle.session_laws.proofs.CallRows.{GoesOn, request_row, advanced_state, advanced_remote}
use Rattle.channel_laws.specs.Accounts.{Account, History, after}
use Rattle.channel_laws.specs.Steps.{moves_on}
use Rattle.recovery_laws.specs.Asking as asking
use Rattle.recovery_laws.specs.Growing.{ChannelsGrow}
use Rattle.recovery_laws.specs.Joined.{CallJoined, CallsJoined}
use Rattle.recovery_laws.proofs.Asking.{gave_one, gave_calls, none, more}
use Rattle.join_laws.specs.Steps as steps
use Rattle.join_laws.specs.Steps.{with_book, Follows, Joins}
use Rattle.join_laws.proofs.Books.{booked}
use Rattle.join_laws.proofs.Finish.{went_one}
use Rattle.join_laws.proofs.Giving.{Gives, GivesIn, gave_peers, gives_talks}
use Rattle.join_laws.proofs.Made as made
use Rattle.join_laws.proofs.OneCall.{alone_in}
use Rattle.join_laws.proofs.Talking.{talks_follow}
use Rattle.join_laws.proofs.Turning as turning
use Rattle.join_laws.proofs.Turning.{not_up, in_its_book, Turns, asked_turns, Turned}

-- ---- in the machine

-- the world with these calls, in which a letter is given
abbrev pub calls_give : machine.World → ℕ → Calls → machine_letters.Letter → machine.World
calls_give w x c l = gives (record w { calls = c }) x l

pub calls_give_calls : (w : machine.World) (x : ℕ) (c : Calls) (l : machine_letters.Letter) → (calls_give w x c l).calls ≡ c
calls_give_calls w x c l = (gave_calls (record w { calls = c }) x l).0

pub calls_give_tunnels : (w : machine.World) (x : ℕ) (c : Calls) (l : machine_letters.Letter) → (calls_give w x c l).tunnels ≡ w.tunnels
calls_give_tunnels w x c l = (gave_calls (record w { calls = c }) x l).1

pub calls_give_goes : (w : machine.World) (x : ℕ) (c : Calls) (l : machine_letters.Letter)
    → asking.GoesOn w (calls_give w x c l) x (w.tunnels.entered x) (l ∷ []) 0
calls_give_goes w x c l =
    more w (record w { calls = c }) (calls_give w x c l) x (w.tunnels.entered x) [] (l ∷ []) 0 0
    (none w (record w { calls = c }) x (w.tunnels.entered x) refl refl) (gave_one (record w { calls = c }) x l)

asks_is : (w : machine.World) (x z : ℕ) → w.calls.tunnel z ≡ x → w.tunnels.phase x ≡ Open → w.calls.state z ≡ Waits
    → step all_rules w (Asks z) ≡ calls_give w x (is_asked_for w.calls z (w.tunnels.entered x)) (machine_letters.Request z)
unfolding step may_ask asks_for
asks_is w x z tunnel open_is waits = rw (tunnel, open_is, waits) refl

asks_node : (w : machine.World) (z : ℕ) → node_of w (Asks z) ≡ w.tunnels.node (w.calls.tunnel z)
unfolding node_of
asks_node w z = refl

-- ---- a call is asked for

module _ (grow : ChannelsGrow) (w : World) (h : History) (n : ℕ) (node : Node) (sender : Option Sender) (moment : ℕ) (ev : Event)
    (m : Requested) (x : End) (d : Deed) (k : Kept) (j : machine.World)
    (q : steps.IsMade w h n node sender moment ev (move.Requested m) x d k j) (b : Kept) (new : Mirrors x b) where
  abbrev mv : Move
  mv = move.Requested m

  abbrev i : ℕ
  i = m.tunnel

  abbrev s : ℕ
  s = m.session

  abbrev t : Tunnel
  t = q.moved.does.tunnel

  abbrev was : Call
  was = q.moved.does.call

  abbrev call : Call
  call = advanced node.end.role call_event.TunnelOpen moment was

  abbrev r : Tunnel
  r = with_letter_as 0 (request_of m.session m.subscriber) m.hidden (record t { calls = put t.calls m.session call })

  abbrev l : Letter
  l = record { tunnel = m.tunnel; place = m.given; session = 0; message = request_of m.session m.subscriber; hidden = m.hidden }

  abbrev X : ℕ
  X = name n i

  abbrev Z : ℕ
  Z = name n s

  abbrev c : Calls
  c = is_asked_for j.calls Z (j.tunnels.entered X)

  abbrev z : machine.World
  z = calls_give j X c (machine_letters.Request Z)

  at_t : at node.end.tunnels i ≡ Some t
  at_t = q.moved.does.there

  gives_it : Gives w h n node mv x d l
  unfolding moved
  gives_it = record {
    same = refl;
    plain = record { declines = λ p f. refl; attempts = λ p a o. refl; answers = λ p a o. refl };
    enters = λ a. refl;
    one = refl;
    none = refl;
  }

  tunnels : x.tunnels ≡ put node.end.tunnels i r
  tunnels = ap (λ (y : End). y.tunnels) q.moved.does.after

  at_r : at x.tunnels i ≡ Some r
  at_r = ap (λ ts. at ts i) tunnels ∙ at_new node.end.tunnels i r

  others : (f : ℕ) → (f ≡ i → ⊥) → at x.tunnels f ≡ at node.end.tunnels f
  others f other = ap (λ ts. at ts f) tunnels ∙ at_other node.end.tunnels i r f other

  peers : (p f : ℕ) → ((after h d).accounts p f 0).peer ≡ (h.accounts p f 0).peer
  peers = gave_peers w h n node sender moment ev mv x d k j q l gives_it

  row : GoesOn node.end.role was.state (row_for node.end.role was call_event.TunnelOpen).0 Waits WaitsReply
  row = request_row node.end.role was.state q.moved.does.row

  now : state_of call.state ≡ WaitsReply
  now = ap state_of (advanced_state node.end.role call_event.TunnelOpen moment was) ∙ row.is

  machine_calls : z.calls ≡ c
  machine_calls = calls_give_calls j X c (machine_letters.Request Z)

  was_in_book : is_some (call_at k s) ≡ is_up was.state
  was_in_book = in_its_book node.end k q.mirrors i s t was at_t q.moved.does.waits
      (λ f u other there. alone_in node.end q.moved.fit.tables i s t was at_t q.moved.does.waits f u other there)

  before : CallsJoined j h n (booked node k)
  before = made.calls_before w h n node sender moment ev mv x d k j q

  was_joined : CallJoined j n i (h.accounts n i 0).peer s was
  was_joined = before.live i t at_t s was q.moved.does.waits

  turned : Turned w h n node x d k b j z i s t
  turned = record {
    new = new;
    at_t = at_t;
    was = was;
    live = q.moved.does.waits;
    tunnel = r;
    at_r = at_r;
    others = others;
    ids = ap (λ (y : End). y.session_ids) q.moved.does.after;
    sessions = λ y other. at_other t.calls s call y other;
    then_is = Some call;
    this = at_new t.calls s call;
    peers = peers;
    machine_tunnels = calls_give_tunnels j X c (machine_letters.Request Z);
    state = WaitsReply;
    remote = j.calls.remote Z;
    in_book = j.calls.booked Z;
    turns = subst (λ y. Turns j.calls y Z WaitsReply (j.calls.remote Z) (j.calls.booked Z)) (sym machine_calls)
        (asked_turns j.calls Z (j.tunnels.entered X));
    turned = (
      sym now,
      was_joined.remote ∙ ap (name_of (h.accounts n i 0).peer) (sym (advanced_remote node.end.role call_event.TunnelOpen moment was)),
      before.booked s q.moved.does.session
          ∙ (was_in_book
          ∙ (not_up Waits was row.was refl
          ∙ sym (not_up WaitsReply call now refl))),
    );
  }

  in_tunnel : GivesIn h (after h d) n node x b j z i (epoch_of w n i) t r l (machine_letters.Request Z ∷ [])
  in_tunnel = record {
    new = new;
    at_t = at_t;
    at_r = at_r;
    state = refl;
    recovery = refl;
    others = others;
    said = refl;
    goes = subst (λ e. asking.GoesOn j z X e (machine_letters.Request Z ∷ []) 0)
        (made.entered_is w h n node sender moment ev mv x d k j q i t at_t) (calls_give_goes j X c (machine_letters.Request Z));
    calls = turning.turned_calls w h n node sender moment ev mv x d k j q b z i s t turned;
    calls_stay = turning.turned_stay w h n node sender moment ev mv x d k j q b z i s t turned;
    births = turning.turned_births w h n node sender moment ev mv x d k j q b z i s t turned;
  }

  pub requested_follows : Follows ev (with_book (moves_on w n node mv x) n b) (after h d) n j
  requested_follows =
      talks_follow grow w h n node sender moment ev mv x d k b j z q t r (l ∷ []) (machine_letters.Request Z ∷ []) 0
      (gives_talks w h n node sender moment ev mv x d k j q l gives_it grow b z t r (machine_letters.Request Z ∷ []) in_tunnel)
      peers (record {
        same = gives_it.same;
        query = refl;
        asks = turning.turned_asks w h n node sender moment ev mv x d k j q b z i s t turned;
        held = turning.turned_held w h n node sender moment ev mv x d k j q b z i s t turned;
        named = turning.turned_named w h n node sender moment ev mv x d k j q b z i s t turned;
        went = went_one ev n j z (Asks Z)
            (asks_node j Z ∙ (ap (λ y. j.tunnels.node y) was_joined.tunnel
            ∙ (made.told w h n node sender moment ev mv x d k j q i t at_t).node
            (made.live_ok w h n node sender moment ev mv x d k j q i t at_t).made))
            refl tt
            (asks_is j X Z was_joined.tunnel
            (made.open_is w h n node sender moment ev mv x d k j q i t at_t q.moved.does.current q.moved.does.open_is)
            (was_joined.state ∙ row.was));
      })

pub requested_joins : ChannelsGrow → (m : Requested) → Joins (move.Requested m)
requested_joins grow m w h n node sender moment ev x d k j q b new = requested_follows grow w h n node sender moment ev m x d k j q b new
