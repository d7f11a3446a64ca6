-- A call ends, of which the other end is told, and so it does in the machine.
use Rattle.std.proofs.Common.{◌≡◌, ◌⊎◌, ⊎_elim, ℕ, Bool, true, false, List, [], ◌∷◌, refl, sym, ap, ◌∙◌, subst, Option, Some, None, arith}
use Rattle.std.proofs.lemmas.Option.{none-some}
use Rattle.id_table.specs.Ids.{at, put, without, at-none}
use Rattle.id_table.specs.Order.{Ascends, at_new, at_other, at_without_other, at_without_same}
use Rattle.tunnel_fsm.specs.Rows.{state_number}
use Rattle.control_message.specs.declared.message.Message.TheVariants as message
use Rattle.session_book.specs.Books.{Kept}
use Rattle.end_model.specs.declared.event.Event.{Event}
use Rattle.end_model.specs.declared.moves.EndTold.{EndTold}
use Rattle.end_model.specs.declared.moves.Move.{Move}
use Rattle.end_model.specs.declared.moves.Move.TheVariants as move
use Rattle.end_model.specs.declared.tunnel.Call.{Call}
use Rattle.end_model.specs.Tunnels.{Tunnel}
use Rattle.end_model.specs.End.{End}
use Rattle.world_model.specs.World.{World, Node, Sender, Deed, epoch_of, moved}
use Rattle.step_laws.specs.Letters.{Letter}
use Rattle.step_laws.specs.Moves.{with_letter}
use Rattle.book_laws.specs.Books.{Mirrors}
use Rattle.connection_laws.specs.Facts.{AllWait}
use Rattle.connection_laws.proofs.Hearing.{same_address}
use Rattle.epoch_machine.specs.Letters as machine_letters
use Rattle.epoch_machine.specs.Calls as calls
use Rattle.epoch_machine.specs.Calls.{Calls, NoCall, is_call, ends, lives, waits}
use Rattle.epoch_machine.specs.Tunnels.{Open}
use Rattle.epoch_machine.specs.Worlds as machine
use Rattle.epoch_machine.specs.Worlds.{all_rules}
use Rattle.epoch_machine.specs.Moves as moves
use Rattle.epoch_machine.specs.Moves.{step, may_end_told, ends_told, ends_call}
use Rattle.stop_laws.specs.Records.{node_of}
use Rattle.session_laws.specs.Names.{name, name_of}
use Rattle.session_laws.proofs.CallRows.{IsTold, told_row}
use Rattle.session_laws.proofs.Names.{known_name}
use Rattle.channel_laws.specs.Accounts.{Part, Unmade, Opener, Acceptor, Renewed, Account, History, after}
use Rattle.channel_laws.specs.Facts.{Accounts, IsOpen, IsShut, IsInState, partner_in, ChannelOk}
use Rattle.channel_laws.specs.Steps.{moves_on}
use Rattle.recovery_laws.specs.Asking as asking
use Rattle.recovery_laws.specs.Growing.{ChannelsGrow}
use Rattle.recovery_laws.specs.Joined.{CallJoined, CallsJoined}
use Rattle.join_laws.specs.Steps as steps
use Rattle.join_laws.specs.Steps.{with_book, Follows, Joins}
use Rattle.join_laws.proofs.Books.{booked}
use Rattle.join_laws.proofs.Finish.{went_one}
use Rattle.join_laws.proofs.Giving.{Gives, GivesIn, gave_peers, gives_talks}
use Rattle.join_laws.proofs.Made as made
use Rattle.join_laws.proofs.Requesting.{calls_give, calls_give_calls, calls_give_tunnels, calls_give_goes}
use Rattle.join_laws.proofs.Talking.{talks_follow}
use Rattle.join_laws.proofs.Turning as turning
use Rattle.join_laws.proofs.Turning.{fits_role, Turns, ended_turns, Turned}

-- ---- in the machine

told_is : (w : machine.World) (x z r : ℕ) → w.calls.tunnel z ≡ x → w.calls.remote z ≡ r → w.tunnels.phase x ≡ Open
    → lives (w.calls.state z) ≡ true → waits (w.calls.state z) ≡ false
    → step all_rules w (moves.EndsTold z) ≡ calls_give w x (ends w.calls (is_call z)) (machine_letters.Cdn z r)
unfolding step may_end_told ends_told ends_call
told_is w x z r tunnel remote open_is alive asked = rw (tunnel, remote, open_is, alive, asked) refl

told_node : (w : machine.World) (z : ℕ) → node_of w (moves.EndsTold z) ≡ w.tunnels.node (w.calls.tunnel z)
unfolding node_of
told_node w z = refl

-- ---- the tunnel is open

none_there : (cs : List (ℕ × Call)) (s : ℕ) (c : Call) → cs ≡ [] → at cs s ≡ Some c → ⊥
none_there cs s c empty there = none-some c (sym (at-none s) ∙ sym (ap (λ ks. at ks s) empty) ∙ there)

-- a tunnel that has a call which doesn't wait for it is open
pub open_by_call : (accs : Accounts) (i e : ℕ) (a : Account) (t : Tunnel) (s : ℕ) (c : Call) → at t.calls s ≡ Some c
    → (AllWait t.calls → ⊥) → (p : Part) → IsInState accs i e a t p → state_number t.control.state ≡ 3
open_by_call accs i e a t s c there other Unmade h = absurd h
open_by_call accs i e a t s c there other Opener h = ⊎_elim
    (λ (q : (state_number t.control.state ≡ 1) × (a.remote ≡ 0) × IsOpen a × AllWait t.calls). absurd (other q.3))
    (λ k. ⊎_elim
    (λ (q : (state_number t.control.state ≡ 3) × (a.remote ≡ 0 → ⊥) × IsOpen a). q.0)
    (λ (q : IsShut a t). absurd (none_there t.calls s c q.2 there)) k)
    h
open_by_call accs i e a t s c there other Acceptor h = ⊎_elim
    (λ (q : (state_number t.control.state ≡ 2) × (t.calls ≡ []) × IsOpen a). absurd (none_there t.calls s c q.1 there))
    (λ k. ⊎_elim
    (λ (q : (state_number t.control.state ≡ 3) × ((partner_in accs 0 a).remote ≡ i) × IsOpen a). q.0)
    (λ (q : IsShut a t). absurd (none_there t.calls s c q.2 there)) k)
    h
open_by_call accs i e a t s c there other Renewed h = ⊎_elim
    (λ (q : (state_number t.control.state ≡ 3) × IsOpen a). q.0)
    (λ (q : IsShut a t). absurd (none_there t.calls s c q.2 there))
    h

module _ (grow : ChannelsGrow) (w : World) (h : History) (n : ℕ) (node : Node) (sender : Option Sender) (moment : ℕ) (ev : Event)
    (m : EndTold) (x : End) (d : Deed) (k : Kept) (j : machine.World)
    (q : steps.IsMade w h n node sender moment ev (move.EndTold m) x d k j) (b : Kept) (new : Mirrors x b) where
  abbrev mv : Move
  mv = move.EndTold m

  abbrev i : ℕ
  i = m.tunnel

  abbrev s : ℕ
  s = m.session

  abbrev t : Tunnel
  t = q.moved.does.tunnel

  abbrev was : Call
  was = q.moved.does.call

  abbrev with_cdn : Tunnel
  with_cdn = with_letter m.remote (message.Cdn m.session m.result m.error) t

  abbrev r : Tunnel
  r = record with_cdn { calls = without t.calls s }

  abbrev l : Letter
  l = record { tunnel = m.tunnel; place = m.given; session = m.remote; message = message.Cdn m.session m.result m.error; hidden = None }

  abbrev X : ℕ
  X = name n i

  abbrev Z : ℕ
  Z = name n s

  abbrev R : ℕ
  R = name_of (h.accounts n i 0).peer m.remote

  abbrev c : Calls
  c = ends j.calls (is_call Z)

  abbrev z : machine.World
  z = calls_give j X c (machine_letters.Cdn Z R)

  at_t : at node.end.tunnels i ≡ Some t
  at_t = q.moved.does.there

  gives_it : Gives w h n node mv x d l
  unfolding moved
  gives_it = record {
    same = refl;
    plain = record { declines = λ p f. refl; attempts = λ p a o. refl; answers = λ p a o. refl };
    enters = λ a. refl;
    one = refl;
    none = refl;
  }

  tunnels : x.tunnels ≡ put node.end.tunnels i r
  tunnels = ap (λ (y : End). y.tunnels) q.moved.does.after

  at_r : at x.tunnels i ≡ Some r
  at_r = ap (λ ts. at ts i) tunnels ∙ at_new node.end.tunnels i r

  others : (f : ℕ) → (f ≡ i → ⊥) → at x.tunnels f ≡ at node.end.tunnels f
  others f other = ap (λ ts. at ts f) tunnels ∙ at_other node.end.tunnels i r f other

  peers : (p f : ℕ) → ((after h d).accounts p f 0).peer ≡ (h.accounts p f 0).peer
  peers = gave_peers w h n node sender moment ev mv x d k j q l gives_it

  order : Ascends t.calls
  order = (q.moved.fit.tables.tunnels i t at_t).order

  machine_calls : z.calls ≡ c
  machine_calls = calls_give_calls j X c (machine_letters.Cdn Z R)

  before : CallsJoined j h n (booked node k)
  before = made.calls_before w h n node sender moment ev mv x d k j q

  was_joined : CallJoined j n i (h.accounts n i 0).peer s was
  was_joined = before.live i t at_t s was q.moved.does.live

  told : IsTold was.state
  told = told_row node.end.role was.state q.moved.does.on
      (fits_role node.end.role was.state (q.sound i t at_t s was q.moved.does.live).1) q.moved.does.row

  channel : ChannelOk h.accounts n i (epoch_of w n i) (h.accounts n i (epoch_of w n i)) t
  channel = made.channel_ok w h n node sender moment ev mv x d k j q i t at_t q.moved.does.current

  three : state_number t.control.state ≡ 3
  three = open_by_call h.accounts i (epoch_of w n i) (h.accounts n i (epoch_of w n i)) t s was q.moved.does.live
      (λ all. told.other (all s was q.moved.does.live)) (h.accounts n i (epoch_of w n i)).part channel.state

  turned : Turned w h n node x d k b j z i s t
  turned = record {
    new = new;
    at_t = at_t;
    was = was;
    live = q.moved.does.live;
    tunnel = r;
    at_r = at_r;
    others = others;
    ids = ap (λ (y : End). y.session_ids) q.moved.does.after;
    sessions = λ y other. at_without_other t.calls s y other;
    then_is = None;
    this = at_without_same t.calls s order;
    peers = peers;
    machine_tunnels = calls_give_tunnels j X c (machine_letters.Cdn Z R);
    state = NoCall;
    remote = j.calls.remote Z;
    in_book = false;
    turns = subst (λ y. Turns j.calls y Z NoCall (j.calls.remote Z) false) (sym machine_calls) (ended_turns j.calls Z);
    turned = (refl, refl);
  }

  peer_is : (h.accounts n i (epoch_of w n i)).peer ≡ (h.accounts n i 0).peer
  peer_is = sym (same_address (h.accounts n i 0).peer (h.accounts n i (epoch_of w n i)).peer
      (sym (made.live_ok w h n node sender moment ev mv x d k j q i t at_t).peer ∙ channel.peer))

  in_tunnel : GivesIn h (after h d) n node x b j z i (epoch_of w n i) t r l (machine_letters.Cdn Z R ∷ [])
  in_tunnel = record {
    new = new;
    at_t = at_t;
    at_r = at_r;
    state = refl;
    recovery = refl;
    others = others;
    said = ap (λ y. machine_letters.Cdn y (name_of (h.accounts n i (epoch_of w n i)).peer m.remote) ∷ []) (known_name n s was_joined.some)
        ∙ ap (λ y. machine_letters.Cdn Z (name_of y m.remote) ∷ []) peer_is;
    goes = subst (λ e. asking.GoesOn j z X e (machine_letters.Cdn Z R ∷ []) 0)
        (made.entered_is w h n node sender moment ev mv x d k j q i t at_t) (calls_give_goes j X c (machine_letters.Cdn Z R));
    calls = turning.turned_calls w h n node sender moment ev mv x d k j q b z i s t turned;
    calls_stay = turning.turned_stay w h n node sender moment ev mv x d k j q b z i s t turned;
    births = turning.turned_births w h n node sender moment ev mv x d k j q b z i s t turned;
  }

  pub told_follows : Follows ev (with_book (moves_on w n node mv x) n b) (after h d) n j
  told_follows =
      talks_follow grow w h n node sender moment ev mv x d k b j z q t r (l ∷ []) (machine_letters.Cdn Z R ∷ []) 0
      (gives_talks w h n node sender moment ev mv x d k j q l gives_it grow b z t r (machine_letters.Cdn Z R ∷ []) in_tunnel)
      peers (record {
        same = gives_it.same;
        query = refl;
        asks = turning.turned_asks w h n node sender moment ev mv x d k j q b z i s t turned;
        held = turning.turned_held w h n node sender moment ev mv x d k j q b z i s t turned;
        named = turning.turned_named w h n node sender moment ev mv x d k j q b z i s t turned;
        went = went_one ev n j z (moves.EndsTold Z)
            (told_node j Z ∙ (ap (λ y. j.tunnels.node y) was_joined.tunnel
            ∙ (made.told w h n node sender moment ev mv x d k j q i t at_t).node
            (made.live_ok w h n node sender moment ev mv x d k j q i t at_t).made))
            refl tt
            (told_is j X Z R was_joined.tunnel
            (was_joined.remote ∙ sym (ap (λ y. name_of (h.accounts n i 0).peer y) q.moved.does.remote))
            (made.open_is w h n node sender moment ev mv x d k j q i t at_t q.moved.does.current three)
            (ap lives was_joined.state ∙ told.lives) (ap waits was_joined.state ∙ told.asked));
      })

pub end_told_joins : ChannelsGrow → (m : EndTold) → Joins (move.EndTold m)
end_told_joins grow m w h n node sender moment ev x d k j q b new = told_follows grow w h n node sender moment ev m x d k j q b new
