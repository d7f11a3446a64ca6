-- A call is established at the end that replied; so it is in the machine.
use Rattle.std.proofs.Common.{◌≡◌, inr, ℕ, [], length, refl, sym, ap, ◌∙◌, subst, Option, Some, arith, ne_eqb, eq-eqb}
use Rattle.id_table.specs.Ids.{put}
use Rattle.id_table.specs.Order.{at_new, at_other}
use Rattle.control_message.specs.declared.message.Message.TheVariants.{Iccn}
use Rattle.call_fsm.specs.declared.table.CallEvent.TheVariants as call_event
use Rattle.end_model.specs.declared.event.Event.{Event}
use Rattle.end_model.specs.declared.moves.SecondUp.{SecondUp}
use Rattle.end_model.specs.declared.moves.Move.TheVariants as move
use Rattle.end_model.specs.declared.tunnel.Call.{Call}
use Rattle.end_model.specs.Calls.{row_for, advanced, with_numbers}
use Rattle.end_model.specs.Tunnels.{Tunnel}
use Rattle.end_model.specs.Channels.{counts_taken}
use Rattle.end_model.specs.Links.{with_link}
use Rattle.end_model.specs.End.{End}
use Rattle.world_model.specs.World.{Sender, Deed}
use Rattle.call_link.specs.Link.{new_link}
use Rattle.epoch_machine.specs.Letters.{Connect}
use Rattle.epoch_machine.specs.Tunnels.{Open}
use Rattle.epoch_machine.specs.Calls.{WaitsConnect, Up, is_second_up}
use Rattle.epoch_machine.specs.Worlds.{World, all_rules, took_one, takes, takes_open, takes_connect}
use Rattle.epoch_machine.specs.Moves.{Delivers}
use Rattle.connection_laws.specs.Facts.{Accounts}
use Rattle.connection_laws.specs.Steps.{after}
use Rattle.session_laws.specs.Names.{name, name_of, state_of}
use Rattle.session_laws.specs.Joined.{Ends, CallJoined, CallsJoined, TunnelJoined}
use Rattle.session_laws.proofs.Births.{BirthsSame, else_follow}
use Rattle.session_laws.proofs.Keeps.{with_end, Laws, IsMade, Follows}
use Rattle.session_laws.proofs.Names.{other_name}
use Rattle.session_laws.proofs.States.{not_closed}
use Rattle.session_laws.proofs.Ground.{joined_before}
use Rattle.session_laws.proofs.Heard.{Delivered, delivered, here_joined, open_phase}
use Rattle.session_laws.proofs.CallRows.{GoesOn, advanced_state, advanced_remote, fits_as, second_row}
use Rattle.session_laws.proofs.CallGround.{CallSame, OneCall, one_call_follows}
use Rattle.session_laws.proofs.CallSpeaks.{calls_and_take, hears_one, speaks_goes, account_is}

-- ---- in the machine

abbrev second_up : World → ℕ → ℕ → World
second_up w x z = record (took_one w x) { calls = is_second_up w.calls z }

takes_second : (w : World) (x s z : ℕ) → w.tunnels.phase x ≡ Open → w.calls.tunnel z ≡ x → w.calls.state z ≡ WaitsConnect
    → takes all_rules (took_one w x) x s (Connect z) 0 ≡ second_up w x z
unfolding takes took_one takes_open takes_connect
takes_second w x s z phase tunnel state = rw (phase, tunnel, state, eq-eqb x x refl) refl

second_asks : (w : World) (z y k : ℕ) → (is_second_up w.calls z).asks y k ≡ w.calls.asks y k
unfolding is_second_up
second_asks w z y k = refl

second_same : (w : World) (x z k : ℕ) → (k ≡ z → ⊥) → CallSame w (second_up w x z) k
unfolding is_second_up
second_same w x z k other = record { drawn = refl; tunnel = refl; remote = refl; state = rw (ne_eqb k z other) refl }

second_births : (w : World) (x z : ℕ) → BirthsSame w (second_up w x z)
unfolding is_second_up
second_births w x z = record { count = refl; birth = λ k. refl; mate = λ k. refl; remote = λ k. refl }

record IsUp (w v : World) (z own : ℕ) : Type 0 where
  tunnel : v.calls.tunnel z ≡ w.calls.tunnel z
  state : v.calls.state z ≡ Up
  remote : v.calls.remote z ≡ own

second_here : (w : World) (x z : ℕ) → IsUp w (second_up w x z) z (w.calls.remote z)
unfolding is_second_up
second_here w x z = record { tunnel = refl; state = rw (eq-eqb z z refl) refl; remote = refl }

-- ---- at the end that replied

module _ (laws : Laws) (accs : Accounts) (ends : Ends) (w : World) (n : ℕ) (e x : End) (sender : Option Sender) (moment : ℕ) (ev : Event)
    (m : SecondUp) (d : Deed) (h : IsMade accs ends w n e x sender moment ev (move.SecondUp m) d) where
  abbrev i : ℕ
  i = m.tunnel

  abbrev s : ℕ
  s = m.session

  abbrev t : Tunnel
  t = h.moved.does.tunnel

  abbrev was : Call
  was = h.moved.does.call

  abbrev call : Call
  call = with_link (new_link (record { moment = moment; block = h.moved.does.block })) (with_numbers m.sequenced (advanced e.role call_event.IccnAcc moment was))

  abbrev u : Tunnel
  u = record t { control = counts_taken t.control; calls = put t.calls s call }

  del : Delivered accs w n i sender s (Iccn h.moved.does.speed h.moved.does.framing m.sequenced)
  del = delivered laws.heard accs ends w n e x sender moment ev (move.SecondUp m) d h i t h.moved.does.there
      (not_closed t.control.state 3 h.moved.does.open_is (omega arith)) s
      (Iccn h.moved.does.speed h.moved.does.framing m.sequenced) tt
      (record { letter = h.moved.does.letter; next = h.moved.does.takes.next; says = h.moved.does.says })

  old : TunnelJoined w n i (accs n i) (Some t)
  old = here_joined accs ends w n e x sender moment ev (move.SecondUp m) d h i t h.moved.does.there

  calls : CallsJoined w accs n e
  calls = joined_before accs ends w n e x sender moment ev (move.SecondUp m) d h

  before : CallJoined w n i (accs n i).peer s was
  before = calls.live i t h.moved.does.there s was h.moved.does.made

  row : GoesOn e.role was.state (row_for e.role was call_event.IccnAcc).0 WaitsConnect Up
  row = second_row e.role was.state (calls.roles i t h.moved.does.there s was h.moved.does.made) h.moved.does.row

  abbrev X : ℕ
  X = name n i

  abbrev Z : ℕ
  Z = name n s

  abbrev S : ℕ
  S = name del.from.node del.from.tunnel

  abbrev v : World
  v = second_up w X Z

  next : x.session_ids ≡ e.session_ids
  next = ap (λ (y : End). y.session_ids) h.moved.does.after

  role_is : x.role ≡ e.role
  role_is = ap (λ (y : End). y.role) h.moved.does.after

  call_joined : CallJoined v n i (accs n i).peer s call
  call_joined =
      let it = second_here w X Z in
      record {
        some = before.some;
        state = it.state ∙ sym row.is ∙ sym (ap state_of (advanced_state e.role call_event.IccnAcc moment was));
        tunnel = it.tunnel ∙ before.tunnel;
        remote = it.remote ∙ before.remote ∙ sym (ap (λ r. name_of (accs n i).peer r) (advanced_remote e.role call_event.IccnAcc moment was));
      }

  pub second_up_follows : Follows w n e x (move.SecondUp m) (after accs d) (with_end ends n x)
  second_up_follows =
      let is = account_is accs ends w n e x sender moment ev (move.SecondUp m) d h (λ k j. refl) v t u h.moved.does.there in
      let one : OneCall w v n i (accs n i).peer e x t u s = record {
        there = h.moved.does.there;
        put_is = ap (λ (y : End). y.tunnels) h.moved.does.after;
        role = role_is;
        rises = rw next (omega arith);
        most = rw next calls.most;
        some = before.some;
        below = rw next (calls.drawn i t h.moved.does.there s was h.moved.does.made);
        others = λ q other. at_other t.calls s call q other;
        waits = λ one. one;
        mine = inr (was, h.moved.does.made);
        calls = λ k q kfits qfits other. second_same w X Z (name k q) (other_name k q n s qfits del.header other);
        here = rw (at_new t.calls s call) (
          call_joined,
          fits_as x.role e.role call.state (row_for e.role was call_event.IccnAcc).0 role_is
              (advanced_state e.role call_event.IccnAcc moment was) row.fits,
          λ one. (let three = h.moved.does.open_is in absurd (omega (arith, one, three))),
        );
      } in
      let speaks = hears_one d n e.role sender (move.SecondUp m) m.taken (accs n i) (after accs d n i) h.moved.deed del.is_open is in
      one_call_follows accs ends w n e x sender moment ev (move.SecondUp m) d h (λ k j. refl) v t u s
      (else_follow w v n e x (move.SecondUp m) tt (second_births w X Z) role_is next)
      (subst (λ p. OneCall w v n i p e x t u s) (sym speaks.moves.peer) one)
      (speaks_goes accs ends w n e x sender moment ev (move.SecondUp m) d h (λ k j. refl) v t u h.moved.does.there [] 1
      (calls_and_take w X (is_second_up w.calls Z) old.entered (second_asks w Z))
      speaks refl (Delivers X S 0 (length (accs n i).taken) 0)
      (del.is 0
      ∙ takes_second w X S Z (old.phase ∙ open_phase t.control.state h.moved.does.open_is) before.tunnel (before.state ∙ row.was)))
