-- A call is established at the end that asked for it; so it is in the machine.
use Rattle.std.proofs.Common.{◌≡◌, inr, ℕ, ◌<◌, length, refl, sym, ap, ap₂, ◌∙◌, subst, Option, Some, arith, ne_eqb, eq-eqb, None, false}
use Rattle.id_table.specs.Ids.{put}
use Rattle.id_table.specs.Order.{at_new, at_other}
use Rattle.control_message.specs.declared.message.Message.TheVariants.{Icrp}
use Rattle.call_fsm.specs.declared.table.CallEvent.TheVariants as call_event
use Rattle.end_model.specs.declared.event.Event.{Event}
use Rattle.end_model.specs.declared.moves.FirstUp.{FirstUp}
use Rattle.end_model.specs.declared.moves.Move.TheVariants as move
use Rattle.end_model.specs.declared.tunnel.Call.{Call}
use Rattle.end_model.specs.Calls.{row_for, advanced}
use Rattle.end_model.specs.Tunnels.{Tunnel}
use Rattle.end_model.specs.Channels.{counts_taken}
use Rattle.end_model.specs.Messages.{connection}
use Rattle.end_model.specs.End.{End}
use Rattle.world_model.specs.World.{Sender, Deed, config_of}
use Rattle.step_laws.specs.Letters.{letters_of}
use Rattle.step_laws.specs.Moves.{with_letter}
use Rattle.epoch_machine.specs.Letters.{Reply, Connect}
use Rattle.epoch_machine.specs.Tunnels.{Open}
use Rattle.epoch_machine.specs.Calls.{WaitsReply, Up, is_first_up}
use Rattle.epoch_machine.specs.Worlds.{World, all_rules, gives, took_one, takes, takes_open, takes_reply}
use Rattle.epoch_machine.specs.Moves.{Delivers}
use Rattle.connection_laws.specs.Facts.{Accounts}
use Rattle.connection_laws.specs.Steps.{after}
use Rattle.session_laws.specs.Names.{name, name_of, state_of}
use Rattle.session_laws.specs.Joined.{Ends, CallJoined, CallsJoined, TunnelJoined}
use Rattle.session_laws.proofs.Births.{IsAnswered, BirthsFollow}
use Rattle.session_laws.proofs.Keeps.{with_end, Laws, IsMade, Follows}
use Rattle.session_laws.proofs.Names.{other_name, known_name}
use Rattle.session_laws.proofs.States.{not_closed}
use Rattle.session_laws.proofs.Ground.{joined_before}
use Rattle.session_laws.proofs.Heard.{Delivered, delivered, here_joined, open_phase}
use Rattle.session_laws.proofs.CallRows.{GoesOn, advanced_state, advanced_remote, fits_as, first_row, first_role}
use Rattle.session_laws.proofs.CallGround.{CallSame, OneCall, one_call_follows}
use Rattle.session_laws.proofs.CallSpeaks.{calls_take_and_give, hears_and_says, speaks_goes, account_is}

-- ---- in the machine

abbrev first_up : World → ℕ → ℕ → ℕ → World
first_up w x z own = gives (record (took_one w x) { calls = is_first_up w.calls z own }) x (Connect own)

takes_first : (w : World) (x s own z : ℕ) → w.tunnels.phase x ≡ Open → w.calls.tunnel z ≡ x → w.calls.state z ≡ WaitsReply
    → takes all_rules (took_one w x) x s (Reply own z) 0 ≡ first_up w x z own
unfolding takes took_one takes_open takes_reply
takes_first w x s own z phase tunnel state = rw (phase, tunnel, state, eq-eqb x x refl) refl

first_asks : (w : World) (z own y k : ℕ) → (is_first_up w.calls z own).asks y k ≡ w.calls.asks y k
unfolding is_first_up
first_asks w z own y k = refl

first_same : (w : World) (x z own k : ℕ) → (k ≡ z → ⊥) → CallSame w (first_up w x z own) k
unfolding gives is_first_up
first_same w x z own k other = record {
  drawn = refl;
  tunnel = refl;
  remote = rw (ne_eqb k z other) refl;
  state = rw (ne_eqb k z other) refl;
}

first_births : (w : World) (x z own : ℕ) → IsAnswered w (first_up w x z own) z
unfolding gives is_first_up
first_births w x z own = record {
  count = refl;
  birth = λ k. refl;
  mate = λ k. refl;
  remote = λ k other. rw (ne_eqb k z other) refl;
}

record IsUp (w v : World) (z own : ℕ) : Type 0 where
  tunnel : v.calls.tunnel z ≡ w.calls.tunnel z
  state : v.calls.state z ≡ Up
  remote : v.calls.remote z ≡ own

first_here : (w : World) (x z own : ℕ) → IsUp w (first_up w x z own) z own
unfolding gives is_first_up
first_here w x z own = record { tunnel = refl; state = rw (eq-eqb z z refl) refl; remote = rw (eq-eqb z z refl) refl }

-- ---- at the end that asked

module _ (laws : Laws) (accs : Accounts) (ends : Ends) (w : World) (n : ℕ) (e x : End) (sender : Option Sender) (moment : ℕ) (ev : Event)
    (m : FirstUp) (d : Deed) (h : IsMade accs ends w n e x sender moment ev (move.FirstUp m) d) where
  abbrev i : ℕ
  i = m.tunnel

  abbrev s : ℕ
  s = m.session

  abbrev t : Tunnel
  t = h.moved.does.tunnel

  abbrev was : Call
  was = h.moved.does.call

  abbrev call : Call
  call = advanced e.role call_event.IcrpAcc moment (record was { remote = m.remote })

  abbrev u : Tunnel
  u = with_letter m.remote connection (record t { control = counts_taken t.control; calls = put t.calls s call })

  del : Delivered accs w n i sender s (Icrp m.remote)
  del = delivered laws.heard accs ends w n e x sender moment ev (move.FirstUp m) d h i t h.moved.does.there
      (not_closed t.control.state 3 h.moved.does.open_is (omega arith)) s (Icrp m.remote) tt
      (record { letter = h.moved.does.letter; next = h.moved.does.takes.next; says = h.moved.does.says })

  old : TunnelJoined w n i (accs n i) (Some t)
  old = here_joined accs ends w n e x sender moment ev (move.FirstUp m) d h i t h.moved.does.there

  calls : CallsJoined w accs n e
  calls = joined_before accs ends w n e x sender moment ev (move.FirstUp m) d h

  before : CallJoined w n i (accs n i).peer s was
  before = calls.live i t h.moved.does.there s was h.moved.does.asked

  row : GoesOn e.role was.state (row_for e.role was call_event.IcrpAcc).0 WaitsReply Up
  row = first_row e.role was.state h.moved.does.row

  abbrev X : ℕ
  X = name n i

  abbrev Z : ℕ
  Z = name n s

  abbrev S : ℕ
  S = name del.from.node del.from.tunnel

  -- the call that replied
  abbrev own : ℕ
  own = name del.from.node m.remote

  abbrev v : World
  v = first_up w X Z own

  next : x.session_ids ≡ e.session_ids
  next = ap (λ (y : End). y.session_ids) h.moved.does.after

  below : s < e.session_ids.next
  below = calls.drawn i t h.moved.does.there s was h.moved.does.asked

  role_is : x.role ≡ e.role
  role_is = ap (λ (y : End). y.role) h.moved.does.after

  call_joined : CallJoined v n i (accs n i).peer s call
  call_joined =
      let it = first_here w X Z own in
      record {
        some = before.some;
        state = it.state ∙ sym row.is ∙ sym (ap state_of (advanced_state e.role call_event.IcrpAcc moment (record was { remote = m.remote })));
        tunnel = it.tunnel ∙ before.tunnel;
        remote = it.remote ∙ sym (known_name del.from.node m.remote del.written.1)
            ∙ sym (ap₂ name_of del.node (advanced_remote e.role call_event.IcrpAcc moment (record was { remote = m.remote })));
      }

  births : BirthsFollow w v n e x (move.FirstUp m)
  births = record {
    go = (first_role e.role was.state h.moved.does.row, del.header, first_births w X Z own);
    role = role_is;
    rises = rw next (omega arith);
    mates = λ z other. (first_births w X Z own).mate z;
    replies = λ r no. absurd cc;
  }

  pub first_up_follows : Follows w n e x (move.FirstUp m) (after accs d) (with_end ends n x)
  first_up_follows =
      let is = account_is accs ends w n e x sender moment ev (move.FirstUp m) d h (λ k j. refl) v t u h.moved.does.there in
      let one : OneCall w v n i (accs n i).peer e x t u s = record {
        there = h.moved.does.there;
        put_is = ap (λ (y : End). y.tunnels) h.moved.does.after;
        role = role_is;
        rises = rw next (omega arith);
        most = rw next calls.most;
        some = before.some;
        below = rw next below;
        others = λ q other. at_other t.calls s call q other;
        waits = λ one. one;
        mine = inr (was, h.moved.does.asked);
        calls = λ k q kfits qfits other. first_same w X Z own (name k q) (other_name k q n s qfits del.header other);
        here = rw (at_new t.calls s call) (
          call_joined,
          fits_as x.role e.role call.state (row_for e.role was call_event.IcrpAcc).0 role_is
              (advanced_state e.role call_event.IcrpAcc moment (record was { remote = m.remote })) row.fits,
          λ one. (let three = h.moved.does.open_is in absurd (omega (arith, one, three))),
        );
      } in
      let speaks = hears_and_says d n e.role sender (move.FirstUp m) m.taken (accs n i) (after accs d n i) h.moved.deed del.is_open is in
      one_call_follows accs ends w n e x sender moment ev (move.FirstUp m) d h (λ k j. refl) v t u s births
      (subst (λ p. OneCall w v n i p e x t u s) (sym speaks.moves.peer) one)
      (speaks_goes accs ends w n e x sender moment ev (move.FirstUp m) d h (λ k j. refl) v t u h.moved.does.there
      (letters_of e.role (config_of n 0 None false) (move.FirstUp m)) 1
      (rw del.node (calls_take_and_give w X (is_first_up w.calls Z own) (Connect own) old.entered (first_asks w Z own)))
      speaks refl (Delivers X S 0 (length (accs n i).taken) 0)
      (del.is 0
      ∙ takes_first w X S own Z (old.phase ∙ open_phase t.control.state h.moved.does.open_is) before.tunnel (before.state ∙ row.was)))
