-- The moves of a live tunnel that is in epoch 0, each by what connection_laws says of it.
use Rattle.std.proofs.Common.{◌≡◌, inl, inr, ⊎_elim, ℕ, ◌+◌, true, false, List, [], length, drop, refl, sym, ap, ◌∙◌, subst, Option, Some, arith}
use Rattle.std.specs.Prelude.{◌^◌, ◌-◌, min}
use Rattle.id_table.specs.Ids.{at, put, without}
use Rattle.id_table.specs.Order.{at_new}
use Rattle.id_source.specs.Spaces.{after_id}
use Rattle.control_message.specs.declared.message.Message.TheVariants.{Icrp, Cdn, StopCcn}
use Rattle.control_channel.specs.Numbers.{count_acked}
use Rattle.tunnel_fsm.specs.declared.table.TunnelEvent.{TunnelEvent}
use Rattle.tunnel_fsm.specs.declared.table.TunnelState.TheVariants.{Established}
use Rattle.end_names.specs.Names.{node_of}
use Rattle.tunnel_fsm.specs.declared.table.TunnelState.TheVariants as state
use Rattle.call_fsm.specs.declared.table.CallEvent.TheVariants as call_event
use Rattle.call_link.specs.Link.{new_link}
use Rattle.session_looks.specs.declared.look.CellChange.TheVariants as cell
use Rattle.end_model.specs.declared.event.Event.{Event}
use Rattle.end_model.specs.declared.moves.Confirmed.{Confirmed}
use Rattle.end_model.specs.declared.moves.Added.{Added}
use Rattle.end_model.specs.declared.moves.Replied.{Replied}
use Rattle.end_model.specs.declared.moves.Refused.{Refused}
use Rattle.end_model.specs.declared.moves.FirstUp.{FirstUp}
use Rattle.end_model.specs.declared.moves.SecondUp.{SecondUp}
use Rattle.end_model.specs.declared.moves.EndHeard.{EndHeard}
use Rattle.end_model.specs.declared.moves.TookPlain.{TookPlain}
use Rattle.end_model.specs.declared.moves.NrRead.{NrRead}
use Rattle.end_model.specs.declared.moves.Closed.{Closed}
use Rattle.end_model.specs.declared.moves.ClosedBy.{ClosedBy}
use Rattle.end_model.specs.declared.moves.Restored.{Restored}
use Rattle.end_model.specs.declared.moves.Froze.{Froze}
use Rattle.end_model.specs.declared.moves.Move.{Move}
use Rattle.end_model.specs.declared.moves.Move.TheVariants as move
use Rattle.end_model.specs.Calls.{advanced, with_numbers, rung, asked_for}
use Rattle.end_model.specs.Channels.{counts_taken, counts_acked}
use Rattle.end_model.specs.Messages.{connection}
use Rattle.end_model.specs.Openings.{in_state}
use Rattle.end_model.specs.Links.{with_link}
use Rattle.end_model.specs.Tunnels.{Tunnel, mode_of, is_current}
use Rattle.end_model.specs.End.{End, new_place, with_look}
use Rattle.world_model.specs.World.{World, Node, Sender, Deed, epoch_of, birth_of, is_born, moved}
use Rattle.step_laws.specs.Moves.{with_tunnel, with_letter, without_call, without_calls, ByOperator, ByLetter, WhyCloses}
use Rattle.frame_laws.specs.Codecs.{Codecs}
use Rattle.connection_laws.specs.Facts as calm_facts
use Rattle.connection_laws.specs.Steps as calm_steps
use Rattle.connection_laws.proofs.States.{not_closed, closes_open}
use Rattle.channel_laws.specs.Accounts.{Opener, Acceptor, Renewed, History, declines_of, attempts_by, answers_by, after}
use Rattle.channel_laws.specs.Facts.{IsMade, Holds}
use Rattle.channel_laws.specs.Recoveries.{WrittenIsRead, WrittenHasRoom}
use Rattle.channel_laws.specs.Steps.{with_end, moves_on, IsMoved}
use Rattle.channel_laws.proofs.Linked.{part_cases, opener_of, acceptor_of, renewed_of}
use Rattle.channel_laws.proofs.Extending.{extends_same}
use Rattle.channel_laws.proofs.Giving.{IsPlainDeed, with_places}
use Rattle.channel_laws.proofs.Open.{end_alike}
use Rattle.channel_laws.proofs.Births.{birth_alike}
use Rattle.channel_laws.proofs.Calm.{bare, calm_of}
use Rattle.channel_laws.proofs.FirstMoves.{alone_in, both_ok, live_zero, channel_zero, comes_zero, first_holds}
use Rattle.channel_laws.proofs.Alone.{alone_there, next_bare, taking_bare, grants_bare, refused_bare, closes_bare, plainly, wants_bare, comes_to_ring, gives_extends, takes_extends, turns_extends, open_unless_shut, puts_so, still_alone}

module _ (laws : calm_steps.MovesKeep) (codecs : Codecs) (again : WrittenIsRead) (room : WrittenHasRoom) (w : World) (h : History) (n : ℕ) (node : Node) (sender : Option Sender)
    (moment : ℕ) (ev : Event) (x : End) (d : Deed) where
  pub plain_deed : (m : Move) → d.move ≡ m → ((p j : ℕ) → declines_of m p j ≡ false) → ((p a : ℕ) (o : Option Restored) → attempts_by d m p a o ≡ o)
      → ((p c : ℕ) (o : Option Froze) → answers_by d m p c o ≡ o) → IsPlainDeed d
  plain_deed m is declines attempts answers = record {
    declines = λ p j. ap (λ q. declines_of q p j) is ∙ declines p j;
    attempts = λ p a o. ap (λ q. attempts_by d q p a o) is ∙ attempts p a o;
    answers = λ p c o. ap (λ q. answers_by d q p c o) is ∙ answers p c o;
  }

  -- a tunnel that has learned its other end has taken a letter
  not_early : (i : ℕ) → Holds w h → IsMade (h.accounts n i 0) → ((h.accounts n i 0).remote ≡ 0 → ⊥) → length (h.accounts n i 0).taken ≡ 0 → ⊥
  not_early i holds made known none = ⊎_elim
      (λ (is : (h.accounts n i 0).part ≡ Opener). let some = (opener_of w h n i 0 (h.accounts n i 0) (holds.accounts n i 0) is).1.some known in omega (arith, some, none))
      (λ q. ⊎_elim
      (λ (is : (h.accounts n i 0).part ≡ Acceptor). let some = (acceptor_of w h n i 0 (h.accounts n i 0) (holds.accounts n i 0) is).1.some in omega (arith, some, none))
      (λ (is : (h.accounts n i 0).part ≡ Renewed). let lt = (renewed_of w h n i 0 (h.accounts n i 0) (holds.accounts n i 0) is).later in omega (arith, lt))
      q)
      (part_cases (h.accounts n i 0).part made)

  pub confirmed_first : (m : Confirmed) → IsMoved w h n node sender moment ev (move.Confirmed m) x d → epoch_of w n m.tunnel ≡ 0
      → Holds (moves_on w n node (move.Confirmed m) x) (after h d)
  unfolding moved
  confirmed_first m k zero =
      let o = k.does in
      let t = o.tunnel in
      let mv = move.Confirmed m in
      let i = m.tunnel in
      let u : Tunnel = record t { control = counts_taken (in_state Established t.control) } in
      let e0 = alone_in node.end i t in
      let a = h.accounts n i 0 in
      let v = with_end w n node x in
      let plain = plain_deed mv k.deed.move_is (λ p j. refl) (λ p q z. refl) (λ p q z. refl) in
      let puts = puts_so node.end x (with_tunnel node.end i u) i u o.after (record { config = refl; role = refl; tunnels = refl }) in
      first_holds laws codecs again room w h n node sender moment ev mv x d k t o.there o.current zero tt plain v refl (end_alike w n node x k.there)
      (comes_zero laws codecs again room w h n node sender moment ev mv x d k t o.there o.current zero o.letter o.takes.next.comes)
      (with_tunnel e0 i (bare u))
      (record {
        tunnel = bare t;
        there = alone_there node.end i t;
        current = refl;
        state = o.state;
        response = o.response;
        letter = o.letter;
        takes = taking_bare ev t o.letter m.taken o.takes;
        said = o.said;
        right = o.right;
        peer = o.peer;
        remote = o.remote;
        window = o.window;
        flags = o.flags;
        after = refl;
      })
      u (at_new e0.tunnels i (bare u)) (λ y. refl) (takes_extends d m.taken a a (extends_same a)) refl (λ known is. is) puts
      (ap (λ (e : End). e.tunnel_ids) o.after) refl refl
      (λ lt. absurd (omega (arith, lt)))
      (still_alone w v h (after h d) n node.end x (both_ok laws codecs again room w h n node sender moment ev mv x d k t o.there o.current zero).0 i t u puts o.there refl refl)

  pub end_heard_first : (m : EndHeard) → IsMoved w h n node sender moment ev (move.EndHeard m) x d → epoch_of w n m.tunnel ≡ 0
      → Holds (moves_on w n node (move.EndHeard m) x) (after h d)
  unfolding moved
  end_heard_first m k zero =
      let o = k.does in
      let t = o.tunnel in
      let mv = move.EndHeard m in
      let i = m.tunnel in
      let s : Tunnel = record t { control = counts_taken t.control } in
      let u : Tunnel = record s { calls = without t.calls m.session } in
      let e0 = alone_in node.end i t in
      let a = h.accounts n i 0 in
      let v = with_end w n node x in
      let plain = plain_deed mv k.deed.move_is (λ p j. refl) (λ p q z. refl) (λ p q z. refl) in
      let puts = puts_so node.end x (without_call node.end i s m.session) i u o.after (record { config = refl; role = refl; tunnels = refl }) in
      first_holds laws codecs again room w h n node sender moment ev mv x d k t o.there o.current zero tt plain v refl (end_alike w n node x k.there)
      (comes_zero laws codecs again room w h n node sender moment ev mv x d k t o.there o.current zero o.letter o.takes.next.comes)
      (without_call e0 i (bare s) m.session)
      (record {
        tunnel = bare t;
        there = alone_there node.end i t;
        current = refl;
        open_is = o.open_is;
        call = o.call;
        live = o.live;
        remote = o.remote;
        code = o.code;
        error = o.error;
        letter = o.letter;
        takes = taking_bare ev t o.letter m.taken o.takes;
        said = o.said;
        session_is = o.session_is;
        named = o.named;
        row = o.row;
        booked = o.booked;
        after = refl;
      })
      u (at_new e0.tunnels i (bare u)) (λ y. refl) (takes_extends d m.taken a a (extends_same a)) refl (λ known is. is) puts
      (ap (λ (e : End). e.tunnel_ids) o.after) refl refl
      (λ lt. lt)
      (still_alone w v h (after h d) n node.end x (both_ok laws codecs again room w h n node sender moment ev mv x d k t o.there o.current zero).0 i t u puts o.there refl refl)

  pub second_up_first : (m : SecondUp) → IsMoved w h n node sender moment ev (move.SecondUp m) x d → epoch_of w n m.tunnel ≡ 0
      → Holds (moves_on w n node (move.SecondUp m) x) (after h d)
  unfolding moved
  second_up_first m k zero =
      let o = k.does in
      let t = o.tunnel in
      let mv = move.SecondUp m in
      let i = m.tunnel in
      let call = with_link (new_link (record { moment = moment; block = o.block })) (with_numbers m.sequenced (advanced node.end.role call_event.IccnAcc moment o.call)) in
      let u : Tunnel = record t { control = counts_taken t.control; calls = put t.calls m.session call } in
      let e0 = alone_in node.end i t in
      let a = h.accounts n i 0 in
      let v = with_end w n node x in
      let places = with_look (cell.Bind m.session m.tunnel t.control.peer) node.end.calls in
      let plain = plain_deed mv k.deed.move_is (λ p j. refl) (λ p q z. refl) (λ p q z. refl) in
      let puts = puts_so node.end x (with_places node.end i u places) i u o.after (record { config = refl; role = refl; tunnels = refl }) in
      first_holds laws codecs again room w h n node sender moment ev mv x d k t o.there o.current zero tt plain v refl (end_alike w n node x k.there)
      (comes_zero laws codecs again room w h n node sender moment ev mv x d k t o.there o.current zero o.letter o.takes.next.comes)
      (with_places e0 i (bare u) places)
      (record {
        tunnel = bare t;
        there = alone_there node.end i t;
        current = refl;
        open_is = o.open_is;
        call = o.call;
        made = o.made;
        remote = o.remote;
        speed = o.speed;
        framing = o.framing;
        letter = o.letter;
        takes = taking_bare ev t o.letter m.taken o.takes;
        says = o.says;
        row = o.row;
        block = o.block;
        after = refl;
      })
      u (at_new e0.tunnels i (bare u)) (λ y. refl) (takes_extends d m.taken a a (extends_same a)) refl (λ known is. is) puts
      (ap (λ (e : End). e.tunnel_ids) o.after) refl refl
      (λ lt. lt)
      (still_alone w v h (after h d) n node.end x (both_ok laws codecs again room w h n node sender moment ev mv x d k t o.there o.current zero).0 i t u puts o.there refl refl)

  pub first_up_first : (m : FirstUp) → IsMoved w h n node sender moment ev (move.FirstUp m) x d → epoch_of w n m.tunnel ≡ 0
      → Holds (moves_on w n node (move.FirstUp m) x) (after h d)
  unfolding moved
  first_up_first m k zero =
      let o = k.does in
      let t = o.tunnel in
      let mv = move.FirstUp m in
      let i = m.tunnel in
      let call = advanced node.end.role call_event.IcrpAcc moment (record o.call { remote = m.remote }) in
      let u : Tunnel = with_letter m.remote connection (record t { control = counts_taken t.control; calls = put t.calls m.session call }) in
      let e0 = alone_in node.end i t in
      let a = h.accounts n i 0 in
      let v = with_end w n node x in
      let places = with_look (cell.Establish m.session) node.end.calls in
      let plain = plain_deed mv k.deed.move_is (λ p j. refl) (λ p q z. refl) (λ p q z. refl) in
      let puts = puts_so node.end x (with_places node.end i u places) i u o.after (record { config = refl; role = refl; tunnels = refl }) in
      first_holds laws codecs again room w h n node sender moment ev mv x d k t o.there o.current zero tt plain v refl (end_alike w n node x k.there)
      (comes_zero laws codecs again room w h n node sender moment ev mv x d k t o.there o.current zero o.letter o.takes.next.comes)
      (with_places e0 i (bare u) places)
      (record {
        tunnel = bare t;
        there = alone_there node.end i t;
        current = refl;
        open_is = o.open_is;
        call = o.call;
        asked = o.asked;
        letter = o.letter;
        takes = taking_bare ev t o.letter m.taken o.takes;
        says = o.says;
        subscriber = o.subscriber;
        row = o.row;
        room = o.room;
        given = o.given;
        after = refl;
      })
      u (at_new e0.tunnels i (bare u)) (λ y. refl) (gives_extends d a _ (takes_extends d m.taken a a (extends_same a))) refl
      (λ known is. is) puts (ap (λ (e : End). e.tunnel_ids) o.after) refl refl
      (λ lt. lt)
      (still_alone w v h (after h d) n node.end x (both_ok laws codecs again room w h n node sender moment ev mv x d k t o.there o.current zero).0 i t u puts o.there refl refl)

  pub refused_first : (m : Refused) → IsMoved w h n node sender moment ev (move.Refused m) x d → epoch_of w n m.tunnel ≡ 0
      → Holds (moves_on w n node (move.Refused m) x) (after h d)
  unfolding moved
  refused_first m k zero =
      let o = k.does in
      let t = o.tunnel in
      let mv = move.Refused m in
      let i = m.tunnel in
      let u : Tunnel = with_letter m.remote (Cdn 0 m.result m.error) (record t { control = counts_taken t.control }) in
      let e0 = alone_in node.end i t in
      let a = h.accounts n i 0 in
      let v = with_end w n node x in
      let plain = plain_deed mv k.deed.move_is (λ p j. refl) (λ p q z. refl) (λ p q z. refl) in
      let puts = puts_so node.end x (with_tunnel node.end i u) i u o.after (record { config = refl; role = refl; tunnels = refl }) in
      first_holds laws codecs again room w h n node sender moment ev mv x d k t o.there o.current zero tt plain v refl (end_alike w n node x k.there)
      (comes_zero laws codecs again room w h n node sender moment ev mv x d k t o.there o.current zero o.letter o.takes.next.comes)
      (with_tunnel e0 i (bare u))
      (record {
        tunnel = bare t;
        there = alone_there node.end i t;
        current = refl;
        open_is = o.open_is;
        letter = o.letter;
        takes = taking_bare ev t o.letter m.taken o.takes;
        why = refused_bare node.end i t _ _ _ m o.why;
        room = o.room;
        given = o.given;
        after = refl;
      })
      u (at_new e0.tunnels i (bare u)) (λ y. refl) (gives_extends d a _ (takes_extends d m.taken a a (extends_same a))) refl
      (λ known is. is) puts (ap (λ (e : End). e.tunnel_ids) o.after) refl refl
      (λ lt. lt)
      (still_alone w v h (after h d) n node.end x (both_ok laws codecs again room w h n node sender moment ev mv x d k t o.there o.current zero).0 i t u puts o.there refl refl)

  pub took_plain_first : (m : TookPlain) → IsMoved w h n node sender moment ev (move.TookPlain m) x d → epoch_of w n m.tunnel ≡ 0
      → Holds (moves_on w n node (move.TookPlain m) x) (after h d)
  unfolding moved
  took_plain_first m k zero =
      let o = k.does in
      let t = o.tunnel in
      let mv = move.TookPlain m in
      let i = m.tunnel in
      let u : Tunnel = record t { control = counts_taken t.control } in
      let e0 = alone_in node.end i t in
      let a = h.accounts n i 0 in
      let v = with_end w n node x in
      let plain = plain_deed mv k.deed.move_is (λ p j. refl) (λ p q z. refl) (λ p q z. refl) in
      let puts = puts_so node.end x (with_tunnel node.end i u) i u o.after (record { config = refl; role = refl; tunnels = refl }) in
      first_holds laws codecs again room w h n node sender moment ev mv x d k t o.there o.current zero tt plain v refl (end_alike w n node x k.there)
      (comes_zero laws codecs again room w h n node sender moment ev mv x d k t o.there o.current zero o.letter o.next.comes)
      (with_tunnel e0 i (bare u))
      (record {
        tunnel = bare t;
        there = alone_there node.end i t;
        current = refl;
        letter = o.letter;
        next = next_bare ev t o.letter o.next;
        why = λ q said. plainly node.end i t o.letter.header.session q (o.why q said);
        taken = o.taken;
        spare = o.spare;
        after = refl;
      })
      u (at_new e0.tunnels i (bare u)) (λ y. refl) (takes_extends d m.taken a a (extends_same a)) refl (λ known is. is) puts
      (ap (λ (e : End). e.tunnel_ids) o.after) refl refl
      (λ lt. lt)
      (still_alone w v h (after h d) n node.end x (both_ok laws codecs again room w h n node sender moment ev mv x d k t o.there o.current zero).0 i t u puts o.there refl refl)

  pub nr_read_first : (m : NrRead) → IsMoved w h n node sender moment ev (move.NrRead m) x d → epoch_of w n m.tunnel ≡ 0
      → Holds (moves_on w n node (move.NrRead m) x) (after h d)
  unfolding moved
  nr_read_first m k zero =
      let o = k.does in
      let t = o.tunnel in
      let mv = move.NrRead m in
      let i = m.tunnel in
      let u : Tunnel = record t { control = record (counts_acked m.nr moment t.control) { heard = moment }; letters = drop (count_acked t.control.channel m.nr) t.letters } in
      let e0 = alone_in node.end i t in
      let a = h.accounts n i 0 in
      let v = with_end w n node x in
      let plain = plain_deed mv k.deed.move_is (λ p j. refl) (λ p q z. refl) (λ p q z. refl) in
      let puts = puts_so node.end x (with_tunnel node.end i u) i u o.after (record { config = refl; role = refl; tunnels = refl }) in
      first_holds laws codecs again room w h n node sender moment ev mv x d k t o.there o.current zero tt plain v refl (end_alike w n node x k.there)
      (comes_zero laws codecs again room w h n node sender moment ev mv x d k t o.there o.current zero o.tells.letter o.tells.comes)
      (with_tunnel e0 i (bare u))
      (record { tunnel = bare t; there = alone_there node.end i t; current = refl; tells = o.tells; after = refl })
      u (at_new e0.tunnels i (bare u)) (λ y. refl) (extends_same a) refl (λ known is. is) puts (ap (λ (e : End). e.tunnel_ids) o.after) refl
      refl
      (λ lt. lt)
      (still_alone w v h (after h d) n node.end x (both_ok laws codecs again room w h n node sender moment ev mv x d k t o.there o.current zero).0 i t u puts o.there refl refl)

  pub replied_first : (m : Replied) → IsMoved w h n node sender moment ev (move.Replied m) x d → epoch_of w n m.tunnel ≡ 0
      → Holds (moves_on w n node (move.Replied m) x) (after h d)
  unfolding moved
  replied_first m k zero =
      let o = k.does in
      let t = o.tunnel in
      let mv = move.Replied m in
      let i = m.tunnel in
      let call = asked_for node.end.role m.remote moment in
      let u : Tunnel = with_letter m.remote (Icrp m.session) (record t { control = counts_taken t.control; calls = put t.calls m.session call }) in
      let e0 = alone_in node.end i t in
      let a = h.accounts n i 0 in
      let v = moves_on w n node mv x in
      let place = put node.end.calls m.session (new_place m.tunnel) in
      let plain = plain_deed mv k.deed.move_is (λ p j. refl) (λ p q z. refl) (λ p q z. refl) in
      let puts = puts_so node.end x (record (with_tunnel node.end i u) { session_ids = after_id node.end.session_ids; calls = place }) i u o.after (record { config = refl; role = refl; tunnels = refl }) in
      first_holds laws codecs again room w h n node sender moment ev mv x d k t o.there o.current zero tt plain v refl
      (birth_alike w n node k.there x w.born m.session (birth_of (with_end w n node x) (node_of m.peer) m.remote))
      (comes_zero laws codecs again room w h n node sender moment ev mv x d k t o.there o.current zero o.letter o.takes.next.comes)
      (record (with_tunnel e0 i (bare u)) { session_ids = after_id node.end.session_ids; calls = place })
      (record {
        tunnel = bare t;
        there = alone_there node.end i t;
        current = refl;
        open_is = o.open_is;
        peer = o.peer;
        serial = o.serial;
        calling = o.calling;
        letter = o.letter;
        takes = taking_bare ev t o.letter m.taken o.takes;
        said = o.said;
        none = o.none;
        granted = grants_bare node.end i t m.remote m.session o.granted;
        row = o.row;
        few = o.few;
        drawn = o.drawn;
        room = o.room;
        given = o.given;
        after = refl;
      })
      u (at_new e0.tunnels i (bare u)) (λ y. refl) (gives_extends d a _ (takes_extends d m.taken a a (extends_same a))) refl
      (λ known is. is) puts (ap (λ (e : End). e.tunnel_ids) o.after) refl refl
      (λ lt. lt)
      (still_alone w v h (after h d) n node.end x (both_ok laws codecs again room w h n node sender moment ev mv x d k t o.there o.current zero).0 i t u puts o.there refl refl)

  pub added_first : (m : Added) → IsMoved w h n node sender moment ev (move.Added m) x d → epoch_of w n m.tunnel ≡ 0
      → Holds (moves_on w n node (move.Added m) x) (after h d)
  unfolding moved is_born
  added_first m k zero =
      let o = k.does in
      let t = o.tunnel in
      let mv = move.Added m in
      let i = m.tunnel in
      let u : Tunnel = record t { calls = put t.calls m.session (rung node.end.role m.subscriber moment) } in
      let e0 = alone_in node.end i t in
      let a = h.accounts n i 0 in
      let v = moves_on w n node mv x in
      let place = put node.end.calls m.session (new_place m.tunnel) in
      let plain = plain_deed mv k.deed.move_is (λ p j. refl) (λ p q z. refl) (λ p q z. refl) in
      let puts = puts_so node.end x (record (with_tunnel node.end i u) { session_ids = after_id node.end.session_ids; calls = place }) i u o.after (record { config = refl; role = refl; tunnels = refl }) in
      first_holds laws codecs again room w h n node sender moment ev mv x d k t o.there o.current zero tt plain v refl
      (birth_alike w n node k.there x (min (w.born + 1) (2 ^ 64 - 1)) m.session (min (w.born + 1) (2 ^ 64 - 1)))
      (comes_to_ring (calm_of h) n e0 sender ev m.subscriber o.rings)
      (record (with_tunnel e0 i (bare u)) { session_ids = after_id node.end.session_ids; calls = place })
      (record {
        tunnel = bare t;
        there = alone_there node.end i t;
        current = refl;
        goes = o.goes;
        few = o.few;
        spare = o.spare;
        rings = o.rings;
        wants = wants_bare node.end i t ev t.control.peer o.wants;
        drawn = o.drawn;
        after = refl;
      })
      u (at_new e0.tunnels i (bare u)) (λ y. refl) (extends_same a) refl (λ known is. is) puts (ap (λ (e : End). e.tunnel_ids) o.after) refl
      refl
      (λ lt. lt)
      (still_alone w v h (after h d) n node.end x (both_ok laws codecs again room w h n node sender moment ev mv x d k t o.there o.current zero).0 i t u puts o.there refl refl)

  -- a StopCCN goes to the tunnel that is known
  closes_known : (secret : Option (List ℕ)) (t : Tunnel) (on : TunnelEvent) (m : Closed) → WhyCloses secret t ev on m → m.remote ≡ t.control.remote
  closes_known secret t on m (ByOperator is by same one two) = same
  closes_known secret t on m (ByLetter told k next spare why other same) = same

  pub closed_first : (m : Closed) → IsMoved w h n node sender moment ev (move.Closed m) x d → epoch_of w n m.tunnel ≡ 0
      → Holds (moves_on w n node (move.Closed m) x) (after h d)
  unfolding moved
  closed_first m k zero =
      let o = k.does in
      let t = o.tunnel in
      let mv = move.Closed m in
      let i = m.tunnel in
      let s : Tunnel = with_letter 0 (StopCcn m.tunnel m.result m.error) (record t { control = record t.control { state = state.Closed; remote = m.remote; closed = moment } }) in
      let u : Tunnel = record s { calls = [] } in
      let e0 = alone_in node.end i t in
      let a = h.accounts n i 0 in
      let v = with_end w n node x in
      let plain = plain_deed mv k.deed.move_is (λ p j. refl) (λ p q z. refl) (λ p q z. refl) in
      let puts = puts_so node.end x (without_calls node.end i s t.calls) i u o.after (record { config = refl; role = refl; tunnels = refl }) in
      let live = live_zero laws codecs again room w h n node sender moment ev mv x d k t o.there o.current zero in
      let channel = channel_zero laws codecs again room w h n node sender moment ev mv x d k t o.there o.current zero in
      let same = closes_known node.end.config.secret t o.on m o.why in
      let is_open = open_unless_shut h.accounts i 0 a t a.part channel.state (closes_open t.control.state o.on o.row) in
      first_holds laws codecs again room w h n node sender moment ev mv x d k t o.there o.current zero tt plain v refl (end_alike w n node x k.there)
      (comes_so m t k o.there o.current zero o.on o.why)
      (without_calls e0 i (bare s) t.calls)
      (record {
        tunnel = bare t;
        there = alone_there node.end i t;
        current = refl;
        on = o.on;
        why = closes_bare node.end.config.secret t ev o.on m (live.query.none zero) o.why;
        row = o.row;
        booked = o.booked;
        room = o.room;
        given = o.given;
        after = refl;
      })
      u (at_new e0.tunnels i (bare u)) (λ y. refl)
      (gives_extends d a _ (turns_extends a m.remote (Some (length a.taken)) (inr (same ∙ channel.remote)) (inl is_open))) refl
      (λ known is. (let none : length a.taken ≡ 0 = cc in absurd (not_early i k.holds live.made known none)))
      puts (ap (λ (e : End). e.tunnel_ids) o.after) refl refl
      (λ lt. absurd (omega (arith, lt)))
      (still_alone w v h (after h d) n node.end x (both_ok laws codecs again room w h n node sender moment ev mv x d k t o.there o.current zero).0 i t u puts o.there refl same)
    where
      comes_so : (m : Closed) (t : Tunnel) (k : IsMoved w h n node sender moment ev (move.Closed m) x d) (there : at node.end.tunnels m.tunnel ≡ Some t)
          → (current : is_current (mode_of t.recovery) ≡ true) → (zero : epoch_of w n m.tunnel ≡ 0) → (on : TunnelEvent) → WhyCloses node.end.config.secret t ev on m
          → calm_facts.Comes (calm_of h) n (alone_in node.end m.tunnel t) sender ev
      comes_so m t k there current zero on (ByOperator is by same one two) = subst (calm_facts.Comes (calm_of h) n (alone_in node.end m.tunnel t) sender) (sym is) tt
      comes_so m t k there current zero on (ByLetter told letter next spare why other same) =
          comes_zero laws codecs again room w h n node sender moment ev (move.Closed m) x d k t there current zero letter next.comes

  pub closed_by_first : (m : ClosedBy) → IsMoved w h n node sender moment ev (move.ClosedBy m) x d → epoch_of w n m.tunnel ≡ 0
      → Holds (moves_on w n node (move.ClosedBy m) x) (after h d)
  unfolding moved
  closed_by_first m k zero =
      let o = k.does in
      let t = o.tunnel in
      let mv = move.ClosedBy m in
      let i = m.tunnel in
      let s : Tunnel = record t { control = record (counts_taken t.control) { state = state.Closed; closed = moment } } in
      let u : Tunnel = record s { calls = [] } in
      let e0 = alone_in node.end i t in
      let a = h.accounts n i 0 in
      let v = with_end w n node x in
      let plain = plain_deed mv k.deed.move_is (λ p j. refl) (λ p q z. refl) (λ p q z. refl) in
      let puts = puts_so node.end x (without_calls node.end i s t.calls) i u o.after (record { config = refl; role = refl; tunnels = refl }) in
      let live = live_zero laws codecs again room w h n node sender moment ev mv x d k t o.there o.current zero in
      let channel = channel_zero laws codecs again room w h n node sender moment ev mv x d k t o.there o.current zero in
      let is_open = open_unless_shut h.accounts i 0 a t a.part channel.state (not_closed t.control.state o.live) in
      first_holds laws codecs again room w h n node sender moment ev mv x d k t o.there o.current zero tt plain v refl (end_alike w n node x k.there)
      (comes_zero laws codecs again room w h n node sender moment ev mv x d k t o.there o.current zero o.letter o.takes.next.comes)
      (without_calls e0 i (bare s) t.calls)
      (record {
        tunnel = bare t;
        there = alone_there node.end i t;
        current = refl;
        live = o.live;
        letter = o.letter;
        takes = taking_bare ev t o.letter m.taken o.takes;
        says = o.says;
        booked = o.booked;
        after = refl;
      })
      u (at_new e0.tunnels i (bare u)) (λ y. refl)
      (takes_extends d m.taken a _ (turns_extends a a.remote (Some (length a.taken)) (inr refl) (inl is_open))) refl
      (λ known is. (let none : length a.taken ≡ 0 = cc in absurd (not_early i k.holds live.made known none)))
      puts (ap (λ (e : End). e.tunnel_ids) o.after) refl refl
      (λ lt. absurd (omega (arith, lt)))
      (still_alone w v h (after h d) n node.end x (both_ok laws codecs again room w h n node sender moment ev mv x d k t o.there o.current zero).0 i t u puts o.there refl refl)
