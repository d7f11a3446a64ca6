-- The moves of a tunnel that waits for its SCCRP: it takes one and learns an acceptor, or it rejects one.
use Rattle.std.proofs.Common.{◌≡◌, inl, inr, ⊎_elim, ℕ, ◌<◌, Bool, true, false, cond, [], length, refl, ap, ◌∙◌, subst, Option, Some, arith}
use Rattle.std.specs.Prelude.{◌==◌}
use Rattle.id_table.specs.Ids.{at}
use Rattle.id_table.specs.Order.{at_new, same_or_not}
use Rattle.control_message.specs.declared.message.Message.TheVariants.{Scccn, StopCcn}
use Rattle.control_channel.specs.Numbers.{learnt_by}
use Rattle.tunnel_fsm.specs.Rows.{state_number}
use Rattle.tunnel_fsm.specs.declared.table.TunnelState.TheVariants.{Established}
use Rattle.tunnel_fsm.specs.declared.table.TunnelState.TheVariants as state
use Rattle.end_model.specs.declared.event.Event.{Event}
use Rattle.end_model.specs.declared.moves.Connected.{Connected}
use Rattle.end_model.specs.declared.moves.Confirmed.{Confirmed}
use Rattle.end_model.specs.declared.moves.Rejected.{Rejected}
use Rattle.end_model.specs.declared.moves.Move.TheVariants as move
use Rattle.end_model.specs.declared.tunnel.Control.{Control}
use Rattle.end_model.specs.Channels.{counts_taken}
use Rattle.end_model.specs.Tunnels.{Tunnel, mode_of, is_current}
use Rattle.end_model.specs.End.{End}
use Rattle.world_model.specs.World.{World, Node, Sender, Deed, epoch_of, moved}
use Rattle.step_laws.specs.Moves.{with_tunnel, with_letter, learns_window, without_calls, Connects, Rejects, LetterCloses}
use Rattle.frame_laws.specs.Codecs.{Codecs}
use Rattle.connection_laws.specs.Steps as calm_steps
use Rattle.channel_laws.specs.Accounts.{Part, Unmade, Opener, Acceptor, Renewed, History, after}
use Rattle.channel_laws.specs.Facts.{IsShut, IsOpen, IsPart, IsInState, LiveOk, EndOk, BookOk, NodeOk, Holds}
use Rattle.channel_laws.specs.Recoveries.{WrittenIsRead, WrittenHasRoom}
use Rattle.channel_laws.specs.Steps.{with_end, moves_on, IsMoved}
use Rattle.channel_laws.proofs.Linked.{first_or_later, opener_of, acceptor_of}
use Rattle.channel_laws.proofs.Extending.{part_on}
use Rattle.channel_laws.proofs.Open.{end_alike}
use Rattle.channel_laws.proofs.Calm.{bare}
use Rattle.channel_laws.proofs.FirstMoves.{alone_in, live_zero, channel_zero, comes_zero, only, account, remote_first, live_first, first_holds}
use Rattle.channel_laws.proofs.Alone.{alone_there, taking_bare, gives_extends, takes_extends, turns_extends, open_unless_shut, unlearned_waits, puts_so}
use Rattle.channel_laws.proofs.Apart.{alone_with_acceptor}
use Rattle.channel_laws.proofs.First.{plain_deed, confirmed_first}

learns_state : (window : ℕ) (c : Control) → (learns_window window c).state ≡ c.state
learns_state window c = by (window == 0)
  where
    by : (b : Bool) → (cond b c (record c { channel = learnt_by c.channel window })).state ≡ c.state
    by true = refl
    by false = refl

-- a tunnel that isn't established or closed is in epoch 0
pub early_zero : (w : World) (h : History) (holds : Holds w h) (n i : ℕ) (t : Tunnel) → LiveOk w h n i t → is_current (mode_of t.recovery) ≡ true
    → state_number t.control.state < 3 → epoch_of w n i ≡ 0
early_zero w h holds n i t live current early =
    let e = epoch_of w n i in
    let a = h.accounts n i e in
    let c = live.channel current in
    ⊎_elim
    (λ (zero : e ≡ 0). zero)
    (λ (o : e ≡ 0 → ⊥). ⊎_elim
    (λ (zero : e ≡ 0). zero)
    (λ r. absurd (by a.part refl o c.state))
    (first_or_later w h n i e a (holds.accounts n i e) ((holds.standings n i).entered live.made)))
    (same_or_not e 0)
  where
    by : (p : Part) → (h.accounts n i (epoch_of w n i)).part ≡ p → (epoch_of w n i ≡ 0 → ⊥) → IsInState h.accounts i (epoch_of w n i) (h.accounts n i (epoch_of w n i)) t (h.accounts n i (epoch_of w n i)).part → ⊥
    by Unmade own o is = (holds.standings n i).entered live.made own
    by Opener own o is = o (opener_of w h n i (epoch_of w n i) (h.accounts n i (epoch_of w n i)) (holds.accounts n i (epoch_of w n i)) own).0
    by Acceptor own o is = o (acceptor_of w h n i (epoch_of w n i) (h.accounts n i (epoch_of w n i)) (holds.accounts n i (epoch_of w n i)) own).0
    by Renewed own o is = ⊎_elim
        (λ (q : (state_number t.control.state ≡ 3) × IsOpen (h.accounts n i (epoch_of w n i))). let three = q.0 in omega (arith, three, early))
        (λ (q : IsShut (h.accounts n i (epoch_of w n i)) t). let four = q.0 in omega (arith, four, early))
        (subst (IsInState h.accounts i (epoch_of w n i) (h.accounts n i (epoch_of w n i)) t) own is)

module _ (laws : calm_steps.MovesKeep) (codecs : Codecs) (again : WrittenIsRead) (room : WrittenHasRoom) (w : World) (h : History) (n : ℕ) (node : Node) (sender : Option Sender)
    (moment : ℕ) (ev : Event) (x : End) (d : Deed) where
  both_there : at w.nodes n ≡ Some node → Holds w h → EndOk w h n node.end × BookOk h n node.checkpoint.book
  both_there there holds = subst (NodeOk w h n) there (holds.nodes n)

  pub confirmed_keeps : (m : Confirmed) → IsMoved w h n node sender moment ev (move.Confirmed m) x d → Holds (moves_on w n node (move.Confirmed m) x) (after h d)
  confirmed_keeps m k =
      let o = k.does in
      let two = ap state_number o.state in
      let live = (both_there k.there k.holds).0.live m.tunnel o.tunnel o.there in
      confirmed_first laws codecs again room w h n node sender moment ev x d m k (early_zero w h k.holds n m.tunnel o.tunnel live o.current (omega (arith, two)))

  pub connected_keeps : (m : Connected) → IsMoved w h n node sender moment ev (move.Connected m) x d → Holds (moves_on w n node (move.Connected m) x) (after h d)
  unfolding moved
  connected_keeps m k =
      let o = k.does in
      let t = o.tunnel in
      let mv = move.Connected m in
      let i = m.tunnel in
      let one : state_number t.control.state ≡ 1 = ap state_number o.state in
      let zero = early_zero w h k.holds n i t ((both_there k.there k.holds).0.live i t o.there) o.current (omega (arith, one)) in
      let c = counts_taken (learns_window m.window (record t.control { remote = m.remote; flags = m.flags; state = Established })) in
      let u : Tunnel = with_letter 0 (Scccn m.response) (record t { control = c }) in
      let e0 = alone_in node.end i t in
      let a = h.accounts n i 0 in
      let v = with_end w n node x in
      let plain = plain_deed laws codecs again room w h n node sender moment ev x d mv k.deed.move_is (λ p j. refl) (λ p q z. refl) (λ p q z. refl) in
      let puts = puts_so node.end x (with_tunnel node.end i u) i u o.after (record { config = refl; role = refl; tunnels = refl }) in
      let channel = channel_zero laws codecs again room w h n node sender moment ev mv x d k t o.there o.current zero in
      let live = live_zero laws codecs again room w h n node sender moment ev mv x d k t o.there o.current zero in
      let waits = unlearned_waits h.accounts i 0 a t a.part channel.state one in
      let is_open = open_unless_shut h.accounts i 0 a t a.part channel.state (λ four. let no_ : ⊥ = omega (arith, one, four) in no_) in
      let alike = end_alike w n node x k.there in
      let comes = comes_zero laws codecs again room w h n node sender moment ev mv x d k t o.there o.current zero o.letter o.takes.next.comes in
      let does : Connects e0 ev m (with_tunnel e0 i (bare u)) = record {
        tunnel = bare t;
        there = alone_there node.end i t;
        current = refl;
        state = o.state;
        opening = o.opening;
        letter = o.letter;
        takes = taking_bare ev t o.letter m.taken o.takes;
        said = o.said;
        peer = o.peer;
        remote = o.remote;
        window = o.window;
        flags = o.flags;
        right = o.right;
        able = o.able;
        responds = o.responds;
        room = o.room;
        given = o.given;
        after = refl;
      } in
      let extends = gives_extends d a _ (takes_extends d m.taken a _ (turns_extends a m.remote a.closed (inl (is_open, waits.0)) (inr refl))) in
      let ids = ap (λ (e : End). e.tunnel_ids) o.after in
      let early = λ (lt : state_number u.control.state < 3). let same = ap state_number (learns_state m.window (record t.control { remote = m.remote; flags = m.flags; state = Established })) in
      let no_ : ⊥ = omega (arith, lt, same) in absurd no_ in
      let only_there = only laws codecs again room w h n node sender moment ev mv x d k t o.there o.current zero tt plain v refl alike comes (with_tunnel e0 i (bare u)) does u (at_new e0.tunnels i (bare u)) (λ y. refl)
      extends refl (λ known is. absurd (known waits.0)) puts ids refl refl early in
      let account_there = account laws codecs again room w h n node sender moment ev mv x d k t o.there o.current zero tt plain v refl alike comes (with_tunnel e0 i (bare u)) does u (at_new e0.tunnels i (bare u)) (λ y. refl)
      extends refl (λ known is. absurd (known waits.0)) puts ids refl refl early in
      let own : ((after h d).accounts n i 0).part ≡ Opener = part_on a ((after h d).accounts n i 0) only_there.here live.made ∙ waits.1 in
      first_holds laws codecs again room w h n node sender moment ev mv x d k t o.there o.current zero tt plain v refl alike comes (with_tunnel e0 i (bare u)) does u (at_new e0.tunnels i (bare u)) (λ y. refl)
      extends refl (λ known is. absurd (known waits.0)) puts ids refl refl early
      (alone_with_acceptor w v h (after h d) n node.end x k.holds (both_there k.there k.holds).0 i u puts
      (live_first laws codecs again room w h n node sender moment ev mv x d k t o.there o.current zero tt plain v refl alike comes (with_tunnel e0 i (bare u)) does u (at_new e0.tunnels i (bare u)) (λ y. refl)
      extends refl (λ known is. absurd (known waits.0)) puts ids refl refl early)
      only_there (subst (IsPart v (after h d) n i 0 ((after h d).accounts n i 0)) own account_there.part).1
      (remote_first laws codecs again room w h n node sender moment ev mv x d k t o.there o.current zero tt plain v refl alike comes (with_tunnel e0 i (bare u)) does u (at_new e0.tunnels i (bare u)) (λ y. refl)
      extends refl (λ known is. absurd (known waits.0)) puts ids refl refl early)
      own)

  pub rejected_keeps : (m : Rejected) → IsMoved w h n node sender moment ev (move.Rejected m) x d → Holds (moves_on w n node (move.Rejected m) x) (after h d)
  unfolding moved
  rejected_keeps m k =
      let o = k.does in
      let t = o.tunnel in
      let mv = move.Rejected m in
      let i = m.tunnel in
      let one : state_number t.control.state ≡ 1 = o.waits in
      let zero = early_zero w h k.holds n i t ((both_there k.there k.holds).0.live i t o.there) o.current (omega (arith, one)) in
      let s : Tunnel = with_letter 0 (StopCcn m.tunnel m.result m.error) (record t { control = record (counts_taken t.control) { state = state.Closed; remote = m.remote; closed = moment } }) in
      let u : Tunnel = record s { calls = [] } in
      let e0 = alone_in node.end i t in
      let a = h.accounts n i 0 in
      let v = with_end w n node x in
      let plain = plain_deed laws codecs again room w h n node sender moment ev x d mv k.deed.move_is (λ p j. refl) (λ p q z. refl) (λ p q z. refl) in
      let puts = puts_so node.end x (without_calls node.end i s t.calls) i u o.after (record { config = refl; role = refl; tunnels = refl }) in
      let channel = channel_zero laws codecs again room w h n node sender moment ev mv x d k t o.there o.current zero in
      let live = live_zero laws codecs again room w h n node sender moment ev mv x d k t o.there o.current zero in
      let waits = unlearned_waits h.accounts i 0 a t a.part channel.state one in
      let is_open = open_unless_shut h.accounts i 0 a t a.part channel.state (λ four. let no_ : ⊥ = omega (arith, one, four) in no_) in
      let alike = end_alike w n node x k.there in
      let comes = comes_zero laws codecs again room w h n node sender moment ev mv x d k t o.there o.current zero o.letter o.takes.next.comes in
      let does : Rejects e0 moment ev m (without_calls e0 i (bare s) t.calls) = record {
        tunnel = bare t;
        there = alone_there node.end i t;
        current = refl;
        waits = o.waits;
        on = o.on;
        letter = o.letter;
        takes = taking_bare ev t o.letter m.taken o.takes;
        why = subst (λ q. LetterCloses node.end.config.secret t.control q o.letter o.on m.remote m.result m.error) (live.query.none zero)
            o.why;
        row = o.row;
        room = o.room;
        given = o.given;
        after = refl;
      } in
      let extends = gives_extends d a _ (takes_extends d m.taken a _ (turns_extends a m.remote (Some (length a.taken)) (inl (is_open, waits.0)) (inl is_open))) in
      let ids = ap (λ (e : End). e.tunnel_ids) o.after in
      let early = λ (lt : state_number u.control.state < 3). let no_ : ⊥ = omega (arith, lt) in absurd no_ in
      let only_there = only laws codecs again room w h n node sender moment ev mv x d k t o.there o.current zero tt plain v refl alike comes (without_calls e0 i (bare s) t.calls) does u (at_new e0.tunnels i (bare u)) (λ y. refl)
      extends refl (λ known is. absurd (known waits.0)) puts ids refl refl early in
      let account_there = account laws codecs again room w h n node sender moment ev mv x d k t o.there o.current zero tt plain v refl alike comes (without_calls e0 i (bare s) t.calls) does u (at_new e0.tunnels i (bare u)) (λ y. refl)
      extends refl (λ known is. absurd (known waits.0)) puts ids refl refl early in
      let own : ((after h d).accounts n i 0).part ≡ Opener = part_on a ((after h d).accounts n i 0) only_there.here live.made ∙ waits.1 in
      first_holds laws codecs again room w h n node sender moment ev mv x d k t o.there o.current zero tt plain v refl alike comes (without_calls e0 i (bare s) t.calls) does u (at_new e0.tunnels i (bare u)) (λ y. refl)
      extends refl (λ known is. absurd (known waits.0)) puts ids refl refl early
      (alone_with_acceptor w v h (after h d) n node.end x k.holds (both_there k.there k.holds).0 i u puts
      (live_first laws codecs again room w h n node sender moment ev mv x d k t o.there o.current zero tt plain v refl alike comes (without_calls e0 i (bare s) t.calls) does u (at_new e0.tunnels i (bare u)) (λ y. refl)
      extends refl (λ known is. absurd (known waits.0)) puts ids refl refl early)
      only_there (subst (IsPart v (after h d) n i 0 ((after h d).accounts n i 0)) own account_there.part).1
      (remote_first laws codecs again room w h n node sender moment ev mv x d k t o.there o.current zero tt plain v refl alike comes (without_calls e0 i (bare s) t.calls) does u (at_new e0.tunnels i (bare u)) (λ y. refl)
      extends refl (λ known is. absurd (known waits.0)) puts ids refl refl early)
      own)
