-- The moves of a step that the machine has none for.
use Rattle.std.proofs.Common.{◌≡◌, inl, inr, ⊎_elim, ℕ, Bool, true, false, List, refl, sym, ap, ◌∙◌, subst, Option, Some, None}
use Rattle.std.specs.Prelude.{is_some, if◌then◌else◌, ◌==◌, ◌&&◌}
use Rattle.id_table.specs.Ids.{at, put}
use Rattle.id_table.specs.Order.{at_new, at_other, same_or_not}
use Rattle.control_channel.specs.Channel.{Channel}
use Rattle.session_book.specs.Books.{Kept}
use Rattle.end_model.specs.declared.event.Event.{Event}
use Rattle.end_model.specs.declared.moves.Move.{Move}
use Rattle.end_model.specs.declared.moves.Move.TheVariants as move
use Rattle.end_model.specs.declared.moves.NrRead.{NrRead}
use Rattle.end_model.specs.declared.moves.Restored.{Restored}
use Rattle.end_model.specs.declared.moves.Froze.{Froze}
use Rattle.end_model.specs.declared.tunnel.Call.{Call}
use Rattle.end_model.specs.declared.tunnel.Mode.TheVariants.{Current}
use Rattle.end_model.specs.Tunnels.{Tunnel, Recovering, ByAttempt, ByAnswer, connection_of, with_connection, is_finished, mode_by, mode_of, is_current}
use Rattle.end_model.specs.Channels.{counts_acked, counts_sent, counts_repeated}
use Rattle.control_channel.specs.Numbers.{count_acked}
use Rattle.end_model.specs.Links.{with_link}
use Rattle.end_model.specs.Calls.{counted}
use Rattle.call_link.specs.Laws.{turn_at}
use Rattle.std.specs.Prelude.{drop}
use Rattle.end_model.specs.End.{End}
use Rattle.world_model.specs.World.{World, Node, Sender, Deed, moved}
use Rattle.epoch_machine.specs.Worlds as machine
use Rattle.epoch_machine.specs.Tunnels.{Attempts, Answers}
use Rattle.session_laws.specs.Names.{name, phase_of}
use Rattle.channel_laws.specs.Accounts.{Account, History, about, declines_of, declined_in, entered_by, after_deed, attempts_by, answers_by, after}
use Rattle.channel_laws.specs.Steps.{moves_on, IsStill}
use Rattle.channel_laws.proofs.Still.{same_history, nothing_by}
use Rattle.recovery_laws.specs.Joined.{phase_by, phase_in}
use Rattle.join_laws.specs.Steps.{Joins}
use Rattle.join_laws.specs.Moves.{IsNone, StillMovesJoin}
use Rattle.join_laws.proofs.Calls.{LooksLike, like_same}
use Rattle.join_laws.proofs.Letters.{same_phase}
use Rattle.join_laws.proofs.Still.{Like, Left, Same, Other, still_follows}

-- ---- one call is put

call_put : (calls : List (ℕ × Call)) (s : ℕ) (c d : Call) → at calls s ≡ Some c → d.state ≡ c.state → d.remote ≡ c.remote → (q : ℕ)
    → LooksLike (at calls q) (at (put calls s d) q)
call_put calls s c d live state remote q = ⊎_elim
    (λ (e : q ≡ s).
    subst (λ y. LooksLike (at calls y) (at (put calls s d) y)) (sym e)
    (subst (λ y. LooksLike y (at (put calls s d) s)) (sym live) (subst (λ y. LooksLike (Some c) y) (sym (at_new calls s d)) (
      state,
      remote,
    ))))
    (λ o. like_same (at calls q) (at (put calls s d) q) (at_other calls s d q o))
    (same_or_not q s)

-- ---- recovery tunnels

abbrev gone_on : Channel → Bool → ℕ → Recovering → Recovering
gone_on channel closed remote r = with_connection (record (connection_of r) { channel = channel; closed = closed; remote = remote }) r

same_mode : (channel : Channel) (closed : Bool) (remote : ℕ) (r : Recovering)
    → mode_of (Some (gone_on channel closed remote r)) ≡ mode_of (Some r)
same_mode channel closed remote (ByAttempt c) = refl
same_mode channel closed remote (ByAnswer a) = refl

gone_phase : (n : ℕ) (t : Tunnel) (channel : Channel) (closed : Bool) (remote : ℕ) (r : Recovering) → t.recovery ≡ Some r
    → phase_in n (Some (record t { recovery = Some (gone_on channel closed remote r) })) ≡ phase_in n (Some t)
gone_phase n t channel closed remote (ByAttempt c) has = sym (ap (phase_by n t) has)
gone_phase n t channel closed remote (ByAnswer a) has = sym (ap (phase_by n t) has)

-- one that is finished doesn't count
ended_phase : (n : ℕ) (t : Tunnel) (r : Recovering) → t.recovery ≡ Some r → is_finished r ≡ true
    → phase_in n (Some (record t { recovery = None })) ≡ phase_in n (Some t)
ended_phase n t (ByAttempt c) has finished =
    sym (ap (phase_by n t) has ∙ ap (λ b. if b then phase_of t.control.state else Attempts (name n c.local)) finished)
ended_phase n t (ByAnswer a) has finished =
    sym (ap (phase_by n t) has
    ∙ ap (λ b. if b then phase_of t.control.state else Answers (name n a.connection.local)) finished)

ended_mode : (r : Recovering) → is_finished r ≡ true → is_current (mode_of None) ≡ is_current (mode_of (Some r))
ended_mode r finished = sym (ap (λ b. is_current (if b then Current else mode_by r)) finished)

-- ---- the history

-- a deed that leaves each account as it is, and is no attempt and no answer
pub same_after : (h : History) (d : Deed) (m : Move) → d.move ≡ m → ((a : Account) → entered_by d m a ≡ a) → ((p i : ℕ)
    → declines_of m p i ≡ false)
    → ((p a : ℕ) (o : Option Restored) → attempts_by d m p a o ≡ o) → ((p c : ℕ) (o : Option Froze) → answers_by d m p c o ≡ o)
    → after h d ≡ h
same_after h d m is enters declines attempts answers = λ j. record {
  accounts = λ p i e. account p i e (h.accounts p i e) j;
  attempts = λ p a. (ap (λ y. attempts_by d y p a (h.attempts p a)) is ∙ attempts p a (h.attempts p a)) j;
  answers = λ p c. (ap (λ y. answers_by d y p c (h.answers p c)) is ∙ answers p c (h.answers p c)) j;
}
  where
    by : (b : Bool) (a : Account) → (if b then entered_by d d.move a else a) ≡ a
    by true a = ap (λ y. entered_by d y a) is ∙ enters a
    by false a = refl

    account : (p i e : ℕ) (a : Account) → after_deed d p i e a ≡ a
    account p i e a =
        ap (λ b. declined_in (b && (e == 0)) (if ((d.node == p) && (about d.move == i)) && (d.epoch == e) then entered_by d d.move a
        else a))
        (ap (λ y. declines_of y p i) is ∙ declines p i)
        ∙ by (((d.node == p) && (about d.move == i)) && (d.epoch == e)) a

-- ---- the moves

pub still_moves_join : StillMovesJoin
unfolding moved
still_moves_join (move.Quiet i) is w h n node sender moment ev x d k j q b new =
    let o = q.moved.does in
    still_follows w h n node sender moment ev (move.Quiet i) x d k j q b new refl (same_history h d (nothing_by d (move.Quiet i) tt
    q.moved.deed.move_is))
    (ap (λ (y : End). y.session_ids) o.after) i (Same (ap (λ (y : End). y.tunnels) o.after))
still_moves_join (move.FrameSent m) is w h n node sender moment ev x d k j q b new =
    let o = q.moved.does in
    still_follows w h n node sender moment ev (move.FrameSent m) x d k j q b new refl (same_history h d (nothing_by d (move.FrameSent
    m) tt q.moved.deed.move_is))
    (ap (λ (y : End). y.session_ids) o.after) m.tunnel (Same (ap (λ (y : End). y.tunnels) o.after))
still_moves_join (move.FrameUp m) is w h n node sender moment ev x d k j q b new =
    let o = q.moved.does in
    still_follows w h n node sender moment ev (move.FrameUp m) x d k j q b new refl (same_history h d (nothing_by d (move.FrameUp m) tt
    q.moved.deed.move_is))
    (ap (λ (y : End). y.session_ids) o.after) m.tunnel (Same (ap (λ (y : End). y.tunnels) o.after))
still_moves_join (move.LetGo m) is w h n node sender moment ev x d k j q b new =
    let o = q.moved.does in
    let t = o.tunnel in
    let r : Tunnel = record t { control = counts_sent moment t.control } in
    still_follows w h n node sender moment ev (move.LetGo m) x d k j q b new refl (same_history h d (nothing_by d (move.LetGo m) tt
    q.moved.deed.move_is))
    (ap (λ (y : End). y.session_ids) o.after) m.tunnel (Other t r (record {
      at_t = o.there;
      put_is = ap (λ (y : End). y.tunnels) o.after;
      state = refl;
      current = refl;
      phase = same_phase n t r refl refl;
      query = refl;
      calls = λ s. like_same (at t.calls s) (at t.calls s) refl;
    }))
still_moves_join (move.Repeated m) is w h n node sender moment ev x d k j q b new =
    let o = q.moved.does in
    let t = o.tunnel in
    let r : Tunnel = record t { control = counts_repeated moment t.control } in
    still_follows w h n node sender moment ev (move.Repeated m) x d k j q b new refl (same_history h d (nothing_by d (move.Repeated m)
    tt q.moved.deed.move_is))
    (ap (λ (y : End). y.session_ids) o.after) m.tunnel (Other t r (record {
      at_t = o.there;
      put_is = ap (λ (y : End). y.tunnels) o.after;
      state = refl;
      current = refl;
      phase = same_phase n t r refl refl;
      query = refl;
      calls = λ s. like_same (at t.calls s) (at t.calls s) refl;
    }))
still_moves_join (move.NrRead m) is w h n node sender moment ev x d k j q b new =
    let o = q.moved.does in
    let t = o.tunnel in
    let r : Tunnel = record t {
      control = record (counts_acked m.nr moment t.control) { heard = moment };
      letters = drop (count_acked t.control.channel m.nr) t.letters;
    } in
    still_follows w h n node sender moment ev (move.NrRead m) x d k j q b new refl
    (same_after h d (move.NrRead m) q.moved.deed.move_is (λ a. refl) (λ p i. refl) (λ p a f. refl) (λ p c f. refl))
    (ap (λ (y : End). y.session_ids) o.after) m.tunnel (Other t r (record {
      at_t = o.there;
      put_is = ap (λ (y : End). y.tunnels) o.after;
      state = refl;
      current = refl;
      phase = same_phase n t r refl refl;
      query = refl;
      calls = λ s. like_same (at t.calls s) (at t.calls s) refl;
    }))
still_moves_join (move.Negotiated m) is w h n node sender moment ev x d k j q b new =
    let o = q.moved.does in
    let t = o.tunnel in
    let call = with_link (turn_at o.calls.by o.calls.link).link o.call in
    let r : Tunnel = record t { calls = put t.calls m.session call } in
    still_follows w h n node sender moment ev (move.Negotiated m) x d k j q b new refl (same_history h d (nothing_by d (move.Negotiated
    m) tt q.moved.deed.move_is))
    (ap (λ (y : End). y.session_ids) o.after) m.tunnel (Other t r (record {
      at_t = o.there;
      put_is = ap (λ (y : End). y.tunnels) o.after;
      state = refl;
      current = refl;
      phase = same_phase n t r refl refl;
      query = refl;
      calls = call_put t.calls m.session o.call call o.live refl refl;
    }))
still_moves_join (move.Counted m) is w h n node sender moment ev x d k j q b new =
    let o = q.moved.does in
    let t = o.tunnel in
    let r : Tunnel = record t { calls = put t.calls m.session (counted o.call) } in
    still_follows w h n node sender moment ev (move.Counted m) x d k j q b new refl (same_history h d (nothing_by d (move.Counted m) tt
    q.moved.deed.move_is))
    (ap (λ (y : End). y.session_ids) o.after) m.tunnel (Other t r (record {
      at_t = o.there;
      put_is = ap (λ (y : End). y.tunnels) o.after;
      state = refl;
      current = refl;
      phase = same_phase n t r refl refl;
      query = refl;
      calls = call_put t.calls m.session o.call (counted o.call) o.live refl refl;
    }))
still_moves_join (move.RecoveryWentOn i) is w h n node sender moment ev x d k j q b new =
    let o = q.moved.does in
    let t = o.tunnel in
    let r : Tunnel = record t { recovery = Some (gone_on o.channel o.closed o.remote o.old) } in
    still_follows w h n node sender moment ev (move.RecoveryWentOn i) x d k j q b new refl
    (same_history h d (nothing_by d (move.RecoveryWentOn i) tt q.moved.deed.move_is))
    (ap (λ (y : End). y.session_ids) o.after) i (Other t r (record {
      at_t = o.there;
      put_is = ap (λ (y : End). y.tunnels) o.after;
      state = refl;
      current = ap is_current (same_mode o.channel o.closed o.remote o.old ∙ ap mode_of (sym o.has));
      phase = gone_phase n t o.channel o.closed o.remote o.old o.has;
      query = refl;
      calls = λ s. like_same (at t.calls s) (at t.calls s) refl;
    }))
still_moves_join (move.RecoveryEnded i) is w h n node sender moment ev x d k j q b new =
    let o = q.moved.does in
    let t = o.tunnel in
    let r : Tunnel = record t { recovery = None } in
    still_follows w h n node sender moment ev (move.RecoveryEnded i) x d k j q b new refl
    (same_history h d (nothing_by d (move.RecoveryEnded i) tt q.moved.deed.move_is))
    (ap (λ (y : End). y.session_ids) o.after) i (Other t r (record {
      at_t = o.there;
      put_is = ap (λ (y : End). y.tunnels) o.after;
      state = refl;
      current = ended_mode o.old o.finished ∙ ap (λ y. is_current (mode_of y)) (sym o.has);
      phase = ended_phase n t o.old o.has o.finished;
      query = refl;
      calls = λ s. like_same (at t.calls s) (at t.calls s) refl;
    }))
still_moves_join (move.Ignored i) is w h n node sender moment ev x d k j q b new =
    let o = q.moved.does in
    let t = o.tunnel in
    let r : Tunnel = record t { control = record t.control { heard = moment } } in
    still_follows w h n node sender moment ev (move.Ignored i) x d k j q b new refl (same_history h d (nothing_by d (move.Ignored i) tt
    q.moved.deed.move_is))
    (ap (λ (y : End). y.session_ids) o.after) i (Other t r (record {
      at_t = o.there;
      put_is = ap (λ (y : End). y.tunnels) o.after;
      state = refl;
      current = refl;
      phase = same_phase n t r refl refl;
      query = refl;
      calls = λ s. like_same (at t.calls s) (at t.calls s) refl;
    }))
still_moves_join m is w h n node sender moment ev x d k j q b new = absurd is
