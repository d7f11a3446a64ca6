-- The records of each move are in place, and the book after them is that of the end after the move.
use Rattle.std.proofs.Common.{◌≡◌, ℕ, ◌+◌, ◌<◌, ◌==◌, suc, zero, true, false, cond, [], ◌∷◌, length, Some, None, refl, sym, ◌∙◌, ap, subst, arith, Ok}
use Rattle.std.specs.Prelude.{nat_le, replicate, max, is_some, is_none, not, ◌&&◌, Option, Bool}
use Rattle.std.proofs.lemmas.Bool.{true≢false}
use Rattle.std.proofs.lemmas.Bool.Decides.{nat_tests}
use Rattle.id_source.specs.Spaces.{Space, takes_id, after_id, draw_is, next_is}
use Rattle.tunnel_fsm.specs.Rows.{state_number}
use Rattle.tunnel_fsm.specs.declared.table.TunnelState.TheVariants as tunnel_state
use Rattle.call_fsm.specs.declared.table.CallEvent.TheVariants as call_event
use Rattle.control_message.specs.declared.message.Message.TheVariants.{Sccrq, Sccrp}
use Rattle.session_book.specs.declared.record.BookCall.{BookCall}
use Rattle.session_book.specs.declared.record.Record.TheVariants.{CallUp}
use Rattle.session_book.specs.Books.{Kept}
use Rattle.end_model.specs.declared.event.Event.{Event}
use Rattle.end_model.specs.declared.moves.Move.{Move}
use Rattle.end_model.specs.declared.moves.Move.TheVariants as move
use Rattle.end_model.specs.declared.tunnel.Call.{Call}
use Rattle.end_model.specs.declared.tunnel.Control.{Control}
use Rattle.end_model.specs.Calls.{is_up, advanced, rung, asked_for, with_numbers, counted}
use Rattle.end_model.specs.Channels.{counts_given, counts_taken}
use Rattle.end_model.specs.Contents.{records_of}
use Rattle.end_model.specs.End.{End}
use Rattle.end_model.specs.Links.{with_link}
use Rattle.end_model.specs.Messages.{flags_of}
use Rattle.end_model.specs.Moments.{is_open}
use Rattle.end_model.specs.Tunnels.{Tunnel, Recovering, ByAttempt, ByAnswer, connection_of, with_connection, mode_by, mode_of, is_current}
use Rattle.end_model.specs.declared.tunnel.Mode.TheVariants.{Current}
use Rattle.end_model.specs.Recovering.{frozen_control}
use Rattle.control_channel.specs.Channel.{Channel}
use Rattle.recovery_tunnel.specs.Connections.{ControlConnection, is_waiting}
use Rattle.recovery_tunnel.specs.Answers.{Answering}
use Rattle.call_link.specs.Laws.{turn_at}
use Rattle.step_laws.specs.Callers.{wanted_by_lac}
use Rattle.call_link.specs.Link.{new_link}
use Rattle.step_laws.specs.Moves.{Does, begun, begun_anew, finished_of}
use Rattle.step_laws.specs.Steps.{IsOfNoStart}
use Rattle.book_laws.specs.Books.{Mirrors, AreDrawn, HasNone, CallFits, TablesFit, booked_call}
use Rattle.book_laws.proofs.Fitting.{Grows, call_later, tunnel_later, control_fits, more_few, asks_fit}
use Rattle.book_laws.proofs.Finished.{finished_fits, finished_found, finished_record}
use Rattle.book_laws.proofs.States.{requested_state, replied_state, rung_state, connected_state, connection_is_lac, reply_is_lns, connected_is_lns, not_up_before, rung_none, asked_none, lac_none, lns_none, alike_none, lns_subscriber, numbers_first, numbers_after, no_number_after}
use Rattle.book_laws.proofs.Told.{IsTold, body_tells}
use Rattle.book_laws.proofs.Windows.{acked_leaves, sent_leaves, repeated_leaves, learnt_is}
use Rattle.book_laws.proofs.Changes.{GoesOn, SameControl, same_control, grows_so, nothing_goes, line_goes, control_goes, tunnel_marks, tunnel_opens, tunnel_born, call_goes, call_rises, call_born, call_ends, tunnel_shuts, tunnel_clears, down_record}
use Rattle.book_laws.proofs.Ending.{answer_goes}

positive : (n : ℕ) → (n ≡ 0 → ⊥) → 0 < n
positive zero h = absurd (h refl)
positive (suc n) h = omega arith

drawn_next : (s : Space) (k : ℕ) → takes_id s ≡ Ok k → (after_id s).next ≡ k + 1
drawn_next s k h = ap (λ (d : Space). d.next) (next_is s k h)

not_all : (n : ℕ) → nat_le 4096 n ≡ false → n < 4096
not_all n h = grind (arith, nat_tests)

given : (c : Control) → SameControl c (counts_given c)
given c = record { state = refl; remote = refl; peer = refl; window = refl; flags = refl; mark = refl }

taken : (c : Control) → SameControl c (counts_taken c)
taken c = record { state = refl; remote = refl; peer = refl; window = refl; flags = refl; mark = refl }

taken_given : (c : Control) → SameControl c (counts_given (counts_taken c))
taken_given c = record { state = refl; remote = refl; peer = refl; window = refl; flags = refl; mark = refl }

-- ---- recovery tunnels

-- one that waits hasn't reset its tunnel
waiting_not : (o : Option ℕ) (closed : Bool) → (is_none o && not closed) ≡ true → is_some o ≡ false
waiting_not None closed h = refl
waiting_not (Some n) closed h = absurd (true≢false (sym h))

attempt_waits : (q : Option Recovering) (c : ControlConnection) → q ≡ Some (ByAttempt c) → is_waiting c ≡ true → is_current (mode_of q) ≡ false
attempt_waits q c is waits =
    ap (λ o. is_current (mode_of o)) is ∙ ap (λ b. is_current (cond b Current (mode_by (ByAttempt c)))) (waiting_not c.reset c.closed waits)

answer_waits : (q : Option Recovering) (a : Answering) → q ≡ Some (ByAnswer a) → is_waiting a.connection ≡ true → is_current (mode_of q) ≡ false
answer_waits q a is waits =
    ap (λ o. is_current (mode_of o)) is ∙ ap (λ b. is_current (cond b Current (mode_by (ByAnswer a)))) (waiting_not a.connection.reset a.connection.closed waits)

-- as its channel goes on, it is as it was
still_so : (r : Recovering) (channel : Channel) (closed : Bool) (remote : ℕ)
    → is_current (mode_of (Some (with_connection (record (connection_of r) { channel = channel; closed = closed; remote = remote }) r))) ≡ false
    → is_current (mode_of (Some r)) ≡ false
still_so (ByAttempt c) channel closed remote h = h
still_so (ByAnswer a) channel closed remote h = h

module _ (e x : End) where
  same_spaces : x.role ≡ e.role → x.tunnel_ids ≡ e.tunnel_ids → x.session_ids ≡ e.session_ids → Grows e x
  same_spaces = grows_so e x

  -- a tunnel id is drawn, or a session id
  pub draws_tunnel : (i : ℕ) → takes_id e.tunnel_ids ≡ Ok i → x.role ≡ e.role → x.tunnel_ids ≡ after_id e.tunnel_ids → x.session_ids ≡ e.session_ids → Grows e x
  draws_tunnel i is role tunnels sessions = record {
    role = role;
    tunnels = (let fresh = (draw_is e.tunnel_ids i is).0 in let next = ap (λ (s : Space). s.next) tunnels ∙ drawn_next e.tunnel_ids i is in omega (arith, fresh, next));
    sessions = (let q = ap (λ (s : Space). s.next) sessions in omega (arith, q));
  }

  draws_session : (i : ℕ) → takes_id e.session_ids ≡ Ok i → x.role ≡ e.role → x.tunnel_ids ≡ e.tunnel_ids → x.session_ids ≡ after_id e.session_ids → Grows e x
  draws_session i is role tunnels sessions = record {
    role = role;
    tunnels = (let q = ap (λ (s : Space). s.next) tunnels in omega (arith, q));
    sessions = (let fresh = (draw_is e.session_ids i is).0 in let next = ap (λ (s : Space). s.next) sessions ∙ drawn_next e.session_ids i is in omega (arith, fresh, next));
  }

  -- a call that is there goes on so
  call_then : (t u : Tunnel) (s : ℕ) (c d : Call) → Grows e x → CallFits e t s c → HasNone e.role d → (is_up d.state ≡ true → state_number u.control.state ≡ 3) → CallFits x u s d
  call_then t u s c d grows fits none up = record {
    some = fits.some;
    drawn = (call_later e x grows t s c fits).drawn;
    none = subst (λ r. HasNone r d) (sym grows.role) none;
    up = up;
  }

  -- one that is born
  call_first : (u : Tunnel) (s : ℕ) (d : Call) → Grows e x → TablesFit e → takes_id e.session_ids ≡ Ok s → x.session_ids ≡ after_id e.session_ids → HasNone e.role d → is_up d.state ≡ false
      → CallFits x u s d
  call_first u s d grows fit is after none down = record {
    some = (let fresh = (draw_is e.session_ids s is).0 in let some = fit.first_session in omega (arith, fresh, some));
    drawn = (let next = ap (λ (q : Space). q.next) after ∙ drawn_next e.session_ids s is in omega (arith, next));
    none = subst (λ r. HasNone r d) (sym grows.role) none;
    up = λ up. absurd (let both : true ≡ false = sym up ∙ down in cc);
  }

module _ (e x : End) (k : Kept) (fit : TablesFit e) (drawn : AreDrawn e k) (book : Mirrors e k) where
  pub does_go : (moment : ℕ) (ev : Event) (m : Move) → IsOfNoStart m → Does e moment ev m x → GoesOn e x k (records_of m)
  unfolding records_of advanced
  does_go moment ev (move.Opened m) so h =
      let fresh = (draw_is e.tunnel_ids m.tunnel h.drawn).0 in
      let ids = ap (λ (y : End). y.tunnel_ids) h.after in
      let next = ap (λ (s : Space). s.next) ids ∙ drawn_next e.tunnel_ids m.tunnel h.drawn in
      let is = ap (λ (y : End). y.tunnels) h.after in
      let grows = draws_tunnel e x m.tunnel h.drawn (ap (λ (y : End). y.role) h.after) ids (ap (λ (y : End). y.session_ids) h.after) in
      tunnel_born e x k fit drawn book m.tunnel _ _ grows fresh (omega (arith, next)) is (more_few e x fit grows m.tunnel _ h.few is) refl (λ two. absurd (omega (arith, two))) (let some : 0 < 4 = omega arith in some) refl
  does_go moment ev (move.Accepted m) so h =
      let fresh = (draw_is e.tunnel_ids m.tunnel h.drawn).0 in
      let ids = ap (λ (y : End). y.tunnel_ids) h.after in
      let next = ap (λ (s : Space). s.next) ids ∙ drawn_next e.tunnel_ids m.tunnel h.drawn in
      let is = ap (λ (y : End). y.tunnels) h.after in
      let told : IsTold h.opening = body_tells h.hears.1.letter.body (Sccrq h.opening) h.hears.1.says.said in
      let some : m.window ≡ 0 → ⊥ = λ z. told.1 (sym h.window ∙ z) in
      let l = learnt_is m.window (record (begun m.tunnel m.peer m.remote tunnel_state.WaitCtlConn moment m.challenge) { flags = flags_of h.opening.failover }) some in
      let grows = draws_tunnel e x m.tunnel h.drawn (ap (λ (y : End). y.role) h.after) ids (ap (λ (y : End). y.session_ids) h.after) in
      tunnel_born e x k fit drawn book m.tunnel _ _ grows fresh (omega (arith, next)) is (more_few e x fit grows m.tunnel _ h.few is)
      (ap is_open l.state)
      (λ two. subst (λ n. 0 < n) (sym l.remote) (positive m.remote (λ z. told.0 (sym h.remote ∙ z))))
      (subst (λ n. 0 < n) (sym l.window) (positive m.window some))
      l.mark
  does_go moment ev (move.Connected m) so h =
      let told : IsTold h.opening = body_tells h.letter.body (Sccrp h.opening) h.said in
      let some : m.window ≡ 0 → ⊥ = λ z. told.1 (sym h.window ∙ z) in
      let l = learnt_is m.window (record h.tunnel.control { remote = m.remote; flags = m.flags; state = tunnel_state.Established }) some in
      tunnel_opens e x k fit drawn book m.tunnel h.tunnel _ _ (record { local = m.tunnel; remote = m.remote; peer = m.peer; window = m.window; flags = m.flags; mark = 0 }) h.there h.after
      (ap is_open h.state) (ap state_number l.state)
      (let unmarked = l.mark ∙ (fit.tunnels m.tunnel h.tunnel h.there).unmarked (let one = ap state_number h.state in omega (arith, one)) in
      rw (l.remote, l.peer, l.window, l.flags, h.peer, unmarked) refl)
      (positive m.remote (λ z. told.0 (sym h.remote ∙ z)))
      (positive m.window some)
  does_go moment ev (move.Confirmed m) so h =
      let old = fit.tunnels m.tunnel h.tunnel h.there in
      tunnel_opens e x k fit drawn book m.tunnel h.tunnel _ _ (record { local = m.tunnel; remote = m.remote; peer = m.peer; window = m.window; flags = m.flags; mark = 0 }) h.there h.after
      (ap is_open h.state) refl
      (let unmarked = old.unmarked (let two = ap state_number h.state in omega (arith, two)) in rw (h.remote, h.peer, h.window, h.flags, unmarked) refl)
      (subst (λ n. 0 < n) (sym h.remote) (old.remote (ap state_number h.state)))
      (subst (λ n. 0 < n) (sym h.window) old.window)
  does_go moment ev (move.Added m) so h =
      let ids = ap (λ (y : End). y.session_ids) h.after in
      let grows = draws_session e x m.session h.drawn (ap (λ (y : End). y.role) h.after) (ap (λ (y : End). y.tunnel_ids) h.after) ids in
      let new = rung e.role m.subscriber moment in
      let lac = wanted_by_lac e ev h.tunnel.control.peer h.wants in
      let down : is_up new.state ≡ false = ap is_up (rung_state e.role m.subscriber moment lac) in
      call_born e x k fit drawn book m.tunnel h.tunnel h.tunnel.control h.tunnel.letters m.session new h.there grows (ap (λ (y : End). y.tunnels) h.after) (same_control h.tunnel.control)
      (draw_is e.session_ids m.session h.drawn).0 (not_all (length h.tunnel.calls) h.few)
      (call_first e x h.tunnel m.session new grows fit h.drawn ids (rung_none e.role m.subscriber moment lac) down) down
  does_go moment ev (move.Requested m) so h =
      let grows = same_spaces e x (ap (λ (y : End). y.role) h.after) (ap (λ (y : End). y.tunnel_ids) h.after) (ap (λ (y : End). y.session_ids) h.after) in
      let new = advanced e.role call_event.TunnelOpen moment h.call in
      let state = requested_state e.role h.call.state h.row in
      let was = (fit.tunnels m.tunnel h.tunnel h.there).calls m.session h.call h.waits in
      call_goes e x k fit drawn book m.tunnel h.tunnel _ _ m.session new h.there grows (ap (λ (y : End). y.tunnels) h.after) (given h.tunnel.control) h.call h.waits
      (call_then e x h.tunnel _ m.session h.call new grows was (alike_none e.role h.call new refl (λ n. n) was.none) (λ up. h.open_is))
      (down_record m.tunnel m.session new (ap is_up state.1) ∙ sym (down_record m.tunnel m.session h.call (ap is_up state.0)))
  does_go moment ev (move.Replied m) so h =
      let ids = ap (λ (y : End). y.session_ids) h.after in
      let grows = draws_session e x m.session h.drawn (ap (λ (y : End). y.role) h.after) (ap (λ (y : End). y.tunnel_ids) h.after) ids in
      let new = asked_for e.role m.remote moment in
      let down : is_up new.state ≡ false = ap is_up (replied_state e.role m.remote moment h.row) in
      call_born e x k fit drawn book m.tunnel h.tunnel _ _ m.session new h.there grows (ap (λ (y : End). y.tunnels) h.after) (taken_given h.tunnel.control)
      (draw_is e.session_ids m.session h.drawn).0 (not_all (length h.tunnel.calls) h.few)
      (call_first e x _ m.session new grows fit h.drawn ids (asked_none e.role m.remote moment (reply_is_lns e.role h.row)) down) down
  does_go moment ev (move.FirstUp m) so h =
      let grows = same_spaces e x (ap (λ (y : End). y.role) h.after) (ap (λ (y : End). y.tunnel_ids) h.after) (ap (λ (y : End). y.session_ids) h.after) in
      let called = record h.call { remote = m.remote } in
      let new = advanced e.role call_event.IcrpAcc moment called in
      let state = connected_state e.role h.call.state h.row in
      let was = (fit.tunnels m.tunnel h.tunnel h.there).calls m.session h.call h.asked in
      let none = lac_none e.role h.call (connection_is_lac e.role h.call.state h.row) was.none in
      let b : BookCall = record { local = m.session; tunnel = m.tunnel; remote = m.remote; subscriber = m.subscriber; sequenced = false } in
      let recorded : booked_call m.tunnel m.session new ≡ b = rw (none, h.subscriber) refl in
      subst (λ (r : BookCall). GoesOn e x k (CallUp r ∷ [])) recorded
      (call_rises e x k fit drawn book m.tunnel h.tunnel _ _ m.session new h.there grows (ap (λ (y : End). y.tunnels) h.after) (taken_given h.tunnel.control) h.call h.asked
      (call_then e x h.tunnel _ m.session h.call new grows was (alike_none e.role h.call new refl (λ n. n) was.none) (λ up. h.open_is))
      (ap (λ n. n == 3) h.open_is) (ap is_up state.0) (ap is_up state.1))
  does_go moment ev (move.SecondUp m) so h =
      let grows = same_spaces e x (ap (λ (y : End). y.role) h.after) (ap (λ (y : End). y.tunnel_ids) h.after) (ap (λ (y : End). y.session_ids) h.after) in
      let new = with_link (new_link (record { moment = moment; block = h.block })) (with_numbers m.sequenced (advanced e.role call_event.IccnAcc moment h.call)) in
      let lns = connected_is_lns e.role h.call.state h.row in
      let was = (fit.tunnels m.tunnel h.tunnel h.there).calls m.session h.call h.made in
      let zeros = lns_none e.role h.call lns was.none in
      let b : BookCall = record { local = m.session; tunnel = m.tunnel; remote = m.remote; subscriber = replicate 6 0; sequenced = m.sequenced } in
      let recorded : booked_call m.tunnel m.session new ≡ b = rw (zeros, h.remote, numbers_first m.sequenced) refl in
      subst (λ (r : BookCall). GoesOn e x k (CallUp r ∷ [])) recorded
      (call_rises e x k fit drawn book m.tunnel h.tunnel _ _ m.session new h.there grows (ap (λ (y : End). y.tunnels) h.after) (taken h.tunnel.control) h.call h.made
      (call_then e x h.tunnel _ m.session h.call new grows was (lns_subscriber e.role h.call new lns refl was.none) (λ up. h.open_is))
      (ap (λ n. n == 3) h.open_is) (not_up_before e.role h.call.state h.row) h.row)
  does_go moment ev (move.Refused m) so h = control_goes e x k fit drawn book m.tunnel h.tunnel _ _ h.there h.after (taken_given h.tunnel.control)
  does_go moment ev (move.EndTold m) so h =
      call_ends e x k fit drawn book m.tunnel h.tunnel _ _ m.session h.call h.there h.live
      (same_spaces e x (ap (λ (y : End). y.role) h.after) (ap (λ (y : End). y.tunnel_ids) h.after) (ap (λ (y : End). y.session_ids) h.after))
      (ap (λ (y : End). y.tunnels) h.after) (given h.tunnel.control) m.booked h.booked
  does_go moment ev (move.EndHeard m) so h =
      call_ends e x k fit drawn book m.tunnel h.tunnel _ _ m.session h.call h.there h.live
      (same_spaces e x (ap (λ (y : End). y.role) h.after) (ap (λ (y : End). y.tunnel_ids) h.after) (ap (λ (y : End). y.session_ids) h.after))
      (ap (λ (y : End). y.tunnels) h.after) (taken h.tunnel.control) m.booked h.booked
  does_go moment ev (move.EndSilent m) so h =
      call_ends e x k fit drawn book m.tunnel h.tunnel _ _ m.session h.call h.there h.live
      (same_spaces e x (ap (λ (y : End). y.role) h.after) (ap (λ (y : End). y.tunnel_ids) h.after) (ap (λ (y : End). y.session_ids) h.after))
      (ap (λ (y : End). y.tunnels) h.after) (same_control h.tunnel.control) m.booked h.booked
  does_go moment ev (move.Declined m) so h = nothing_goes e x k fit drawn book h.after
  does_go moment ev (move.Closed m) so h =
      tunnel_shuts e x k fit drawn book m.tunnel h.tunnel _ _ m.booked h.there
      (same_spaces e x (ap (λ (y : End). y.role) h.after) (ap (λ (y : End). y.tunnel_ids) h.after) (ap (λ (y : End). y.session_ids) h.after))
      (ap (λ (y : End). y.tunnels) h.after) refl (fit.tunnels m.tunnel h.tunnel h.there).window h.current h.booked
  does_go moment ev (move.Rejected m) so h =
      tunnel_shuts e x k fit drawn book m.tunnel h.tunnel _ _ false h.there
      (same_spaces e x (ap (λ (y : End). y.role) h.after) (ap (λ (y : End). y.tunnel_ids) h.after) (ap (λ (y : End). y.session_ids) h.after))
      (ap (λ (y : End). y.tunnels) h.after) refl (fit.tunnels m.tunnel h.tunnel h.there).window h.current (sym (ap (λ n. n == 3) h.waits))
  does_go moment ev (move.ClosedBy m) so h =
      tunnel_shuts e x k fit drawn book m.tunnel h.tunnel _ _ m.booked h.there
      (same_spaces e x (ap (λ (y : End). y.role) h.after) (ap (λ (y : End). y.tunnel_ids) h.after) (ap (λ (y : End). y.session_ids) h.after))
      (ap (λ (y : End). y.tunnels) h.after) refl (fit.tunnels m.tunnel h.tunnel h.there).window h.current h.booked
  does_go moment ev (move.Cleared i booked) so h =
      tunnel_clears e x k fit drawn book i h.tunnel booked h.there
      (same_spaces e x (ap (λ (y : End). y.role) h.after) (ap (λ (y : End). y.tunnel_ids) h.after) (ap (λ (y : End). y.session_ids) h.after))
      (ap (λ (y : End). y.tunnels) h.after) h.established
  does_go moment ev (move.Greeted m) so h = control_goes e x k fit drawn book m.tunnel h.tunnel _ _ h.there h.after (given h.tunnel.control)
  does_go moment ev (move.TookPlain m) so h = control_goes e x k fit drawn book m.tunnel h.tunnel _ _ h.there h.after (taken h.tunnel.control)
  does_go moment ev (move.NrRead m) so h =
      control_goes e x k fit drawn book m.tunnel h.tunnel _ _ h.there h.after
      (record { state = refl; remote = refl; peer = refl; window = acked_leaves m.nr moment h.tunnel.control; flags = refl; mark = refl })
  does_go moment ev (move.LetGo m) so h =
      control_goes e x k fit drawn book m.tunnel h.tunnel _ _ h.there h.after
      (record { state = refl; remote = refl; peer = refl; window = sent_leaves moment h.tunnel.control; flags = refl; mark = refl })
  does_go moment ev (move.Repeated m) so h =
      control_goes e x k fit drawn book m.tunnel h.tunnel _ _ h.there h.after
      (record { state = refl; remote = refl; peer = refl; window = repeated_leaves moment h.tunnel.control; flags = refl; mark = refl })
  does_go moment ev (move.Quiet i) so h = nothing_goes e x k fit drawn book h.after
  does_go moment ev (move.Negotiated m) so h =
      let grows = same_spaces e x (ap (λ (y : End). y.role) h.after) (ap (λ (y : End). y.tunnel_ids) h.after) (ap (λ (y : End). y.session_ids) h.after) in
      let was = (fit.tunnels m.tunnel h.tunnel h.there).calls m.session h.call h.live in
      let new = with_link (turn_at h.calls.by h.calls.link).link h.call in
      call_goes e x k fit drawn book m.tunnel h.tunnel _ _ m.session new h.there grows (ap (λ (y : End). y.tunnels) h.after) (same_control h.tunnel.control) h.call h.live
      (call_then e x h.tunnel h.tunnel m.session h.call new grows was (alike_none e.role h.call new refl (λ n. n) was.none) (λ up. was.up up))
      refl
  does_go moment ev (move.Counted m) so h =
      let grows = same_spaces e x (ap (λ (y : End). y.role) h.after) (ap (λ (y : End). y.tunnel_ids) h.after) (ap (λ (y : End). y.session_ids) h.after) in
      let was = (fit.tunnels m.tunnel h.tunnel h.there).calls m.session h.call h.live in
      let new = counted h.call in
      call_goes e x k fit drawn book m.tunnel h.tunnel _ _ m.session new h.there grows (ap (λ (y : End). y.tunnels) h.after) (same_control h.tunnel.control) h.call h.live
      (call_then e x h.tunnel h.tunnel m.session h.call new grows was (alike_none e.role h.call new refl (no_number_after h.call.sequence) was.none) (λ up. was.up up))
      (ap (λ b. cond (is_up h.call.state) (Some (record { local = m.session; tunnel = m.tunnel; remote = h.call.remote; subscriber = h.call.subscriber; sequenced = b })) None) (numbers_after h.call.sequence))
  does_go moment ev (move.FrameSent m) so h = nothing_goes e x k fit drawn book h.after
  does_go moment ev (move.FrameUp m) so h = nothing_goes e x k fit drawn book h.after
  does_go moment ev (move.Restored m) so h = absurd so
  does_go moment ev (move.Forgot m) so h = absurd so
  does_go moment ev (move.Froze m) so h =
      let t = h.tunnel in
      let old = fit.tunnels m.tunnel t h.there in
      let ids = ap (λ (y : End). y.tunnel_ids) h.after in
      let grows = draws_tunnel e x m.answer h.local (ap (λ (y : End). y.role) h.after) ids (ap (λ (y : End). y.session_ids) h.after) in
      let c = frozen_control m.asked t.control in
      let u : Tunnel = record t { control = c; calls = finished_of t.calls; recovery = Some h.recovery } in
      tunnel_marks e x k fit drawn book m.tunnel t u h.there grows (ap (λ (y : End). y.tunnels) h.after)
      (tunnel_later e x grows m.tunnel u (finished_fits e m.tunnel (record t { control = c; recovery = Some h.recovery })
      (control_fits e m.tunnel t c t.letters (Some h.recovery) old
      (λ two. absurd (let three = h.open_is in omega (arith, two, three))) old.window (λ three. three)
      (λ low. absurd (let three = h.open_is in omega (arith, low, three))) (λ apart. h.open_is))))
      (λ s d f. (d, finished_found t.calls old.order s d f))
      (λ s. finished_record m.tunnel s t.calls old.order)
      (record { state = refl; remote = refl; peer = refl; window = refl; flags = refl })
      h.open_is m.marked m.asked h.marked refl
  does_go moment ev (move.ResetAttempting m) so h =
      let t = h.tunnel in
      let old = fit.tunnels m.tunnel t h.there in
      let open_is = old.recovered (attempt_waits t.recovery h.old h.attempts h.waits) in
      let grows = same_spaces e x (ap (λ (y : End). y.role) h.after) (ap (λ (y : End). y.tunnel_ids) h.after) (ap (λ (y : End). y.session_ids) h.after) in
      let u = begun_anew m.send_from m.expect (max t.control.mark m.draw) (ByAttempt h.new) t in
      tunnel_marks e x k fit drawn book m.tunnel t u h.there grows (ap (λ (y : End). y.tunnels) h.after)
      (tunnel_later e x grows m.tunnel u
      (asks_fit e m.tunnel (record t { control = u.control; letters = []; recovery = Some (ByAttempt h.new) }) u.query
      (control_fits e m.tunnel t u.control [] (Some (ByAttempt h.new)) old
      (λ two. absurd (omega (arith, two, open_is))) old.window (λ three. three)
      (λ low. absurd (omega (arith, low, open_is))) (λ apart. open_is))))
      (λ s d f. (d, f)) (λ s. refl)
      (record { state = refl; remote = refl; peer = refl; window = refl; flags = refl })
      open_is m.marked m.draw h.marked refl
  does_go moment ev (move.ResetAnswering m) so h =
      let open_is = (fit.tunnels m.tunnel h.tunnel h.there).recovered (answer_waits h.tunnel.recovery h.old h.answers h.waits) in
      line_goes e x k fit drawn book m.tunnel h.tunnel _ _ _ _ h.there h.after
      (record { state = refl; remote = refl; peer = refl; window = refl; flags = refl; mark = refl }) (λ apart. open_is)
  does_go moment ev (move.Queried m) so h =
      line_goes e x k fit drawn book m.tunnel h.tunnel _ _ h.tunnel.recovery _ h.there h.after (given h.tunnel.control)
      (fit.tunnels m.tunnel h.tunnel h.there).recovered
  does_go moment ev (move.AnsweredQuery m) so h =
      control_goes e x k fit drawn book m.tunnel h.tunnel _ _ h.there h.after (taken_given h.tunnel.control)
  does_go moment ev (move.TookAnswer m) so h =
      answer_goes e x k fit drawn book m.tunnel h.tunnel _ _ m.ended h.there h.up h.after (taken h.tunnel.control)
  does_go moment ev (move.RecoveryWentOn i) so h =
      line_goes e x k fit drawn book i h.tunnel h.tunnel.control h.tunnel.letters _ h.tunnel.query h.there h.after
      (same_control h.tunnel.control)
      (λ apart. (fit.tunnels i h.tunnel h.there).recovered (ap (λ o. is_current (mode_of o)) h.has ∙ still_so h.old h.channel h.closed h.remote apart))
  does_go moment ev (move.RecoveryEnded i) so h =
      line_goes e x k fit drawn book i h.tunnel h.tunnel.control h.tunnel.letters None h.tunnel.query h.there h.after
      (same_control h.tunnel.control)
      (λ apart. absurd (true≢false apart))
  does_go moment ev (move.Ignored i) so h =
      control_goes e x k fit drawn book i h.tunnel _ _ h.there h.after
      (record { state = refl; remote = refl; peer = refl; window = refl; flags = refl; mark = refl })
