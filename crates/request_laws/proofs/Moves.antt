-- What each move of a node does to its calls.
use Rattle.std.proofs.Common.{◌≡◌, ◌⊎◌, inl, inr, ⊎_elim, ℕ, ◌<◌, ◌≤◌, Bool, [], refl, sym, ap, ◌∙◌, subst, Some, arith}
use Rattle.std.proofs.lemmas.Option.{none-some}
use Rattle.id_source.specs.Spaces.{Space, draw_is, next_is}
use Rattle.id_table.specs.Ids.{at, put, without, at-none}
use Rattle.id_table.specs.Order.{Ascends, ascends-empty, ascends-put, at_new, found_put, ascends-without, found_without}
use Rattle.call_fsm.specs.declared.table.CallEvent.TheVariants as call_event
use Rattle.end_model.specs.declared.event.Event.{Event}
use Rattle.end_model.specs.declared.moves.Opened.{Opened}
use Rattle.end_model.specs.declared.moves.Accepted.{Accepted}
use Rattle.end_model.specs.declared.moves.Added.{Added}
use Rattle.end_model.specs.declared.moves.Requested.{Requested}
use Rattle.end_model.specs.declared.moves.Replied.{Replied}
use Rattle.end_model.specs.declared.moves.FirstUp.{FirstUp}
use Rattle.end_model.specs.declared.moves.SecondUp.{SecondUp}
use Rattle.end_model.specs.declared.moves.Negotiated.{Negotiated}
use Rattle.end_model.specs.declared.moves.Counted.{Counted}
use Rattle.end_model.specs.declared.moves.EndTold.{EndTold}
use Rattle.end_model.specs.declared.moves.EndHeard.{EndHeard}
use Rattle.end_model.specs.declared.moves.EndSilent.{EndSilent}
use Rattle.end_model.specs.declared.moves.Closed.{Closed}
use Rattle.end_model.specs.declared.moves.ClosedBy.{ClosedBy}
use Rattle.end_model.specs.declared.moves.Rejected.{Rejected}
use Rattle.end_model.specs.declared.moves.Move.{Move}
use Rattle.end_model.specs.declared.moves.Move.TheVariants as move
use Rattle.end_model.specs.declared.tunnel.Call.{Call}
use Rattle.end_model.specs.Calls.{advanced, with_numbers, counted, rung, asked_for}
use Rattle.end_model.specs.Tunnels.{Tunnel}
use Rattle.end_model.specs.Links.{with_link}
use Rattle.end_model.specs.End.{End}
use Rattle.call_link.specs.Laws.{turn_at}
use Rattle.call_link.specs.Link.{new_link}
use Rattle.step_laws.specs.Moves.{with_tunnel, without_call, Opens, Accepts, Adds, Requests, Replies, ComesUpFirst, ComesUpSecond, Negotiates, Counts, Does}
use Rattle.frame_laws.specs.Unrecovered.{IsMain}
use Rattle.connection_laws.specs.Accounts.{about}
use Rattle.request_laws.proofs.Rows.{Asks, up_row, asked_over, first_over, second_over}
use Rattle.request_laws.proofs.Asked.{IsCall, Known, Ordered, AskOk, Was, Went, New, CallsGo, IsNow}

-- ---- a tunnel is put

pub record Puts (x y : End) (i : ℕ) (t : Tunnel) : Type 0 where
  pub role : y.role ≡ x.role
  pub tunnels : y.tunnels ≡ put x.tunnels i t
  pub rises : x.session_ids.next ≤ y.session_ids.next

pub puts_order : (x y : End) (i : ℕ) (t : Tunnel) → Puts x y i t → Ordered x → Ascends t.calls → Ordered y
puts_order x y i t p o calls = record {
  tunnels = rw p.tunnels (ascends-put i t x.tunnels o.tunnels);
  calls = λ j u f. ⊎_elim
      (λ (a : (j ≡ i) × (t ≡ u)). subst (λ (q : Tunnel). Ascends q.calls) a.1 calls)
      (λ a. o.calls j u a.1)
      (found_put x.tunnels i t j u (rw (← p.tunnels) f));
}

-- a call is in the tunnel that was put, or where it was
pub puts_call : (x y : End) (i : ℕ) (t : Tunnel) → Puts x y i t → (j s : ℕ) (c : Call) → IsCall y j s c
    → ((j ≡ i) × (at t.calls s ≡ Some c)) ⊎ ((j ≡ i → ⊥) × IsCall x j s c)
puts_call x y i t p j s c h = ⊎_elim
    (λ (a : (j ≡ i) × (t ≡ h.tunnel)). inl (a.0, subst (λ (q : Tunnel). at q.calls s ≡ Some c) (sym a.1) h.live))
    (λ a. inr (a.0, record { tunnel = h.tunnel; there = a.1; live = h.live }))
    (found_put x.tunnels i t j h.tunnel (rw (← p.tunnels) h.there))

-- its calls were in it
pub puts_old : (x y : End) (i : ℕ) (old t : Tunnel) → Puts x y i t → Ordered x → at x.tunnels i ≡ Some old → Ascends t.calls
    → ((s : ℕ) (c : Call) → at t.calls s ≡ Some c → at old.calls s ≡ Some c) → CallsGo x y i
puts_old x y i old t p o there order were = record {
  role = p.role;
  rises = p.rises;
  order = puts_order x y i t p o order;
  from = λ j s c h. ⊎_elim
      (λ (a : (j ≡ i) × (at t.calls s ≡ Some c)).
      Was (subst (λ k. IsCall x k s c) (sym a.0) (record { tunnel = old; there = there; live = were s c a.1 })))
      (λ a. Was a.1)
      (puts_call x y i t p j s c h);
}

-- it has none
puts_empty : (x y : End) (i : ℕ) (t : Tunnel) → Puts x y i t → Ordered x → t.calls ≡ [] → CallsGo x y i
puts_empty x y i t p o none = record {
  role = p.role;
  rises = p.rises;
  order = puts_order x y i t p o (ascends-empty t.calls none);
  from = λ j s c h. ⊎_elim
      (λ (a : (j ≡ i) × (at t.calls s ≡ Some c)). absurd (none-some c (sym (at-none s) ∙ subst (λ cs. at cs s ≡ Some c) none a.1)))
      (λ a. Was a.1)
      (puts_call x y i t p j s c h);
}

-- a call of it went on, and needn't be asked for any more
puts_changed : (x y : End) (i : ℕ) (old t : Tunnel) (s : ℕ) (c d : Call) → Puts x y i t → Ordered x → at x.tunnels i ≡ Some old
    → at old.calls s ≡ Some c → t.calls ≡ put old.calls s d → (Asks y.role d → ⊥) → CallsGo x y i
puts_changed x y i old t s c d p o there live are over = record {
  role = p.role;
  rises = p.rises;
  order = puts_order x y i t p o (rw are (ascends-put s d old.calls (o.calls i old there)));
  from = λ j q e h. ⊎_elim
      (λ (a : (j ≡ i) × (at t.calls q ≡ Some e)). ⊎_elim
      (λ (b : (q ≡ s) × (d ≡ e)).
      let was : IsCall x j q c = rw (a.0, b.0) (record { tunnel = old; there = there; live = live }) in
      Went c was (subst (λ (k : Call). Asks y.role k → ⊥) b.1 over))
      (λ b. Was (subst (λ k. IsCall x k q e) (sym a.0) (record { tunnel = old; there = there; live = b.1 })))
      (found_put old.calls s d q e (rw (← are) a.1)))
      (λ a. Was a.1)
      (puts_call x y i t p j q e h);
}

-- a call is new in it
puts_new : (x y : End) (i : ℕ) (old t : Tunnel) (s : ℕ) (d : Call) → Puts x y i t → Ordered x → at x.tunnels i ≡ Some old
    → t.calls ≡ put old.calls s d → s ≡ x.session_ids.next → s < y.session_ids.next → CallsGo x y i
puts_new x y i old t s d p o there are new lt = record {
  role = p.role;
  rises = p.rises;
  order = puts_order x y i t p o (rw are (ascends-put s d old.calls (o.calls i old there)));
  from = λ j q e h. ⊎_elim
      (λ (a : (j ≡ i) × (at t.calls q ≡ Some e)). ⊎_elim
      (λ (b : (q ≡ s) × (d ≡ e)). New a.0 (b.0 ∙ new) (rw b.0 lt))
      (λ b. Was (subst (λ k. IsCall x k q e) (sym a.0) (record { tunnel = old; there = there; live = b.1 })))
      (found_put old.calls s d q e (rw (← are) a.1)))
      (λ a. Was a.1)
      (puts_call x y i t p j q e h);
}

module _ (x y : End) (o : Ordered x) where
  -- the tunnel goes on, and its calls stay
  stays : (i : ℕ) (old t : Tunnel) → at x.tunnels i ≡ Some old → y ≡ with_tunnel x i t → t.calls ≡ old.calls → CallsGo x y i
  stays i old t there after calls = rw after
      (puts_old x (with_tunnel x i t) i old t (record { role = refl; tunnels = refl; rises = omega arith }) o there (rw calls (o.calls i old there))
      (λ s c f. rw (← calls) f))

  same : (i : ℕ) → y ≡ x → CallsGo x y i
  same i e = subst (λ z. CallsGo x z i) (sym e) (record { role = refl; rises = omega arith; order = o; from = λ j s c h. Was h })

  opened_calls : (moment : ℕ) (ev : Event) (m : Opened) → Opens x moment ev m y → CallsGo x y m.tunnel
  opened_calls moment ev m h = rw h.after (puts_empty x _ m.tunnel _ (record { role = refl; tunnels = refl; rises = omega arith }) o refl)

  accepted_calls : (moment : ℕ) (ev : Event) (m : Accepted) → Accepts x moment ev m y → CallsGo x y m.tunnel
  accepted_calls moment ev m h = rw h.after (puts_empty x _ m.tunnel _ (record { role = refl; tunnels = refl; rises = omega arith }) o refl)

  -- ---- a call is born, or is made for a request

  added_calls : (moment : ℕ) (ev : Event) (m : Added) → Adds x moment ev m y → CallsGo x y m.tunnel
  added_calls moment ev m h =
      let d = (draw_is x.session_ids m.session h.drawn).0 in
      let n = ap (λ (e : End). e.session_ids.next) h.after ∙ ap (λ (ids : Space). ids.next) (next_is x.session_ids m.session h.drawn) in
      let role : y.role ≡ x.role = ap (λ (e : End). e.role) h.after in
      let tunnels = ap (λ (e : End). e.tunnels) h.after in
      puts_new x y m.tunnel h.tunnel (record h.tunnel { calls = put h.tunnel.calls m.session (rung x.role m.subscriber moment) }) m.session
      (rung x.role m.subscriber moment) (record { role = role; tunnels = tunnels; rises = omega (arith, n, d) }) o h.there refl d (omega (arith, n, d))

  replied_calls : (moment : ℕ) (ev : Event) (m : Replied) → Replies x moment ev m y → CallsGo x y m.tunnel
  replied_calls moment ev m h =
      let d = (draw_is x.session_ids m.session h.drawn).0 in
      let n = ap (λ (e : End). e.session_ids.next) h.after ∙ ap (λ (ids : Space). ids.next) (next_is x.session_ids m.session h.drawn) in
      let role : y.role ≡ x.role = ap (λ (e : End). e.role) h.after in
      let tunnels = ap (λ (e : End). e.tunnels) h.after in
      puts_new x y m.tunnel h.tunnel _ m.session (asked_for x.role m.remote moment)
      (record { role = role; tunnels = tunnels; rises = omega (arith, n, d) }) o h.there refl d (omega (arith, n, d))

  -- ---- a call goes on

  requested_calls : (moment : ℕ) (m : Requested) → Requests x moment m y → CallsGo x y m.tunnel
  requested_calls moment m h =
      rw h.after
      (puts_changed x _ m.tunnel h.tunnel _ m.session h.call (advanced x.role call_event.TunnelOpen moment h.call)
      (record { role = refl; tunnels = refl; rises = omega arith }) o h.there h.waits refl (asked_over x.role moment h.call h.row))

  first_calls : (moment : ℕ) (ev : Event) (m : FirstUp) → ComesUpFirst x moment ev m y → CallsGo x y m.tunnel
  first_calls moment ev m h =
      let c : Call = record h.call { remote = m.remote } in
      rw h.after
      (puts_changed x _ m.tunnel h.tunnel _ m.session h.call (advanced x.role call_event.IcrpAcc moment c)
      (record { role = refl; tunnels = refl; rises = omega arith }) o h.there h.asked refl (first_over x.role moment c h.row))

  second_calls : (moment : ℕ) (ev : Event) (m : SecondUp) → ComesUpSecond x moment ev m y → CallsGo x y m.tunnel
  second_calls moment ev m h =
      rw h.after
      (puts_changed x _ m.tunnel h.tunnel _ m.session h.call (with_link (new_link (record { moment = moment; block = h.block })) (with_numbers m.sequenced (advanced x.role call_event.IccnAcc moment h.call)))
      (record { role = refl; tunnels = refl; rises = omega arith }) o h.there h.made refl (second_over x.role moment h.call h.row))

  -- the LCP end of a call that is up made a step
  negotiated_calls : (moment : ℕ) (ev : Event) (m : Negotiated) → Negotiates x moment ev m y → CallsGo x y m.tunnel
  negotiated_calls moment ev m h =
      rw h.after
      (puts_changed x _ m.tunnel h.tunnel _ m.session h.call (with_link (turn_at h.calls.by h.calls.link).link h.call)
      (record { role = refl; tunnels = refl; rises = omega arith }) o h.there h.live refl (up_row x.role h.call.state h.up))

  -- a data message of one had a number
  counted_calls : (moment : ℕ) (ev : Event) (m : Counted) → Counts x m y → CallsGo x y m.tunnel
  counted_calls moment ev m h =
      rw h.after
      (puts_changed x _ m.tunnel h.tunnel _ m.session h.call (counted h.call)
      (record { role = refl; tunnels = refl; rises = omega arith }) o h.there h.live refl (up_row x.role h.call.state h.up))

  -- ---- a call ends

  ended : (i : ℕ) (old t : Tunnel) (s : ℕ) → at x.tunnels i ≡ Some old → y ≡ without_call x i t s → t.calls ≡ old.calls → CallsGo x y i
  ended i old t s there after calls =
      let order = o.calls i old there in
      rw after
      (puts_old x (without_call x i t s) i old (record t { calls = without t.calls s }) (record { role = refl; tunnels = refl; rises = omega arith })
      o there (rw calls (ascends-without s old.calls order)) (λ q c f. (found_without old.calls s q c order (rw (← calls) f)).1))

  told_calls : (moment : ℕ) (ev : Event) (m : EndTold) → Does x moment ev (move.EndTold m) y → CallsGo x y m.tunnel
  told_calls moment ev m h = ended m.tunnel h.tunnel _ m.session h.there h.after refl

  heard_calls : (moment : ℕ) (ev : Event) (m : EndHeard) → Does x moment ev (move.EndHeard m) y → CallsGo x y m.tunnel
  heard_calls moment ev m h = ended m.tunnel h.tunnel _ m.session h.there h.after refl

  silent_calls : (moment : ℕ) (ev : Event) (m : EndSilent) → Does x moment ev (move.EndSilent m) y → CallsGo x y m.tunnel
  silent_calls moment ev m h = ended m.tunnel h.tunnel _ m.session h.there h.after refl

  -- a tunnel closes, and has none any more
  closed_calls : (moment : ℕ) (ev : Event) (m : Closed) → Does x moment ev (move.Closed m) y → CallsGo x y m.tunnel
  closed_calls moment ev m h = rw h.after (puts_empty x _ m.tunnel _ (record { role = refl; tunnels = refl; rises = omega arith }) o refl)

  rejected_calls : (moment : ℕ) (ev : Event) (m : Rejected) → Does x moment ev (move.Rejected m) y → CallsGo x y m.tunnel
  rejected_calls moment ev m h = rw h.after (puts_empty x _ m.tunnel _ (record { role = refl; tunnels = refl; rises = omega arith }) o refl)

  closed_by_calls : (moment : ℕ) (ev : Event) (m : ClosedBy) → Does x moment ev (move.ClosedBy m) y → CallsGo x y m.tunnel
  closed_by_calls moment ev m h = rw h.after (puts_empty x _ m.tunnel _ (record { role = refl; tunnels = refl; rises = omega arith }) o refl)

  cleared_calls : (moment : ℕ) (ev : Event) (i : ℕ) (booked : Bool) → Does x moment ev (move.Cleared i booked) y → CallsGo x y i
  cleared_calls moment ev i booked h =
      let gone = λ (j : ℕ) (t : Tunnel) (f : at (without x.tunnels i) j ≡ Some t). (found_without x.tunnels i j t o.tunnels f).1 in
      rw h.after (record {
        role = refl;
        rises = omega arith;
        order = record {
          tunnels = ascends-without i x.tunnels o.tunnels;
          calls = λ j t f. o.calls j t (gone j t f);
        };
        from = λ j s c f. Was (record { tunnel = f.tunnel; there = gone j f.tunnel f.there; live = f.live });
      })

  -- each move
  pub does_calls : (moment : ℕ) (ev : Event) (m : Move) → IsMain m → Does x moment ev m y → CallsGo x y (about m)
  does_calls moment ev (move.Opened m) main h = opened_calls moment ev m h
  does_calls moment ev (move.Accepted m) main h = accepted_calls moment ev m h
  does_calls moment ev (move.Connected m) main h = stays m.tunnel h.tunnel _ h.there h.after refl
  does_calls moment ev (move.Confirmed m) main h = stays m.tunnel h.tunnel _ h.there h.after refl
  does_calls moment ev (move.Added m) main h = added_calls moment ev m h
  does_calls moment ev (move.Requested m) main h = requested_calls moment m h
  does_calls moment ev (move.Replied m) main h = replied_calls moment ev m h
  does_calls moment ev (move.FirstUp m) main h = first_calls moment ev m h
  does_calls moment ev (move.SecondUp m) main h = second_calls moment ev m h
  does_calls moment ev (move.Refused m) main h = stays m.tunnel h.tunnel _ h.there h.after refl
  does_calls moment ev (move.EndTold m) main h = told_calls moment ev m h
  does_calls moment ev (move.EndHeard m) main h = heard_calls moment ev m h
  does_calls moment ev (move.EndSilent m) main h = silent_calls moment ev m h
  does_calls moment ev (move.Declined m) main h = same 0 h.after
  does_calls moment ev (move.Closed m) main h = closed_calls moment ev m h
  does_calls moment ev (move.Rejected m) main h = rejected_calls moment ev m h
  does_calls moment ev (move.ClosedBy m) main h = closed_by_calls moment ev m h
  does_calls moment ev (move.Cleared i booked) main h = cleared_calls moment ev i booked h
  does_calls moment ev (move.Greeted m) main h = stays m.tunnel h.tunnel _ h.there h.after refl
  does_calls moment ev (move.TookPlain m) main h = stays m.tunnel h.tunnel _ h.there h.after refl
  does_calls moment ev (move.NrRead m) main h = stays m.tunnel h.tunnel _ h.there h.after refl
  does_calls moment ev (move.LetGo m) main h = stays m.tunnel h.tunnel _ h.there h.after refl
  does_calls moment ev (move.Repeated m) main h = stays m.tunnel h.tunnel _ h.there h.after refl
  does_calls moment ev (move.Quiet i) main h = same i h.after
  does_calls moment ev (move.Negotiated m) main h = negotiated_calls moment ev m h
  does_calls moment ev (move.Counted m) main h = counted_calls moment ev m h
  does_calls moment ev (move.FrameSent m) main h = same m.tunnel h.after
  does_calls moment ev (move.FrameUp m) main h = same m.tunnel h.after
  does_calls moment ev m main h = absurd main

  -- a call that is asked for was still to be, and isn't any more
  pub requested_now : (known : Known) → AskOk known x → (moment : ℕ) (m : Requested) → Requests x moment m y → IsNow x y m.tunnel m.session
  requested_now known ok moment m h =
      let c = advanced x.role call_event.TunnelOpen moment h.call in
      let was : IsCall x m.tunnel m.session h.call = record { tunnel = h.tunnel; there = h.there; live = h.waits } in
      let role : y.role ≡ x.role = ap (λ (e : End). e.role) h.after in
      let tunnels = ap (λ (e : End). e.tunnels) h.after in
      record {
        call = h.call;
        was = was;
        asks = h.row;
        no_more = λ i d is k. ⊎_elim
            (λ (a : (i ≡ m.tunnel) × (at (put h.tunnel.calls m.session c) m.session ≡ Some d)).
            let new = at_new h.tunnel.calls m.session c in
            let found = a.1 in
            let e : c ≡ d = cc in
            asked_over x.role moment h.call h.row (subst (λ r. Asks r c) role (subst (λ (q : Call). Asks y.role q) (sym e) k)))
            (λ a. a.0 (ok.apart i m.tunnel m.session d h.call a.1 was))
            (puts_call x y m.tunnel _ (record { role = role; tunnels = tunnels; rises = rw h.after (omega arith) }) i m.session d is);
      }
