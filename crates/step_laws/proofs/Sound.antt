-- Each move leaves calls whose sessions have 16 bits and whose states are those of the end's table.
use Rattle.std.proofs.Common.{◌≡◌, ⊎_elim, ℕ, ◌<◌, true, List, [], ◌∷◌, refl, sym, ap, ◌∙◌, subst, Some}
use Rattle.std.proofs.lemmas.Option.{none-some}
use Rattle.id_table.specs.Ids.{at, put, without, at-none}
use Rattle.id_table.specs.Order.{Ascends, ascends-empty, ascends-put, ascends-without, found_put, found_without}
use Rattle.call_fsm.specs.declared.table.CallState.{CallState}
use Rattle.call_fsm.specs.declared.table.CallState.TheVariants.{Idle, WaitTunnel, WaitReply, WaitConnect, Established}
use Rattle.call_fsm.specs.declared.table.CallEvent.TheVariants.{TunnelOpen, IcrqAcc, IccnAcc}
use Rattle.end_model.specs.declared.event.Event.{Event}
use Rattle.end_model.specs.declared.moves.Move.{Move}
use Rattle.end_model.specs.declared.moves.Move.TheVariants as move
use Rattle.end_model.specs.declared.tunnel.Call.{Call}
use Rattle.end_names.specs.declared.role.Role.{Role}
use Rattle.end_names.specs.declared.role.Role.TheVariants.{Lac, Lns}
use Rattle.end_model.specs.Calls.{call_row, row_for, row_of_none, advanced, rung, asked_for, is_request, is_reply}
use Rattle.end_model.specs.Tunnels.{Tunnel}
use Rattle.end_model.specs.End.{End, plain_step}
use Rattle.step_laws.specs.Callers.{wanted_by_lac}
use Rattle.step_laws.specs.Moves.{Does, Chain, finished_of}
use Rattle.step_laws.specs.Left.{CanBe, AreSound, CallsStaySound}
use Rattle.step_laws.specs.Steps.{AreKept, StepsAreChains, IsOfNoStart}
use Rattle.step_laws.specs.Queries.{without_each}
use Rattle.step_laws.proofs.States.{never, requested_state, rung_state, connected_state, up_state}
use Rattle.step_laws.proofs.Turns.{last_after, small_draw}
use Rattle.step_laws.proofs.Ups.{steps_are_no_starts}
use Rattle.std.specs.List.{AllByRecursion}
use Rattle.step_laws.proofs.Finished.{ascends_finished, found_finished}

-- ---- states

-- what isn't asked for, and waits for nothing that the other role's calls wait for
can_request : (r : Role) (s : CallState) → is_request (call_row r s TunnelOpen).1 ≡ true → CanBe r (call_row r s TunnelOpen).0
unfolding call_row
can_request Lac s h = rw (requested_state Lac s h).1 tt
can_request Lns s h = absurd (none s h)
  where
    none : (s : CallState) → is_request (call_row Lns s TunnelOpen).1 ≡ true → ⊥
    none Idle h = absurd cc
    none WaitTunnel h = absurd cc
    none WaitReply h = absurd cc
    none WaitConnect h = absurd cc
    none Established h = absurd cc

can_be_up : (r : Role) (s : CallState) → s ≡ Established → CanBe r s
can_be_up Lac s h = rw h tt
can_be_up Lns s h = rw h tt

can_ring : (who : List ℕ) (moment : ℕ) → CanBe Lac (rung Lac who moment).state
can_ring who moment = rw (rung_state Lac who moment refl) tt

can_be_asked : (r : Role) (remote moment : ℕ) → is_reply (row_of_none r IcrqAcc).1 ≡ true → CanBe r (asked_for r remote moment).state
unfolding asked_for advanced call_row
can_be_asked Lac remote moment h = never h
can_be_asked Lns remote moment h = tt

-- ---- tables of calls

-- they ascend, and are sound
record IsWhole (r : Role) (calls : List (ℕ × Call)) : Type 0 where
  order : Ascends calls
  sound : (s : ℕ) (c : Call) → at calls s ≡ Some c → (s < 65536) × CanBe r c.state

whole_none : (r : Role) → IsWhole r []
whole_none r = record { order = ascends-empty [] refl; sound = λ s c there. absurd (none-some c (sym (at-none s) ∙ there)) }

whole_put : (r : Role) (calls : List (ℕ × Call)) (k : ℕ) (d : Call) → k < 65536 → CanBe r d.state → IsWhole r calls → IsWhole r (put calls k d)
whole_put r calls k d small can h = record {
  order = ascends-put k d calls h.order;
  sound = λ s c there. ⊎_elim
      (λ (a : (s ≡ k) × (d ≡ c)). (subst (λ n. n < 65536) (sym a.0) small, subst (λ (x : Call). CanBe r x.state) a.1 can))
      (λ (a : (s ≡ k → ⊥) × (at calls s ≡ Some c)). h.sound s c a.1)
      (found_put calls k d s c there);
}

whole_without : (r : Role) (calls : List (ℕ × Call)) (k : ℕ) → IsWhole r calls → IsWhole r (without calls k)
whole_without r calls k h = record {
  order = ascends-without k calls h.order;
  sound = λ s c there. h.sound s c (found_without calls k s c h.order there).1;
}

whole_each : (r : Role) (ss : List ℕ) (calls : List (ℕ × Call)) → IsWhole r calls → IsWhole r (without_each ss calls)
whole_each r [] calls h = h
whole_each r (s ∷ ss) calls h = whole_each r ss (without calls s) (whole_without r calls s h)

-- those that are established
whole_finished : (r : Role) (calls : List (ℕ × Call)) → IsWhole r calls → IsWhole r (finished_of calls)
whole_finished r calls h = record {
  order = ascends_finished calls h.order;
  sound = λ s c there. h.sound s c (found_finished calls h.order s c there);
}

-- ---- moves

-- so are those of each tunnel of an end
record AreWhole (e : End) : Type 0 where
  last : e.session_ids.last < 65536
  order : Ascends e.tunnels
  calls : (i : ℕ) (t : Tunnel) → at e.tunnels i ≡ Some t → IsWhole e.role t.calls

module _ (e : End) (whole : AreWhole e) where
  -- a tunnel is put whose calls are so
  puts : (x z : End) (i : ℕ) (u : Tunnel) → x ≡ z → z.role ≡ e.role → z.session_ids.last ≡ e.session_ids.last → z.tunnels ≡ put e.tunnels i u
      → IsWhole e.role u.calls → AreWhole x
  puts x z i u same role last tunnels calls = subst AreWhole (sym same) (record {
    last = subst (λ n. n < 65536) (sym last) whole.last;
    order = rw tunnels (ascends-put i u e.tunnels whole.order);
    calls = λ j t there. subst (λ r. IsWhole r t.calls) (sym role) (⊎_elim
        (λ (a : (j ≡ i) × (u ≡ t)). subst (λ (y : Tunnel). IsWhole e.role y.calls) a.1 calls)
        (λ (a : (j ≡ i → ⊥) × (at e.tunnels j ≡ Some t)). whole.calls j t a.1)
        (found_put e.tunnels i u j t (subst (λ ts. at ts j ≡ Some t) tunnels there)));
  })

  nothing : (x : End) → x ≡ e → AreWhole x
  nothing x same = subst AreWhole (sym same) whole

  does_whole : (moment : ℕ) (ev : Event) (m : Move) (x : End) → IsOfNoStart m → Does e moment ev m x → AreWhole x
  unfolding advanced
  does_whole moment ev (move.Opened m) x so h = puts x _ m.tunnel _ h.after refl refl refl (whole_none e.role)
  does_whole moment ev (move.Accepted m) x so h = puts x _ m.tunnel _ h.after refl refl refl (whole_none e.role)
  does_whole moment ev (move.Connected m) x so h = puts x _ m.tunnel _ h.after refl refl refl (whole.calls m.tunnel h.tunnel h.there)
  does_whole moment ev (move.Confirmed m) x so h = puts x _ m.tunnel _ h.after refl refl refl (whole.calls m.tunnel h.tunnel h.there)
  does_whole moment ev (move.Added m) x so h =
      puts x _ m.tunnel _ h.after refl (last_after e.session_ids) refl
      (whole_put e.role h.tunnel.calls m.session _ (small_draw e.session_ids m.session h.drawn whole.last)
      (rw (wanted_by_lac e ev h.tunnel.control.peer h.wants) (can_ring m.subscriber moment)) (whole.calls m.tunnel h.tunnel h.there))
  does_whole moment ev (move.Requested m) x so h =
      puts x _ m.tunnel _ h.after refl refl refl
      (whole_put e.role h.tunnel.calls m.session _ h.session (can_request e.role h.call.state h.row) (whole.calls m.tunnel h.tunnel h.there))
  does_whole moment ev (move.Replied m) x so h =
      puts x _ m.tunnel _ h.after refl (last_after e.session_ids) refl
      (whole_put e.role h.tunnel.calls m.session _ (small_draw e.session_ids m.session h.drawn whole.last)
      (can_be_asked e.role m.remote moment h.row) (whole.calls m.tunnel h.tunnel h.there))
  does_whole moment ev (move.FirstUp m) x so h =
      let calls = whole.calls m.tunnel h.tunnel h.there in
      puts x _ m.tunnel _ h.after refl refl refl
      (whole_put e.role h.tunnel.calls m.session _ (calls.sound m.session h.call h.asked).0
      (can_be_up e.role _ (connected_state e.role h.call.state h.row).1) calls)
  does_whole moment ev (move.SecondUp m) x so h =
      let calls = whole.calls m.tunnel h.tunnel h.there in
      puts x _ m.tunnel _ h.after refl refl refl
      (whole_put e.role h.tunnel.calls m.session _ (calls.sound m.session h.call h.made).0
      (can_be_up e.role _ (up_state (row_for e.role h.call IccnAcc).0 h.row)) calls)
  does_whole moment ev (move.Refused m) x so h = puts x _ m.tunnel _ h.after refl refl refl (whole.calls m.tunnel h.tunnel h.there)
  does_whole moment ev (move.EndTold m) x so h =
      puts x _ m.tunnel _ h.after refl refl refl (whole_without e.role h.tunnel.calls m.session (whole.calls m.tunnel h.tunnel h.there))
  does_whole moment ev (move.EndHeard m) x so h =
      puts x _ m.tunnel _ h.after refl refl refl (whole_without e.role h.tunnel.calls m.session (whole.calls m.tunnel h.tunnel h.there))
  does_whole moment ev (move.EndSilent m) x so h =
      puts x _ m.tunnel _ h.after refl refl refl (whole_without e.role h.tunnel.calls m.session (whole.calls m.tunnel h.tunnel h.there))
  does_whole moment ev (move.Declined m) x so h = nothing x h.after
  does_whole moment ev (move.Closed m) x so h = puts x _ m.tunnel _ h.after refl refl refl (whole_none e.role)
  does_whole moment ev (move.Rejected m) x so h = puts x _ m.tunnel _ h.after refl refl refl (whole_none e.role)
  does_whole moment ev (move.ClosedBy m) x so h = puts x _ m.tunnel _ h.after refl refl refl (whole_none e.role)
  does_whole moment ev (move.Cleared i booked) x so h = subst AreWhole (sym h.after) (record {
    last = whole.last;
    order = ascends-without i e.tunnels whole.order;
    calls = λ j t there. whole.calls j t (found_without e.tunnels i j t whole.order there).1;
  })
  does_whole moment ev (move.Greeted m) x so h = puts x _ m.tunnel _ h.after refl refl refl (whole.calls m.tunnel h.tunnel h.there)
  does_whole moment ev (move.TookPlain m) x so h = puts x _ m.tunnel _ h.after refl refl refl (whole.calls m.tunnel h.tunnel h.there)
  does_whole moment ev (move.NrRead m) x so h = puts x _ m.tunnel _ h.after refl refl refl (whole.calls m.tunnel h.tunnel h.there)
  does_whole moment ev (move.LetGo m) x so h = puts x _ m.tunnel _ h.after refl refl refl (whole.calls m.tunnel h.tunnel h.there)
  does_whole moment ev (move.Repeated m) x so h = puts x _ m.tunnel _ h.after refl refl refl (whole.calls m.tunnel h.tunnel h.there)
  does_whole moment ev (move.Quiet i) x so h = nothing x h.after
  does_whole moment ev (move.Negotiated m) x so h =
      let calls = whole.calls m.tunnel h.tunnel h.there in
      puts x _ m.tunnel _ h.after refl refl refl
      (whole_put e.role h.tunnel.calls m.session _ (calls.sound m.session h.call h.live).0 (calls.sound m.session h.call h.live).1 calls)
  does_whole moment ev (move.Counted m) x so h =
      let calls = whole.calls m.tunnel h.tunnel h.there in
      puts x _ m.tunnel _ h.after refl refl refl
      (whole_put e.role h.tunnel.calls m.session _ (calls.sound m.session h.call h.live).0 (calls.sound m.session h.call h.live).1 calls)
  does_whole moment ev (move.FrameSent m) x so h = nothing x h.after
  does_whole moment ev (move.FrameUp m) x so h = nothing x h.after
  does_whole moment ev (move.Restored m) x so h = absurd so
  does_whole moment ev (move.Forgot m) x so h = absurd so
  does_whole moment ev (move.Froze m) x so h = puts x _ m.tunnel _ h.after refl refl refl (whole_finished e.role h.tunnel.calls (whole.calls m.tunnel h.tunnel h.there))
  does_whole moment ev (move.ResetAttempting m) x so h = puts x _ m.tunnel _ h.after refl refl refl (whole.calls m.tunnel h.tunnel h.there)
  does_whole moment ev (move.ResetAnswering m) x so h = puts x _ m.tunnel _ h.after refl refl refl (whole.calls m.tunnel h.tunnel h.there)
  does_whole moment ev (move.Queried m) x so h = puts x _ m.tunnel _ h.after refl refl refl (whole.calls m.tunnel h.tunnel h.there)
  does_whole moment ev (move.AnsweredQuery m) x so h = puts x _ m.tunnel _ h.after refl refl refl (whole.calls m.tunnel h.tunnel h.there)
  does_whole moment ev (move.TookAnswer m) x so h =
      puts x _ m.tunnel _ h.after refl refl refl (whole_each e.role m.ended h.tunnel.calls (whole.calls m.tunnel h.tunnel h.there))
  does_whole moment ev (move.RecoveryWentOn i) x so h = puts x _ i _ h.after refl refl refl (whole.calls i h.tunnel h.there)
  does_whole moment ev (move.RecoveryEnded i) x so h = puts x _ i _ h.after refl refl refl (whole.calls i h.tunnel h.there)
  does_whole moment ev (move.Ignored i) x so h = puts x _ i _ h.after refl refl refl (whole.calls i h.tunnel h.there)

-- so one move keeps calls sound, of an end whose tables ascend
pub sound_then : (e x : End) → e.session_ids.last < 65536 → Ascends e.tunnels → ((i : ℕ) (t : Tunnel) → at e.tunnels i ≡ Some t → Ascends t.calls)
    → AreSound e → (moment : ℕ) (ev : Event) (m : Move) → IsOfNoStart m → Does e moment ev m x → AreSound x
sound_then e x last order calls sound moment ev m so does =
    let whole : AreWhole e = record {
      last = last;
      order = order;
      calls = λ j u is. record { order = calls j u is; sound = sound j u is };
    } in
    λ i t there. ((does_whole e whole moment ev m x so does).calls i t there).sound

-- the role is the end's
does_role : (moment : ℕ) (ev : Event) (e x : End) (m : Move) → Does e moment ev m x → x.role ≡ e.role
does_role moment ev e x (move.Opened m) h = ap (λ (y : End). y.role) h.after
does_role moment ev e x (move.Accepted m) h = ap (λ (y : End). y.role) h.after
does_role moment ev e x (move.Connected m) h = ap (λ (y : End). y.role) h.after
does_role moment ev e x (move.Confirmed m) h = ap (λ (y : End). y.role) h.after
does_role moment ev e x (move.Added m) h = ap (λ (y : End). y.role) h.after
does_role moment ev e x (move.Requested m) h = ap (λ (y : End). y.role) h.after
does_role moment ev e x (move.Replied m) h = ap (λ (y : End). y.role) h.after
does_role moment ev e x (move.FirstUp m) h = ap (λ (y : End). y.role) h.after
does_role moment ev e x (move.SecondUp m) h = ap (λ (y : End). y.role) h.after
does_role moment ev e x (move.Refused m) h = ap (λ (y : End). y.role) h.after
does_role moment ev e x (move.EndTold m) h = ap (λ (y : End). y.role) h.after
does_role moment ev e x (move.EndHeard m) h = ap (λ (y : End). y.role) h.after
does_role moment ev e x (move.EndSilent m) h = ap (λ (y : End). y.role) h.after
does_role moment ev e x (move.Declined m) h = ap (λ (y : End). y.role) h.after
does_role moment ev e x (move.Closed m) h = ap (λ (y : End). y.role) h.after
does_role moment ev e x (move.Rejected m) h = ap (λ (y : End). y.role) h.after
does_role moment ev e x (move.ClosedBy m) h = ap (λ (y : End). y.role) h.after
does_role moment ev e x (move.Cleared i booked) h = ap (λ (y : End). y.role) h.after
does_role moment ev e x (move.Greeted m) h = ap (λ (y : End). y.role) h.after
does_role moment ev e x (move.TookPlain m) h = ap (λ (y : End). y.role) h.after
does_role moment ev e x (move.NrRead m) h = ap (λ (y : End). y.role) h.after
does_role moment ev e x (move.LetGo m) h = ap (λ (y : End). y.role) h.after
does_role moment ev e x (move.Repeated m) h = ap (λ (y : End). y.role) h.after
does_role moment ev e x (move.Quiet i) h = ap (λ (y : End). y.role) h.after
does_role moment ev e x (move.Negotiated m) h = ap (λ (y : End). y.role) h.after
does_role moment ev e x (move.Counted m) h = ap (λ (y : End). y.role) h.after
does_role moment ev e x (move.FrameSent m) h = ap (λ (y : End). y.role) h.after
does_role moment ev e x (move.FrameUp m) h = ap (λ (y : End). y.role) h.after
does_role moment ev e x (move.Restored m) h = ap (λ (y : End). y.role) h.after
does_role moment ev e x (move.Forgot m) h = ap (λ (y : End). y.role) h.after
does_role moment ev e x (move.Froze m) h = ap (λ (y : End). y.role) h.after
does_role moment ev e x (move.ResetAttempting m) h = ap (λ (y : End). y.role) h.after
does_role moment ev e x (move.ResetAnswering m) h = ap (λ (y : End). y.role) h.after
does_role moment ev e x (move.Queried m) h = ap (λ (y : End). y.role) h.after
does_role moment ev e x (move.AnsweredQuery m) h = ap (λ (y : End). y.role) h.after
does_role moment ev e x (move.TookAnswer m) h = ap (λ (y : End). y.role) h.after
does_role moment ev e x (move.RecoveryWentOn i) h = ap (λ (y : End). y.role) h.after
does_role moment ev e x (move.RecoveryEnded i) h = ap (λ (y : End). y.role) h.after
does_role moment ev e x (move.Ignored i) h = ap (λ (y : End). y.role) h.after

chain_role : (moment : ℕ) (ev : Event) (ms : List Move) (e x : End) → Chain moment ev e ms x → x.role ≡ e.role
chain_role moment ev [] e x h = ap (λ (y : End). y.role) (sym h)
chain_role moment ev (m ∷ ms) e x h = chain_role moment ev ms h.0 x h.2 ∙ does_role moment ev e h.0 m h.1

chain_whole : (moment : ℕ) (ev : Event) (ms : List Move) (e x : End) → AllByRecursion IsOfNoStart ms → AreWhole e → Chain moment ev e ms x → AreWhole x
chain_whole moment ev [] e x so whole h = subst AreWhole h whole
chain_whole moment ev (m ∷ ms) e x so whole h = chain_whole moment ev ms h.0 x so.1 (does_whole e whole moment ev m h.0 so.0 h.1) h.2

module _ (chains : StepsAreChains) (e : End) (kept : AreKept e) (moment : ℕ) (block : List ℕ) (ev : Event) where
  pub role_stays : (plain_step e moment block ev).end.role ≡ e.role
  role_stays = let s = plain_step e moment block ev in chain_role moment ev s.moves e s.end (chains e kept moment block ev).chain

  pub stays_sound : AreSound e → AreSound (plain_step e moment block ev).end
  stays_sound sound i t there =
      let s = plain_step e moment block ev in
      let whole = chain_whole moment ev s.moves e s.end (steps_are_no_starts e moment block ev) (record {
        last = kept.sessions;
        order = kept.order;
        calls = λ j u is. record { order = (kept.tunnels j u is).calls; sound = sound j u is };
      }) (chains e kept moment block ev).chain in
      (whole.calls i t there).sound

pub calls_stay_sound : StepsAreChains → CallsStaySound
calls_stay_sound chains e kept sound moment block ev = stays_sound chains e kept moment block ev sound
