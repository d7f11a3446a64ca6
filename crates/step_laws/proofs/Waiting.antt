-- After a step no call waits in an open tunnel, since there is room for its request.
use Rattle.step_laws.proofs.Callers.{turns_ring, ring_no_tick}
use Rattle.end_names.specs.Names.{subscriber}
use Rattle.step_laws.specs.Callers.{IsRing}
use Rattle.std.proofs.Common.{◌≡◌, ◌⊎◌, inl, inr, ⊎_elim, ℕ, ◌<◌, false, List, [], refl, sym, ap, ◌∙◌, subst, Option, Some, None, Result, Ok, Err, true}
use Rattle.std.proofs.lemmas.Bool.{true≢false}
use Rattle.std.proofs.lemmas.Option.{none-some}
use Rattle.std.specs.Prelude.{◌==◌}
use Rattle.id_table.specs.Ids.{at, at-none}
use Rattle.wire_base.specs.declared.letter.Letter.{Letter}
use Rattle.l2tp_header.specs.declared.header.Header.{Header}
use Rattle.l2tp_header.specs.declared.header.HeaderError.{HeaderError}
use Rattle.l2tp_header.specs.Reading.{header_of, body_of}
use Rattle.tunnel_fsm.specs.declared.table.TunnelState.TheVariants.{WaitCtlReply, Established}
use Rattle.tunnel_fsm.specs.declared.table.TunnelEvent.TheVariants as tunnel_event
use Rattle.tunnel_fsm.specs.Rows.{rows, row_of, state_number}
use Rattle.end_model.specs.declared.tunnel.Call.{Call}
use Rattle.end_model.specs.declared.tunnel.CallPlace.{CallPlace}
use Rattle.end_names.specs.declared.role.Role.{Role}
use Rattle.end_names.specs.declared.role.Role.TheVariants.{Lac, Lns}
use Rattle.wire_base.specs.declared.cause.Cause.TheVariants as cause
use Rattle.call_fsm.specs.declared.table.CallState.TheVariants.{WaitTunnel}
use Rattle.call_fsm.specs.declared.table.CallEvent.TheVariants as call_event
use Rattle.end_model.specs.declared.event.Addressee.{Addressee}
use Rattle.end_model.specs.declared.event.Addressee.TheVariants.{Opens, Stops, Answers, Main, Nobody, Recovery, Recovers}
use Rattle.end_model.specs.declared.event.Event.{Event}
use Rattle.wire_base.specs.declared.letter.Side.{Side}
use Rattle.wire_base.specs.declared.letter.Side.TheVariants as side
use Rattle.end_model.specs.declared.event.Event.TheVariants.{Datagram, Ring, Payload, Lower, Lcp, Hang, OpenTunnel, DropCall, CloseTunnel, Tick, Admitted, Frame}
use Rattle.end_model.specs.declared.out.Out.{Out}
use Rattle.end_model.specs.declared.out.Out.TheVariants.{Cause as Refused}
use Rattle.end_model.specs.Reading.{message_in}
use Rattle.session_looks.specs.Frames.{Carried, Upward, Dropped}
use Rattle.end_model.specs.Calls.{call_row, is_lac}
use Rattle.end_model.specs.Tunnels.{Tunnel, Env, Turn, turn_of, turn_in, Recovering}
use Rattle.end_model.specs.Reasons.{Reason, out_of_order}
use Rattle.end_model.specs.Events.{with_calls, turns, tunnel_after}
use Rattle.end_model.specs.Openings.{fresh}
use Rattle.end_model.specs.Channels.{has_room}
use Rattle.end_model.specs.End.{End, Stepped, env_of, gives_only, after_turn, after_new, in_new, has_all_tunnels, in_one_more, in_main, addressed, against_body, next_of_peer, declined, opens_or_declines, for_addressee, least_in, rings_in, rings_at, for_call, then_heard, handed, hands_up, receives, only_by, step_in, plain_step, after_both, in_recovery, are_recovering}
use Rattle.step_laws.specs.Left.{CanBe, CallsAreAsked}
use Rattle.step_laws.specs.Steps.{AreKept, StepsAreChains}
use Rattle.step_laws.proofs.Lists.{branch}
use Rattle.step_laws.proofs.States.{requested_state}
use Rattle.step_laws.proofs.Sound.{role_stays, stays_sound}
use Rattle.step_laws.proofs.Late.{holds_after, ticks_leave, roomy, ticked}
use Rattle.step_laws.proofs.Asking.{Waits, Busy, Begins, Asked, closes_asked, shuts_by_asked, datagram_asked, rings_asked, carries_asked}
use Rattle.step_laws.proofs.LcpAsked.{lcp_asked}
use Rattle.step_laws.proofs.NewTunnels.{IsNew, heard_new, rings_is_new, opens_new}
use Rattle.step_laws.proofs.Chosen.{least_is, least_open, least_opening}
use Rattle.control_message.specs.declared.message.Opening.{Opening}
use Rattle.end_model.specs.Recovering.{is_tick, recovering_turns, hears_recovery, froze}
use Rattle.step_laws.proofs.Behind.{IsHeld, line_heard, froze_left}
use Rattle.step_laws.proofs.Finished.{found_finished}
use Rattle.step_laws.proofs.Attempting.{recovers_so}

-- no call waits but where the SCCRQ isn't answered yet
abbrev NoneWaits : End → Type 0
NoneWaits e = (i : ℕ) (t : Tunnel) → at e.tunnels i ≡ Some t → (state_number t.control.state ≡ 1 → ⊥) → (s : ℕ) (c : Call) → at t.calls s ≡ Some c
    → Waits e.role s c → ⊥

module _ (e : End) (kept : AreKept e) (none : NoneWaits e) (moment : ℕ) (block : List ℕ) where
  abbrev env : Env
  env = env_of e moment block

  -- none of a tunnel's calls waits but where there is no room
  abbrev IsAsked : Tunnel → Type 0
  IsAsked t = (state_number t.control.state ≡ 1 → ⊥) → (s : ℕ) (c : Call) → at t.calls s ≡ Some c → Waits e.role s c → has_room t.control ≡ false

  abbrev AllAsked : Stepped → Type 0
  AllAsked x = (i : ℕ) (t : Tunnel) → at x.end.tunnels i ≡ Some t → IsAsked t

  as_it_was : (i : ℕ) (t : Tunnel) → at e.tunnels i ≡ Some t → IsAsked t
  as_it_was i t there is_open s c live waits = absurd (none i t there is_open s c live waits)

  only_asked : (o : Out) → AllAsked (gives_only e o)
  unfolding gives_only
  only_asked o = as_it_was

  -- ---- turns of tunnels

  turn_asked : (i : ℕ) (letters : List Letter) (calls : List (ℕ × Call)) (recovery : Option Recovering) (r : Turn)
      → (r.cleared ≡ true) ⊎ IsAsked (tunnel_after r letters calls recovery) → AllAsked (after_turn e i letters calls recovery r)
  unfolding after_turn
  turn_asked i letters calls recovery r asked j =
      holds_after IsAsked e.tunnels i r.cleared (tunnel_after r letters calls recovery) kept.order asked j (λ other. as_it_was j)

  -- a new tunnel has no call, or its SCCRQ isn't answered yet
  new_tunnel : (r : Turn) → IsNew r → IsAsked (tunnel_after r [] [] None)
  unfolding with_calls
  new_tunnel r is is_open s c live waits = ⊎_elim
      (λ opening. absurd (is_open opening))
      (λ none. absurd (let found = rw none at live in none-some c (sym (at-none s) ∙ found)))
      is

  new_asked : (r : Turn) → IsNew r → AllAsked (after_new e r)
  unfolding after_new
  new_asked r is = branch AllAsked (r.control.local == 0) _ _ (λ zero. as_it_was) (λ some. turn_asked r.control.local [] [] None r (inr (new_tunnel r is)))

  -- the turn of a tunnel that is there
  abbrev turn : Event → Tunnel → Turn
  turn ev t = turns e.role e.config t.letters t.calls ev (turn_in t env)

  begins : (i : ℕ) (t : Tunnel) → at e.tunnels i ≡ Some t → Begins e.role t.calls (turn_in t env)
  begins i t is = record { none = refl; asked = none i t is }

  busy : (i : ℕ) (t : Tunnel) → at e.tunnels i ≡ Some t → Busy (turn_in t env)
  busy i t is = (kept.tunnels i t is).busy

  main_asked : (ev : Event) (i : ℕ) → is_tick ev ≡ false → ((t : Tunnel) → at e.tunnels i ≡ Some t → Asked e.role t.calls (turn ev t)) → AllAsked (in_main e env ev i (at e.tunnels i))
  unfolding in_main recovering_turns
  main_asked ev i no_tick asked = by (at e.tunnels i) refl
    where
      by : (o : Option Tunnel) → at e.tunnels i ≡ o → AllAsked (in_main e env ev i o)
      by None is = only_asked _
      by (Some t) is = rw no_tick (turn_asked i t.letters t.calls t.recovery (turn ev t) (inr (asked t is)))

  -- a turn that leaves the state and the calls of its tunnel
  left_asked : (i : ℕ) (t : Tunnel) → at e.tunnels i ≡ Some t → (recovery : Option Recovering) (r : Turn) → r.control.state ≡ t.control.state
      → ((s : ℕ) (c : Call) → at (with_calls r.changed t.calls) s ≡ Some c → at t.calls s ≡ Some c) → IsAsked (tunnel_after r t.letters t.calls recovery)
  left_asked i t there recovery r state left is_open s c live waits =
      absurd (none i t there (λ opening. is_open (ap state_number state ∙ opening)) s c (left s c live) waits)

  -- what a recovery tunnel hears
  line_asked : (h : Header) (body : List ℕ) (i : ℕ) (o : Option Tunnel) → at e.tunnels i ≡ o → AllAsked (in_recovery e env h body i o)
  unfolding in_recovery with_calls
  line_asked h body i None is = only_asked _
  line_asked h body i (Some t) is =
      let x = hears_recovery e.config t.letters t.calls h body t.recovery (turn_in t env) in
      turn_asked i t.letters t.calls x.recovery x.turn (⊎_elim
      (λ gone. inl gone)
      (λ (a : IsHeld (turn_in t env) x.turn).
      inr (left_asked i t is x.recovery x.turn a.state (λ s c live. subst (λ cs. at (with_calls cs t.calls) s ≡ Some c) a.changed live)))
      (line_heard e.config t.letters t.calls h body t.recovery (turn_in t env)))

  -- a tunnel that is frozen
  frozen_asked : (t : Tunnel) (o : Opening) (local draw : ℕ) → at e.tunnels t.control.local ≡ Some t
      → AllAsked (after_both e t.control.local t (froze e.role e.config t.calls o local draw (turn_in t env)))
  frozen_asked t o local draw is =
      let x = froze e.role e.config t.calls o local draw (turn_in t env) in
      let order = (kept.tunnels t.control.local t is).calls in
      let h = froze_left e.role e.config t.calls o local draw (turn_in t env) order refl in
      turn_asked t.control.local t.letters t.calls x.recovery x.turn
      (inr (left_asked t.control.local t is x.recovery x.turn h.0
      (λ s c live. found_finished t.calls order s c (subst (λ es. at es s ≡ Some c) h.1 live))))

  -- one more tunnel, or the refusal
  more_asked : (ev : Event) (peer : ℕ) (o : Out) → AllAsked (in_new e env ev peer) → AllAsked (in_one_more e env ev peer o)
  unfolding in_one_more
  more_asked ev peer o made = branch AllAsked (has_all_tunnels e.tunnels) _ _ (λ all. only_asked o) (λ fewer. made)

  -- ---- datagrams

  heard : (peer : ℕ) (bytes : List ℕ) (i : ℕ) (t : Tunnel) → at e.tunnels i ≡ Some t → Asked e.role t.calls (turn (Datagram peer bytes) t)
  unfolding turns
  heard peer bytes i t is =
      datagram_asked e.role t.calls (kept.tunnels i t is).calls e.config t.letters bytes (header_of bytes) (turn_in t env) (busy i t is) (begins i t is)

  declined_asked : (peer remote nr : ℕ) (r : Reason) → AllAsked (declined e peer remote nr r)
  unfolding declined
  declined_asked peer remote nr r = as_it_was

  opens_or_asked : (peer : ℕ) (bytes : List ℕ) (remote nr : ℕ) (o : Option Reason)
      → AllAsked (opens_or_declines e env (Datagram peer bytes) peer remote nr o)
  unfolding opens_or_declines in_new turns
  opens_or_asked peer bytes remote nr None =
      new_asked _ (heard_new e.role e.config bytes (header_of bytes) (turn_of (fresh peer moment) env) refl refl)
  opens_or_asked peer bytes remote nr (Some r) = declined_asked peer remote nr r

  addressee_asked : (peer : ℕ) (bytes : List ℕ) (h : Header) (body : List ℕ) (a : Addressee)
      → AllAsked (for_addressee e env (Datagram peer bytes) peer h body a)
  unfolding for_addressee
  addressee_asked peer bytes h body (Opens remote) = opens_or_asked peer bytes remote (next_of_peer h) (against_body e body)
  addressee_asked peer bytes h body (Stops remote) = only_asked _
  addressee_asked peer bytes h body (Answers remote) = declined_asked peer remote (next_of_peer h) out_of_order
  addressee_asked peer bytes h body (Main i) = main_asked (Datagram peer bytes) i refl (heard peer bytes i)
  addressee_asked peer bytes h body (Recovery i) = line_asked h body i (at e.tunnels i) refl
  addressee_asked peer bytes h body (Recovers remote) =
      recovers_so e kept env AllAsked (λ p r n x. declined_asked p r n x) (λ w. only_asked _) frozen_asked peer (next_of_peer h) (message_in body)
  addressee_asked peer bytes h body (Nobody w) = only_asked _

  -- an LCP packet is heard in its call
  packet : (s : ℕ) (frame : List ℕ) (i : ℕ) (t : Tunnel) → at e.tunnels i ≡ Some t
      → Asked e.role t.calls (turns e.role e.config t.letters t.calls (Lcp s frame) (turn_in t env))
  unfolding turns
  packet s frame i t is = lcp_asked e.role t.calls (kept.tunnels i t is).calls t.letters s frame (at t.calls s) (turn_in t env) (begins i t is)

  then_asked : (tunnel session : ℕ) (frame : List ℕ) (x : Side) → AllAsked (then_heard e env tunnel session frame x)
  unfolding then_heard
  then_asked tunnel session frame side.Sub = as_it_was
  then_asked tunnel session frame side.Net = as_it_was
  then_asked tunnel session frame side.Lcp = main_asked (Lcp session frame) tunnel refl (packet session frame tunnel)

  handed_asked : (session : ℕ) (c : Carried) → AllAsked (handed e env session c)
  unfolding handed
  handed_asked session (Dropped w) = only_asked _
  handed_asked session (Upward tunnel peer x frame) = then_asked tunnel session frame x

  received_asked : (peer : ℕ) (bytes : List ℕ) (r : Result Header HeaderError) → AllAsked (receives e env peer bytes r)
  unfolding receives hands_up
  received_asked peer bytes (Err x) = only_asked _
  received_asked peer bytes (Ok h) =
      branch AllAsked h.control _ _
      (λ control. addressee_asked peer bytes h (body_of bytes h) (addressed e peer h (body_of bytes h)))
      (λ data_is. handed_asked h.session _)

  -- ---- rings and frames

  rung : (ev : Event) (who : List ℕ) → IsRing ev who → (i : ℕ) → ((t : Tunnel) → at e.tunnels i ≡ Some t → (state_number t.control.state ≡ 3) ⊎ (state_number t.control.state ≡ 1)) → (t : Tunnel)
      → at e.tunnels i ≡ Some t → Asked e.role t.calls (turn ev t)
  rung ev who ring i goes t is =
      subst (Asked e.role t.calls) (sym (turns_ring e.role e.config t.letters t.calls ev who (turn_in t env) ring))
      (rings_asked e.role t.calls e.config t.letters who (turn_in t env) (busy i t is) (goes t is) (begins i t is))

  rings_asked_in : (ev : Event) (who : List ℕ) → IsRing ev who → (open_one opening : Option ℕ) → least_in Established e.config.lns e.tunnels ≡ open_one
      → least_in WaitCtlReply e.config.lns e.tunnels ≡ opening → AllAsked (rings_in e env ev open_one opening)
  unfolding rings_in in_new
  rings_asked_in ev who ring (Some i) opening is next = main_asked ev i (ring_no_tick ev who ring) (rung ev who ring i (λ t there. inl (least_is e Established i (least_open e kept i is) t there).0))
  rings_asked_in ev who ring None (Some i) is next = main_asked ev i (ring_no_tick ev who ring) (rung ev who ring i (λ t there. inr (least_is e WaitCtlReply i (least_opening e kept i next) t there).0))
  rings_asked_in ev who ring None None is next =
      let blank = turn_of (fresh e.config.lns moment) env in
      branch AllAsked (are_recovering e.config.lns e.tunnels) _ _ (λ some. only_asked _) (λ calm. more_asked ev e.config.lns (Refused cause.Tunnels)
      (new_asked _ (subst IsNew (sym (turns_ring e.role e.config [] [] ev who blank ring)) (rings_is_new e.role e.config [] who blank refl refl))))

  payload : (s : ℕ) (frame : List ℕ) (i : ℕ) (t : Tunnel) → at e.tunnels i ≡ Some t → Asked e.role t.calls (turn (Payload s frame) t)
  unfolding turns
  payload s frame i t is = carries_asked e.role t.calls s frame (at t.calls s) (turn_in t env) (begins i t is)

  lower : (s : ℕ) (frame : List ℕ) (i : ℕ) (t : Tunnel) → at e.tunnels i ≡ Some t → Asked e.role t.calls (turn (Lower s frame) t)
  unfolding turns
  lower s frame i t is = carries_asked e.role t.calls s frame (at t.calls s) (turn_in t env) (begins i t is)

  payload_asked : (s : ℕ) (frame : List ℕ) (o : Option CallPlace) → AllAsked (for_call e env (Payload s frame) o)
  unfolding for_call
  payload_asked s frame None = only_asked _
  payload_asked s frame (Some p) = main_asked (Payload s frame) p.tunnel refl (payload s frame p.tunnel)

  lower_asked : (s : ℕ) (frame : List ℕ) (o : Option CallPlace) → AllAsked (for_call e env (Lower s frame) o)
  unfolding for_call
  lower_asked s frame None = only_asked _
  lower_asked s frame (Some p) = main_asked (Lower s frame) p.tunnel refl (lower s frame p.tunnel)

  lcp_heard_asked : (s : ℕ) (frame : List ℕ) (o : Option CallPlace) → AllAsked (for_call e env (Lcp s frame) o)
  unfolding for_call
  lcp_heard_asked s frame None = only_asked _
  lcp_heard_asked s frame (Some p) = main_asked (Lcp s frame) p.tunnel refl (packet s frame p.tunnel)

  hung : (s i : ℕ) (t : Tunnel) → at e.tunnels i ≡ Some t → Asked e.role t.calls (turn (Hang s) t)
  unfolding turns
  hung s i t is =
      closes_asked e.role t.calls (kept.tunnels i t is).calls cause.Line call_event.LineDrop 1 s t.letters (at t.calls s) (turn_in t env) (begins i t is)

  closed : (s i : ℕ) (t : Tunnel) → at e.tunnels i ≡ Some t → Asked e.role t.calls (turn (DropCall s) t)
  unfolding turns
  closed s i t is =
      closes_asked e.role t.calls (kept.tunnels i t is).calls cause.Operator call_event.Close 3 s t.letters (at t.calls s) (turn_in t env) (begins i t is)

  shut : (i : ℕ) (t : Tunnel) → at e.tunnels i ≡ Some t → Asked e.role t.calls (turn (CloseTunnel i) t)
  unfolding turns
  shut i t is =
      let row = row_of rows t.control.state tunnel_event.AdminClose in
      shuts_by_asked e.role t.calls t.letters row.0 row.1 (turn_in t env) (begins i t is)

  hung_asked : (s : ℕ) (o : Option CallPlace) → AllAsked (for_call e env (Hang s) o)
  unfolding for_call
  hung_asked s None = only_asked _
  hung_asked s (Some p) = main_asked (Hang s) p.tunnel refl (hung s p.tunnel)

  closed_asked : (s : ℕ) (o : Option CallPlace) → AllAsked (for_call e env (DropCall s) o)
  unfolding for_call
  closed_asked s None = only_asked _
  closed_asked s (Some p) = main_asked (DropCall s) p.tunnel refl (closed s p.tunnel)

  opens_asked : AllAsked (in_one_more e env OpenTunnel e.config.lns (Refused cause.Tunnels))
  unfolding in_new turns
  opens_asked =
      more_asked OpenTunnel e.config.lns (Refused cause.Tunnels) (new_asked _ (opens_new e.role e.config [] (turn_of (fresh e.config.lns moment) env) refl))

  -- ---- the step

  ticks_asked : AllAsked (plain_step e moment block Tick)
  ticks_asked = ticks_leave IsAsked e kept.order moment block (λ j u is. ⊎_elim
      (λ cleared. inl cleared)
      (λ stays. inr (λ is_open s c live waits.
      absurd (none j u is (λ opening. is_open (ap state_number stays.state ∙ opening)) s c (stays.few s c live (rw (requested_state e.role c.state waits.row).0 refl)) waits)))
      (ticked e kept moment block j u is))

  by_lac : (x : Stepped) → AllAsked x → AllAsked (only_by Lac e x)
  unfolding only_by
  by_lac x h = branch AllAsked (is_lac e.role) _ _ (λ lac. h) (λ lns. only_asked _)

  by_lns : (x : Stepped) → AllAsked x → AllAsked (only_by Lns e x)
  unfolding only_by
  by_lns x h = branch AllAsked (is_lac e.role) _ _ (λ lac. only_asked _) (λ lns. h)

  step_asked : (ev : Event) → AllAsked (plain_step e moment block ev)
  unfolding plain_step step_in rings_at
  step_asked (Datagram peer bytes) = received_asked peer bytes (header_of bytes)
  step_asked (Ring port) =
      by_lac _ (rings_asked_in (Ring port) (subscriber port) refl (least_in Established e.config.lns e.tunnels) (least_in WaitCtlReply e.config.lns e.tunnels) refl refl)
  step_asked (Admitted mac) =
      by_lac _ (rings_asked_in (Admitted mac) mac refl (least_in Established e.config.lns e.tunnels) (least_in WaitCtlReply e.config.lns e.tunnels) refl refl)
  step_asked (Frame bytes) = only_asked _
  step_asked (Payload s frame) = by_lac _ (payload_asked s frame (at e.calls s))
  step_asked (Lower s frame) = by_lns _ (lower_asked s frame (at e.calls s))
  step_asked (Lcp s frame) = by_lns _ (lcp_heard_asked s frame (at e.calls s))
  step_asked (Hang s) = by_lac _ (hung_asked s (at e.calls s))
  step_asked (DropCall s) = closed_asked s (at e.calls s)
  step_asked (CloseTunnel i) = main_asked (CloseTunnel i) i refl (shut i)
  step_asked Tick = ticks_asked
  step_asked OpenTunnel = by_lac _ opens_asked

-- a call that waits for its tunnel is to be asked for
waiting : (r : Role) (s : ℕ) (c : Call) → s < 65536 → CanBe r c.state → c.state ≡ WaitTunnel → Waits r s c
unfolding call_row
waiting Lac s c small can is = record { small = small; row = rw is refl }
waiting Lns s c small can is = absurd (subst (CanBe Lns) is can)

pub calls_are_asked : StepsAreChains → CallsAreAsked
calls_are_asked chains e kept sound asked moment block ev i t there is_open s c live is =
    let x = (plain_step e moment block ev).end in
    let none : NoneWaits e = λ j u found opened q d here waits. asked j u found opened q d here (requested_state e.role d.state waits.row).0 in
    let call : (s < 65536) × CanBe x.role c.state = stays_sound chains e kept moment block ev sound i t there s c live in
    let can : CanBe e.role c.state = subst (λ r. CanBe r c.state) (role_stays chains e kept moment block ev) call.1 in
    true≢false (sym (roomy i t ((chains e kept moment block ev).kept.tunnels i t there) s c live)
    ∙ step_asked e kept none moment block ev i t there is_open s c live (waiting e.role s c call.0 can is))
