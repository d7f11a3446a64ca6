-- A step hands up what its moves hand up: a frame that comes, and no other.
use Rattle.std.proofs.Common.{◌≡◌, ℕ, ◌≤◌, false, List, [], ◌∷◌, ◌++◌, length, refl, ap, sym, ◌∙◌, Option, Some, None, Result, Ok, Err, arith}
use Rattle.std.specs.Prelude.{◌==◌, not, nat_lt}
use Rattle.std.specs.List.{AllByRecursion, flat_map}
use Rattle.id_table.specs.Ids.{at, ids_of}
use Rattle.wire_base.specs.declared.why.Why.{Why}
use Rattle.wire_base.specs.declared.why.Why.TheVariants as why
use Rattle.wire_base.specs.declared.cause.Cause.{Cause as CauseOf}
use Rattle.wire_base.specs.declared.cause.Cause.TheVariants as cause
use Rattle.l2tp_header.specs.declared.header.Header.{Header}
use Rattle.l2tp_header.specs.declared.header.HeaderError.{HeaderError}
use Rattle.l2tp_header.specs.Reading.{header_of, body_of}
use Rattle.tunnel_fsm.specs.declared.table.TunnelState.TheVariants.{WaitCtlReply, Established}
use Rattle.end_model.specs.declared.tunnel.CallPlace.{CallPlace}
use Rattle.end_names.specs.declared.role.Role.{Role}
use Rattle.end_names.specs.declared.role.Role.TheVariants.{Lac, Lns}
use Rattle.end_model.specs.declared.tunnel.Call.{Call}
use Rattle.end_model.specs.declared.event.Addressee.{Addressee}
use Rattle.end_model.specs.declared.event.Addressee.TheVariants.{Opens, Stops, Answers, Main, Nobody, Recovers, Recovery as AddressedRecovery}
use Rattle.end_model.specs.declared.event.Event.{Event}
use Rattle.wire_base.specs.declared.letter.Side.{Side}
use Rattle.wire_base.specs.declared.letter.Side.TheVariants as side
use Rattle.end_model.specs.declared.event.Event.TheVariants.{Datagram, Ring, Payload, Lower, Lcp, Hang, OpenTunnel, DropCall, CloseTunnel, Tick, Admitted, Frame}
use Rattle.end_model.specs.declared.out.Out.{Out}
use Rattle.end_model.specs.declared.out.Out.TheVariants.{Up, Drop, Cause}
use Rattle.session_looks.specs.Frames.{header_why, frame_of, Carried, Upward, Dropped, carry_look}
use Rattle.end_model.specs.Reading.{message_in}
use Rattle.end_model.specs.Calls.{is_lac}
use Rattle.end_model.specs.Tunnels.{Ground, Tunnel, Env, turn_of, turn_in}
use Rattle.end_model.specs.Reasons.{Reason, out_of_order, no_recovery, other_version, no_secret, no_id}
use Rattle.end_model.specs.Openings.{fresh}
use Rattle.end_model.specs.Events.{turns}
use Rattle.end_model.specs.End.{End, Stepped, env_of, gives_only, after_turn, after_new, in_new, has_all_tunnels, in_one_more, in_main, addressed, against_body, next_of_peer, declined, opens_or_declines, for_addressee, least_in, rings_in, rings_at, for_call, look_in, then_heard, handed, hands_up, receives, Turned, tick_of, ticks_of, after_all, ticks_all, only_by, step_in, plain_step, in_recovery, are_recovering, is_tied, is_recoverable, freezes, recovers_tunnel, recovers_by, recovers}
use Rattle.step_laws.specs.Ups.{ups_of_output, ups_of_move, births_of_move, reads_of_move, most_ups, most_births, most_reads, UpsAreMoves, UpsAreFew, BirthsAreFew, ReadsAreFew}
use Rattle.step_laws.proofs.Lists.{branch, all_map}
use Rattle.step_laws.proofs.Quiet.{SentSo, AreQuiet, nothing, IsQuiet}
use Rattle.step_laws.proofs.Events.{Allows, turns_quiet, both_quiet}
use Rattle.id_source.specs.Spaces.{takes_id}
use Rattle.id_source.specs.declared.IdError.{IdError}
use Rattle.control_message.specs.declared.message.Message.{Message}
use Rattle.control_message.specs.declared.message.Message.TheVariants.{Sccrq, Sccrp, Scccn, StopCcn, Hello, Ocrq, Ocrp, Occn, Icrq, Icrp, Iccn, Cdn, Wen, Sli, Fsq, Fsr}
use Rattle.control_message.specs.declared.message.Opening.{Opening}
use Rattle.control_message.specs.declared.message.Recovery.{Recovery}
use Rattle.end_model.specs.declared.moves.Move.{Move}
use Rattle.end_model.specs.declared.moves.Move.TheVariants as move
use Rattle.end_model.specs.Secrets.{lacks_secret}
use Rattle.end_model.specs.Recovering.{RecoveryTurn, asked_in, is_tick, recovery_ticks, recovering_turns}
use Rattle.step_laws.proofs.QuietLines.{line_quiet, recovery_ticks_quiet, froze_quiet}
use Rattle.step_laws.specs.Steps.{IsOfNoStart, StepsAreNoStarts}

-- what a step on an event hands up, how many calls are born in it, how often Nr is read, and which frames it sends down calls
pub record IsTold (F : ℕ → List ℕ → Type 0) (ev : Event) (s : Stepped) : Type 0 where
  pub same : flat_map ups_of_output s.outputs ≡ flat_map ups_of_move s.moves
  pub ups : length (flat_map ups_of_output s.outputs) ≤ most_ups ev
  pub births : length (flat_map births_of_move s.moves) ≤ most_births ev
  pub reads : length (flat_map reads_of_move s.moves) ≤ most_reads ev
  pub sent : AllByRecursion (SentSo F) s.moves

quiet_told : (F : ℕ → List ℕ → Type 0) (on g : Ground) (ev : Event) (s : Stepped)
    → AreQuiet F on (most_births ev) (most_reads ev) s.outputs s.moves g → IsTold F ev s
quiet_told F on g ev s h =
    record { same = h.no_output ∙ sym h.no_move; ups = rw h.no_output (omega arith); births = h.births; reads = h.read; sent = h.sent }

dropped_told : (F : ℕ → List ℕ → Type 0) (ev : Event) (e : End) (w : Why) → IsTold F ev (gives_only e (Drop w))
unfolding gives_only
dropped_told F ev e w = record { same = refl; ups = omega arith; births = omega arith; reads = omega arith; sent = tt }

caused_told : (F : ℕ → List ℕ → Type 0) (ev : Event) (e : End) (c : CauseOf) → IsTold F ev (gives_only e (Cause c))
unfolding gives_only
caused_told F ev e c = record { same = refl; ups = omega arith; births = omega arith; reads = omega arith; sent = tt }

module _ (e : End) (moment : ℕ) (block : List ℕ) (F : ℕ → List ℕ → Type 0) where
  abbrev env : Env
  env = env_of e moment block

  -- which frames may be sent in a step on an event: in a tunnel of the end, in one that is made, and on a frame of LCP that is handed up
  pub record MaySend (ev : Event) : Type 0 where
    pub there : (i : ℕ) (t : Tunnel) → at e.tunnels i ≡ Some t → Allows F env.on e.role t.calls ev
    pub made : Allows F env.on e.role [] ev
    pub handed : (peer : ℕ) (bytes : List ℕ) (h : Header) → ev ≡ Datagram peer bytes → header_of bytes ≡ Ok h → h.control ≡ false
        → (tunnel of : ℕ) (frame : List ℕ)
        → carry_look e.role (look_in (at e.calls h.session)) peer h (frame_of (body_of bytes h)) ≡ Upward tunnel of side.Lcp frame
        → (t : Tunnel) → at e.tunnels tunnel ≡ Some t → Allows F env.on e.role t.calls (Lcp h.session frame)

  abbrev Told : Event → Stepped → Type 0
  Told ev s = IsTold F ev s

  -- what a turn of a tunnel stands on
  abbrev ground : Tunnel → Ground
  ground t = (turn_in t env).on

  -- whatever its mode is
  in_mode : (t : Tunnel) (ev : Event) → Allows F env.on e.role t.calls ev → Allows F (ground t) e.role t.calls ev
  in_mode t ev may = record { given = may.given; opened = may.opened; ticks = may.ticks; hears = may.hears }

  on_ground : (g : Ground) (most reads : ℕ) (outs : List Out) (ms : List Move) (h : Ground) → AreQuiet F g most reads outs ms h → AreQuiet F env.on most reads outs ms env.on
  on_ground g most reads outs ms h quiet =
      record { no_output = quiet.no_output; no_move = quiet.no_move; births = quiet.births; read = quiet.read; sent = quiet.sent; same = refl }

  -- a turn of a tunnel that is there, with its recovery tunnel
  both_turns_quiet : (ev : Event) (t : Tunnel) → Allows F env.on e.role t.calls ev
      → AreQuiet F (ground t) (most_births ev) (most_reads ev) (recovering_turns e.role e.config t ev (turn_in t env)).turn.outputs
      (recovering_turns e.role e.config t ev (turn_in t env)).turn.moves (recovering_turns e.role e.config t ev (turn_in t env)).turn.on
  unfolding recovering_turns
  both_turns_quiet ev t may =
      let u = turns e.role e.config t.letters t.calls ev (turn_in t env) in
      let quiet = turns_quiet F (ground t) e.role e.config t.letters t.calls ev (turn_in t env) (in_mode t ev may) (nothing F (ground t) 0 0) in
      branch (λ (x : RecoveryTurn). IsQuiet F (ground t) (most_births ev) (most_reads ev) x.turn) (is_tick ev) (recovery_ticks t.calls t.recovery u) (record { turn = u; recovery = t.recovery })
      (λ time. recovery_ticks_quiet F (ground t) (most_births ev) (most_reads ev) t.calls t.recovery u quiet)
      (λ other. quiet)

  module _ (ev : Event) (may : MaySend ev) where
    -- ---- turns of tunnels

    main_told : (i : ℕ) (o : Option Tunnel) → at e.tunnels i ≡ o → Told ev (in_main e env ev i o)
    unfolding in_main after_turn
    main_told i None is = dropped_told F ev e why.Tunnel
    main_told i (Some t) is = quiet_told F (ground t) _ ev _ (both_turns_quiet ev t (may.there i t is))

    -- the recovery tunnel of a tunnel that is there
    line_told : (h : Header) (body : List ℕ) (i : ℕ) (o : Option Tunnel) → Told ev (in_recovery e env h body i o)
    unfolding in_recovery after_turn
    line_told h body i None = dropped_told F ev e why.Tunnel
    line_told h body i (Some t) =
        quiet_told F (ground t) _ ev _
        (line_quiet F (ground t) (most_births ev) (most_reads ev) e.config t.letters t.calls h body t.recovery (turn_in t env) (nothing F (ground t) (most_births ev) (most_reads ev)))

    new_told : (peer : ℕ) → Told ev (in_new e env ev peer)
    unfolding in_new after_new after_turn
    new_told peer =
        let quiet = turns_quiet F env.on e.role e.config [] [] ev (turn_of (fresh peer moment) env) may.made (nothing F env.on 0 0) in
        branch (Told ev) ((turns e.role e.config [] [] ev (turn_of (fresh peer moment) env)).control.local == 0) _ _
        (λ zero. quiet_told F env.on _ ev _ quiet)
        (λ some. quiet_told F env.on _ ev _ quiet)

    more_told : (peer : ℕ) (o : Out) → Told ev (gives_only e o) → Told ev (in_one_more e env ev peer o)
    unfolding in_one_more
    more_told peer o refused = branch (Told ev) (has_all_tunnels e.tunnels) _ _ (λ all. refused) (λ fewer. new_told peer)

    -- ---- datagrams

    declined_told : (peer remote nr : ℕ) (r : Reason) → Told ev (declined e peer remote nr r)
    unfolding declined
    declined_told peer remote nr r = record { same = refl; ups = omega arith; births = omega arith; reads = omega arith; sent = (tt, tt) }

    -- an attempt at a recovery is answered, or declined
    freezes_told : (peer nr : ℕ) (o : Opening) (i : ℕ) (t : Tunnel) (a b : Result ℕ IdError) → Told ev (freezes e env peer nr o i t a b)
    unfolding freezes after_turn
    freezes_told peer nr o i t (Err x) b = declined_told peer o.tunnel nr no_id
    freezes_told peer nr o i t (Ok local) (Err x) = declined_told peer o.tunnel nr no_id
    freezes_told peer nr o i t (Ok local) (Ok draw) =
        quiet_told F (ground t) _ ev _
        (froze_quiet F (ground t) (most_births ev) (most_reads ev) e.role e.config t.calls o local draw (turn_in t env) (nothing F (ground t) (most_births ev) (most_reads ev)))

    recovers_tunnel_told : (peer nr : ℕ) (o : Opening) (i : ℕ) (x : Option Tunnel) (sender : ℕ) → Told ev (recovers_tunnel e env peer nr o i x sender)
    unfolding recovers_tunnel
    recovers_tunnel_told peer nr o i None sender = declined_told peer o.tunnel nr no_recovery
    recovers_tunnel_told peer nr o i (Some t) sender =
        branch (Told ev) (not (is_recoverable peer sender t)) _ _
        (λ other. declined_told peer o.tunnel nr no_recovery)
        (λ good. branch (Told ev) (is_tied e.role t) _ _
        (λ tied. dropped_told F ev e why.Tie)
        (λ untied. branch (Told ev) (nat_lt (asked_in o) t.control.mark) _ _
        (λ older. dropped_told F ev e why.Mark)
        (λ newer. branch (Told ev) (lacks_secret e.config.secret o.challenge) _ _
        (λ lacks. declined_told peer o.tunnel nr no_secret)
        (λ able. freezes_told peer nr o i t (takes_id env.ids.tunnels) (takes_id env.ids.recoveries)))))

    recovers_by_told : (peer nr : ℕ) (o : Opening) (x : Option Recovery) → Told ev (recovers_by e env peer nr o x)
    unfolding recovers_by
    recovers_by_told peer nr o None = declined_told peer o.tunnel nr no_recovery
    recovers_by_told peer nr o (Some named) =
        branch (Told ev) (not (o.version == 256)) _ _
        (λ other. declined_told peer o.tunnel nr other_version)
        (λ good. recovers_tunnel_told peer nr o named.receiver (at e.tunnels named.receiver) named.sender)

    recovers_told : (peer nr : ℕ) (m : Result Message Why) → Told ev (recovers e env peer nr m)
    unfolding recovers
    recovers_told peer nr (Ok (Sccrq o)) = recovers_by_told peer nr o o.recovery
    recovers_told peer nr (Ok (Sccrp o)) = dropped_told F ev e why.Tunnel
    recovers_told peer nr (Ok (Scccn response)) = dropped_told F ev e why.Tunnel
    recovers_told peer nr (Ok (StopCcn tunnel code error)) = dropped_told F ev e why.Tunnel
    recovers_told peer nr (Ok Hello) = dropped_told F ev e why.Tunnel
    recovers_told peer nr (Ok (Ocrq remote)) = dropped_told F ev e why.Tunnel
    recovers_told peer nr (Ok Ocrp) = dropped_told F ev e why.Tunnel
    recovers_told peer nr (Ok Occn) = dropped_told F ev e why.Tunnel
    recovers_told peer nr (Ok (Icrq remote serial calling)) = dropped_told F ev e why.Tunnel
    recovers_told peer nr (Ok (Icrp remote)) = dropped_told F ev e why.Tunnel
    recovers_told peer nr (Ok (Iccn speed framing sequenced)) = dropped_told F ev e why.Tunnel
    recovers_told peer nr (Ok (Cdn remote code error)) = dropped_told F ev e why.Tunnel
    recovers_told peer nr (Ok Wen) = dropped_told F ev e why.Tunnel
    recovers_told peer nr (Ok Sli) = dropped_told F ev e why.Tunnel
    recovers_told peer nr (Ok (Fsq sessions)) = dropped_told F ev e why.Tunnel
    recovers_told peer nr (Ok (Fsr sessions)) = dropped_told F ev e why.Tunnel
    recovers_told peer nr (Err w) = dropped_told F ev e why.Tunnel

    opens_told : (peer remote nr : ℕ) (o : Option Reason) → Told ev (opens_or_declines e env ev peer remote nr o)
    unfolding opens_or_declines
    opens_told peer remote nr None = new_told peer
    opens_told peer remote nr (Some r) = declined_told peer remote nr r

    addressee_told : (peer : ℕ) (h : Header) (body : List ℕ) (a : Addressee) → Told ev (for_addressee e env ev peer h body a)
    unfolding for_addressee
    addressee_told peer h body (Opens remote) = opens_told peer remote (next_of_peer h) (against_body e body)
    addressee_told peer h body (Stops remote) = dropped_told F ev e why.Tunnel
    addressee_told peer h body (Answers remote) = declined_told peer remote (next_of_peer h) out_of_order
    addressee_told peer h body (Main i) = main_told i (at e.tunnels i) refl
    addressee_told peer h body (AddressedRecovery i) = line_told h body i (at e.tunnels i)
    addressee_told peer h body (Recovers remote) = recovers_told peer (next_of_peer h) (message_in body)
    addressee_told peer h body (Nobody w) = dropped_told F ev e w

  -- what is heard by an LCP end hands nothing up
  then_told : (tunnel session : ℕ) (frame : List ℕ) (x : Side)
      → (x ≡ side.Lcp → (t : Tunnel) → at e.tunnels tunnel ≡ Some t → Allows F env.on e.role t.calls (Lcp session frame))
      → AreQuiet F env.on 0 0 (then_heard e env tunnel session frame x).outputs (then_heard e env tunnel session frame x).moves env.on
  unfolding then_heard in_main after_turn gives_only
  then_told tunnel session frame side.Sub so = nothing F env.on 0 0
  then_told tunnel session frame side.Net so = nothing F env.on 0 0
  then_told tunnel session frame side.Lcp so = by (at e.tunnels tunnel) refl
    where
      by : (o : Option Tunnel) → at e.tunnels tunnel ≡ o
          → AreQuiet F env.on 0 0 (in_main e env (Lcp session frame) tunnel o).outputs (in_main e env (Lcp session frame) tunnel o).moves env.on
      by None is = record { no_output = refl; no_move = refl; births = omega arith; read = omega arith; sent = tt; same = refl }
      by (Some t) is =
          let h = both_turns_quiet (Lcp session frame) t (so refl t is) in
          record { no_output = h.no_output; no_move = h.no_move; births = h.births; read = h.read; sent = h.sent; same = refl }

  module _ (peer : ℕ) (bytes : List ℕ) (may : MaySend (Datagram peer bytes)) where
    handed_told : (h : Header) → header_of bytes ≡ Ok h → h.control ≡ false → (c : Carried)
        → carry_look e.role (look_in (at e.calls h.session)) peer h (frame_of (body_of bytes h)) ≡ c → Told (Datagram peer bytes) (handed e env h.session c)
    unfolding handed
    handed_told h read data_is (Upward tunnel of x frame) is =
        let quiet = then_told tunnel h.session frame x
        (λ lcp t there. may.handed peer bytes h refl read data_is tunnel of frame (is ∙ ap (λ y. Upward tunnel of y frame) lcp) t there) in
        let few = quiet.births in
        let read_few = quiet.read in
        record {
          same = ap (λ os. Up h.session x frame ∷ os) (quiet.no_output ∙ sym quiet.no_move);
          ups = rw quiet.no_output (omega arith);
          births = quiet.births;
          reads = omega (arith, read_few);
          sent = (tt, quiet.sent);
        }
    handed_told h read data_is (Dropped w) is = dropped_told F (Datagram peer bytes) e w

    received_told : (r : Result Header HeaderError) → header_of bytes ≡ r → Told (Datagram peer bytes) (receives e env peer bytes r)
    unfolding receives hands_up
    received_told (Err x) read = dropped_told F (Datagram peer bytes) e (header_why x)
    received_told (Ok h) read =
        branch (Told (Datagram peer bytes)) h.control _ _
        (λ control. addressee_told (Datagram peer bytes) may peer h (body_of bytes h) (addressed e peer h (body_of bytes h)))
        (λ data_is. handed_told h read data_is _ refl)

  -- ---- rings and calls

  rings_told : (ev : Event) → MaySend ev → (open_one opening : Option ℕ) → Told ev (rings_in e env ev open_one opening)
  unfolding rings_in
  rings_told ev may (Some i) opening = main_told ev may i (at e.tunnels i) refl
  rings_told ev may None (Some i) = main_told ev may i (at e.tunnels i) refl
  rings_told ev may None None =
      branch (Told ev) (are_recovering e.config.lns e.tunnels) _ _
      (λ some. caused_told F ev e cause.Recovering)
      (λ none. more_told ev may e.config.lns (Cause cause.Tunnels) (caused_told F ev e cause.Tunnels))

  call_told : (ev : Event) → MaySend ev → (o : Option CallPlace) → Told ev (for_call e env ev o)
  unfolding for_call
  call_told ev may None = dropped_told F ev e why.Call
  call_told ev may (Some p) = main_told ev may p.tunnel (at e.tunnels p.tunnel) refl

  -- ---- time

  module _ (may : MaySend Tick) where
    tick_told : (i : ℕ) (o : Option Tunnel) → at e.tunnels i ≡ o → (ts : List Turned)
        → AreQuiet F env.on 0 0 (flat_map (λ (t : Turned). t.turn.turn.outputs) ts) (flat_map (λ (t : Turned). t.turn.turn.moves) ts) env.on
        → AreQuiet F env.on 0 0 (flat_map (λ (t : Turned). t.turn.turn.outputs) (tick_of e env i o ++ ts))
        (flat_map (λ (t : Turned). t.turn.turn.moves) (tick_of e env i o ++ ts)) env.on
    tick_told i None is ts h = h
    tick_told i (Some t) is ts h =
        both_quiet F env.on _ _ _ _ _ (on_ground (ground t) 0 0 _ _ _ (both_turns_quiet Tick t (may.there i t is))) h

    ticks_told : (is : List ℕ)
        → AreQuiet F env.on 0 0 (flat_map (λ (t : Turned). t.turn.turn.outputs) (ticks_of e env is))
        (flat_map (λ (t : Turned). t.turn.turn.moves) (ticks_of e env is)) env.on
    unfolding ticks_of
    ticks_told [] = nothing F env.on 0 0
    ticks_told (i ∷ is) = tick_told i (at e.tunnels i) refl (ticks_of e env is) (ticks_told is)

    all_told : Told Tick (ticks_all e env)
    unfolding ticks_all after_all
    all_told = quiet_told F env.on env.on Tick _ (ticks_told (ids_of e.tunnels))

  by_lac : (ev : Event) (s : Stepped) → Told ev s → Told ev (only_by Lac e s)
  unfolding only_by
  by_lac ev s h = branch (Told ev) (is_lac e.role) _ _ (λ lac. h) (λ lns. dropped_told F ev e why.Node)

  by_lns : (ev : Event) (s : Stepped) → Told ev s → Told ev (only_by Lns e s)
  unfolding only_by
  by_lns ev s h = branch (Told ev) (is_lac e.role) _ _ (λ lac. dropped_told F ev e why.Node) (λ lns. h)

  pub step_told : (ev : Event) → MaySend ev → Told ev (plain_step e moment block ev)
  unfolding plain_step step_in rings_at
  step_told (Datagram peer bytes) may = received_told peer bytes may (header_of bytes) refl
  step_told (Ring port) may =
      by_lac (Ring port) _ (rings_told (Ring port) may (least_in Established e.config.lns e.tunnels) (least_in WaitCtlReply e.config.lns e.tunnels))
  step_told (Admitted mac) may =
      by_lac (Admitted mac) _ (rings_told (Admitted mac) may (least_in Established e.config.lns e.tunnels) (least_in WaitCtlReply e.config.lns e.tunnels))
  step_told (Frame bytes) may = dropped_told F (Frame bytes) e why.Node
  step_told (Payload s frame) may = by_lac (Payload s frame) _ (call_told (Payload s frame) may (at e.calls s))
  step_told (Lower s frame) may = by_lns (Lower s frame) _ (call_told (Lower s frame) may (at e.calls s))
  step_told (Lcp s packet) may = by_lns (Lcp s packet) _ (call_told (Lcp s packet) may (at e.calls s))
  step_told (Hang s) may = by_lac (Hang s) _ (call_told (Hang s) may (at e.calls s))
  step_told (DropCall s) may = call_told (DropCall s) may (at e.calls s)
  step_told (CloseTunnel i) may = main_told (CloseTunnel i) may i (at e.tunnels i) refl
  step_told Tick may = all_told may
  step_told OpenTunnel may =
      by_lac OpenTunnel _ (more_told OpenTunnel may e.config.lns (Cause cause.Tunnels) (caused_told F OpenTunnel e cause.Tunnels))

-- whatever frames it sends
abbrev AnyFrame : ℕ → List ℕ → Type 0
AnyFrame session frame = Unit {0}

any_allowed : (on : Ground) (role : Role) (calls : List (ℕ × Call)) (ev : Event) → Allows AnyFrame on role calls ev
any_allowed on role calls ev = record {
  given = λ s frame is. tt;
  opened = λ s c is up p a. tt;
  ticks = λ is s c l there has p a. tt;
  hears = λ s frame is c l there has p a. tt;
}

any_told : (e : End) (moment : ℕ) (block : List ℕ) (ev : Event) → IsTold AnyFrame ev (plain_step e moment block ev)
any_told e moment block ev =
    let on = (env_of e moment block).on in
    step_told e moment block AnyFrame ev (record {
      there = λ i t is. any_allowed on e.role t.calls ev;
      made = any_allowed on e.role [] ev;
      handed = λ peer bytes h is read data_is tunnel of frame up t there. any_allowed on e.role t.calls (Lcp h.session frame);
    })

pub ups_are_moves : UpsAreMoves
ups_are_moves e moment block ev = (any_told e moment block ev).same

pub ups_are_few : UpsAreFew
ups_are_few e moment block ev = (any_told e moment block ev).ups

pub births_are_few : BirthsAreFew
births_are_few e moment block ev = (any_told e moment block ev).births

pub reads_are_few : ReadsAreFew
reads_are_few e moment block ev = (any_told e moment block ev).reads

-- no move is one of a start
no_start : (m : Move) → SentSo AnyFrame m → IsOfNoStart m
no_start (move.Restored m) h = h
no_start (move.Forgot m) h = h
no_start (move.Opened m) h = tt
no_start (move.Accepted m) h = tt
no_start (move.Connected m) h = tt
no_start (move.Confirmed m) h = tt
no_start (move.Added m) h = tt
no_start (move.Requested m) h = tt
no_start (move.Replied m) h = tt
no_start (move.FirstUp m) h = tt
no_start (move.SecondUp m) h = tt
no_start (move.Refused m) h = tt
no_start (move.EndTold m) h = tt
no_start (move.EndHeard m) h = tt
no_start (move.EndSilent m) h = tt
no_start (move.Declined m) h = tt
no_start (move.Closed m) h = tt
no_start (move.Rejected m) h = tt
no_start (move.ClosedBy m) h = tt
no_start (move.Greeted m) h = tt
no_start (move.Repeated m) h = tt
no_start (move.TookPlain m) h = tt
no_start (move.NrRead m) h = tt
no_start (move.LetGo m) h = tt
no_start (move.Negotiated m) h = tt
no_start (move.Counted m) h = tt
no_start (move.FrameSent m) h = tt
no_start (move.FrameUp m) h = tt
no_start (move.Froze m) h = tt
no_start (move.ResetAttempting m) h = tt
no_start (move.ResetAnswering m) h = tt
no_start (move.Queried m) h = tt
no_start (move.AnsweredQuery m) h = tt
no_start (move.TookAnswer m) h = tt
no_start (move.Cleared i booked) h = tt
no_start (move.Quiet i) h = tt
no_start (move.RecoveryWentOn i) h = tt
no_start (move.RecoveryEnded i) h = tt
no_start (move.Ignored i) h = tt

pub steps_are_no_starts : StepsAreNoStarts
steps_are_no_starts e moment block ev =
    all_map (SentSo AnyFrame) IsOfNoStart no_start (plain_step e moment block ev).moves (any_told e moment block ev).sent

-- nor in the turn of one tunnel as time passes
pub ticks_no_start : (e : End) (moment : ℕ) (block : List ℕ) (t : Tunnel)
    → AllByRecursion IsOfNoStart (turns e.role e.config t.letters t.calls Tick (turn_in t (env_of e moment block))).moves
ticks_no_start e moment block t =
    let start = turn_in t (env_of e moment block) in
    all_map (SentSo AnyFrame) IsOfNoStart no_start (turns e.role e.config t.letters t.calls Tick start).moves
    (turns_quiet AnyFrame start.on e.role e.config t.letters t.calls Tick start (any_allowed start.on e.role t.calls Tick) (nothing AnyFrame start.on 0 0)).sent
