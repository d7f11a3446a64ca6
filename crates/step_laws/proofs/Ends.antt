-- A turn of a tunnel is a chain of moves of its end.
use Rattle.step_laws.proofs.Callers.{turns_ring}
use Rattle.step_laws.specs.Callers.{IsRing, WantsTunnel}
use Rattle.std.proofs.Common.{◌≡◌, ◌⊎◌, inl, inr, ⊎_elim, ℕ, ◌<◌, ◌≤◌, length, Bool, true, false, List, [], refl, sym, ap, ◌∙◌, subst, Option, Some, None, Result, Ok, Err, arith, rules}
use Rattle.std.proofs.lemmas.Bool.{eqb-true, eq-eqb, ltb-true, true≢false}
use Rattle.std.proofs.lemmas.List.{append-nil}
use Rattle.std.specs.Prelude.{◌==◌, ◌&&◌, not, nat_lt}
use Rattle.std.specs.List.{AllByRecursion}
use Rattle.id_table.specs.Ids.{at, put, put-put, ids_of}
use Rattle.id_table.specs.Order.{ascends-empty, put-again}
use Rattle.id_source.specs.Spaces.{takes_id}
use Rattle.id_source.specs.declared.IdError.{IdError}
use Rattle.wire_base.specs.declared.why.Why.{Why}
use Rattle.wire_base.specs.declared.why.Why.TheVariants as why
use Rattle.wire_base.specs.declared.cause.Cause.{Cause}
use Rattle.wire_base.specs.declared.cause.Cause.TheVariants as cause
use Rattle.tunnel_fsm.specs.declared.table.TunnelState.{TunnelState}
use Rattle.tunnel_fsm.specs.declared.table.TunnelState.TheVariants.{WaitCtlConn}
use Rattle.tunnel_fsm.specs.declared.table.TunnelState.TheVariants as state
use Rattle.tunnel_fsm.specs.declared.table.TunnelEvent.TheVariants as event
use Rattle.tunnel_fsm.specs.declared.table.TunnelAction.{TunnelAction}
use Rattle.tunnel_fsm.specs.declared.table.TunnelAction.TheVariants as action
use Rattle.tunnel_fsm.specs.Rows.{rows, row_of, state_number}
use Rattle.call_fsm.specs.declared.table.CallEvent.{CallEvent}
use Rattle.call_fsm.specs.declared.table.CallEvent.TheVariants as call_event
use Rattle.l2tp_header.specs.declared.header.Header.{Header}
use Rattle.l2tp_header.specs.Reading.{header_of, body_of}
use Rattle.control_message.specs.declared.message.Message.{Message}
use Rattle.control_message.specs.declared.message.Message.TheVariants.{Sccrq, Sccrp, Scccn, StopCcn, Hello, Ocrq, Ocrp, Occn, Icrq, Icrp, Iccn, Cdn, Wen, Sli, Fsq, Fsr}
use Rattle.control_message.specs.declared.message.Opening.{Opening}
use Rattle.end_model.specs.declared.tunnel.Call.{Call}
use Rattle.end_model.specs.declared.tunnel.Control.{Control}
use Rattle.call_link.specs.Link.{Link}
use Rattle.call_link.specs.Turns.{Hears as HearsIt}
use Rattle.call_link.specs.Laws.{LinkStep}
use Rattle.end_model.specs.declared.event.Event.{Event}
use Rattle.end_model.specs.declared.event.Event.TheVariants.{Datagram, Payload, Lower, Lcp, Hang, OpenTunnel, DropCall, CloseTunnel}
use Rattle.end_model.specs.declared.out.Out.TheVariants.{Drop, Cause as Refused}
use Rattle.end_model.specs.declared.moves.Move.TheVariants as move
use Rattle.end_model.specs.declared.tunnel.Mode.{Mode}
use Rattle.end_model.specs.declared.tunnel.Mode.TheVariants.{Current, Frozen, Restored}
use Rattle.end_model.specs.Reading.{message_in}
use Rattle.end_model.specs.Calls.{row_for, is_up, is_told, owes, is_short, is_long}
use Rattle.end_model.specs.Tunnels.{Tunnel, Env, Turn, turn_of, turn_in, Recovering, mode_of, is_current}
use Rattle.end_model.specs.Reasons.{reason}
use Rattle.end_model.specs.Moments.{is_closed, is_open}
use Rattle.end_model.specs.Stopping.{shuts_by, closes_tunnel, clears}
use Rattle.end_model.specs.Turn.{with_output, with_move, drops}
use Rattle.end_model.specs.Events.{with_calls, turns, tunnel_after}
use Rattle.end_model.specs.Closing.{closes}
use Rattle.end_model.specs.Openings.{with_local, fresh, opened, opens_by, opens, accepted, accepts_by, accepts}
use Rattle.end_model.specs.Channels.{letter_of, has_room, learns_window}
use Rattle.end_model.specs.Messages.{opening_of, told_by, flags_of}
use Rattle.end_model.specs.Sending.{letters_after, gives, takes_one, lets_all_go, acknowledged_after, settles}
use Rattle.end_model.specs.Ringing.{adds, rings_new, rings}
use Rattle.end_model.specs.Hearing.{first_said, mode_why, ignores_all, hears_control, hears_datagram}
use Rattle.end_model.specs.Frames.{carries}
use Rattle.end_model.specs.Linking.{hears_link, hears_lcp}
use Rattle.end_model.specs.Links.{link_env, is_passing}
use Rattle.end_model.specs.End.{End, env_of, placed, with_looks, after_turn, after_new}
use Rattle.step_laws.specs.Room.{IsChosen, RingsNew}
use Rattle.step_laws.specs.Causes.{IsTold, ForNew, ForOpening, Stands}
use Rattle.step_laws.specs.Links.{HearsLcp, IsCalled, ForFrame, IsGiven}
use Rattle.step_laws.specs.Moves.{LacksSecret, has_all_tunnels, IsUnknown, Came, IsAgain, IsStop, IsFor, ComesTo, Hears, Chain, WhyCleared, IsClosedNow, begun, WhyEnds, IsDropped, IsHungUp, ByOperator}
use Rattle.step_laws.specs.Steps.{IsKept, AreKept}
use Rattle.step_laws.proofs.Lists.{not_false, all_map, and_left, and_right, branch, chain_more}
use Rattle.step_laws.proofs.Owing.{Fits, closed_owes, dropped_owes, fits_given, owes_told}
use Rattle.step_laws.proofs.Openings.{not_all}
use Rattle.step_laws.proofs.Tells.{Tells}
use Rattle.step_laws.proofs.Turns.{IsWord, IsCurrent, Held, held_given, held_learnt, next_after, at_turn, there, TurnOk, learnt_state, learnt_queued, adds_ok}
use Rattle.step_laws.proofs.Linking.{ended_stands, carried_ok, links_leave}
use Rattle.step_laws.proofs.Settling.{Settled, Goes, unsent, settled_so, settled_frozen, settles_ok, told_settled}
use Rattle.step_laws.proofs.Sending.{word_is}
use Rattle.step_laws.proofs.Leaving.{IsStep, whole_of, turn_chain, clears_chain}
use Rattle.step_laws.proofs.Comes.{Fresh}
use Rattle.step_laws.proofs.Closing.{ends_leave}
use Rattle.step_laws.proofs.Shutting.{all_ended_is, told_shut_ok}
use Rattle.step_laws.proofs.Stopping.{row_shut, row_shut_closed}
use Rattle.end_model.specs.Secrets.{challenge_by, response_by}
use Rattle.step_laws.proofs.Secrets.{asks_so, responds_so}
use Rattle.step_laws.proofs.Hearing.{hears_control_ok, rings_ok}
use Rattle.step_laws.proofs.Queries.{none_asks}

-- a mode isn't a want of room
mode_other : (m : Mode) → mode_why m ≡ why.Queue → ⊥
mode_other Current h = absurd cc
mode_other Frozen h = absurd cc
mode_other Restored h = absurd cc

-- a message that names the tunnel with an id, or names none and is for it
abbrev pub IsTo : Header → List ℕ → ℕ → Control → Type 0
IsTo h bytes i c = (h.tunnel ≡ i) ⊎ (IsAgain h (body_of bytes h) c ⊎ IsStop h (body_of bytes h) c)

module _ (e : End) (kept : AreKept e) (moment : ℕ) (ev : Event) where
  -- ---- a tunnel that is there

  module _ (block : List ℕ) where
    abbrev env : Env
    env = env_of e moment block

    module _ (i : ℕ) (t : Tunnel) (is : at e.tunnels i ≡ Some t) where
      k : IsKept e.role e.config i t
      k = kept.tunnels i t is

      abbrev start : Turn
      start = turn_in t env

      is_there : at e.tunnels t.control.local ≡ Some t
      is_there = subst (λ j. at e.tunnels j ≡ Some t) (sym k.local) is

      -- the turn has taken no letter from the tunnel, and given it none
      same : tunnel_after start t.letters t.calls t.recovery ≡ t
      unfolding with_calls
      same = rw (append-nil t.letters) refl

      again : put e.tunnels t.control.local (tunnel_after start t.letters t.calls t.recovery) ≡ e.tunnels
      again = rw same (put-again t.control.local t e.tunnels kept.order is_there)

      held_first : Held t.control.channel.window (letters_after start t.letters)
      held_first = rw (append-nil t.letters) (k.letters, k.outstanding, k.acked)

      fits_first : Fits t.control t.calls
      fits_first = (k.calls, k.calls_few, k.few, k.owed, k.most, k.shut)

      chain_first : Chain moment ev e [] (at_turn e moment ev t.letters t.calls t.recovery i start)
      unfolding with_calls with_looks placed
      chain_first = ap (λ ts. record e { tunnels = ts }) (sym again)

      -- a turn begins settled
      goes_first : Goes e moment ev t.letters t.calls t.recovery i start
      goes_first = by (is_current (mode_of t.recovery)) refl
        where
          by : (b : Bool) → is_current (mode_of t.recovery) ≡ b → Goes e moment ev t.letters t.calls t.recovery i start
          by true is = inl is
          by false is = inr (k.frozen is, refl, k.open_is is)

      pub begins_settled : Settled e moment ev t.letters t.calls t.recovery i start
      unfolding with_calls
      begins_settled = record {
        chain = chain_first;
        outs = tt;
        tells = tt;
        frames = tt;
        stays = (k.local, k.busy, kept.sessions, kept.first, refl, refl, refl, k.asks);
        goes = goes_first;
        held = held_first;
        fits = fits_first;
      }

      pub begins : IsCurrent t.recovery → Fresh e moment ev t.letters t.calls t.recovery i start
      unfolding with_calls
      begins current = record {
        good = record {
          chain = chain_first;
          words = tt;
          tells = tt;
          frames = tt;
          stays = (k.local, k.busy, kept.sessions, kept.first, refl, refl, refl, k.asks);
          current = current;
          held = held_first;
          fits = fits_first;
        };
        changes = refl;
        changed = refl;
        first = t.control;
        there = is;
        local = refl;
        remote = refl;
        peer = refl;
        state = refl;
        challenge = refl;
        inbox = refl;
        sessions = refl;
        some = k.some;
      }

      abbrev Good : Turn → Type 0
      Good r = Settled e moment ev t.letters t.calls t.recovery i r

      abbrev leads : Turn → Type 0
      leads r = IsStep e moment ev (after_turn e i t.letters t.calls t.recovery r)

      settled_leads : (r : Turn) → Settled e moment ev t.letters t.calls t.recovery i r → leads r
      settled_leads r h = turn_chain e kept moment ev t.letters t.calls t.recovery i k.some r k.recovering h

      dropped_settled : (w : Why) → (w ≡ why.Queue → ⊥) → Settled e moment ev t.letters t.calls t.recovery i (drops w start)
      unfolding drops
      dropped_settled w other = told_settled e moment ev t.letters t.calls t.recovery i (Drop w) tt (λ q. absurd (other q)) start begins_settled

      dropped_leads : (w : Why) → (w ≡ why.Queue → ⊥) → leads (drops w start)
      dropped_leads w other =
          settled_leads _ (dropped_settled w other)

      -- the message names the tunnel, or names none and is for it
      came : Header → List ℕ → Came
      came h bytes = record { peer = t.control.peer; header = h; body = body_of bytes h }

      is_for : (h : Header) (bytes : List ℕ) → IsTo h bytes i t.control → IsFor h (body_of bytes h) t.control
      is_for h bytes to = ⊎_elim (λ named. inl (named ∙ sym k.local)) (λ unnamed. inr unnamed) to

      -- a tunnel that is frozen or restored looks at nothing
      ignored_ok : (c : Came) → is_current (mode_of t.recovery) ≡ false → ComesTo ev t.control c → Good (ignores_all start)
      unfolding ignores_all drops with_output with_move with_calls
      ignored_ok c inactive to =
          let h = begins_settled in
          record {
            chain = chain_more moment ev e (at_turn e moment ev t.letters t.calls t.recovery i start) _ [] (move.Ignored t.control.local) h.chain (record {
              tunnel = tunnel_after start t.letters t.calls t.recovery;
              there = there e moment ev t.letters t.calls t.recovery i start;
              inactive = inactive;
              letter = c;
              comes = to;
              after = rw (put-put e.tunnels t.control.local (tunnel_after start t.letters t.calls t.recovery) _) refl;
            });
            outs = (tt, tt);
            tells = ((λ q. absurd (mode_other (mode_of t.recovery) q)), tt);
            frames = (tt, tt);
            stays = h.stays;
            goes = inr (k.frozen inactive, refl, k.open_is inactive);
            held = h.held;
            fits = h.fits;
          }

      inactive_ok : (c : Came) → is_current (mode_of t.recovery) ≡ false → ComesTo ev t.control c
          → Good (hears_control e.role e.config t.letters t.calls c.header c.body start)
      unfolding hears_control
      inactive_ok c inactive to =
          branch Good (state_number t.control.state == 0) _ _
          (λ idle. absurd (k.busy (eqb-true (state_number t.control.state) 0 idle)))
          (λ busy. branch Good (not (is_current (mode_of t.recovery))) _ _
          (λ other. ignored_ok c inactive to)
          (λ active. absurd (true≢false (sym (not_false _ active) ∙ inactive))))

      heard_current : (c : Came) → ComesTo ev t.control c → IsCurrent t.recovery → Good (hears_control e.role e.config t.letters t.calls c.header c.body start)
      unfolding begins
      heard_current c to current = hears_control_ok e moment ev t.letters t.calls t.recovery i k.calls c start (begins current) refl to refl refl

      control_ok : (c : Came) → ComesTo ev t.control c → Good (hears_control e.role e.config t.letters t.calls c.header c.body start)
      control_ok c to = by (is_current (mode_of t.recovery)) refl
        where
          by : (b : Bool) → is_current (mode_of t.recovery) ≡ b → Good (hears_control e.role e.config t.letters t.calls c.header c.body start)
          by true current = heard_current c to current
          by false inactive = inactive_ok c inactive to

      pub heard_chain : (bytes : List ℕ) (h : Header) → header_of bytes ≡ Ok h → h.control ≡ true → ev ≡ Datagram t.control.peer bytes
          → IsTo h bytes i t.control → leads (turns e.role e.config t.letters t.calls (Datagram t.control.peer bytes) start)
      unfolding turns hears_datagram begins came
      heard_chain bytes h read control same to =
          subst (λ r. leads (hears_datagram e.role e.config t.letters t.calls bytes r start)) (sym read)
          (branch leads h.control _ _
          (λ c. settled_leads _
          (control_ok (came h bytes) (record {
            came = record { bytes = bytes; is = same; read = read; control = control; body_is = refl };
            peer = refl;
            tunnel = is_for h bytes to;
          })))
          (λ c. absurd (true≢false (sym control ∙ c))))

      pub rung_chain : (who : List ℕ) → IsCurrent t.recovery → (state_number t.control.state ≡ 3) ⊎ (state_number t.control.state ≡ 1) → IsChosen e i → IsRing ev who
          → WantsTunnel e ev t.control.peer → leads (turns e.role e.config t.letters t.calls ev start)
      unfolding begins
      rung_chain who current goes chosen same wants =
          subst leads (sym (turns_ring e.role e.config t.letters t.calls ev who start same))
          (settled_leads _ (settles_ok e moment ev t.letters t.calls t.recovery i false _
          (rings_ok e moment ev t.letters t.calls t.recovery i k.calls who start (begins current) refl chosen same wants goes)))

      -- a call is closed by an event of its table
      closed_chain : (for : Cause) (on : CallEvent) (result s : ℕ) → ((c : Call) → WhyEnds (at_turn e moment ev t.letters t.calls t.recovery i start) (tunnel_after start t.letters t.calls t.recovery) ev moment s c on result None)
          → ((c : Call) → is_told (row_for e.role c on).1 ≡ true → 1 ≤ owes c.state) → (IsTold e t s on → Stands e moment ev for)
          → (o : Option Call) → at t.calls s ≡ o
          → leads (settles false t.letters (closes e.role for on result s o start))
      unfolding closes with_calls
      closed_chain for on result s so owed stands None found =
          settled_leads _ (settled_so e moment ev t.letters t.calls t.recovery i _ (dropped_settled why.Call (λ q. absurd cc)))
      closed_chain for on result s so owed stands (Some c) found =
          branch (λ u. leads (settles false t.letters u)) (nat_lt s 65536) _ _
          (λ small. settled_leads _ (settled_so e moment ev t.letters t.calls t.recovery i _
          (ends_leave e moment ev t.letters t.calls t.recovery i for s c on result None start found (so c) (ltb-true s 65536 small)
          (λ told current. (
            owes_told t.control t.calls s c found (owed c told) fits_first,
            stands (record { id = i; there = is; current = current; call = c; live = found; row = told }),
          )) (row_for e.role c on).1 refl begins_settled).ok))
          (λ big. settled_leads _ (settled_so e moment ev t.letters t.calls t.recovery i start begins_settled))

      pub hung_chain : (s : ℕ) → ev ≡ Hang s → leads (turns e.role e.config t.letters t.calls (Hang s) start)
      unfolding turns
      hung_chain s comes =
          closed_chain cause.Line call_event.LineDrop 1 s (λ c. IsHungUp comes refl refl refl) (λ c told. dropped_owes e.role c.state told)
          (λ told. (s, t, comes, told)) (at t.calls s) refl

      pub closes_chain : (s : ℕ) → ev ≡ DropCall s → leads (turns e.role e.config t.letters t.calls (DropCall s) start)
      unfolding turns
      closes_chain s comes =
          closed_chain cause.Operator call_event.Close 3 s (λ c. IsDropped comes refl refl refl) (λ c told. closed_owes e.role c.state told)
          (λ told. inl (s, t, comes, told)) (at t.calls s) refl

      -- the tunnel is closed by its table, unless it is already
      shut_start : IsCurrent t.recovery → ev ≡ CloseTunnel i → is_closed t.control.state ≡ false
          → Settled e moment ev t.letters t.calls t.recovery i (closes_tunnel (reason cause.Operator 1 None) t.calls t.control.remote state.Closed start)
      shut_start current comes live =
          let row = row_shut t.control.state event.AdminClose k.busy live tt in
          unsent e moment ev t.letters t.calls t.recovery i _ (told_shut_ok e moment ev t.letters t.calls t.recovery i (reason cause.Operator 1 None)
          (inr (i, t, comes, is, record { id = i; there = is; current = current; row = row })) event.AdminClose t.control.remote start refl live row
          (λ m to remote result error. ByOperator (comes ∙ ap CloseTunnel (sym (to ∙ k.local))) refl remote result error) (begins current).good)

      -- it is removed with its calls
      pub removed_step : (left : Option Recovering) → WhyCleared (at_turn e moment ev t.letters t.calls t.recovery i start) moment ev i (tunnel_after start t.letters t.calls t.recovery)
          → IsStep e moment ev (after_turn e i t.letters t.calls left (clears t.calls start))
      unfolding with_calls
      removed_step left why_first =
          clears_chain e kept moment ev t.letters t.calls t.recovery i k.some start left
          (whole_of e kept moment ev t.letters t.calls t.recovery i k.some start k.recovering begins_settled) why_first

      -- nothing follows on that
      cleared_settles : is_current (mode_of t.recovery) ≡ false → settles false t.letters (clears t.calls start) ≡ clears t.calls start
      unfolding clears with_move
      cleared_settles inactive =
          rw (all_ended_is (ids_of t.calls) (with_move (move.Cleared t.control.local (is_open t.control.state)) start))
          (settled_frozen e moment ev t.letters t.calls t.recovery i _ (k.frozen inactive) refl)

      cleared_shut : ev ≡ CloseTunnel i → is_current (mode_of t.recovery) ≡ false → leads (settles false t.letters (clears t.calls start))
      cleared_shut comes inactive =
          subst leads (sym (cleared_settles inactive)) (removed_step t.recovery (IsClosedNow comes inactive))

      abbrev Shut : TunnelState × TunnelAction → Type 0
      Shut row = leads (settles false t.letters (shuts_by t.calls row start))

      shut_live : ev ≡ CloseTunnel i → is_closed t.control.state ≡ false → Shut (state.Closed, action.SendStopCcn)
      unfolding shuts_by
      shut_live comes live =
          branch (λ u. leads (settles false t.letters u)) (is_current (mode_of t.recovery)) _ _
          (λ current. settled_leads _ (settled_so e moment ev t.letters t.calls t.recovery i _ (shut_start current comes live)))
          (λ inactive. cleared_shut comes inactive)

      pub shut_chain : ev ≡ CloseTunnel i → leads (turns e.role e.config t.letters t.calls (CloseTunnel i) start)
      unfolding turns shuts_by
      shut_chain comes = by (is_closed t.control.state) refl
        where
          by : (b : Bool) → is_closed t.control.state ≡ b → Shut (row_of rows t.control.state event.AdminClose)
          by false live = subst Shut (sym (row_shut t.control.state event.AdminClose k.busy live tt)) (shut_live comes live)
          by true closed =
              subst Shut (sym (row_shut_closed t.control.state closed))
              (settled_leads _ (settled_so e moment ev t.letters t.calls t.recovery i start begins_settled))

      pub carries_chain : (s : ℕ) (frame : List ℕ) (o : Option Call) → at t.calls s ≡ o → (ev ≡ Payload s frame) ⊎ (ev ≡ Lower s frame)
          → leads (carries s frame o start)
      unfolding carries with_calls
      carries_chain s frame None found given = dropped_leads why.Call (λ q. absurd cc)
      carries_chain s frame (Some c) found given =
          branch leads (is_up c.state && is_passing c.link) _ _
          (λ up. branch leads (is_short frame) _ _ (λ short. dropped_leads why.Short (λ q. absurd cc))
          (λ short. branch leads (is_long frame) _ _ (λ long. dropped_leads why.Long (λ q. absurd cc))
          (λ long. settled_leads _ (carried_ok e moment ev t.letters t.calls t.recovery i s frame c start found (and_left (is_up c.state) _ up)
          (IsGiven given (and_right (is_up c.state) _ up)) begins_settled))))
          (λ down. dropped_leads why.Closed (λ q. absurd cc))

      -- a frame for its link came up a call
      link_chain : (s peer : ℕ) (frame : List ℕ) (c : Call) → at t.calls s ≡ Some c → is_up c.state ≡ true → s < 65536
          → HearsLcp ev peer t.control.local s frame → (o : Option Link) → c.link ≡ o → leads (hears_link e.role t.letters s frame c o start)
      unfolding hears_link with_calls
      link_chain s peer frame c found up small hears None has = dropped_leads why.Closed (λ q. absurd cc)
      link_chain s peer frame c found up small hears (Some l) has =
          let by : LinkStep = record { env = link_env start.on; call = HearsIt frame } in
          let called : IsCalled ev moment t.control s l by = ForFrame peer frame hears refl in
          settled_leads _ (links_leave e moment ev t.letters t.calls t.recovery i s c l by start
          (record { found = found; has = has; up = up; at_moment = refl; called = called }) small
          (λ why ends told current. ended_stands e moment ev by l why ends (record {
            id = i;
            tunnel = t;
            there = is;
            current = current;
            session = s;
            call = c;
            live = found;
            ends = record { calls = record { link = l; has = has; by = by; at_moment = refl; called = called }; ends = ends };
            row = told;
          }))
          begins_settled).ok

      pub lcp_chain : (s peer : ℕ) (frame : List ℕ) → HearsLcp ev peer t.control.local s frame
          → leads (turns e.role e.config t.letters t.calls (Lcp s frame) start)
      unfolding turns hears_lcp
      lcp_chain s peer frame hears = by (at t.calls s) refl
        where
          by : (o : Option Call) → at t.calls s ≡ o → leads (hears_lcp e.role t.letters s frame o start)
          by None found = dropped_leads why.Call (λ q. absurd cc)
          by (Some c) found =
              branch leads (nat_lt s 65536 && is_up c.state) _ _
              (λ up. link_chain s peer frame c found (and_right (nat_lt s 65536) _ up) (ltb-true s 65536 (and_left (nat_lt s 65536) _ up)) hears c.link refl)
              (λ down. dropped_leads why.Closed (λ q. absurd cc))

    -- ---- a tunnel that is new

    module _ (peer : ℕ) where
      abbrev blank : Turn
      blank = turn_of (fresh peer moment) env

      -- it drew no id, and only words were told
      record IsUnmade (r : Turn) : Type 0 where
        local : r.control.local ≡ 0
        moves : r.moves ≡ []
        outs : AllByRecursion IsWord r.outputs
        tells : AllByRecursion (Tells e moment ev) r.outputs

      record IsMade (r : Turn) : Type 0 where
        id : ℕ
        some : id ≡ 0 → ⊥
        good : TurnOk e moment ev [] [] None id r

      abbrev leads_new : Turn → Type 0
      leads_new r = IsStep e moment ev (after_new e r)

      unmade_leads : (r : Turn) → IsUnmade r → leads_new r
      unfolding after_new
      unmade_leads r h =
          rw (eq-eqb r.control.local 0 h.local, h.moves) (record {
            chain = record { chain = refl; outputs = all_map _ _ (word_is moment ev e [] e) r.outputs h.outs; frames = tt; kept = kept };
            tells = h.tells;
          })

      -- it goes on to its end, where its first letter goes
      made_leads : (r : Turn) → IsMade r → leads_new (settles false [] r)
      unfolding after_new
      made_leads r h =
          let u = settles false [] r in
          let settled = settles_ok e moment ev [] [] None h.id false r h.good in
          let local = settled.stays.0 in
          branch (IsStep e moment ev) (u.control.local == 0) _ _
          (λ zero. absurd (h.some (sym local ∙ eqb-true u.control.local 0 zero)))
          (λ some. subst (λ j. IsStep e moment ev (after_turn e j [] [] None u)) (sym local) (turn_chain e kept moment ev [] [] None h.id h.some u (λ q none. absurd cc) settled))

      refused_new : (c : Cause) → Stands e moment ev c → leads_new (settles false [] (with_output (Refused c) blank))
      unfolding with_output settles acknowledged_after lets_all_go
      refused_new c stands = unmade_leads _ (record { local = refl; moves = refl; outs = (tt, tt); tells = (stands, tt) })

      dropped_new : (w : Why) → (w ≡ why.Queue → ⊥) → leads_new (settles false [] (drops w blank))
      unfolding drops with_output settles acknowledged_after lets_all_go
      dropped_new w other = unmade_leads _ (record { local = refl; moves = refl; outs = (tt, tt); tells = ((λ q. absurd (other q)), tt) })

      drawn_some : (n : ℕ) → takes_id e.tunnel_ids ≡ Ok n → n ≡ 0 → ⊥
      unfolding takes_id
      drawn_some n is zero = let first = kept.first in grind (arith, rules)

      opened_good : (local : ℕ) → length e.tunnels < 1024 → WantsTunnel e ev peer → takes_id e.tunnel_ids ≡ Ok local → TurnOk e moment ev [] [] None local (opened e.role e.config local blank)
      unfolding opened gives with_move with_local with_calls with_looks placed
      opened_good local fewer wants drawn = record {
        chain = (_, record { few = fewer; drawn = drawn; given = refl; wants = wants; asks = asks_so e.config.secret block; after = refl }, refl);
        words = tt;
        tells = tt;
        frames = (tt, tt);
        stays = (refl, (λ z. absurd (omega (arith, z))), kept.sessions, next_after e.tunnel_ids kept.first, refl, refl, refl, none_asks);
        current = refl;
        held = (refl, omega arith, omega arith);
        fits = (ascends-empty [] refl, omega arith, (λ live. omega arith), (λ o. omega arith), omega arith, (λ closed. refl));
      }

      pub opens_chain : WantsTunnel e ev peer → ev ≡ OpenTunnel → has_all_tunnels e ≡ false → leads_new (turns e.role e.config [] [] OpenTunnel blank)
      unfolding turns opens opens_by
      opens_chain wants opening fewer = by (takes_id e.tunnel_ids) refl
        where
          by : (x : Result ℕ IdError) → takes_id e.tunnel_ids ≡ x → leads_new (settles false [] (opens_by e.role e.config x blank))
          by (Err x) is = refused_new cause.Ids (ForOpening x opening fewer is)
          by (Ok local) is =
              branch (λ u. leads_new (settles false [] u)) (has_room (fresh peer moment)) (opened e.role e.config local blank) (with_output (Refused cause.Queue) blank)
              (λ may. made_leads _ (record { id = local; some = drawn_some local is; good = opened_good local (not_all e fewer) wants is }))
              (λ full. absurd (true≢false full))

      rung_good : (who : List ℕ) (s local : ℕ) → length e.tunnels < 1024 → WantsTunnel e ev peer → IsRing ev who → takes_id e.session_ids ≡ Ok s
          → takes_id e.tunnel_ids ≡ Ok local → TurnOk e moment ev [] [] None local (adds e.role who s (opened e.role e.config local blank))
      unfolding opened gives with_move with_local with_calls
      rung_good who s local fewer wants rings session drawn =
          adds_ok e moment ev [] [] None local who s (opened e.role e.config local blank) refl refl refl refl rings wants session (opened_good local fewer wants drawn)

      pub rings_chain : (who : List ℕ) → WantsTunnel e ev peer → IsRing ev who → RingsNew e ev → has_all_tunnels e ≡ false
          → leads_new (turns e.role e.config [] [] ev blank)
      unfolding rings rings_new
      rings_chain who wants rings new fewer =
          subst leads_new (sym (turns_ring e.role e.config [] [] ev who blank rings)) (by (takes_id e.session_ids) (takes_id e.tunnel_ids) refl refl)
        where
          by : (x y : Result ℕ IdError) → takes_id e.session_ids ≡ x → takes_id e.tunnel_ids ≡ y
              → leads_new (settles false [] (rings_new e.role e.config who x y blank))
          by (Err x) y is drawn = refused_new cause.Ids (ForNew new fewer (inl (x, is)))
          by (Ok s) (Err y) is drawn = refused_new cause.Ids (ForNew new fewer (inr (y, drawn)))
          by (Ok s) (Ok local) is drawn =
              branch (λ u. leads_new (settles false [] u)) (has_room (fresh peer moment)) (adds e.role who s (opened e.role e.config local blank)) (with_output (Refused cause.Queue) blank)
              (λ may. made_leads _ (record { id = local; some = drawn_some local drawn; good = rung_good who s local (not_all e fewer) wants rings is drawn }))
              (λ full. absurd (true≢false full))

      -- a window that is learned before the id is that of the tunnel with the id
      abbrev asked : Option (List ℕ)
      asked = challenge_by e.config.secret block

      abbrev accepting : Opening → ℕ → Control
      accepting o local = record (begun local peer o.tunnel WaitCtlConn moment asked) { flags = flags_of o.failover }

      learnt_begun : (window : ℕ) (o : Opening) (local : ℕ)
          → record (learns_window window (accepting o 0)) { local = local } ≡ learns_window window (accepting o local)
      learnt_begun window o local =
          branch (λ (c : Control). record c { local = local } ≡ learns_window window (accepting o local)) (window == 0) _ _
          (λ none. rw none refl)
          (λ some. rw some refl)

      -- no tunnel of this end is to the peer and has this id there, there may be one more, the end can answer what is asked, and no recovery is
      abbrev pub MayMake : Opening → Type 0
      MayMake o = IsUnknown e peer o.tunnel × ((length e.tunnels < 1024) × (LacksSecret e.config.secret o.challenge → ⊥)) × (o.recovery ≡ None)

      accepted_good : (session local : ℕ) (o : Opening) → Hears ev peer session (Sccrq o) → MayMake o
          → takes_id e.tunnel_ids ≡ Ok local → TurnOk e moment ev [] [] None local (accepted e.role e.config (told_by o) local blank)
      unfolding accepted gives with_move with_local takes_one with_calls with_looks placed
      accepted_good session local o hears may drawn = record {
        chain = (
          _,
          record {
            few = may.1.0;
            opening = o;
            hears = (session, hears);
            unrecovered = may.2;
            remote = refl;
            window = refl;
            alone = may.0;
            able = may.1.1;
            asks = asks_so e.config.secret block;
            responds = responds_so 2 e.config.secret o.challenge;
            drawn = drawn;
            taken = refl;
            given = refl;
            after = rw (← learnt_begun o.window o local) refl;
          },
          refl,
        );
        words = tt;
        tells = tt;
        frames = (tt, tt);
        stays = (
          refl,
          rw (learnt_state o.window (accepting o 0))
              (λ z. absurd (omega (arith, z))),
          kept.sessions,
          next_after e.tunnel_ids kept.first,
          refl,
          refl,
          refl,
          none_asks,
        );
        current = refl;
        held = let c = accepting o 0 in
            held_given (learns_window o.window c).channel.window [] (letter_of 0 (Sccrp (opening_of e.role e.config asked (response_by 2 e.config.secret o.challenge) local)))
            (held_learnt o.window c [] (refl, omega arith, omega arith));
        fits = let c = accepting o 0 in
            let none = learnt_queued o.window c in
            fits_given (learns_window o.window c) [] (ap is_closed (learnt_state o.window c)) (ascends-empty [] refl) (omega arith) (omega (arith, none));
      }

      accepts_chain : (session : ℕ) (o : Opening) → Hears ev peer session (Sccrq o) → MayMake o
          → leads_new (settles false [] (accepts e.role e.config (told_by o) blank))
      unfolding accepts accepts_by
      accepts_chain session o hears alone = by (takes_id e.tunnel_ids) refl
        where
          by : (x : Result ℕ IdError) → takes_id e.tunnel_ids ≡ x → leads_new (settles false [] (accepts_by e.role e.config (told_by o) x blank))
          by (Err x) is = dropped_new why.Tunnel (λ q. absurd cc)
          by (Ok local) is =
              branch (λ u. leads_new (settles false [] u)) (has_room (fresh peer moment)) (accepted e.role e.config (told_by o) local blank) (drops why.Queue blank)
              (λ may. made_leads _ (record {
                id = local;
                some = drawn_some local is;
                good = accepted_good session local o hears alone is;
              }))
              (λ full. absurd (true≢false full))

      first_chain : (session : ℕ) (x : Result Message Why) → ((m : Message) → x ≡ Ok m → Hears ev peer session m)
          → ((o : Opening) → x ≡ Ok (Sccrq o) → MayMake o) → leads_new (settles false [] (first_said e.role e.config x blank))
      unfolding first_said
      first_chain session (Ok (Sccrq o)) said alone = accepts_chain session o (said (Sccrq o) refl) (alone o refl)
      first_chain session (Ok Hello) said alone = dropped_new why.Tunnel (λ q. absurd cc)
      first_chain session (Ok (Cdn remote code error)) said alone = dropped_new why.Tunnel (λ q. absurd cc)
      first_chain session (Ok (Sccrp o)) said alone = dropped_new why.Tunnel (λ q. absurd cc)
      first_chain session (Ok (Scccn response)) said alone = dropped_new why.Tunnel (λ q. absurd cc)
      first_chain session (Ok (Icrq remote serial calling)) said alone = dropped_new why.Tunnel (λ q. absurd cc)
      first_chain session (Ok (Icrp remote)) said alone = dropped_new why.Tunnel (λ q. absurd cc)
      first_chain session (Ok (Iccn speed framing sequenced)) said alone = dropped_new why.Tunnel (λ q. absurd cc)
      first_chain session (Ok (StopCcn assigned code error)) said alone = dropped_new why.Tunnel (λ q. absurd cc)
      first_chain session (Ok (Ocrq remote)) said alone = dropped_new why.Tunnel (λ q. absurd cc)
      first_chain session (Ok Ocrp) said alone = dropped_new why.Tunnel (λ q. absurd cc)
      first_chain session (Ok Occn) said alone = dropped_new why.Tunnel (λ q. absurd cc)
      first_chain session (Ok Wen) said alone = dropped_new why.Tunnel (λ q. absurd cc)
      first_chain session (Ok Sli) said alone = dropped_new why.Tunnel (λ q. absurd cc)
      first_chain session (Ok (Fsq sessions)) said alone = dropped_new why.Tunnel (λ q. absurd cc)
      first_chain session (Ok (Fsr sessions)) said alone = dropped_new why.Tunnel (λ q. absurd cc)
      first_chain session (Err w) said alone = dropped_new why.Tunnel (λ q. absurd cc)

      pub first_heard : (bytes : List ℕ) (h : Header) → header_of bytes ≡ Ok h → h.control ≡ true → ev ≡ Datagram peer bytes
          → ((o : Opening) → message_in (body_of bytes h) ≡ Ok (Sccrq o) → MayMake o) → leads_new (turns e.role e.config [] [] (Datagram peer bytes) blank)
      unfolding turns hears_datagram hears_control
      first_heard bytes h read control same alone =
          subst (λ x. leads_new (hears_datagram e.role e.config [] [] bytes x blank)) (sym read)
          (branch leads_new h.control _ _
          (λ c. first_chain h.session (message_in (body_of bytes h)) (λ m said. record {
            letter = record { peer = peer; header = h; body = body_of bytes h };
            came = record { bytes = bytes; is = same; read = read; control = control; body_is = refl };
            peer_is = refl;
            says = record { session_is = refl; said = said };
          }) alone)
          (λ c. absurd (true≢false (sym control ∙ c))))
