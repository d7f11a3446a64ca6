-- A turn hands nothing up, one call at most is born in it, and Nr is read once at most.
use Rattle.std.proofs.Common.{◌≡◌, inl, inr, ℕ, ◌+◌, ◌≤◌, Bool, true, false, zero, suc, List, [], ◌∷◌, ◌++◌, length, refl, sym, ◌∙◌, subst, Option, Some, None, Result, Ok, Err, arith}
use Rattle.std.specs.Prelude.{◌==◌, ◌&&◌, ◌||◌, nat_le, nat_lt, unwrap_or, not}
use Rattle.std.specs.List.{AllByRecursion, flat_map}
use Rattle.id_table.specs.Ids.{at, ids_of}
use Rattle.id_source.specs.Spaces.{takes_id}
use Rattle.id_source.specs.declared.IdError.{IdError}
use Rattle.wire_base.specs.declared.why.Why.{Why}
use Rattle.wire_base.specs.declared.cause.Cause.{Cause}
use Rattle.wire_base.specs.declared.why.Why.TheVariants as why
use Rattle.wire_base.specs.declared.cause.Cause.TheVariants as cause
use Rattle.wire_base.specs.declared.letter.Letter.{Letter}
use Rattle.wire_base.specs.declared.pair.Pair.{Pair}
use Rattle.control_message.specs.declared.message.Message.{Message}
use Rattle.control_message.specs.declared.message.Message.TheVariants.{Sccrq, Sccrp, Scccn, StopCcn, Hello, Ocrq, Ocrp, Occn, Icrq, Icrp, Iccn, Cdn, Wen, Sli, Fsq, Fsr}
use Rattle.control_message.specs.declared.kind.Kind.{Kind}
use Rattle.control_message.specs.declared.kind.Kind.TheVariants as kind
use Rattle.recv_window.specs.declared.Class.{Class}
use Rattle.recv_window.specs.declared.Class.TheVariants.{Next, Duplicate, Ahead}
use Rattle.send_window.specs.declared.window.Tick.{Tick as Due}
use Rattle.send_window.specs.declared.window.Tick.TheVariants as tick
use Rattle.control_channel.specs.Numbers.{next_to_go, answer_to_tick}
use Rattle.tunnel_fsm.specs.declared.table.TunnelState.{TunnelState}
use Rattle.tunnel_fsm.specs.declared.table.TunnelAction.{TunnelAction}
use Rattle.tunnel_fsm.specs.declared.table.TunnelAction.TheVariants as action
use Rattle.tunnel_fsm.specs.declared.table.TunnelEvent.{TunnelEvent}
use Rattle.tunnel_fsm.specs.declared.table.TunnelEvent.TheVariants as event
use Rattle.tunnel_fsm.specs.Rows.{rows, row_of, state_number}
use Rattle.call_fsm.specs.declared.table.CallEvent.{CallEvent}
use Rattle.call_fsm.specs.declared.table.CallEvent.TheVariants as call_event
use Rattle.call_fsm.specs.declared.table.CallAction.{CallAction}
use Rattle.call_fsm.specs.declared.table.CallAction.TheVariants as call_action
use Rattle.end_model.specs.declared.tunnel.Call.{Call}
use Rattle.end_model.specs.declared.tunnel.Config.{Config}
use Rattle.end_names.specs.declared.role.Role.{Role}
use Rattle.call_link.specs.declared.turn.LinkTurn.{LinkTurn}
use Rattle.call_link.specs.Link.{Link, new_link, is_due}
use Rattle.call_link.specs.Turns.{Opens, Ticks, Hears, linked}
use Rattle.end_model.specs.declared.out.Out.{Out}
use Rattle.end_model.specs.declared.out.Out.TheVariants.{Gone, Drop, Cause as Refused}
use Rattle.end_model.specs.declared.moves.Move.{Move}
use Rattle.end_model.specs.declared.moves.Move.TheVariants as move
use Rattle.end_model.specs.Reading.{message_in, CallFault, call_fault_in, TunnelFault, tunnel_fault_in}
use Rattle.end_model.specs.Calls.{row_for, row_of_none, advanced, with_numbers, counted, counted_all, is_set_up, is_request, is_connection, is_up, is_clean_up, is_short, is_long}
use Rattle.end_model.specs.Tunnels.{Ground, Turn, is_current}
use Rattle.end_model.specs.Links.{link_env, with_link, is_passing}
use Rattle.end_model.specs.Stopping.{rejects, rejected, shuts, closed_told, closes_tunnel, closed_by, shuts_by, clears}
use Rattle.end_model.specs.Messages.{connected_reason, connected_event, event_by, opening_reason, Told, tells_id, told_by}
use Rattle.end_model.specs.Turn.{with_output, with_move, with_change, with_call, with_new, drops, ends_call, ends_all, with_looks_of}
use Rattle.end_model.specs.Openings.{with_local, opened, opens_by, opens, accepted, accepts_by, accepts, connected, confirms}
use Rattle.end_model.specs.Sending.{gives, gives_as, sends_letter, sends_now, lets_go, goes_by, lets_all_go, acknowledges, outstanding, acknowledged_after, settles, takes_one, takes_plain, ignores, repeats}
use Rattle.end_model.specs.Channels.{has_room, may_take}
use Rattle.end_model.specs.Ringing.{requested, requests, requests_at, requests_all}
use Rattle.end_model.specs.Moments.{is_closed, is_over, patience, is_at_its_end, is_open}
use Rattle.end_model.specs.Reasons.{out_of_order, Reason, reason, out_of_state, fault_reason, not_asked}
use Rattle.end_model.specs.Hearing.{connects, takes_by, takes, about_call, in_call, hears, hears_faulty, hears_said, hears_next, hears_letter, is_duplicate, in_tunnel, first_said, in_query, heeds_answer}
use Rattle.end_model.specs.Asking.{granted, replied, replies, asked_by, session_named}
use Rattle.end_model.specs.Refusing.{refused, refuses, of_no_call, answers_by}
use Rattle.end_model.specs.Faulty.{faulty_at, faulty, in_faulty_call}
use Rattle.end_model.specs.Closing.{closes, ends_by, end_silent, end_told}
use Rattle.end_model.specs.Connecting.{first_up, first_up_by, second_up, second_up_by, end_heard, end_heard_by, ends_named, connects_call, linked_up}
use Rattle.end_model.specs.Ticking.{greeted, greets, limits_at, limits_all, goes_quietly, ticks_by, ticks}
use Rattle.end_model.specs.Frames.{sends_frame, counts, carried, carries}
use Rattle.end_model.specs.Linking.{sends_frames, negotiated, ends_linked, links_by, hears_link, hears_lcp, ticks_link}
use Rattle.end_model.specs.Querying.{answered_query, answers_query, asks_more, asks_next, ended_of, hears_answer, queries, queries_by, told_at, took_answer}
use Rattle.step_laws.specs.Ups.{ups_of_output, ups_of_move, births_of_move, reads_of_move}
use Rattle.step_laws.specs.Letters.{Among}
use Rattle.session_query.specs.Queries.{next_batch}
use Rattle.step_laws.proofs.Lists.{all_push, branch, none_more, one_more}

-- of a frame that a move sends down a call this is so; and no move is one of a start
abbrev pub SentSo : (ℕ → List ℕ → Type 0) → Move → Type 0
SentSo F (move.FrameSent f) = F f.session f.frame
SentSo F (move.Restored m) = ⊥
SentSo F (move.Forgot m) = ⊥
SentSo F m = Unit {0}

module _ (F : ℕ → List ℕ → Type 0) (on : Ground) where
  -- outputs and moves that hand nothing up, with so many births and so many reads of Nr at most, and with such frames alone, of a turn on that
  -- ground
  pub record AreQuiet (most reads : ℕ) (outs : List Out) (ms : List Move) (g : Ground) : Type 0 where
    pub no_output : flat_map ups_of_output outs ≡ []
    pub no_move : flat_map ups_of_move ms ≡ []
    pub births : length (flat_map births_of_move ms) ≤ most
    pub read : length (flat_map reads_of_move ms) ≤ reads
    pub sent : AllByRecursion (SentSo F) ms
    pub same : g ≡ on

  abbrev pub IsQuiet : ℕ → ℕ → Turn → Type 0
  IsQuiet most reads t = AreQuiet most reads t.outputs t.moves t.on

  -- one more output, and one more move, that give nothing
  pub told : {most reads : ℕ} {outs : List Out} {ms : List Move} {g : Ground} (o : Out) → ups_of_output o ≡ [] → AreQuiet most reads outs ms g
      → AreQuiet most reads (outs ++ o ∷ []) ms g
  told {most} {reads} {outs} {ms} {g} o none h =
      record { no_output = none_more ups_of_output outs o none ∙ h.no_output; no_move = h.no_move; births = h.births; read = h.read; sent = h.sent; same = h.same }

  pub did : {most reads : ℕ} {outs : List Out} {ms : List Move} {g : Ground} (m : Move) → ups_of_move m ≡ [] → births_of_move m ≡ [] → reads_of_move m ≡ []
      → SentSo F m → AreQuiet most reads outs ms g → AreQuiet most reads outs (ms ++ m ∷ []) g
  did {most} {reads} {outs} {ms} {g} m none unborn unread so h =
      record {
        sent = all_push (SentSo F) ms m h.sent so;
        same = h.same;
        no_output = h.no_output;
        no_move = none_more ups_of_move ms m none ∙ h.no_move;
        births = rw (none_more births_of_move ms m unborn) h.births;
        read = rw (none_more reads_of_move ms m unread) h.read;
      }

  -- one more move, by which a call is born
  pub with_birth : {most reads : ℕ} {outs : List Out} {ms : List Move} {g : Ground} (m : Move) (s : ℕ) → ups_of_move m ≡ [] → births_of_move m ≡ s ∷ [] → reads_of_move m ≡ []
      → SentSo F m → AreQuiet most reads outs ms g → AreQuiet (most + 1) reads outs (ms ++ m ∷ []) g
  with_birth {most} {reads} {outs} {ms} {g} m s none born unread so h =
      let count = one_more births_of_move ms m s born in
      let few = h.births in
      record {
        sent = all_push (SentSo F) ms m h.sent so;
        same = h.same;
        no_output = h.no_output;
        no_move = none_more ups_of_move ms m none ∙ h.no_move;
        births = omega (arith, count, few);
        read = rw (none_more reads_of_move ms m unread) h.read;
      }

  -- one more move, by which Nr is read
  pub with_read : {most reads : ℕ} {outs : List Out} {ms : List Move} {g : Ground} (m : Move) (i : ℕ) → ups_of_move m ≡ [] → births_of_move m ≡ [] → reads_of_move m ≡ i ∷ []
      → SentSo F m → AreQuiet most reads outs ms g → AreQuiet most (reads + 1) outs (ms ++ m ∷ []) g
  with_read {most} {reads} {outs} {ms} {g} m i none unborn is_read so h =
      let count = one_more reads_of_move ms m i is_read in
      let few = h.read in
      record {
        sent = all_push (SentSo F) ms m h.sent so;
        same = h.same;
        no_output = h.no_output;
        no_move = none_more ups_of_move ms m none ∙ h.no_move;
        births = rw (none_more births_of_move ms m unborn) h.births;
        read = omega (arith, count, few);
      }

  -- with one birth more to spare, and with one read
  pub spared : {reads : ℕ} {outs : List Out} {ms : List Move} {g : Ground} → AreQuiet 0 reads outs ms g → AreQuiet 1 reads outs ms g
  spared h = record { no_output = h.no_output; no_move = h.no_move; births = (let few = h.births in omega (arith, few)); read = h.read; sent = h.sent; same = h.same }

  pub unread : {most : ℕ} {outs : List Out} {ms : List Move} {g : Ground} → AreQuiet most 0 outs ms g → AreQuiet most 1 outs ms g
  unread h = record { no_output = h.no_output; no_move = h.no_move; births = h.births; read = (let few = h.read in omega (arith, few)); sent = h.sent; same = h.same }

  pub nothing : (most reads : ℕ) → AreQuiet most reads [] [] on
  nothing most reads = record { no_output = refl; no_move = refl; births = omega arith; read = omega arith; sent = tt; same = refl }

  module _ (most reads : ℕ) where
    abbrev Quiet : Turn → Type 0
    Quiet t = IsQuiet most reads t

    pub dropped : (w : Why) (t : Turn) → Quiet t → Quiet (drops w t)
    unfolding drops with_output
    dropped w t h = told (Drop w) refl h

    pub caused : (c : Cause) (t : Turn) → Quiet t → Quiet (with_output (Refused c) t)
    unfolding with_output
    caused c t h = told (Refused c) refl h

    -- ---- what is sent

    sent : (number : ℕ) (o : Option Letter) (t : Turn) → Quiet t → Quiet (sends_letter number o t)
    unfolding sends_letter with_output
    sent number None t h = h
    sent number (Some l) t h = branch Quiet (nat_le (length l.avps) 65523) _ _ (λ fits. told _ refl h) (λ long. h)

    gone : (letters : List Letter) (number : ℕ) (t : Turn) → Quiet t → Quiet (lets_go letters number t)
    unfolding lets_go sends_now with_move
    gone letters number t h = sent number _ _ (did _ refl refl refl tt h)

    gone_by : (rest : Turn → Turn) → ((u : Turn) → Quiet u → Quiet (rest u)) → (letters : List Letter) (o : Option ℕ) (t : Turn) → Quiet t
        → Quiet (goes_by rest letters o t)
    unfolding goes_by
    gone_by rest on letters None t h = h
    gone_by rest on letters (Some number) t h = on _ (gone letters number t h)

    all_gone : (most : ℕ) (letters : List Letter) (t : Turn) → Quiet t → Quiet (lets_all_go most letters t)
    unfolding lets_all_go
    all_gone zero letters t h = h
    all_gone (suc most) letters t h = gone_by (lets_all_go most letters) (all_gone most letters) letters (next_to_go t.control.channel) t h

    acknowledged : (t : Turn) → Quiet t → Quiet (acknowledges t)
    unfolding acknowledges with_output with_move
    acknowledged t h = told _ refl (did _ refl refl refl tt h)

    pub settled : (again : Bool) (letters : List Letter) (t : Turn) → Quiet t → Quiet (settles again letters t)
    unfolding settles acknowledged_after
    settled again letters t h =
        let u = lets_all_go t.control.channel.window.queued letters t in
        let quiet = all_gone t.control.channel.window.queued letters t h in
        branch Quiet (again || (u.took && (outstanding u == outstanding t))) _ _ (λ yes. acknowledged u quiet) (λ no. quiet)

    -- ---- new tunnels

    pub opened_quiet : (role : Role) (c : Config) (local : ℕ) (t : Turn) → Quiet t → Quiet (opened role c local t)
    unfolding opened gives with_move with_local
    opened_quiet role c local t h = did _ refl refl refl tt h

    pub opens_quiet : (role : Role) (c : Config) (t : Turn) → Quiet t → Quiet (opens role c t)
    unfolding opens opens_by
    opens_quiet role c t h = by (takes_id t.ids.tunnels)
      where
        by : (x : Result ℕ IdError) → Quiet (opens_by role c x t)
        by (Err x) = caused cause.Ids t h
        by (Ok local) = branch Quiet (has_room t.control) _ _ (λ may. opened_quiet role c local t h) (λ full. caused cause.Queue t h)

    accepted_quiet : (role : Role) (c : Config) (says : Told) (local : ℕ) (t : Turn) → Quiet t
        → Quiet (accepted role c says local t)
    unfolding accepted gives with_move takes_one with_local
    accepted_quiet role c says local t h = did _ refl refl refl tt h

    accepts_quiet : (role : Role) (c : Config) (says : Told) (t : Turn) → Quiet t
        → Quiet (accepts role c says t)
    unfolding accepts accepts_by
    accepts_quiet role c says t h = by (takes_id t.ids.tunnels)
      where
        by : (x : Result ℕ IdError) → Quiet (accepts_by role c says x t)
        by (Err x) = dropped why.Tunnel t h
        by (Ok local) =
            branch Quiet (has_room t.control) _ _
            (λ may. accepted_quiet role c says local t h)
            (λ full. dropped why.Queue t h)

    pub first_quiet : (role : Role) (c : Config) (r : Result Message Why) (t : Turn) → Quiet t → Quiet (first_said role c r t)
    unfolding first_said
    first_quiet role c (Ok (Sccrq o)) t h = accepts_quiet role c (told_by o) t h
    first_quiet role c (Ok (Sccrp o)) t h = dropped why.Tunnel t h
    first_quiet role c (Ok (Scccn response)) t h = dropped why.Tunnel t h
    first_quiet role c (Ok Hello) t h = dropped why.Tunnel t h
    first_quiet role c (Ok (Cdn remote code error)) t h = dropped why.Tunnel t h
    first_quiet role c (Ok (Icrq remote serial calling)) t h = dropped why.Tunnel t h
    first_quiet role c (Ok (Icrp remote)) t h = dropped why.Tunnel t h
    first_quiet role c (Ok (Iccn speed framing sequenced)) t h = dropped why.Tunnel t h
    first_quiet role c (Ok (StopCcn tunnel code error)) t h = dropped why.Tunnel t h
    first_quiet role c (Ok (Ocrq remote)) t h = dropped why.Tunnel t h
    first_quiet role c (Ok Ocrp) t h = dropped why.Tunnel t h
    first_quiet role c (Ok Occn) t h = dropped why.Tunnel t h
    first_quiet role c (Ok Wen) t h = dropped why.Tunnel t h
    first_quiet role c (Ok Sli) t h = dropped why.Tunnel t h
    first_quiet role c (Ok (Fsq sessions)) t h = dropped why.Tunnel t h
    first_quiet role c (Ok (Fsr sessions)) t h = dropped why.Tunnel t h
    first_quiet role c (Err w) t h = dropped why.Tunnel t h

    -- ---- sessions that are asked for

    queries_by_quiet : (o : Option (List Pair)) (t : Turn) → Quiet t → Quiet (queries_by o t)
    unfolding queries_by queries gives with_move
    queries_by_quiet None t h = h
    queries_by_quiet (Some pairs) t h =
        branch Quiet (has_room t.control) _ _ (λ may. did _ refl refl refl tt h) (λ full. dropped why.Queue t h)

    asks_more_quiet : (t : Turn) → Quiet t → Quiet (asks_more t)
    unfolding asks_more
    asks_more_quiet t h = queries_by_quiet (next_batch t.query) t h

    pub asks_next_quiet : (letters : List Letter) (t : Turn) → Quiet t → Quiet (asks_next letters t)
    unfolding asks_next
    asks_next_quiet letters t h = settled false letters (asks_more t) (asks_more_quiet t h)

    -- ---- calls that are asked for

    requested_quiet : (role : Role) (k : Config) (s : ℕ) (c : Call) (t : Turn) → Quiet t → Quiet (requested role k s c t)
    unfolding requested gives_as with_change with_move with_call
    requested_quiet role k s c t h = did _ refl refl refl tt h

    pub requests_quiet : (role : Role) (k : Config) (s : ℕ) (c : Call) (t : Turn) → Quiet t → Quiet (requests role k s c t)
    unfolding requests
    requests_quiet role k s c t h =
        branch Quiet (is_request (row_for role c call_event.TunnelOpen).1) _ _
        (λ row. branch Quiet (has_room t.control) _ _ (λ may. requested_quiet role k s c t h) (λ full. dropped why.Queue t h))
        (λ none. h)

    requests_at_quiet : (role : Role) (k : Config) (s : ℕ) (o : Option Call) (t : Turn) → Quiet t → Quiet (requests_at role k s o t)
    unfolding requests_at
    requests_at_quiet role k s None t h = h
    requests_at_quiet role k s (Some c) t h = branch Quiet (nat_lt s 65536) _ _ (λ small. requests_quiet role k s c t h) (λ big. h)

    requests_all_quiet : (role : Role) (k : Config) (ss : List ℕ) (calls : List (ℕ × Call)) (t : Turn) → Quiet t → Quiet (requests_all role k ss calls t)
    unfolding requests_all
    requests_all_quiet role k [] calls t h = h
    requests_all_quiet role k (s ∷ ss) calls t h =
        requests_all_quiet role k ss calls (requests_at role k s (at calls s) t) (requests_at_quiet role k s (at calls s) t h)

    -- ---- letters about the tunnel

    connected_quiet : (c : Config) (says : Told) (next : TunnelState) (t : Turn) → Quiet t
        → Quiet (connected c says next t)
    unfolding connected gives with_move takes_one
    connected_quiet c says next t h = did _ refl refl refl tt h

    connects_quiet : (role : Role) (c : Config) (calls : List (ℕ × Call)) (says : Told) (next : TunnelState) (t : Turn) → Quiet t
        → Quiet (connects role c calls says next t)
    unfolding connects
    connects_quiet role c calls says next t h =
        branch Quiet (has_room t.control) _ _
        (λ may. requests_all_quiet role c (ids_of calls) calls (connected c says next t) (connected_quiet c says next t h))
        (λ full. dropped why.Queue t h)

    confirms_quiet : (next : TunnelState) (t : Turn) → Quiet t → Quiet (confirms next t)
    unfolding confirms with_move takes_one
    confirms_quiet next t h = did _ refl refl refl tt h

    plain_quiet : (t : Turn) → Quiet t → Quiet (takes_plain t)
    unfolding takes_plain with_move takes_one
    plain_quiet t h = did _ refl refl refl tt h

    ignored : (w : Why) (t : Turn) → Quiet t → Quiet (ignores w t)
    unfolding ignores
    ignored w t h = dropped w _ (plain_quiet t h)

    -- ---- tunnels that close

    pub ended_quiet : (s : ℕ) (t : Turn) → Quiet t → Quiet (ends_call s t)
    unfolding ends_call with_output with_change
    ended_quiet s t h = told (Gone s) refl h

    ended_all : (ss : List ℕ) (t : Turn) → Quiet t → Quiet (ends_all ss t)
    unfolding ends_all
    ended_all [] t h = h
    ended_all (s ∷ ss) t h = ended_all ss (ends_call s t) (ended_quiet s t h)

    shuts_quiet : (calls : List (ℕ × Call)) (remote : ℕ) (next : TunnelState) (t : Turn) → Quiet t → Quiet (shuts calls remote next t)
    unfolding shuts
    shuts_quiet calls remote next t h =
        ended_all (ids_of calls) _ (record { no_output = h.no_output; no_move = h.no_move; births = h.births; read = h.read; sent = h.sent; same = h.same })

    shut_told_quiet : (r : Reason) (calls : List (ℕ × Call)) (remote : ℕ) (next : TunnelState) (t : Turn) → Quiet t
        → Quiet (closes_tunnel r calls remote next t)
    unfolding closes_tunnel closed_told gives with_move
    shut_told_quiet r calls remote next t h =
        branch Quiet (has_room t.control) _ _
        (λ may. did _ refl refl refl tt (shuts_quiet calls remote next (with_output (Refused r.cause) t) (caused r.cause t h)))
        (λ full. dropped why.Queue t h)

    rejects_quiet : (r : Reason) (calls : List (ℕ × Call)) (remote : ℕ) (next : TunnelState) (t : Turn) → Quiet t → Quiet (rejects r calls remote next t)
    unfolding rejects rejected gives with_move takes_one
    rejects_quiet r calls remote next t h =
        branch Quiet (has_room t.control) _ _
        (λ may.
        let told = caused r.cause t h in
        did _ refl refl refl tt
        (shuts_quiet calls remote next _ (record { no_output = told.no_output; no_move = told.no_move; births = told.births; read = told.read; sent = told.sent; same = told.same })))
        (λ full. dropped why.Queue t h)

    shut_heard_quiet : (calls : List (ℕ × Call)) (next : TunnelState) (t : Turn) → Quiet t → Quiet (closed_by calls next t)
    unfolding closed_by with_move takes_one
    shut_heard_quiet calls next t h =
        did _ refl refl refl tt
        (shuts_quiet calls t.control.remote next _ (record { no_output = h.no_output; no_move = h.no_move; births = h.births; read = h.read; sent = h.sent; same = h.same }))

    pub cleared_quiet : (calls : List (ℕ × Call)) (t : Turn) → Quiet t → Quiet (clears calls t)
    unfolding clears with_move
    cleared_quiet calls t h =
        let cleared = ended_all (ids_of calls) (with_move (move.Cleared t.control.local (is_open t.control.state)) t) (did (move.Cleared t.control.local (is_open t.control.state)) refl refl refl tt h) in
        record { no_output = cleared.no_output; no_move = cleared.no_move; births = cleared.births; read = cleared.read; sent = cleared.sent; same = cleared.same }

    pub shuts_by_quiet : (calls : List (ℕ × Call)) (next : TunnelState) (a : TunnelAction) (t : Turn) → Quiet t → Quiet (shuts_by calls (next, a) t)
    unfolding shuts_by
    shuts_by_quiet calls next action.SendStopCcn t h =
        branch Quiet (is_current t.on.mode) _ _
        (λ active. shut_told_quiet (reason cause.Operator 1 None) calls t.control.remote next t h)
        (λ inactive. cleared_quiet calls t h)
    shuts_by_quiet calls next action.Nothing t h = h
    shuts_by_quiet calls next action.SendSccrq t h = h
    shuts_by_quiet calls next action.SendSccrp t h = h
    shuts_by_quiet calls next action.SendScccn t h = h
    shuts_by_quiet calls next action.CleanUp t h = h

    -- ---- letters by the tunnel's table

    takes_by_quiet : (role : Role) (c : Config) (calls : List (ℕ × Call)) (r : Reason) (says : Told) (next : TunnelState) (a : TunnelAction) (t : Turn)
        → Quiet t → Quiet (takes_by role c calls r says (next, a) t)
    unfolding takes_by
    takes_by_quiet role c calls r says next action.SendScccn t h = connects_quiet role c calls says next t h
    takes_by_quiet role c calls r says next action.Nothing t h =
        branch Quiet (state_number next == state_number t.control.state) _ _ (λ same. plain_quiet t h) (λ other. confirms_quiet next t h)
    takes_by_quiet role c calls r says next action.SendSccrq t h = plain_quiet t h
    takes_by_quiet role c calls r says next action.SendSccrp t h = plain_quiet t h
    takes_by_quiet role c calls r says next action.SendStopCcn t h =
        branch Quiet (state_number t.control.state == 1) _ _
        (λ one. rejects_quiet r calls says.remote next t h)
        (λ other. plain_quiet (closes_tunnel r calls t.control.remote next t) (shut_told_quiet r calls t.control.remote next t h))
    takes_by_quiet role c calls r says next action.CleanUp t h = shut_heard_quiet calls next t h

    takes_quiet : (role : Role) (c : Config) (calls : List (ℕ × Call)) (r : Reason) (ev : TunnelEvent) (says : Told)
        (t : Turn) → Quiet t → Quiet (takes role c calls r ev says t)
    unfolding takes
    takes_quiet role c calls r ev says t h =
        let row = row_of rows t.control.state ev in
        takes_by_quiet role c calls r says row.0 row.1 t h

    -- ---- letters about a call

    replied_quiet : (role : Role) (remote s : ℕ) (t : Turn) → Quiet t → Quiet (replied role remote s t)
    unfolding replied gives with_move with_new takes_one
    replied_quiet role remote s t h = did _ refl refl refl tt h

    -- ---- calls that end

    silent_quiet : (s : ℕ) (booked : Bool) (t : Turn) → Quiet t → Quiet (end_silent s booked t)
    unfolding end_silent with_move
    silent_quiet s booked t h = did _ refl refl refl tt (ended_quiet s t h)

    told_quiet : (s : ℕ) (c : Call) (result : ℕ) (error : Option ℕ) (t : Turn) → Quiet t → Quiet (end_told s c result error t)
    unfolding end_told gives with_move
    told_quiet s c result error t h = did _ refl refl refl tt (ended_quiet s t h)

    ends_quiet : (for : Cause) (result : ℕ) (error : Option ℕ) (s : ℕ) (c : Call) (a : CallAction) (t : Turn) → Quiet t → Quiet (ends_by for result error s c a t)
    unfolding ends_by
    ends_quiet for result error s c call_action.CleanUp t h = silent_quiet s (is_up c.state) t h
    ends_quiet for result error s c call_action.SendCdn t h =
        branch Quiet (not (is_current t.on.mode)) _ _
        (λ inactive. silent_quiet s (is_up c.state) t h)
        (λ active. branch Quiet (has_room t.control) _ _
        (λ may. told_quiet s c result error (with_output (Refused for) t) (caused for t h))
        (λ full. dropped why.Queue t h))
    ends_quiet for result error s c call_action.Nothing t h = h
    ends_quiet for result error s c call_action.SendIcrq t h = h
    ends_quiet for result error s c call_action.SendIcrp t h = h
    ends_quiet for result error s c call_action.SendIccn t h = h
    ends_quiet for result error s c call_action.DropSession t h = h

    pub closes_quiet : (role : Role) (for : Cause) (on : CallEvent) (result s : ℕ) (o : Option Call) (t : Turn) → Quiet t → Quiet (closes role for on result s o t)
    unfolding closes
    closes_quiet role for on result s None t h = dropped why.Call t h
    closes_quiet role for on result s (Some c) t h =
        branch Quiet (nat_lt s 65536) _ _ (λ small. ends_quiet for result None s c (row_for role c on).1 t h) (λ big. h)

    -- ---- answers

    answers_quiet : (r : Reason) (s : ℕ) (c : Call) (a : CallAction) (t : Turn) → Quiet t → Quiet (answers_by r s c a t)
    unfolding answers_by
    answers_quiet r s c a t h =
        branch Quiet (nat_lt s 65536) _ _
        (λ small. ends_quiet r.cause r.result r.error s c a (takes_plain t) (plain_quiet t h))
        (λ big. plain_quiet t h)

    refuses_quiet : (r : Reason) (remote : ℕ) (t : Turn) → Quiet t → Quiet (refuses r remote t)
    unfolding refuses refused gives with_move takes_one
    refuses_quiet r remote t h =
        branch Quiet (has_room t.control) _ _
        (λ may. did _ refl refl refl tt (caused r.cause t h))
        (λ full. dropped why.Queue t h)

    no_call_quiet : (r : Reason) (remote : ℕ) (a : CallAction) (t : Turn) → Quiet t → Quiet (of_no_call r remote a t)
    unfolding of_no_call
    no_call_quiet r remote call_action.SendCdn t h = refuses_quiet r remote t h
    no_call_quiet r remote call_action.DropSession t h = ignored why.Session t h
    no_call_quiet r remote call_action.Nothing t h = plain_quiet t h
    no_call_quiet r remote call_action.SendIcrq t h = plain_quiet t h
    no_call_quiet r remote call_action.SendIcrp t h = plain_quiet t h
    no_call_quiet r remote call_action.SendIccn t h = plain_quiet t h
    no_call_quiet r remote call_action.CleanUp t h = plain_quiet t h

    asked_quiet : (role : Role) (s remote : ℕ) (g : Result ℕ Reason) (o : Option Call) (t : Turn) → Quiet t → Quiet (asked_by role s remote g o t)
    unfolding asked_by replies
    asked_quiet role s remote g (Some c) t h = answers_quiet out_of_state s c (row_for role c call_event.IcrqAcc).1 t h
    asked_quiet role s remote (Ok drawn) None t h =
        branch Quiet (has_room t.control) _ _ (λ may. replied_quiet role remote drawn t h) (λ full. dropped why.Queue t h)
    asked_quiet role s remote (Err r) None t h = refuses_quiet r remote t h

    first_up_quiet : (role : Role) (s remote : ℕ) (c : Call) (t : Turn) → Quiet t → Quiet (first_up role s remote c t)
    unfolding first_up gives with_change with_move with_call takes_one
    first_up_quiet role s remote c t h = did _ refl refl refl tt h

    first_up_by_quiet : (role : Role) (s remote : ℕ) (o : Option Call) (t : Turn) → Quiet t → Quiet (first_up_by role s remote o t)
    unfolding first_up_by
    first_up_by_quiet role s remote None t h = no_call_quiet out_of_state remote (row_of_none role call_event.IcrpAcc).1 t h
    first_up_by_quiet role s remote (Some c) t h =
        branch Quiet (is_connection (row_for role c call_event.IcrpAcc).1) _ _
        (λ row. branch Quiet (has_room t.control) _ _ (λ may. first_up_quiet role s remote c t h) (λ full. dropped why.Queue t h))
        (λ none. answers_quiet out_of_state s c (row_for role c call_event.IcrpAcc).1 t h)

    -- ---- LCP

    counts_quiet : (s : ℕ) (c : Call) (o : Option ℕ) (t : Turn) → Quiet t → Quiet (counts s c o t)
    unfolding counts with_move with_call
    counts_quiet s c None t h = h
    counts_quiet s c (Some n) t h = did _ refl refl refl tt h

    carried_quiet : (s : ℕ) (frame : List ℕ) (c : Call) (t : Turn) → F s frame → Quiet t → Quiet (carried s frame c t)
    unfolding carried sends_frame with_output with_move
    carried_quiet s frame c t so h = counts_quiet s c c.sequence (sends_frame s frame c t) (told _ refl (did _ refl refl refl so h))

    -- these frames may be sent
    abbrev pub AreSo : ℕ → List (List ℕ) → Type 0
    AreSo s fs = (f : List ℕ) → Among f fs → F s f

    frames_quiet : (s : ℕ) (fs : List (List ℕ)) (c : Call) (t : Turn) → AreSo s fs → Quiet t → Quiet (sends_frames s fs c t)
    unfolding sends_frames
    frames_quiet s [] c t so h = h
    frames_quiet s (f ∷ fs) c t so h =
        frames_quiet s fs (counted c) (carried s f c t) (λ q a. so q (inr a)) (carried_quiet s f c t (so f (inl refl)) h)

    negotiated_quiet : (s : ℕ) (c : Call) (v : LinkTurn) (t : Turn) → AreSo s v.frames → Quiet t → Quiet (negotiated s c v t)
    unfolding negotiated with_looks_of with_move with_call
    negotiated_quiet s c v t so h = did _ refl refl refl tt (frames_quiet s v.frames c t so h)

    links_quiet : (role : Role) (letters : List Letter) (s : ℕ) (c : Call) (v : LinkTurn) (o : Option Cause) (t : Turn) → AreSo s v.frames → Quiet t
        → Quiet (links_by role letters s c v o t)
    unfolding links_by ends_linked
    links_quiet role letters s c v None t so h = negotiated_quiet s c v t so h
    links_quiet role letters s c v (Some for) t so h =
        settled false letters _
        (ends_quiet for 3 None s (counted_all v.frames c) (row_for role c call_event.Close).1 (sends_frames s v.frames c t) (frames_quiet s v.frames c t so h))

    hears_link_quiet : (role : Role) (letters : List Letter) (s : ℕ) (frame : List ℕ) (c : Call) (o : Option Link) (t : Turn)
        → ((l : Link) → o ≡ Some l → AreSo s (linked (link_env on) (Hears frame) l).frames) → Quiet t
        → Quiet (hears_link role letters s frame c o t)
    unfolding hears_link
    hears_link_quiet role letters s frame c None t so h = dropped why.Closed t h
    hears_link_quiet role letters s frame c (Some l) t so h =
        links_quiet role letters s c _ _ t
        (subst (λ (g : Ground). AreSo s (linked (link_env g) (Hears frame) l).frames) (sym h.same) (so l refl)) h

    pub hears_lcp_quiet : (role : Role) (letters : List Letter) (s : ℕ) (frame : List ℕ) (o : Option Call) (t : Turn)
        → ((c : Call) (l : Link) → o ≡ Some c → c.link ≡ Some l → AreSo s (linked (link_env on) (Hears frame) l).frames) → Quiet t
        → Quiet (hears_lcp role letters s frame o t)
    unfolding hears_lcp
    hears_lcp_quiet role letters s frame None t so h = dropped why.Call t h
    hears_lcp_quiet role letters s frame (Some c) t so h =
        branch Quiet (nat_lt s 65536 && is_up c.state) _ _
        (λ up. hears_link_quiet role letters s frame c c.link t (λ l is. so c l refl is) h)
        (λ down. dropped why.Closed t h)

    ticks_link_quiet : (role : Role) (letters : List Letter) (s : ℕ) (c : Call) (o : Option Link) (t : Turn)
        → ((l : Link) → o ≡ Some l → AreSo s (linked (link_env on) Ticks l).frames) → Quiet t → Quiet (ticks_link role letters s c o t)
    unfolding ticks_link
    ticks_link_quiet role letters s c None t so h = h
    ticks_link_quiet role letters s c (Some l) t so h =
        branch Quiet (nat_lt s 65536 && is_up c.state && is_due t.on.moment l) _ _
        (λ due. links_quiet role letters s c _ _ t
        (subst (λ (g : Ground). AreSo s (linked (link_env g) Ticks l).frames) (sym h.same) (so l refl)) h)
        (λ no. h)

    -- ---- calls that are connected and end

    second_up_quiet : (sequenced : Bool) (s : ℕ) (d : Call) (t : Turn) → Quiet t → Quiet (second_up sequenced s d t)
    unfolding second_up with_change with_move with_call takes_one
    second_up_quiet sequenced s d t h = did _ refl refl refl tt h

    -- the link may be opened of a call of these that is connected
    abbrev pub OpensSo : Role → ℕ → Option Call → Type 0
    OpensSo role s o = (c : Call) → o ≡ Some c → is_up (row_for role c call_event.IccnAcc).0 ≡ true
        → AreSo s (linked (link_env on) Opens (new_link (link_env on))).frames

    linked_up_quiet : (role : Role) (sequenced : Bool) (s : ℕ) (c : Call) (t : Turn) → AreSo s (linked (link_env on) Opens (new_link (link_env on))).frames → Quiet t
        → Quiet (linked_up role sequenced s c t)
    unfolding linked_up connects_call
    linked_up_quiet role sequenced s c t so h =
        let l = new_link (link_env t.on) in
        let d = with_link l (with_numbers sequenced (advanced role call_event.IccnAcc t.on.moment c)) in
        negotiated_quiet s d (linked (link_env t.on) Opens l) (second_up sequenced s d t)
        (subst (λ (g : Ground). AreSo s (linked (link_env g) Opens (new_link (link_env g))).frames) (sym h.same) so)
        (second_up_quiet sequenced s d t h)

    second_up_by_quiet : (role : Role) (sequenced : Bool) (s : ℕ) (o : Option Call) (t : Turn) → OpensSo role s o → Quiet t
        → Quiet (second_up_by role sequenced s o t)
    unfolding second_up_by
    second_up_by_quiet role sequenced s None t so h = no_call_quiet out_of_state 0 (row_of_none role call_event.IccnAcc).1 t h
    second_up_by_quiet role sequenced s (Some c) t so h =
        branch Quiet (is_up (row_for role c call_event.IccnAcc).0) _ _
        (λ row. linked_up_quiet role sequenced s c t (so c refl row) h)
        (λ none. answers_quiet out_of_state s c (row_for role c call_event.IccnAcc).1 t h)

    end_heard_by_quiet : (role : Role) (s : ℕ) (o : Option Call) (t : Turn) → Quiet t → Quiet (end_heard_by role s o t)
    unfolding end_heard_by end_heard ends_call with_output with_change with_move takes_one
    end_heard_by_quiet role s None t h = no_call_quiet out_of_state 0 (row_of_none role call_event.CdnCame).1 t h
    end_heard_by_quiet role s (Some c) t h =
        branch Quiet (is_clean_up (row_for role c call_event.CdnCame).1) _ _
        (λ row. did _ refl refl refl tt (told _ refl h))
        (λ none. plain_quiet t h)

    about_quiet : (role : Role) (calls : List (ℕ × Call)) (session : ℕ) (m : Message) (t : Turn) → ((s : ℕ) → OpensSo role s (at calls s)) → Quiet t → Quiet (about_call role calls session m t)
    unfolding about_call ends_named
    about_quiet role calls session (Icrq remote serial calling) t so h =
        asked_quiet role session remote (granted role calls remote t.ids.sessions) (at calls session) t h
    about_quiet role calls session (Icrp remote) t so h = first_up_by_quiet role session remote (at calls session) t h
    about_quiet role calls session (Iccn speed framing sequenced) t so h = second_up_by_quiet role sequenced session (at calls session) t (so session) h
    about_quiet role calls session (Cdn remote code error) t so h =
        let s = session_named calls session remote in
        end_heard_by_quiet role s (at calls s) t h
    about_quiet role calls session (Ocrq remote) t so h = refuses_quiet (reason cause.Outgoing 5 None) remote t h
    about_quiet role calls session (StopCcn tunnel code error) t so h = plain_quiet t h
    about_quiet role calls session Hello t so h = plain_quiet t h
    about_quiet role calls session (Sccrq o) t so h = plain_quiet t h
    about_quiet role calls session (Sccrp o) t so h = plain_quiet t h
    about_quiet role calls session (Scccn response) t so h = plain_quiet t h
    about_quiet role calls session Ocrp t so h = plain_quiet t h
    about_quiet role calls session Occn t so h = plain_quiet t h
    about_quiet role calls session Wen t so h = plain_quiet t h
    about_quiet role calls session Sli t so h = plain_quiet t h
    about_quiet role calls session (Fsq sessions) t so h = plain_quiet t h
    about_quiet role calls session (Fsr sessions) t so h = plain_quiet t h

    in_call_quiet : (role : Role) (calls : List (ℕ × Call)) (session : ℕ) (m : Message) (t : Turn) → ((s : ℕ) → OpensSo role s (at calls s)) → Quiet t → Quiet (in_call role calls session m t)
    unfolding in_call
    in_call_quiet role calls session m t so h =
        branch Quiet (state_number t.control.state == 3) _ _ (λ is. about_quiet role calls session m t so h) (λ other. ignored why.Session t h)

    -- ---- faulty letters about a call

    faulty_at_quiet : (role : Role) (r : Reason) (s remote : ℕ) (on : CallEvent) (none : CallAction) (o : Option Call) (t : Turn) → Quiet t
        → Quiet (faulty_at role r s remote on none o t)
    unfolding faulty_at
    faulty_at_quiet role r s remote on none None t h = no_call_quiet r remote none t h
    faulty_at_quiet role r s remote on none (Some c) t h = answers_quiet r s c (row_for role c on).1 t h

    -- a WEN, an SLI, or a message that is about no call
    closed_quiet : (role : Role) (calls : List (ℕ × Call)) (session : ℕ) (c : Cause) (t : Turn) → Quiet t
        → Quiet (faulty_at role (fault_reason c) session 0 call_event.Close call_action.Nothing (at calls session) t)
    closed_quiet role calls session c t h = faulty_at_quiet role (fault_reason c) session 0 call_event.Close call_action.Nothing (at calls session) t h

    faulty_quiet : (role : Role) (calls : List (ℕ × Call)) (session : ℕ) (k : Kind) (c : Cause) (said : Option ℕ) (t : Turn) → Quiet t
        → Quiet (faulty role calls session k c said t)
    unfolding faulty
    faulty_quiet role calls session kind.Icrq c said t h =
        faulty_at_quiet role (fault_reason c) session (unwrap_or said 0) call_event.IcrqNotAcc call_action.SendCdn (at calls session) t h
    faulty_quiet role calls session kind.Ocrq c said t h = refuses_quiet (fault_reason c) (unwrap_or said 0) t h
    faulty_quiet role calls session kind.Icrp c said t h =
        faulty_at_quiet role (fault_reason c) session (unwrap_or said 0) call_event.IcrpNotAcc (row_of_none role call_event.IcrpNotAcc).1 (at calls session) t h
    faulty_quiet role calls session kind.Iccn c said t h =
        faulty_at_quiet role (fault_reason c) session 0 call_event.IccnNotAcc (row_of_none role call_event.IccnNotAcc).1 (at calls session) t h
    faulty_quiet role calls session kind.Cdn c said t h =
        let s = session_named calls session (unwrap_or said 0) in
        faulty_at_quiet role (fault_reason c) s 0 call_event.Close (row_of_none role call_event.CdnCame).1 (at calls s) t h
    faulty_quiet role calls session kind.Wen c said t h = closed_quiet role calls session c t h
    faulty_quiet role calls session kind.Sli c said t h = closed_quiet role calls session c t h
    faulty_quiet role calls session kind.Sccrq c said t h = closed_quiet role calls session c t h
    faulty_quiet role calls session kind.Sccrp c said t h = closed_quiet role calls session c t h
    faulty_quiet role calls session kind.Scccn c said t h = closed_quiet role calls session c t h
    faulty_quiet role calls session kind.StopCcn c said t h = closed_quiet role calls session c t h
    faulty_quiet role calls session kind.Hello c said t h = closed_quiet role calls session c t h
    faulty_quiet role calls session kind.Ocrp c said t h = closed_quiet role calls session c t h
    faulty_quiet role calls session kind.Occn c said t h = closed_quiet role calls session c t h
    faulty_quiet role calls session kind.Fsq c said t h = closed_quiet role calls session c t h
    faulty_quiet role calls session kind.Fsr c said t h = closed_quiet role calls session c t h

    in_faulty_quiet : (role : Role) (calls : List (ℕ × Call)) (session : ℕ) (k : CallFault) (t : Turn) → Quiet t
        → Quiet (in_faulty_call role calls session k t)
    unfolding in_faulty_call
    in_faulty_quiet role calls session k t h =
        branch Quiet (state_number t.control.state == 3) _ _
        (λ is. faulty_quiet role calls session k.kind k.cause k.session t h)
        (λ other. ignored why.Session t h)

    -- ---- questions and answers

    query_quiet : (calls : List (ℕ × Call)) (pairs : List Pair) (t : Turn) → Quiet t → Quiet (in_query calls pairs t)
    unfolding in_query answers_query answered_query gives with_move takes_one
    query_quiet calls pairs t h =
        branch Quiet (state_number t.control.state == 3) _ _
        (λ is. branch Quiet (has_room t.control) _ _ (λ may. did _ refl refl refl tt h) (λ full. dropped why.Queue t h))
        (λ other. plain_quiet t h)

    took_quiet : (calls : List (ℕ × Call)) (answers gone : List Pair) (t : Turn) → Quiet t → Quiet (took_answer calls answers gone t)
    unfolding took_answer with_move takes_one
    took_quiet calls answers gone t h = ended_all (ended_of calls gone) _ (did _ refl refl refl tt h)

    answer_quiet : (role : Role) (c : Config) (calls : List (ℕ × Call)) (answers : List Pair) (r : Result (List Pair) ℕ) (t : Turn)
        → Quiet t
        → Quiet (heeds_answer role c calls answers r t)
    unfolding heeds_answer hears_answer
    answer_quiet role c calls answers (Ok gone) t h = asks_more_quiet (took_answer calls answers gone t) (took_quiet calls answers gone t h)
    answer_quiet role c calls answers (Err place) t h = takes_quiet role c calls not_asked event.AdminClose (tells_id 0) t h

    -- ---- control messages

    hears_quiet : (role : Role) (c : Config) (calls : List (ℕ × Call)) (session : ℕ) (m : Message) (t : Turn) → ((s : ℕ) → OpensSo role s (at calls s)) → Quiet t
        → Quiet (hears role c calls session m t)
    unfolding hears
    hears_quiet role c calls session (Sccrq o) t so h =
        takes_quiet role c calls (opening_reason c.secret None o) (event_by event.SccrqAcc event.SccrqNotAcc c.secret None o) (tells_id 0) t h
    hears_quiet role c calls session (Sccrp o) t so h =
        takes_quiet role c calls (opening_reason c.secret t.control.challenge o)
        (event_by event.SccrpAcc event.SccrpNotAcc c.secret t.control.challenge o) (told_by o) t h
    hears_quiet role c calls session (Scccn response) t so h =
        takes_quiet role c calls (connected_reason c.secret t.control.challenge response) (connected_event c.secret t.control.challenge response) (tells_id 0) t h
    hears_quiet role c calls session Hello t so h = plain_quiet t h
    hears_quiet role c calls session (Cdn remote code error) t so h = in_call_quiet role calls session (Cdn remote code error) t so h
    hears_quiet role c calls session (Icrq remote serial calling) t so h = in_call_quiet role calls session (Icrq remote serial calling) t so h
    hears_quiet role c calls session (Icrp remote) t so h = in_call_quiet role calls session (Icrp remote) t so h
    hears_quiet role c calls session (Iccn speed framing sequenced) t so h = in_call_quiet role calls session (Iccn speed framing sequenced) t so h
    hears_quiet role c calls session (Ocrq remote) t so h = in_call_quiet role calls session (Ocrq remote) t so h
    hears_quiet role c calls session (StopCcn tunnel code error) t so h = takes_quiet role c calls out_of_order event.StopCcnCame (tells_id 0) t h
    hears_quiet role c calls session Ocrp t so h = plain_quiet t h
    hears_quiet role c calls session Occn t so h = plain_quiet t h
    hears_quiet role c calls session Wen t so h = plain_quiet t h
    hears_quiet role c calls session Sli t so h = plain_quiet t h
    hears_quiet role c calls session (Fsq sessions) t so h = query_quiet calls sessions t h
    hears_quiet role c calls session (Fsr answers) t so h = answer_quiet role c calls answers (told_at t.control.state t.query answers) t h

    faults_quiet : (role : Role) (c : Config) (calls : List (ℕ × Call)) (session : ℕ) (o : Option CallFault) (g : Option TunnelFault) (w : Why) (t : Turn) → Quiet t
        → Quiet (hears_faulty role c calls session o g w t)
    unfolding hears_faulty
    faults_quiet role c calls session (Some k) g w t h = in_faulty_quiet role calls session k t h
    faults_quiet role c calls session None (Some g) w t h = takes_quiet role c calls (fault_reason g.cause) g.event (tells_id g.remote) t h
    faults_quiet role c calls session None None w t h = ignored w t h

    said_quiet : (role : Role) (c : Config) (calls : List (ℕ × Call)) (session : ℕ) (o : Option CallFault) (g : Option TunnelFault) (r : Result Message Why)
        (t : Turn) → ((s : ℕ) → OpensSo role s (at calls s)) → Quiet t → Quiet (hears_said role c calls session o g r t)
    unfolding hears_said
    said_quiet role c calls session o g (Err w) t so h = faults_quiet role c calls session o g w t h
    said_quiet role c calls session o g (Ok m) t so h = hears_quiet role c calls session m t so h

    next_quiet : (role : Role) (c : Config) (calls : List (ℕ × Call)) (session : ℕ) (body : List ℕ) (t : Turn) → ((s : ℕ) → OpensSo role s (at calls s)) → Quiet t
        → Quiet (hears_next role c calls session body t)
    unfolding hears_next
    next_quiet role c calls session body t so h =
        branch Quiet (is_closed t.control.state) _ _
        (λ closed. plain_quiet t h)
        (λ live. said_quiet role c calls session (call_fault_in body) (tunnel_fault_in body) (message_in body) t so h)

    letter_quiet : (role : Role) (g : Config) (calls : List (ℕ × Call)) (session : ℕ) (body : List ℕ) (c : Option Class) (t : Turn) → ((s : ℕ) → OpensSo role s (at calls s)) → Quiet t
        → Quiet (hears_letter role g calls session body c t)
    unfolding hears_letter
    letter_quiet role g calls session body (Some Next) t so h =
        branch Quiet (may_take t.control calls) _ _
        (λ may. next_quiet role g calls session body t so h)
        (λ full. dropped why.Queue t h)
    letter_quiet role g calls session body (Some (Ahead by)) t so h = dropped why.Ahead t h
    letter_quiet role g calls session body (Some Duplicate) t so h = h
    letter_quiet role g calls session body None t so h = h

    pub in_tunnel_quiet : (role : Role) (g : Config) (letters : List Letter) (calls : List (ℕ × Call)) (session : ℕ) (body : List ℕ) (c : Option Class) (t : Turn) → ((s : ℕ) → OpensSo role s (at calls s)) → Quiet t
        → Quiet (in_tunnel role g letters calls session body c t)
    unfolding in_tunnel
    in_tunnel_quiet role g letters calls session body c t so h = settled (is_duplicate c) letters _ (letter_quiet role g calls session body c t so h)

    -- ---- frames that are given

    pub carries_quiet : (s : ℕ) (frame : List ℕ) (o : Option Call) (t : Turn) → F s frame → Quiet t → Quiet (carries s frame o t)
    unfolding carries
    carries_quiet s frame None t so h = dropped why.Call t h
    carries_quiet s frame (Some c) t so h =
        branch Quiet (is_up c.state && is_passing c.link) _ _
        (λ up. branch Quiet (is_short frame) _ _ (λ short. dropped why.Short t h)
        (λ short. branch Quiet (is_long frame) _ _ (λ long. dropped why.Long t h) (λ long. carried_quiet s frame c t so h)))
        (λ down. dropped why.Closed t h)

    -- ---- time

    repeated_quiet : (letters : List Letter) (number : ℕ) (t : Turn) → Quiet t → Quiet (repeats letters number t)
    unfolding repeats sends_now with_move
    repeated_quiet letters number t h = sent number _ _ (did _ refl refl refl tt h)

    greeted_quiet : (letters : List Letter) (t : Turn) → Quiet t → Quiet (greeted letters t)
    unfolding greeted gives with_move
    greeted_quiet letters t h = settled false letters _ (did _ refl refl refl tt h)

    greets_quiet : (letters : List Letter) (t : Turn) → Quiet t → Quiet (greets letters t)
    unfolding greets
    greets_quiet letters t h =
        branch Quiet (state_number t.control.state == 3 && is_current t.on.mode && t.control.channel.window.queued == 0 && is_over patience t.on.moment t.control.heard) _ _
        (λ due. greeted_quiet letters t h)
        (λ no. h)

    -- the LCP end of a call may have its timer
    abbrev pub TicksSo : ℕ → Option Call → Type 0
    TicksSo s o = (c : Call) (l : Link) → o ≡ Some c → c.link ≡ Some l → AreSo s (linked (link_env on) Ticks l).frames

    limits_at_quiet : (role : Role) (letters : List Letter) (s : ℕ) (o : Option Call) (t : Turn) → TicksSo s o → Quiet t → Quiet (limits_at role letters s o t)
    unfolding limits_at
    limits_at_quiet role letters s None t so h = h
    limits_at_quiet role letters s (Some c) t so h =
        branch Quiet (nat_lt s 65536 && is_set_up c.state && is_over patience t.on.moment c.since) _ _
        (λ due. settled false letters _ (ends_quiet cause.Setup 10 None s c (row_for role c call_event.Close).1 t h))
        (λ no. ticks_link_quiet role letters s c c.link t (λ l is. so c l refl is) h)

    limits_all_quiet : (role : Role) (letters : List Letter) (ss : List ℕ) (calls : List (ℕ × Call)) (t : Turn) → ((s : ℕ) → TicksSo s (at calls s)) → Quiet t
        → Quiet (limits_all role letters ss calls t)
    unfolding limits_all
    limits_all_quiet role letters [] calls t so h = h
    limits_all_quiet role letters (s ∷ ss) calls t so h =
        limits_all_quiet role letters ss calls (limits_at role letters s (at calls s) t) so (limits_at_quiet role letters s (at calls s) t (so s) h)

    quietly_quiet : (role : Role) (letters : List Letter) (calls : List (ℕ × Call)) (t : Turn) → ((s : ℕ) → TicksSo s (at calls s)) → Quiet t → Quiet (goes_quietly role letters calls t)
    unfolding goes_quietly
    quietly_quiet role letters calls t so h = limits_all_quiet role letters (ids_of calls) calls (greets letters t) so (greets_quiet letters t h)

    ticks_by_quiet : (role : Role) (letters : List Letter) (calls : List (ℕ × Call)) (a : Due) (t : Turn) → ((s : ℕ) → TicksSo s (at calls s)) → Quiet t → Quiet (ticks_by role letters calls a t)
    unfolding ticks_by
    ticks_by_quiet role letters calls tick.Quiet t so h = quietly_quiet role letters calls t so h
    ticks_by_quiet role letters calls (tick.Again number) t so h = quietly_quiet role letters calls (repeats letters number t) so (repeated_quiet letters number t h)
    ticks_by_quiet role letters calls (tick.Failed first) t so h = cleared_quiet calls t h

    pub ticks_quiet : (role : Role) (letters : List Letter) (calls : List (ℕ × Call)) (t : Turn) → ((s : ℕ) → TicksSo s (at calls s)) → Quiet t → Quiet (ticks role letters calls t)
    unfolding ticks
    ticks_quiet role letters calls t so h =
        branch Quiet (is_at_its_end t.on.moment t.control) _ _
        (λ due. cleared_quiet calls t h)
        (λ no. ticks_by_quiet role letters calls (answer_to_tick t.control.channel t.on.moment) t so h)
