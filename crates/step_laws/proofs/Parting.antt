-- A turn tells no call as gone twice, and none that wasn't there at its beginning.
use Rattle.std.proofs.Common.{◌≡◌, ◌⊎◌, inl, inr, ⊎_elim, ℕ, Bool, true, false, List, [], ◌∷◌, ◌++◌, refl, sym, ap, ◌∙◌, subst, Option, Some, None, Result, Ok, Err}
use Rattle.std.proofs.lemmas.Grind.{flat_map-append}
use Rattle.std.proofs.lemmas.List.{append-nil}
use Rattle.std.specs.Prelude.{◌==◌, ◌&&◌, nat_lt, is_some, length, unwrap_or, not}
use Rattle.id_table.specs.Ids.{at, ids_of}
use Rattle.id_table.specs.Order.{Ascends}
use Rattle.wire_base.specs.declared.why.Why.{Why}
use Rattle.wire_base.specs.declared.why.Why.TheVariants as why
use Rattle.wire_base.specs.declared.cause.Cause.{Cause}
use Rattle.wire_base.specs.declared.cause.Cause.TheVariants as cause
use Rattle.wire_base.specs.declared.letter.Letter.{Letter}
use Rattle.wire_base.specs.declared.pair.Pair.{Pair}
use Rattle.l2tp_header.specs.declared.header.Header.{Header}
use Rattle.l2tp_header.specs.declared.header.HeaderError.{HeaderError}
use Rattle.l2tp_header.specs.Reading.{header_of, body_of}
use Rattle.control_message.specs.declared.message.Message.{Message}
use Rattle.control_message.specs.declared.message.Message.TheVariants.{Sccrq, Sccrp, Scccn, StopCcn, Hello, Ocrq, Ocrp, Occn, Icrq, Icrp, Iccn, Cdn, Wen, Sli, Fsq, Fsr}
use Rattle.control_message.specs.declared.kind.Kind.{Kind}
use Rattle.control_message.specs.declared.kind.Kind.TheVariants as kind
use Rattle.recv_window.specs.declared.Class.{Class}
use Rattle.recv_window.specs.declared.Class.TheVariants.{Next, Duplicate, Ahead}
use Rattle.send_window.specs.declared.window.Tick.{Tick as Due}
use Rattle.send_window.specs.declared.window.Tick.TheVariants as tick
use Rattle.control_channel.specs.Numbers.{answer_to_tick, class_told}
use Rattle.tunnel_fsm.specs.declared.table.TunnelState.{TunnelState}
use Rattle.tunnel_fsm.specs.declared.table.TunnelAction.{TunnelAction}
use Rattle.tunnel_fsm.specs.declared.table.TunnelAction.TheVariants as action
use Rattle.tunnel_fsm.specs.declared.table.TunnelEvent.{TunnelEvent}
use Rattle.tunnel_fsm.specs.declared.table.TunnelEvent.TheVariants as event
use Rattle.tunnel_fsm.specs.Rows.{rows, row_of, state_number}
use Rattle.call_fsm.specs.declared.table.CallEvent.{CallEvent}
use Rattle.call_fsm.specs.declared.table.CallEvent.TheVariants as call_event
use Rattle.call_fsm.specs.declared.table.CallAction.{CallAction}
use Rattle.call_fsm.specs.declared.table.CallAction.TheVariants as call_action
use Rattle.end_model.specs.declared.tunnel.Call.{Call}
use Rattle.end_model.specs.declared.tunnel.Config.{Config}
use Rattle.session_looks.specs.declared.look.CellChange.TheVariants as cell
use Rattle.session_looks.specs.Frames.{header_why}
use Rattle.end_names.specs.declared.role.Role.{Role}
use Rattle.end_names.specs.Names.{subscriber}
use Rattle.call_link.specs.declared.turn.LinkTurn.{LinkTurn}
use Rattle.call_link.specs.Link.{Link, is_due}
use Rattle.end_model.specs.declared.event.Event.{Event}
use Rattle.end_model.specs.declared.event.Event.TheVariants.{Datagram, Ring, Payload, Lower, Lcp, Hang, OpenTunnel, DropCall, CloseTunnel, Tick, Admitted, Frame}
use Rattle.end_model.specs.declared.out.Out.TheVariants.{Gone, Cause as Refused}
use Rattle.end_model.specs.Reading.{message_in, CallFault, call_fault_in, TunnelFault, tunnel_fault_in}
use Rattle.end_model.specs.Calls.{counted_all, row_for, row_of_none, is_set_up, is_connection, is_up, is_clean_up}
use Rattle.end_model.specs.Tunnels.{Turn, is_current}
use Rattle.end_model.specs.Stopping.{rejects, rejected, shuts, closed_told, closes_tunnel, closed_by, shuts_by, clears}
use Rattle.end_model.specs.Messages.{connected_reason, connected_event, event_by, opening_reason, Told, tells_id, told_by}
use Rattle.end_model.specs.Turn.{with_output, with_move, with_change, ends_call, ends_all}
use Rattle.end_model.specs.Sending.{gives, settles, takes_one, takes_plain, reads_nr, repeats}
use Rattle.end_model.specs.Channels.{has_room, may_take}
use Rattle.end_model.specs.Moments.{is_closed, is_over, patience, is_at_its_end}
use Rattle.end_model.specs.Reasons.{out_of_order, Reason, reason, out_of_state, fault_reason, not_asked}
use Rattle.end_model.specs.Hearing.{takes_by, takes, about_call, in_call, hears, hears_faulty, hears_said, hears_next, hears_letter, is_duplicate, in_tunnel, hears_control, hears_datagram, ignores_all, mode_why, in_query, heeds_answer}
use Rattle.end_model.specs.Asking.{granted, asked_by, session_named}
use Rattle.end_model.specs.Refusing.{answers_by}
use Rattle.end_model.specs.Faulty.{faulty_at, faulty, in_faulty_call}
use Rattle.end_model.specs.Closing.{closes, ends_by, end_silent, end_told}
use Rattle.end_model.specs.Connecting.{first_up_by, second_up_by, end_heard, end_heard_by, ends_named}
use Rattle.end_model.specs.Ticking.{greets, limits_at, limits_all, goes_quietly, ticks_by, ticks}
use Rattle.end_model.specs.Linking.{sends_frames, ends_linked, links_by, hears_link, hears_lcp, ticks_link}
use Rattle.end_model.specs.Events.{turns}
use Rattle.end_model.specs.Querying.{ended_of, hears_answer, told_at, took_answer}
use Rattle.step_laws.specs.Gone.{gone_of_output}
use Rattle.step_laws.specs.Letters.{Among}
use Rattle.step_laws.proofs.Lists.{branch}
use Rattle.step_laws.proofs.Distinct.{AreDistinct, among_either, distinct_append, distinct_ids, among_there}
use Rattle.step_laws.proofs.Untold.{killed_by, TellsIn, dropped, caused, settled, opens_still, first_still, connects_still, confirms_still, plain_still, read_still, ignored, replies_still, refuses_still, no_call_still, first_up_still, carries_still, frames_still, negotiated_still, linked_up_still, rings_still, repeated_still, greets_still, asks_still, query_still}
use Rattle.step_laws.specs.Queries.{IsQuery, Rise}
use Rattle.step_laws.proofs.Queries.{ended_distinct, ended_up, told_rise}

-- ---- one call ends, or all of them

ended : (g : List ℕ) (s : ℕ) (t : Turn) → TellsIn g t → TellsIn (g ++ s ∷ []) (ends_call s t)
unfolding ends_call with_output with_change
ended g s t h = record {
  gone = flat_map-append gone_of_output t.outputs (Gone s ∷ []) ∙ ap (λ ys. ys ++ s ∷ []) h.gone;
  killed = flat_map-append killed_by t.changes (cell.Kill s ∷ []) ∙ ap (λ ys. ys ++ s ∷ []) h.killed;
}

append_one : (xs : List ℕ) (y : ℕ) (ys : List ℕ) → (xs ++ y ∷ []) ++ ys ≡ xs ++ y ∷ ys
append_one [] y ys = refl
append_one (x ∷ xs) y ys = ap (λ zs. x ∷ zs) (append_one xs y ys)

pub ended_all : (g ss : List ℕ) (t : Turn) → TellsIn g t → TellsIn (g ++ ss) (ends_all ss t)
unfolding ends_all
ended_all g [] t h = subst (λ xs. TellsIn xs t) (sym (append-nil g)) h
ended_all g (s ∷ ss) t h =
    subst (λ xs. TellsIn xs (ends_all ss (ends_call s t))) (append_one g s ss) (ended_all (g ++ s ∷ []) ss (ends_call s t) (ended g s t h))

-- a call ends at most
abbrev pub Ends : List ℕ → ℕ → Turn → Type 0
Ends g s u = TellsIn g u ⊎ TellsIn (g ++ s ∷ []) u

module _ (g : List ℕ) (s : ℕ) where
  pub settled_ends : (again : Bool) (letters : List Letter) (t : Turn) → Ends g s t → Ends g s (settles again letters t)
  settled_ends again letters t h = ⊎_elim (λ a. inl (settled g again letters t a)) (λ a. inr (settled (g ++ s ∷ []) again letters t a)) h

  silent_ends : (booked : Bool) (t : Turn) → TellsIn g t → Ends g s (end_silent s booked t)
  unfolding end_silent with_move
  silent_ends booked t h = inr (ended g s t h)

  told_ends : (c : Call) (result : ℕ) (error : Option ℕ) (t : Turn) → TellsIn g t → Ends g s (end_told s c result error t)
  unfolding end_told gives with_move
  told_ends c result error t h = inr (ended g s t h)

  pub by_ends : (for : Cause) (result : ℕ) (error : Option ℕ) (c : Call) (a : CallAction) (t : Turn) → TellsIn g t
      → Ends g s (ends_by for result error s c a t)
  unfolding ends_by
  by_ends for result error c call_action.CleanUp t h = silent_ends (is_up c.state) t h
  by_ends for result error c call_action.SendCdn t h =
      branch (Ends g s) (not (is_current t.on.mode)) _ _
      (λ inactive. silent_ends (is_up c.state) t h)
      (λ active. branch (Ends g s) (has_room t.control) _ _
      (λ may. told_ends c result error (with_output (Refused for) t) (caused g for t h))
      (λ full. inl (dropped g why.Queue t h)))
  by_ends for result error c call_action.Nothing t h = inl h
  by_ends for result error c call_action.SendIcrq t h = inl h
  by_ends for result error c call_action.SendIcrp t h = inl h
  by_ends for result error c call_action.SendIccn t h = inl h
  by_ends for result error c call_action.DropSession t h = inl h

  answers_ends : (r : Reason) (c : Call) (a : CallAction) (t : Turn) → TellsIn g t → Ends g s (answers_by r s c a t)
  unfolding answers_by
  answers_ends r c a t h =
      branch (Ends g s) (nat_lt s 65536) _ _
      (λ small. by_ends r.cause r.result r.error c a (takes_plain t) (plain_still g t h))
      (λ big. inl (plain_still g t h))

  links_ends : (role : Role) (letters : List Letter) (c : Call) (v : LinkTurn) (o : Option Cause) (t : Turn) → TellsIn g t
      → Ends g s (links_by role letters s c v o t)
  unfolding links_by ends_linked
  links_ends role letters c v None t h = inl (negotiated_still g s c v t h)
  links_ends role letters c v (Some for) t h =
      settled_ends false letters _
      (by_ends for 3 None (counted_all v.frames c) (row_for role c call_event.Close).1 (sends_frames s v.frames c t) (frames_still g s v.frames c t h))

  hears_link_ends : (role : Role) (letters : List Letter) (frame : List ℕ) (c : Call) (o : Option Link) (t : Turn) → TellsIn g t
      → Ends g s (hears_link role letters s frame c o t)
  unfolding hears_link
  hears_link_ends role letters frame c None t h = inl (dropped g why.Closed t h)
  hears_link_ends role letters frame c (Some l) t h = links_ends role letters c _ _ t h

  ticks_link_ends : (role : Role) (letters : List Letter) (c : Call) (o : Option Link) (t : Turn) → TellsIn g t → Ends g s (ticks_link role letters s c o t)
  unfolding ticks_link
  ticks_link_ends role letters c None t h = inl h
  ticks_link_ends role letters c (Some l) t h =
      branch (Ends g s) (nat_lt s 65536 && is_up c.state && is_due t.on.moment l) _ _
      (λ due. links_ends role letters c _ _ t h)
      (λ no. inl h)

  end_heard_ends : (booked : Bool) (t : Turn) → TellsIn g t → Ends g s (end_heard s booked t)
  unfolding end_heard with_move takes_one
  end_heard_ends booked t h = inr (ended g s _ (record { gone = h.gone; killed = h.killed }))

  -- a call that took too long ends, or its LCP end has its timer
  limits_ends : (role : Role) (letters : List Letter) (c : Call) (t : Turn) → TellsIn g t → Ends g s (limits_at role letters s (Some c) t)
  unfolding limits_at
  limits_ends role letters c t h =
      branch (Ends g s) (nat_lt s 65536 && is_set_up c.state && is_over patience t.on.moment c.since) _ _
      (λ due. settled_ends false letters _ (by_ends cause.Setup 10 None c (row_for role c call_event.Close).1 t h))
      (λ no. ticks_link_ends role letters c c.link t h)

module _ (calls : List (ℕ × Call)) where
  -- what a turn told as gone: no call twice, and none that wasn't among these
  pub record Parts (t : Turn) : Type 0 where
    pub gone : List ℕ
    pub tells : TellsIn gone t
    pub once : AreDistinct gone
    pub had : (q : ℕ) → Among q gone → is_some (at calls q) ≡ true

  pub parts_none : (t : Turn) → TellsIn [] t → Parts t
  parts_none t h = record { gone = []; tells = h; once = tt; had = λ q a. absurd a }

  parts_one : (s : ℕ) (t : Turn) → is_some (at calls s) ≡ true → Ends [] s t → Parts t
  parts_one s t there h = ⊎_elim
      (λ a. parts_none t a)
      (λ a. record {
        gone = s ∷ [];
        tells = a;
        once = ((λ x. x), tt);
        had = λ q b. ⊎_elim (λ (is : s ≡ q). subst (λ j. is_some (at calls j) ≡ true) is there) (λ x. absurd x) b;
      })
      h

  -- of a call that is found
  found_one : (s : ℕ) (c : Call) (t : Turn) → at calls s ≡ Some c → Ends [] s t → Parts t
  found_one s c t is h = parts_one s t (ap (λ (o : Option Call). is_some o) is) h

  settled_parts : (again : Bool) (letters : List Letter) (t : Turn) → Parts t → Parts (settles again letters t)
  settled_parts again letters t h = record { gone = h.gone; tells = settled h.gone again letters t h.tells; once = h.once; had = h.had }

  plain_parts : (t : Turn) → Parts t → Parts (takes_plain t)
  plain_parts t h = record { gone = h.gone; tells = plain_still h.gone t h.tells; once = h.once; had = h.had }

  -- ---- calls that are closed

  closes_parts : (role : Role) (for : Cause) (on : CallEvent) (result s : ℕ) (o : Option Call) (t : Turn) → at calls s ≡ o → TellsIn [] t
      → Parts (closes role for on result s o t)
  unfolding closes
  closes_parts role for on result s None t is h = parts_none _ (dropped [] why.Call t h)
  closes_parts role for on result s (Some c) t is h =
      branch Parts (nat_lt s 65536) _ _
      (λ small. found_one s c _ is (by_ends [] s for result None c (row_for role c on).1 t h))
      (λ big. parts_none t h)

  answers_parts : (r : Reason) (s : ℕ) (c : Call) (a : CallAction) (t : Turn) → at calls s ≡ Some c → TellsIn [] t → Parts (answers_by r s c a t)
  answers_parts r s c a t is h = found_one s c _ is (answers_ends [] s r c a t h)

  asked_parts : (role : Role) (s remote : ℕ) (g : Result ℕ Reason) (o : Option Call) (t : Turn) → at calls s ≡ o → TellsIn [] t
      → Parts (asked_by role s remote g o t)
  unfolding asked_by
  asked_parts role s remote g (Some c) t is h = answers_parts out_of_state s c (row_for role c call_event.IcrqAcc).1 t is h
  asked_parts role s remote (Ok drawn) None t is h = parts_none _ (replies_still [] role remote drawn t h)
  asked_parts role s remote (Err r) None t is h = parts_none _ (refuses_still [] r remote t h)

  first_up_parts : (role : Role) (s remote : ℕ) (o : Option Call) (t : Turn) → at calls s ≡ o → TellsIn [] t → Parts (first_up_by role s remote o t)
  unfolding first_up_by
  first_up_parts role s remote None t is h = parts_none _ (no_call_still [] out_of_state remote (row_of_none role call_event.IcrpAcc).1 t h)
  first_up_parts role s remote (Some c) t is h =
      branch Parts (is_connection (row_for role c call_event.IcrpAcc).1) _ _
      (λ row. branch Parts (has_room t.control) _ _
      (λ may. parts_none _ (first_up_still [] role s remote c t h))
      (λ full. parts_none _ (dropped [] why.Queue t h)))
      (λ none. answers_parts out_of_state s c (row_for role c call_event.IcrpAcc).1 t is h)

  second_up_parts : (role : Role) (sequenced : Bool) (s : ℕ) (o : Option Call) (t : Turn) → at calls s ≡ o → TellsIn [] t
      → Parts (second_up_by role sequenced s o t)
  unfolding second_up_by
  second_up_parts role sequenced s None t is h = parts_none _ (no_call_still [] out_of_state 0 (row_of_none role call_event.IccnAcc).1 t h)
  second_up_parts role sequenced s (Some c) t is h =
      branch Parts (is_up (row_for role c call_event.IccnAcc).0) _ _
      (λ row. parts_none _ (linked_up_still [] role sequenced s c t h))
      (λ none. answers_parts out_of_state s c (row_for role c call_event.IccnAcc).1 t is h)

  end_heard_parts : (role : Role) (s : ℕ) (o : Option Call) (t : Turn) → at calls s ≡ o → TellsIn [] t → Parts (end_heard_by role s o t)
  unfolding end_heard_by
  end_heard_parts role s None t is h = parts_none _ (no_call_still [] out_of_state 0 (row_of_none role call_event.CdnCame).1 t h)
  end_heard_parts role s (Some c) t is h =
      branch Parts (is_clean_up (row_for role c call_event.CdnCame).1) _ _
      (λ row. found_one s c _ is (end_heard_ends [] s (is_up c.state) t h))
      (λ none. parts_none _ (plain_still [] t h))

  plain_none : (t : Turn) → TellsIn [] t → Parts (takes_plain t)
  plain_none t h = parts_none _ (plain_still [] t h)

  about_parts : (role : Role) (session : ℕ) (m : Message) (t : Turn) → TellsIn [] t → Parts (about_call role calls session m t)
  unfolding about_call ends_named
  about_parts role session (Icrq remote serial calling) t h =
      asked_parts role session remote (granted role calls remote t.ids.sessions) (at calls session) t refl h
  about_parts role session (Icrp remote) t h = first_up_parts role session remote (at calls session) t refl h
  about_parts role session (Iccn speed framing sequenced) t h = second_up_parts role sequenced session (at calls session) t refl h
  about_parts role session (Cdn remote code error) t h =
      let s = session_named calls session remote in
      end_heard_parts role s (at calls s) t refl h
  about_parts role session (Ocrq remote) t h = parts_none _ (refuses_still [] (reason cause.Outgoing 5 None) remote t h)
  about_parts role session (StopCcn tunnel code error) t h = plain_none t h
  about_parts role session Hello t h = plain_none t h
  about_parts role session (Sccrq o) t h = plain_none t h
  about_parts role session (Sccrp o) t h = plain_none t h
  about_parts role session (Scccn response) t h = plain_none t h
  about_parts role session Ocrp t h = plain_none t h
  about_parts role session Occn t h = plain_none t h
  about_parts role session Wen t h = plain_none t h
  about_parts role session Sli t h = plain_none t h
  about_parts role session (Fsq sessions) t h = plain_none t h
  about_parts role session (Fsr sessions) t h = plain_none t h

  in_call_parts : (role : Role) (session : ℕ) (m : Message) (t : Turn) → TellsIn [] t → Parts (in_call role calls session m t)
  unfolding in_call
  in_call_parts role session m t h =
      branch Parts (state_number t.control.state == 3) _ _ (λ is. about_parts role session m t h) (λ other. parts_none _ (ignored [] why.Session t h))

  -- ---- faulty letters about a call

  faulty_at_parts : (role : Role) (r : Reason) (s remote : ℕ) (on : CallEvent) (none : CallAction) (o : Option Call) (t : Turn) → at calls s ≡ o
      → TellsIn [] t → Parts (faulty_at role r s remote on none o t)
  unfolding faulty_at
  faulty_at_parts role r s remote on none None t is h = parts_none _ (no_call_still [] r remote none t h)
  faulty_at_parts role r s remote on none (Some c) t is h = answers_parts r s c (row_for role c on).1 t is h

  -- a WEN, an SLI, or a message that is about no call
  closed_parts : (role : Role) (session : ℕ) (c : Cause) (t : Turn) → TellsIn [] t
      → Parts (faulty_at role (fault_reason c) session 0 call_event.Close call_action.Nothing (at calls session) t)
  closed_parts role session c t h = faulty_at_parts role (fault_reason c) session 0 call_event.Close call_action.Nothing (at calls session) t refl h

  faulty_parts : (role : Role) (session : ℕ) (k : Kind) (c : Cause) (said : Option ℕ) (t : Turn) → TellsIn [] t
      → Parts (faulty role calls session k c said t)
  unfolding faulty
  faulty_parts role session kind.Icrq c said t h =
      faulty_at_parts role (fault_reason c) session (unwrap_or said 0) call_event.IcrqNotAcc call_action.SendCdn (at calls session) t refl h
  faulty_parts role session kind.Ocrq c said t h = parts_none _ (refuses_still [] (fault_reason c) (unwrap_or said 0) t h)
  faulty_parts role session kind.Icrp c said t h =
      faulty_at_parts role (fault_reason c) session (unwrap_or said 0) call_event.IcrpNotAcc (row_of_none role call_event.IcrpNotAcc).1 (at calls session) t refl h
  faulty_parts role session kind.Iccn c said t h =
      faulty_at_parts role (fault_reason c) session 0 call_event.IccnNotAcc (row_of_none role call_event.IccnNotAcc).1 (at calls session) t refl h
  faulty_parts role session kind.Cdn c said t h =
      let s = session_named calls session (unwrap_or said 0) in
      faulty_at_parts role (fault_reason c) s 0 call_event.Close (row_of_none role call_event.CdnCame).1 (at calls s) t refl h
  faulty_parts role session kind.Wen c said t h = closed_parts role session c t h
  faulty_parts role session kind.Sli c said t h = closed_parts role session c t h
  faulty_parts role session kind.Sccrq c said t h = closed_parts role session c t h
  faulty_parts role session kind.Sccrp c said t h = closed_parts role session c t h
  faulty_parts role session kind.Scccn c said t h = closed_parts role session c t h
  faulty_parts role session kind.StopCcn c said t h = closed_parts role session c t h
  faulty_parts role session kind.Hello c said t h = closed_parts role session c t h
  faulty_parts role session kind.Ocrp c said t h = closed_parts role session c t h
  faulty_parts role session kind.Occn c said t h = closed_parts role session c t h
  faulty_parts role session kind.Fsq c said t h = closed_parts role session c t h
  faulty_parts role session kind.Fsr c said t h = closed_parts role session c t h

  in_faulty_parts : (role : Role) (session : ℕ) (k : CallFault) (t : Turn) → TellsIn [] t → Parts (in_faulty_call role calls session k t)
  unfolding in_faulty_call
  in_faulty_parts role session k t h =
      branch Parts (state_number t.control.state == 3) _ _
      (λ is. faulty_parts role session k.kind k.cause k.session t h)
      (λ other. parts_none _ (ignored [] why.Session t h))

  -- ---- links

  hears_lcp_parts : (role : Role) (letters : List Letter) (s : ℕ) (frame : List ℕ) (o : Option Call) (t : Turn) → at calls s ≡ o → TellsIn [] t
      → Parts (hears_lcp role letters s frame o t)
  unfolding hears_lcp
  hears_lcp_parts role letters s frame None t is h = parts_none _ (dropped [] why.Call t h)
  hears_lcp_parts role letters s frame (Some c) t is h =
      branch Parts (nat_lt s 65536 && is_up c.state) _ _
      (λ up. found_one s c _ is (hears_link_ends [] s role letters frame c c.link t h))
      (λ down. parts_none _ (dropped [] why.Closed t h))

  module _ (order : Ascends calls) where
    -- ---- tunnels that close

    parts_all : (t : Turn) → TellsIn (ids_of calls) t → Parts t
    parts_all t h = record { gone = ids_of calls; tells = h; once = distinct_ids calls order; had = λ q a. among_there calls q a }

    shuts_tells : (remote : ℕ) (next : TunnelState) (t : Turn) → TellsIn [] t → TellsIn (ids_of calls) (shuts calls remote next t)
    unfolding shuts
    shuts_tells remote next t h = ended_all [] (ids_of calls) _ (record { gone = h.gone; killed = h.killed })

    shut_told_parts : (r : Reason) (remote : ℕ) (next : TunnelState) (t : Turn) → TellsIn [] t → Parts (closes_tunnel r calls remote next t)
    unfolding closes_tunnel closed_told gives with_move
    shut_told_parts r remote next t h =
        branch Parts (has_room t.control) _ _
        (λ may. parts_all _ (let u = shuts_tells remote next (with_output (Refused r.cause) t) (caused [] r.cause t h) in record { gone = u.gone; killed = u.killed }))
        (λ full. parts_none _ (dropped [] why.Queue t h))

    rejects_parts : (r : Reason) (remote : ℕ) (next : TunnelState) (t : Turn) → TellsIn [] t → Parts (rejects r calls remote next t)
    unfolding rejects rejected gives with_move takes_one
    rejects_parts r remote next t h =
        branch Parts (has_room t.control) _ _
        (λ may.
        let told = caused [] r.cause t h in
        parts_all _ (let u = shuts_tells remote next _ (record { gone = told.gone; killed = told.killed }) in record { gone = u.gone; killed = u.killed }))
        (λ full. parts_none _ (dropped [] why.Queue t h))

    shut_heard_parts : (next : TunnelState) (t : Turn) → TellsIn [] t → Parts (closed_by calls next t)
    unfolding closed_by with_move takes_one
    shut_heard_parts next t h =
        parts_all _ (let u = shuts_tells t.control.remote next _ (record { gone = h.gone; killed = h.killed }) in record { gone = u.gone; killed = u.killed })

    pub cleared_parts : (t : Turn) → TellsIn [] t → Parts (clears calls t)
    unfolding clears with_move
    cleared_parts t h =
        parts_all _ (let u = ended_all [] (ids_of calls) _ (record { gone = h.gone; killed = h.killed }) in record { gone = u.gone; killed = u.killed })

    shuts_by_parts : (next : TunnelState) (a : TunnelAction) (t : Turn) → TellsIn [] t → Parts (shuts_by calls (next, a) t)
    unfolding shuts_by
    shuts_by_parts next action.SendStopCcn t h =
        branch Parts (is_current t.on.mode) _ _
        (λ active. shut_told_parts (reason cause.Operator 1 None) t.control.remote next t h)
        (λ inactive. cleared_parts t h)
    shuts_by_parts next action.Nothing t h = parts_none t h
    shuts_by_parts next action.SendSccrq t h = parts_none t h
    shuts_by_parts next action.SendSccrp t h = parts_none t h
    shuts_by_parts next action.SendScccn t h = parts_none t h
    shuts_by_parts next action.CleanUp t h = parts_none t h

    -- ---- letters by the tunnel's table

    takes_by_parts : (role : Role) (c : Config) (r : Reason) (says : Told) (next : TunnelState) (a : TunnelAction) (t : Turn) → TellsIn [] t
        → Parts (takes_by role c calls r says (next, a) t)
    unfolding takes_by
    takes_by_parts role c r says next action.SendScccn t h = parts_none _ (connects_still [] role c calls says next t h)
    takes_by_parts role c r says next action.Nothing t h =
        branch Parts (state_number next == state_number t.control.state) _ _ (λ same. plain_none t h) (λ other. parts_none _ (confirms_still [] next t h))
    takes_by_parts role c r says next action.SendSccrq t h = plain_none t h
    takes_by_parts role c r says next action.SendSccrp t h = plain_none t h
    takes_by_parts role c r says next action.SendStopCcn t h =
        branch Parts (state_number t.control.state == 1) _ _
        (λ one. rejects_parts r says.remote next t h)
        (λ other. plain_parts (closes_tunnel r calls t.control.remote next t) (shut_told_parts r t.control.remote next t h))
    takes_by_parts role c r says next action.CleanUp t h = shut_heard_parts next t h

    takes_parts : (role : Role) (c : Config) (r : Reason) (ev : TunnelEvent) (says : Told) (t : Turn) → TellsIn [] t
        → Parts (takes role c calls r ev says t)
    unfolding takes
    takes_parts role c r ev says t h =
        let row = row_of rows t.control.state ev in
        takes_by_parts role c r says row.0 row.1 t h

    -- ---- questions and answers

    query_parts : (pairs : List Pair) (t : Turn) → TellsIn [] t → Parts (in_query calls pairs t)
    unfolding in_query
    query_parts pairs t h =
        branch Parts (state_number t.control.state == 3) _ _ (λ is. parts_none _ (query_still [] calls pairs t h)) (λ other. plain_none t h)

    -- sessions that are gone end once each
    took_parts : (answers gone : List Pair) (t : Turn) → Rise gone → TellsIn [] t → Parts (hears_answer calls answers gone t)
    unfolding hears_answer took_answer with_move takes_one
    took_parts answers gone t rise h =
        let ss = ended_of calls gone in
        record {
          gone = ss;
          tells = asks_still ss _ (ended_all [] ss _ (record { gone = h.gone; killed = h.killed }));
          once = ended_distinct calls gone rise;
          had = λ s a. let up = ended_up calls gone s a in ap (λ (o : Option Call). is_some o) up.there;
        }

    answer_parts : (role : Role) (c : Config) (answers : List Pair) (r : Result (List Pair) ℕ) (t : Turn)
        → told_at t.control.state t.query answers ≡ r
        → IsQuery t.query → TellsIn [] t → Parts (heeds_answer role c calls answers r t)
    unfolding heeds_answer
    answer_parts role c answers (Ok gone) t is q h = took_parts answers gone t (told_rise t.control.state t.query answers gone q is) h
    answer_parts role c answers (Err place) t is q h = takes_parts role c not_asked event.AdminClose (tells_id 0) t h

    -- ---- control messages

    hears_parts : (role : Role) (c : Config) (session : ℕ) (m : Message) (t : Turn) → IsQuery t.query → TellsIn [] t
        → Parts (hears role c calls session m t)
    unfolding hears
    hears_parts role c session (Sccrq o) t q h =
        takes_parts role c (opening_reason c.secret None o) (event_by event.SccrqAcc event.SccrqNotAcc c.secret None o) (tells_id 0) t h
    hears_parts role c session (Sccrp o) t q h =
        takes_parts role c (opening_reason c.secret t.control.challenge o)
        (event_by event.SccrpAcc event.SccrpNotAcc c.secret t.control.challenge o) (told_by o) t h
    hears_parts role c session (Scccn response) t q h =
        takes_parts role c (connected_reason c.secret t.control.challenge response) (connected_event c.secret t.control.challenge response) (tells_id 0) t h
    hears_parts role c session Hello t q h = plain_none t h
    hears_parts role c session (Cdn remote code error) t q h = in_call_parts role session (Cdn remote code error) t h
    hears_parts role c session (Icrq remote serial calling) t q h = in_call_parts role session (Icrq remote serial calling) t h
    hears_parts role c session (Icrp remote) t q h = in_call_parts role session (Icrp remote) t h
    hears_parts role c session (Iccn speed framing sequenced) t q h = in_call_parts role session (Iccn speed framing sequenced) t h
    hears_parts role c session (Ocrq remote) t q h = in_call_parts role session (Ocrq remote) t h
    hears_parts role c session (StopCcn tunnel code error) t q h = takes_parts role c out_of_order event.StopCcnCame (tells_id 0) t h
    hears_parts role c session Ocrp t q h = plain_none t h
    hears_parts role c session Occn t q h = plain_none t h
    hears_parts role c session Wen t q h = plain_none t h
    hears_parts role c session Sli t q h = plain_none t h
    hears_parts role c session (Fsq sessions) t q h = query_parts sessions t h
    hears_parts role c session (Fsr answers) t q h = answer_parts role c answers (told_at t.control.state t.query answers) t refl q h

    faults_parts : (role : Role) (c : Config) (session : ℕ) (o : Option CallFault) (g : Option TunnelFault) (w : Why) (t : Turn) → TellsIn [] t
        → Parts (hears_faulty role c calls session o g w t)
    unfolding hears_faulty
    faults_parts role c session (Some k) g w t h = in_faulty_parts role session k t h
    faults_parts role c session None (Some g) w t h = takes_parts role c (fault_reason g.cause) g.event (tells_id g.remote) t h
    faults_parts role c session None None w t h = parts_none _ (ignored [] w t h)

    said_parts : (role : Role) (c : Config) (session : ℕ) (o : Option CallFault) (g : Option TunnelFault) (r : Result Message Why)
        (t : Turn) → IsQuery t.query → TellsIn [] t → Parts (hears_said role c calls session o g r t)
    unfolding hears_said
    said_parts role c session o g (Err w) t q h = faults_parts role c session o g w t h
    said_parts role c session o g (Ok m) t q h = hears_parts role c session m t q h

    next_parts : (role : Role) (c : Config) (session : ℕ) (body : List ℕ) (t : Turn) → IsQuery t.query → TellsIn [] t
        → Parts (hears_next role c calls session body t)
    unfolding hears_next
    next_parts role c session body t q h =
        branch Parts (is_closed t.control.state) _ _
        (λ closed. plain_none t h)
        (λ live. said_parts role c session (call_fault_in body) (tunnel_fault_in body) (message_in body) t q h)

    letter_parts : (role : Role) (g : Config) (session : ℕ) (body : List ℕ) (c : Option Class) (t : Turn) → IsQuery t.query → TellsIn [] t
        → Parts (hears_letter role g calls session body c t)
    unfolding hears_letter
    letter_parts role g session body (Some Next) t q h =
        branch Parts (may_take t.control calls) _ _
        (λ may. next_parts role g session body t q h)
        (λ full. parts_none _ (dropped [] why.Queue t h))
    letter_parts role g session body (Some (Ahead by)) t q h = parts_none _ (dropped [] why.Ahead t h)
    letter_parts role g session body (Some Duplicate) t q h = parts_none t h
    letter_parts role g session body None t q h = parts_none t h

    ignores_parts : (t : Turn) → TellsIn [] t → Parts (ignores_all t)
    unfolding ignores_all with_move
    ignores_parts t h = parts_none _ (dropped [] (mode_why t.on.mode) _ (record { gone = h.gone; killed = h.killed }))

    read_asks : (nr : ℕ) (t : Turn) → IsQuery t.query → IsQuery (reads_nr nr t).query
    unfolding reads_nr with_move
    read_asks nr t q = q

    control_parts : (role : Role) (c : Config) (letters : List Letter) (k : Header) (body : List ℕ) (t : Turn) → IsQuery t.query
        → TellsIn [] t
        → Parts (hears_control role c letters calls k body t)
    unfolding hears_control in_tunnel
    control_parts role c letters k body t q h =
        branch Parts (state_number t.control.state == 0) _ _
        (λ idle. parts_none _ (settled [] false letters _ (first_still [] role c (message_in body) t h)))
        (λ busy. branch Parts (not (is_current t.on.mode)) _ _
        (λ inactive. ignores_parts t h)
        (λ active.
        let class = class_told t.control.channel (unwrap_or k.ns 0) (length body == 0) in
        let u = reads_nr (unwrap_or k.nr 0) t in
        settled_parts (is_duplicate class) letters (hears_letter role c calls k.session body class u)
        (letter_parts role c k.session body class u (read_asks (unwrap_or k.nr 0) t q) (read_still [] (unwrap_or k.nr 0) t h))))

    datagram_parts : (role : Role) (c : Config) (letters : List Letter) (bytes : List ℕ) (r : Result Header HeaderError) (t : Turn)
        → IsQuery t.query → TellsIn [] t
        → Parts (hears_datagram role c letters calls bytes r t)
    unfolding hears_datagram
    datagram_parts role c letters bytes (Err x) t q h = parts_none _ (dropped [] (header_why x) t h)
    datagram_parts role c letters bytes (Ok k) t q h =
        branch Parts k.control _ _
        (λ control. control_parts role c letters k (body_of bytes k) t q h)
        (λ data_is. parts_none _ (dropped [] why.Session t h))

    -- ---- time

    -- so far, where none of these calls is told
    record Before (ss : List ℕ) (t : Turn) : Type 0 where
      so : Parts t
      apart : (q : ℕ) → Among q so.gone → Among q ss → ⊥

    limits_before : (role : Role) (letters : List Letter) (s : ℕ) (ss : List ℕ) (o : Option Call) (t : Turn) → at calls s ≡ o → AreDistinct (s ∷ ss)
        → Before (s ∷ ss) t → Before ss (limits_at role letters s o t)
    unfolding limits_at
    limits_before role letters s ss None t is one h = record { so = h.so; apart = λ q a b. h.apart q a (inr b) }
    limits_before role letters s ss (Some c) t is one h = ⊎_elim
        (λ a. record {
          so = record { gone = h.so.gone; tells = a; once = h.so.once; had = h.so.had };
          apart = λ q x y. h.apart q x (inr y);
        })
        (λ a. record {
          so = record {
            gone = h.so.gone ++ s ∷ [];
            tells = a;
            once = distinct_append h.so.gone (s ∷ []) h.so.once ((λ x. x), tt) (λ q x y. ⊎_elim (λ same. h.apart q x (inl same)) (λ none. none) y);
            had = λ q x. ⊎_elim
                (λ l. h.so.had q l)
                (λ y. ⊎_elim (λ (same : s ≡ q). subst (λ j. is_some (at calls j) ≡ true) same (ap (λ (o : Option Call). is_some o) is)) (λ none. absurd none) y)
                (among_either q h.so.gone (s ∷ []) x);
          };
          apart = λ q x y. ⊎_elim
              (λ l. h.apart q l (inr y))
              (λ z. ⊎_elim (λ (same : s ≡ q). one.0 (subst (λ j. Among j ss) (sym same) y)) (λ none. none) z)
              (among_either q h.so.gone (s ∷ []) x);
        })
        (limits_ends h.so.gone s role letters c t h.so.tells)

    limits_all_parts : (role : Role) (letters : List Letter) (ss : List ℕ) (t : Turn) → AreDistinct ss → Before ss t → Parts (limits_all role letters ss calls t)
    unfolding limits_all
    limits_all_parts role letters [] t one h = h.so
    limits_all_parts role letters (s ∷ ss) t one h =
        limits_all_parts role letters ss (limits_at role letters s (at calls s) t) one.1 (limits_before role letters s ss (at calls s) t refl one h)

    quietly_parts : (role : Role) (letters : List Letter) (t : Turn) → TellsIn [] t → Parts (goes_quietly role letters calls t)
    unfolding goes_quietly parts_none
    quietly_parts role letters t h =
        limits_all_parts role letters (ids_of calls) (greets letters t) (distinct_ids calls order)
        (record { so = parts_none _ (greets_still [] letters t h); apart = λ q a b. a })

    ticks_by_parts : (role : Role) (letters : List Letter) (a : Due) (t : Turn) → TellsIn [] t → Parts (ticks_by role letters calls a t)
    unfolding ticks_by
    ticks_by_parts role letters tick.Quiet t h = quietly_parts role letters t h
    ticks_by_parts role letters (tick.Again number) t h = quietly_parts role letters (repeats letters number t) (repeated_still [] letters number t h)
    ticks_by_parts role letters (tick.Failed first) t h = cleared_parts t h

    ticks_parts : (role : Role) (letters : List Letter) (t : Turn) → TellsIn [] t → Parts (ticks role letters calls t)
    unfolding ticks
    ticks_parts role letters t h =
        branch Parts (is_at_its_end t.on.moment t.control) _ _
        (λ due. cleared_parts t h)
        (λ no. ticks_by_parts role letters (answer_to_tick t.control.channel t.on.moment) t h)

    -- ---- events

    pub turns_parts : (role : Role) (c : Config) (letters : List Letter) (ev : Event) (t : Turn) → IsQuery t.query → TellsIn [] t
        → Parts (turns role c letters calls ev t)
    unfolding turns
    turns_parts role c letters (Datagram peer bytes) t q h = datagram_parts role c letters bytes (header_of bytes) t q h
    turns_parts role c letters (Ring port) t q h = parts_none _
        (settled [] false letters _ (rings_still [] role c calls (subscriber port) t h))
    turns_parts role c letters (Admitted mac) t q h = parts_none _ (settled [] false letters _ (rings_still [] role c calls mac t h))
    turns_parts role c letters (Frame bytes) t q h = parts_none _ (dropped [] why.Node t h)
    turns_parts role c letters (Payload s frame) t q h = parts_none _ (carries_still [] s frame (at calls s) t h)
    turns_parts role c letters (Lower s frame) t q h = parts_none _ (carries_still [] s frame (at calls s) t h)
    turns_parts role c letters (Lcp s packet) t q h = hears_lcp_parts role letters s packet (at calls s) t refl h
    turns_parts role c letters (Hang s) t q h =
        settled_parts false letters _ (closes_parts role cause.Line call_event.LineDrop 1 s (at calls s) t refl h)
    turns_parts role c letters (DropCall s) t q h =
        settled_parts false letters _ (closes_parts role cause.Operator call_event.Close 3 s (at calls s) t refl h)
    turns_parts role c letters (CloseTunnel i) t q h =
        let row = row_of rows t.control.state event.AdminClose in
        settled_parts false letters _ (shuts_by_parts row.0 row.1 t h)
    turns_parts role c letters OpenTunnel t q h = parts_none _ (settled [] false letters _ (opens_still [] role c t h))
    turns_parts role c letters Tick t q h = ticks_parts role letters t h
