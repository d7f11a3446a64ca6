-- Control messages.
use Rattle.std.specs.Prelude.{ℕ, List, Bool, true, false, not, ◌==◌, length, if◌then◌else◌, Option, Some, None, unwrap_or, Result, Ok, Err}
use Rattle.id_table.specs.Ids.{at, ids_of}
use Rattle.wire_base.specs.declared.why.Why.{Why}
use Rattle.wire_base.specs.declared.why.Why.TheVariants as why
use Rattle.wire_base.specs.declared.cause.Cause.TheVariants as cause
use Rattle.wire_base.specs.declared.letter.Letter.{Letter}
use Rattle.wire_base.specs.declared.pair.Pair.{Pair}
use Rattle.l2tp_header.specs.declared.header.Header.{Header}
use Rattle.l2tp_header.specs.declared.header.HeaderError.{HeaderError}
use Rattle.control_message.specs.declared.message.Message.{Message}
use Rattle.control_message.specs.declared.message.Message.TheVariants.{Sccrq, Sccrp, Scccn, StopCcn, Hello, Ocrq, Ocrp, Occn, Icrq, Icrp, Iccn, Cdn, Wen, Sli, Fsq, Fsr}
use Rattle.recv_window.specs.declared.Class.{Class}
use Rattle.recv_window.specs.declared.Class.TheVariants.{Next, Duplicate, Ahead}
use Rattle.control_channel.specs.Numbers.{class_told}
use Rattle.tunnel_fsm.specs.declared.table.TunnelState.{TunnelState}
use Rattle.tunnel_fsm.specs.declared.table.TunnelEvent.{TunnelEvent}
use Rattle.tunnel_fsm.specs.declared.table.TunnelEvent.TheVariants as event
use Rattle.tunnel_fsm.specs.declared.table.TunnelAction.{TunnelAction}
use Rattle.tunnel_fsm.specs.declared.table.TunnelAction.TheVariants as action
use Rattle.tunnel_fsm.specs.Rows.{rows, row_of, state_number}
use Rattle.end_model.specs.declared.tunnel.Call.{Call}
use Rattle.end_model.specs.declared.tunnel.Config.{Config}
use Rattle.end_names.specs.declared.role.Role.{Role}
use Rattle.end_model.specs.declared.moves.Move.TheVariants as move
use Rattle.end_model.specs.declared.tunnel.Mode.{Mode}
use Rattle.end_model.specs.declared.tunnel.Mode.TheVariants.{Restored}
use Rattle.end_model.specs.Tunnels.{Turn, is_current}
use Rattle.end_model.specs.Channels.{has_room, may_take}
use Rattle.end_model.specs.Messages.{Told, tells_id, told_by, event_by, opening_reason, connected_event, connected_reason}
use Rattle.end_model.specs.Moments.{is_closed, is_idle, is_open, is_waiting_reply}
use Rattle.end_model.specs.Reasons.{Reason, reason, out_of_order, not_asked, fault_reason}
use Rattle.session_looks.specs.Frames.{header_why}
use Rattle.l2tp_header.specs.Reading.{body_of}
use Rattle.end_model.specs.Reading.{message_in, CallFault, call_fault_in, TunnelFault, tunnel_fault_in}
use Rattle.end_model.specs.Turn.{with_move, drops}
use Rattle.end_model.specs.Sending.{reads_nr, settles, takes_plain, ignores}
use Rattle.end_model.specs.Openings.{accepts, connected, confirms}
use Rattle.end_model.specs.Ringing.{requests_all}
use Rattle.end_model.specs.Stopping.{closes_tunnel, rejects, closed_by}
use Rattle.end_model.specs.Refusing.{refuses}
use Rattle.end_model.specs.Asking.{session_named, granted, asked_by}
use Rattle.end_model.specs.Connecting.{first_up_by, second_up_by, ends_named}
use Rattle.end_model.specs.Querying.{answers_query, told_at, hears_answer}
use Rattle.end_model.specs.Faulty.{in_faulty_call}
use Rattle.end_model.specs.Codes.{facilities_never}

-- then each call that waits for it is asked for
unfoldable pub connects : Role → Config → List (ℕ × Call) → Told → TunnelState → Turn → Turn
connects role c calls told next t =
    if has_room t.control then requests_all role c (ids_of calls) calls (connected c told next t) else drops why.Queue t

-- by the table's row. A letter that closes a tunnel of which the peer's id is known is one that the closed tunnel takes
unfoldable pub takes_by : Role → Config → List (ℕ × Call) → Reason → Told → TunnelState × TunnelAction → Turn → Turn
takes_by role c calls r told (next, action.SendScccn) t = connects role c calls told next t
takes_by role c calls r told (next, action.SendStopCcn) t =
    if is_waiting_reply t.control.state then rejects r calls told.remote next t else takes_plain (closes_tunnel r calls t.control.remote next t)
takes_by role c calls r told (next, action.CleanUp) t = closed_by calls next t
takes_by role c calls r told (next, action.Nothing) t =
    if state_number next == state_number t.control.state then takes_plain t else confirms next t
takes_by role c calls r told (next, a) t = takes_plain t

-- of a letter that tells this of the peer, and why the tunnel is closed where the row says so
unfoldable pub takes : Role → Config → List (ℕ × Call) → Reason → TunnelEvent → Told → Turn → Turn
takes role c calls r e told t = takes_by role c calls r told (row_of rows t.control.state e) t

unfoldable pub about_call : Role → List (ℕ × Call) → ℕ → Message → Turn → Turn
about_call role calls session (Icrq remote serial calling) t =
    asked_by role session remote (granted role calls remote t.ids.sessions) (at calls session) t
about_call role calls session (Icrp remote) t = first_up_by role session remote (at calls session) t
about_call role calls session (Iccn speed framing sequenced) t = second_up_by role sequenced session (at calls session) t
about_call role calls session (Cdn remote code error) t = ends_named role calls (session_named calls session remote) t
about_call role calls session (Ocrq remote) t = refuses (reason cause.Outgoing facilities_never None) remote t
about_call role calls session m t = takes_plain t

-- only an open tunnel carries calls
unfoldable pub in_call : Role → List (ℕ × Call) → ℕ → Message → Turn → Turn
in_call role calls session m t = if is_open t.control.state then about_call role calls session m t else ignores why.Session t

-- only an open tunnel has sessions
unfoldable pub in_query : List (ℕ × Call) → List Pair → Turn → Turn
in_query calls sessions t = if is_open t.control.state then answers_query calls sessions t else takes_plain t

-- an answer that wasn't asked for closes the tunnel, whatever its state
unfoldable pub heeds_answer : Role → Config → List (ℕ × Call) → List Pair → Result (List Pair) ℕ → Turn → Turn
heeds_answer role c calls answers (Ok gone) t = hears_answer calls answers gone t
heeds_answer role c calls answers (Err place) t = takes role c calls not_asked event.AdminClose (tells_id 0) t

unfoldable pub hears : Role → Config → List (ℕ × Call) → ℕ → Message → Turn → Turn
hears role c calls session (Sccrq o) t =
    takes role c calls (opening_reason c.secret None o) (event_by event.SccrqAcc event.SccrqNotAcc c.secret None o) (tells_id 0) t
hears role c calls session (Sccrp o) t =
    takes role c calls (opening_reason c.secret t.control.challenge o)
    (event_by event.SccrpAcc event.SccrpNotAcc c.secret t.control.challenge o) (told_by o) t
hears role c calls session (Scccn response) t =
    takes role c calls (connected_reason c.secret t.control.challenge response) (connected_event c.secret t.control.challenge response) (tells_id 0) t
hears role c calls session (StopCcn tunnel code error) t = takes role c calls out_of_order event.StopCcnCame (tells_id 0) t
hears role c calls session Hello t = takes_plain t
hears role c calls session (Icrq remote serial calling) t = in_call role calls session (Icrq remote serial calling) t
hears role c calls session (Icrp remote) t = in_call role calls session (Icrp remote) t
hears role c calls session (Iccn speed framing sequenced) t = in_call role calls session (Iccn speed framing sequenced) t
hears role c calls session (Cdn remote code error) t = in_call role calls session (Cdn remote code error) t
hears role c calls session (Ocrq remote) t = in_call role calls session (Ocrq remote) t
hears role c calls session Ocrp t = takes_plain t
hears role c calls session Occn t = takes_plain t
hears role c calls session Wen t = takes_plain t
hears role c calls session Sli t = takes_plain t
hears role c calls session (Fsq sessions) t = in_query calls sessions t
hears role c calls session (Fsr answers) t = heeds_answer role c calls answers (told_at t.control.state t.query answers) t

-- a letter that has a fault is one about a call, or is an event of the tunnel's table; one of an unknown type that need not be
-- understood has none
unfoldable pub hears_faulty : Role → Config → List (ℕ × Call) → ℕ → Option CallFault → Option TunnelFault → Why → Turn → Turn
hears_faulty role c calls session (Some f) g w t = in_faulty_call role calls session f t
hears_faulty role c calls session None (Some g) w t = takes role c calls (fault_reason g.cause) g.event (tells_id g.remote) t
hears_faulty role c calls session None None w t = ignores w t

unfoldable pub hears_said : Role → Config → List (ℕ × Call) → ℕ → Option CallFault → Option TunnelFault → Result Message Why → Turn → Turn
hears_said role c calls session f g (Err w) t = hears_faulty role c calls session f g w t
hears_said role c calls session f g (Ok m) t = hears role c calls session m t

-- a closed tunnel takes what comes, and does nothing
unfoldable pub hears_next : Role → Config → List (ℕ × Call) → ℕ → List ℕ → Turn → Turn
hears_next role c calls session body t =
    if is_closed t.control.state then takes_plain t
    else hears_said role c calls session (call_fault_in body) (tunnel_fault_in body) (message_in body) t

-- the next letter is taken; one that is ahead of it isn't, nor one that came before
unfoldable pub hears_letter : Role → Config → List (ℕ × Call) → ℕ → List ℕ → Option Class → Turn → Turn
hears_letter role c calls session body (Some Next) t =
    if may_take t.control calls then hears_next role c calls session body t else drops why.Queue t
hears_letter role c calls session body (Some (Ahead by)) t = drops why.Ahead t
hears_letter role c calls session body (Some Duplicate) t = t
hears_letter role c calls session body None t = t

abbrev pub is_duplicate : Option Class → Bool
is_duplicate (Some Duplicate) = true
is_duplicate c = false

-- a message of the class that its Ns has; what came before is acknowledged again
unfoldable pub in_tunnel : Role → Config → List Letter → List (ℕ × Call) → ℕ → List ℕ → Option Class → Turn → Turn
in_tunnel role c letters calls session body class t = settles (is_duplicate class) letters (hears_letter role c calls session body class t)

-- a tunnel that is new is made by an SCCRQ
unfoldable pub first_said : Role → Config → Result Message Why → Turn → Turn
first_said role c (Ok (Sccrq o)) t = accepts role c (told_by o) t
first_said role c r t = drops why.Tunnel t

-- how a mode in which nothing is taken is told
abbrev pub mode_why : Mode → Why
mode_why Restored = why.Restored
mode_why m = why.Frozen

-- a tunnel that is frozen or restored hears that its peer is there, and looks at no message
unfoldable pub ignores_all : Turn → Turn
ignores_all t =
    drops (mode_why t.on.mode)
    (with_move (move.Ignored t.control.local) (record t { control = record t.control { heard = t.on.moment } }))

-- a control message that is for the tunnel: Nr is read first; an acknowledgement alone has no body
unfoldable pub hears_control : Role → Config → List Letter → List (ℕ × Call) → Header → List ℕ → Turn → Turn
hears_control role c letters calls h body t =
    if is_idle t.control.state then settles false letters (first_said role c (message_in body) t)
    else if not (is_current t.on.mode) then ignores_all t
    else in_tunnel role c letters calls h.session body (class_told t.control.channel (unwrap_or h.ns 0) (length body == 0)) (reads_nr (unwrap_or h.nr 0) t)

unfoldable pub hears_datagram : Role → Config → List Letter → List (ℕ × Call) → List ℕ → Result Header HeaderError → Turn → Turn
hears_datagram role c letters calls bytes (Err x) t = drops (header_why x) t
hears_datagram role c letters calls bytes (Ok h) t =
    if h.control then hears_control role c letters calls h (body_of bytes h) t else drops why.Session t
