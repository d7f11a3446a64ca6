-- An end's step.
use Rattle.std.specs.Prelude.{ℕ, ◌+◌, List, [], ◌∷◌, ◌++◌, find, length, Bool, true, false, not, ◌&&◌, ◌==◌, nat_le, nat_lt, if◌then◌else◌, Option, Some, None, is_some, unwrap_or, option_map, Result, Ok, Err}
use Rattle.std.specs.List.{flat_map}
use Rattle.id_table.specs.Ids.{at, put, without, ids_of}
use Rattle.id_source.specs.Spaces.{Space, new_space, takes_id}
use Rattle.id_source.specs.declared.IdError.{IdError}
use Rattle.wire_base.specs.declared.letter.Letter.{Letter}
use Rattle.wire_base.specs.declared.why.Why.TheVariants as why
use Rattle.wire_base.specs.declared.letter.Side.{Side}
use Rattle.wire_base.specs.declared.letter.Side.TheVariants as side
use Rattle.wire_base.specs.declared.cause.Cause.TheVariants as cause
use Rattle.l2tp_header.specs.declared.header.Header.{Header}
use Rattle.l2tp_header.specs.declared.header.HeaderError.{HeaderError}
use Rattle.l2tp_header.specs.Reading.{header_of, body_of}
use Rattle.tunnel_fsm.specs.declared.table.TunnelState.{TunnelState}
use Rattle.tunnel_fsm.specs.declared.table.TunnelState.TheVariants.{WaitCtlReply, Established}
use Rattle.tunnel_fsm.specs.Rows.{state_number}
use Rattle.end_model.specs.declared.tunnel.Call.{Call}
use Rattle.end_model.specs.declared.tunnel.CallPlace.{CallPlace}
use Rattle.session_looks.specs.declared.look.Look.{Look}
use Rattle.session_looks.specs.declared.look.Look.TheVariants as look
use Rattle.session_looks.specs.declared.look.CellChange.{CellChange}
use Rattle.session_looks.specs.declared.look.CellChange.TheVariants as cell
use Rattle.end_model.specs.declared.tunnel.Config.{Config}
use Rattle.end_model.specs.declared.tunnel.Control.{Control}
use Rattle.end_names.specs.declared.role.Role.{Role}
use Rattle.end_names.specs.declared.role.Role.TheVariants.{Lac, Lns}
use Rattle.end_model.specs.declared.event.Event.{Event}
use Rattle.end_model.specs.declared.event.Event.TheVariants.{Datagram, Ring, Frame, Admitted, Payload, Lower, Lcp, Hang, OpenTunnel, DropCall, CloseTunnel, Tick}
use Rattle.end_model.specs.declared.out.Out.{Out}
use Rattle.end_model.specs.declared.out.Out.TheVariants.{Send, Up, Drop, Cause}
use Rattle.end_model.specs.declared.moves.Move.{Move}
use Rattle.end_model.specs.declared.moves.Move.TheVariants as move
use Rattle.session_looks.specs.Frames.{Carried, Upward, Dropped, carry_look, frame_of, header_why}
use Rattle.end_model.specs.Calls.{is_lac}
use Rattle.end_model.specs.declared.event.Addressee.{Addressee}
use Rattle.end_model.specs.declared.event.Addressee.TheVariants.{Opens, Stops, Answers, Main, Recovery, Recovers, Nobody}
use Rattle.end_model.specs.Reading.{message_in, TunnelFault, tunnel_fault_in, at_zero, at_tunnel}
use Rattle.end_model.specs.Secrets.{lacks_secret, uncovered_datagram, uncovered_event}
use Rattle.end_model.specs.declared.tunnel.Mode.{Mode}
use Rattle.end_model.specs.declared.tunnel.Mode.TheVariants.{Current, Restored}
use Rattle.end_model.specs.Tunnels.{Tunnel, Drawing, Env, Turn, turn_of, turn_in, Recovering, ByAttempt, ByAnswer, connection_of, mode_of, is_current}
use Rattle.end_model.specs.Recovering.{RecoveryTurn, recovering_turns, hears_recovery, froze, asked_in}
use Rattle.control_message.specs.declared.message.Recovery.{Recovery as Named}
use Rattle.end_model.specs.Reasons.{Reason, out_of_order, other_version, no_recovery, no_secret, fault_reason, no_tunnel, no_id}
use Rattle.end_model.specs.Events.{tunnel_after, turns}
use Rattle.end_model.specs.Openings.{fresh}
use Rattle.end_model.specs.Moments.{is_closed, is_open}
use Rattle.end_model.specs.declared.out.Origin.{Origin}
use Rattle.end_model.specs.declared.out.Origin.TheVariants as origin
use Rattle.l2tp_header.specs.Spelling.{control_bytes}
use Rattle.avp_codec.specs.Spelling.{spelling}
use Rattle.recv_window.specs.Window.{on_wire}
use Rattle.control_message.specs.declared.message.Message.{Message}
use Rattle.control_message.specs.declared.message.Message.TheVariants.{Sccrq, StopCcn}
use Rattle.control_message.specs.declared.message.Opening.{Opening}
use Rattle.control_message.specs.Pairs.{pairs_of}
use Rattle.wire_base.specs.declared.why.Why.{Why}

-- what an end is told: its number and address, the address of its LNS, its secret, and whether calling numbers are hidden by that
abbrev pub new_config : ℕ → ℕ → ℕ → Option (List ℕ) → Bool → Config
new_config number address lns secret hide = record { number = number; address = address; lns = lns; secret = secret; hide = hide }

pub record End : Type 0 where
  pub role : Role
  pub config : Config
  -- where tunnel ids, session ids and the numbers of recoveries are drawn from
  pub tunnel_ids : Space
  pub session_ids : Space
  pub recovery_ids : Space
  -- the tunnels, by local id
  pub tunnels : List (ℕ × Tunnel)
  -- where each live call is and what the data plane sees of it, by session id
  pub calls : List (ℕ × CallPlace)

abbrev pub new_end : Role → Config → End
new_end role c = record {
  role = role;
  config = c;
  tunnel_ids = new_space 65535;
  session_ids = new_space 65534;
  recovery_ids = new_space 4294967295;
  tunnels = [];
  calls = [];
}

-- the next end, and what the step gave
pub record Stepped : Type 0 where
  pub end : End
  pub outputs : List Out
  pub moves : List Move

-- where it takes_id from
abbrev pub drawing_of : End → Drawing
drawing_of e = record { tunnels = e.tunnel_ids; sessions = e.session_ids; recoveries = e.recovery_ids }

abbrev pub env_of : End → ℕ → List ℕ → Env
env_of e moment block = record {
  on = record { moment = moment; block = block; mode = Current };
  ids = drawing_of e;
  outputs = [];
  changes = [];
  moves = [];
}

-- the step gives one output and changes nothing
unfoldable pub gives_only : End → Out → Stepped
gives_only e o = record { end = e; outputs = o ∷ []; moves = [] }

-- ---- looks

-- a call that is new has its tunnel, and no look yet
abbrev pub new_place : ℕ → CallPlace
new_place i = record { tunnel = i; look = look.Unborn }

unfoldable pub placed : ℕ → List ℕ → List (ℕ × CallPlace) → List (ℕ × CallPlace)
placed i [] places = places
placed i (s ∷ ss) places = placed i ss (put places s (new_place i))

abbrev pub established : Look → Look
established (look.Bound tunnel peer) = look.Established tunnel peer
established l = l

-- the look of a call that has its place
abbrev pub looked : Look → ℕ → Option CallPlace → List (ℕ × CallPlace) → List (ℕ × CallPlace)
looked l s None places = places
looked l s (Some p) places = put places s (record p { look = l })

-- what is bound is established
abbrev pub established_look : Option CallPlace → Look
established_look None = look.Unborn
established_look (Some p) = established p.look

unfoldable pub with_look : CellChange → List (ℕ × CallPlace) → List (ℕ × CallPlace)
with_look (cell.Bind s tunnel peer) places = looked (look.Bound tunnel peer) s (at places s) places
with_look (cell.Establish s) places = looked (established_look (at places s)) s (at places s) places
with_look (cell.Kill s) places = without places s

unfoldable pub with_looks : List CellChange → List (ℕ × CallPlace) → List (ℕ × CallPlace)
with_looks [] places = places
with_looks (c ∷ cs) places = with_looks cs (with_look c places)

-- ---- turns of tunnels

-- the tunnels with the one that a turn leaves, or without it
abbrev pub tunnels_after : List (ℕ × Tunnel) → ℕ → Bool → Tunnel → List (ℕ × Tunnel)
tunnels_after tunnels i true t = without tunnels i
tunnels_after tunnels i false t = put tunnels i t

-- a turn of the tunnel with this id, whose letters and calls were these, and which then has this recovery tunnel
unfoldable pub after_turn : End → ℕ → List Letter → List (ℕ × Call) → Option Recovering → Turn → Stepped
after_turn e i letters calls recovery t = record {
  end = record e {
    tunnel_ids = t.ids.tunnels;
    session_ids = t.ids.sessions;
    recovery_ids = t.ids.recoveries;
    tunnels = tunnels_after e.tunnels i t.cleared (tunnel_after t letters calls recovery);
    calls = with_looks t.changes (placed t.control.local t.added e.calls);
  };
  outputs = t.outputs;
  moves = t.moves;
}

-- a turn of a tunnel that is new: where it drew no id, it isn't kept
unfoldable pub after_new : End → Turn → Stepped
after_new e t =
    if t.control.local == 0 then record { end = e; outputs = t.outputs; moves = t.moves }
    else after_turn e t.control.local [] [] None t

-- an event for a tunnel that is to be made to this peer
unfoldable pub in_new : End → Env → Event → ℕ → Stepped
in_new e env ev peer = after_new e (turns e.role e.config [] [] ev (turn_of (fresh peer env.on.moment) env))

-- an end has 1,024 live tunnels at most
abbrev pub has_all_tunnels : List (ℕ × Tunnel) → Bool
has_all_tunnels tunnels = nat_le 1024 (length tunnels)

-- where there may be one more; else the event is refused so
unfoldable pub in_one_more : End → Env → Event → ℕ → Out → Stepped
in_one_more e env ev peer refusal = if has_all_tunnels e.tunnels then gives_only e refusal else in_new e env ev peer

-- a turn of a tunnel with its recovery tunnel
abbrev pub after_both : End → ℕ → Tunnel → RecoveryTurn → Stepped
after_both e i t r = after_turn e i t.letters t.calls r.recovery r.turn

-- an event for the tunnel with this id
unfoldable pub in_main : End → Env → Event → ℕ → Option Tunnel → Stepped
in_main e env ev i None = gives_only e (Drop why.Tunnel)
in_main e env ev i (Some t) = after_both e i t (recovering_turns e.role e.config t ev (turn_in t env))

-- ---- time

-- a tunnel with its turn
pub record Turned : Type 0 where
  pub id : ℕ
  pub tunnel : Tunnel
  pub turn : RecoveryTurn

-- each tunnel by itself
abbrev pub tick_of : End → Env → ℕ → Option Tunnel → List Turned
tick_of e env i None = []
tick_of e env i (Some t) = record { id = i; tunnel = t; turn = recovering_turns e.role e.config t Tick (turn_in t env) } ∷ []

unfoldable pub ticks_of : End → Env → List ℕ → List Turned
ticks_of e env [] = []
ticks_of e env (i ∷ is) = tick_of e env i (at e.tunnels i) ++ ticks_of e env is

unfoldable pub end_after_all : List Turned → End → End
end_after_all [] e = e
end_after_all (t ∷ ts) e = end_after_all ts (after_both e t.id t.tunnel t.turn).end

unfoldable pub after_all : List Turned → End → Stepped
after_all ts e = record { end = end_after_all ts e; outputs = flat_map (λ t. t.turn.turn.outputs) ts; moves = flat_map (λ t. t.turn.turn.moves) ts }

-- by local ids
unfoldable pub ticks_all : End → Env → Stepped
ticks_all e env = after_all (ticks_of e env (ids_of e.tunnels)) e

-- ---- which tunnel an event is for

-- a tunnel to a peer that has assigned this id
abbrev pub is_known : ℕ → ℕ → Option Tunnel → Bool
is_known peer remote None = false
is_known peer remote (Some t) = t.control.peer == peer && t.control.remote == remote

unfoldable pub known_as : ℕ → ℕ → List (ℕ × Tunnel) → Option ℕ
known_as peer remote tunnels = find (λ i. is_known peer remote (at tunnels i)) (ids_of tunnels)

-- an SCCRQ that comes again is for the tunnel that it opened
abbrev pub opened_before : ℕ → Option ℕ → Addressee
opened_before remote None = Opens remote
opened_before remote (Some i) = Main i

-- ---- recovery tunnels

abbrev pub is_line : ℕ → Option Recovering → Bool
is_line id None = false
is_line id (Some r) = (connection_of r).local == id

abbrev pub has_line : ℕ → Option Tunnel → Bool
has_line id None = false
has_line id (Some t) = is_line id t.recovery

-- the tunnel whose recovery tunnel has this id
unfoldable pub recovered_by : ℕ → List (ℕ × Tunnel) → Option ℕ
recovered_by id tunnels = find (λ i. has_line id (at tunnels i)) (ids_of tunnels)

-- an answer to the peer's attempt with this id
abbrev pub answers_to : ℕ → Option Recovering → Bool
answers_to remote None = false
answers_to remote (Some (ByAttempt c)) = false
answers_to remote (Some (ByAnswer a)) = a.connection.remote == remote

abbrev pub is_answered : ℕ → ℕ → Option Tunnel → Bool
is_answered peer remote None = false
is_answered peer remote (Some t) = t.control.peer == peer && answers_to remote t.recovery

-- the tunnel with the answer to the attempt of a peer with this id
unfoldable pub answered_to : ℕ → ℕ → List (ℕ × Tunnel) → Option ℕ
answered_to peer remote tunnels = find (λ i. is_answered peer remote (at tunnels i)) (ids_of tunnels)

-- an SCCRQ that asks for a recovery and comes again is for the answer to it
abbrev pub answered_before : ℕ → Option ℕ → Addressee
answered_before remote None = Recovers remote
answered_before remote (Some i) = Recovery i

-- a StopCCN that names no tunnel is for the one whose peer assigned the id that it tells, or for the answer to the attempt with that id
abbrev pub stopped_at : Option ℕ → Option ℕ → Addressee
stopped_at (Some i) answer = Main i
stopped_at None (Some i) = Recovery i
stopped_at None None = Nobody why.Tunnel

unfoldable pub opens_once : End → ℕ → Addressee → Addressee
opens_once e peer (Opens remote) = opened_before remote (known_as peer remote e.tunnels)
opens_once e peer (Recovers remote) = answered_before remote (answered_to peer remote e.tunnels)
opens_once e peer (Stops remote) = stopped_at (known_as peer remote e.tunnels) (answered_to peer remote e.tunnels)
opens_once e peer a = a

-- the recovery tunnel of a tunnel to the peer
abbrev pub at_line : ℕ → ℕ → Option Tunnel → Addressee
at_line peer i None = Nobody why.Tunnel
at_line peer i (Some t) = if t.control.peer == peer then Recovery i else Nobody why.Peer

abbrev pub at_recovery : End → ℕ → Option ℕ → Addressee
at_recovery e peer None = Nobody why.Tunnel
at_recovery e peer (Some i) = at_line peer i (at e.tunnels i)

-- what a control message is for
unfoldable pub addressed : End → ℕ → Header → List ℕ → Addressee
addressed e peer h body =
    if h.tunnel == 0 then opens_once e peer (at_zero body)
    else if is_some (at e.tunnels h.tunnel) then at_tunnel peer h.tunnel (option_map (λ t. t.control.peer) (at e.tunnels h.tunnel))
    else at_recovery e peer (recovered_by h.tunnel e.tunnels)

-- the tunnel that a datagram of a control message is for, where there is one
unfoldable pub main_of : End → Addressee → Option Control
main_of e (Main i) = option_map (λ t. t.control) (at e.tunnels i)
main_of e a = None

unfoldable pub reached_by : End → ℕ → List ℕ → Result Header HeaderError → Option Control
reached_by e peer bytes (Err x) = None
reached_by e peer bytes (Ok h) = if h.control then main_of e (addressed e peer h (body_of bytes h)) else None

unfoldable pub reached_plain : End → ℕ → List ℕ → Option Control
reached_plain e peer bytes = reached_by e peer bytes (header_of bytes)

-- as the end reads it
abbrev pub reached : End → ℕ → List ℕ → Option Control
reached e peer bytes = reached_plain e peer (uncovered_datagram e.config.secret bytes)

-- ---- openings that are declined

-- what stands against an SCCRQ that would open a tunnel, the first that counts: its version, as many tunnels as there may
-- be, a challenge to an end that has no secret, or no id that is left
abbrev pub lacks_id : Result ℕ IdError → Option Reason
lacks_id (Ok i) = None
lacks_id (Err x) = Some no_id

unfoldable pub against_opening : End → Opening → Option Reason
against_opening e o =
    if not (o.version == 256) then Some other_version
    else if has_all_tunnels e.tunnels then Some no_tunnel
    else if lacks_secret e.config.secret o.challenge then Some no_secret
    else lacks_id (takes_id e.tunnel_ids)

-- or its fault
abbrev pub against_faulty : Option TunnelFault → Option Reason
against_faulty None = None
against_faulty (Some g) = Some (fault_reason g.cause)

abbrev pub against_said : End → Option TunnelFault → Result Message Why → Option Reason
against_said e g (Ok (Sccrq o)) = against_opening e o
against_said e g (Ok m) = None
against_said e g (Err w) = against_faulty g

unfoldable pub against_body : End → List ℕ → Option Reason
against_body e body = against_said e (tunnel_fault_in body) (message_in body)

-- the number that the peer is to send next, by the message that it sent
abbrev pub next_of_peer : Header → ℕ
next_of_peer h = on_wire (unwrap_or h.ns 0 + 1)

-- a StopCCN of no tunnel of this end's: its Ns is 0, its Nr counts the message that it answers, and it is sent once
abbrev pub decline_bytes : ℕ → ℕ → Reason → List ℕ
decline_bytes remote nr r = control_bytes remote 0 0 nr (spelling (pairs_of (StopCcn 0 r.result r.error)))

abbrev pub decline_origin : ℕ → Origin
decline_origin nr = origin.Control (record { tunnel = 0; ns = 0; nr = nr; empty = false })

unfoldable pub declined : End → ℕ → ℕ → ℕ → Reason → Stepped
declined e peer remote nr r = record {
  end = e;
  outputs = Cause r.cause ∷ Send peer (decline_bytes remote nr r) (decline_origin nr) ∷ [];
  moves = move.Declined (record { peer = peer; remote = remote; nr = nr; result = r.result; error = r.error }) ∷ [];
}

-- an SCCRQ opens a tunnel where nothing stands against it
unfoldable pub opens_or_declines : End → Env → Event → ℕ → ℕ → ℕ → Option Reason → Stepped
opens_or_declines e env ev peer remote nr None = in_new e env ev peer
opens_or_declines e env ev peer remote nr (Some r) = declined e peer remote nr r

-- ---- recoveries

-- a control message for the recovery tunnel of a tunnel
unfoldable pub in_recovery : End → Env → Header → List ℕ → ℕ → Option Tunnel → Stepped
in_recovery e env h body i None = gives_only e (Drop why.Tunnel)
in_recovery e env h body i (Some t) = after_both e i t (hears_recovery e.config t.letters t.calls h body t.recovery (turn_in t env))

-- a LAC goes on with its own attempt where its peer attempts the same
abbrev pub is_restored : Mode → Bool
is_restored Restored = true
is_restored m = false

abbrev pub is_tied : Role → Tunnel → Bool
is_tied r t = is_lac r && is_restored (mode_of t.recovery)

-- an established tunnel to the peer with these ids of both ends
abbrev pub is_recoverable : ℕ → ℕ → Tunnel → Bool
is_recoverable peer remote t = is_open t.control.state && (t.control.peer == peer && t.control.remote == remote)

-- where no id is left it is declined, and nothing is drawn
unfoldable pub freezes : End → Env → ℕ → ℕ → Opening → ℕ → Tunnel → Result ℕ IdError → Result ℕ IdError → Stepped
freezes e env peer nr o i t (Ok local) (Ok draw) =
    after_both e i t (froze e.role e.config t.calls o local draw (turn_in t env))
freezes e env peer nr o i t local draw = declined e peer o.tunnel nr no_id

unfoldable pub recovers_tunnel : End → Env → ℕ → ℕ → Opening → ℕ → Option Tunnel → ℕ → Stepped
recovers_tunnel e env peer nr o i None sender = declined e peer o.tunnel nr no_recovery
recovers_tunnel e env peer nr o i (Some t) sender =
    if not (is_recoverable peer sender t) then declined e peer o.tunnel nr no_recovery
    else if is_tied e.role t then gives_only e (Drop why.Tie)
    else if nat_lt (asked_in o) t.control.mark then gives_only e (Drop why.Mark)
    else if lacks_secret e.config.secret o.challenge then declined e peer o.tunnel nr no_secret
    else freezes e env peer nr o i t (takes_id env.ids.tunnels) (takes_id env.ids.recoveries)

unfoldable pub recovers_by : End → Env → ℕ → ℕ → Opening → Option Named → Stepped
recovers_by e env peer nr o None = declined e peer o.tunnel nr no_recovery
recovers_by e env peer nr o (Some named) =
    if not (o.version == 256) then declined e peer o.tunnel nr other_version
    else recovers_tunnel e env peer nr o named.receiver (at e.tunnels named.receiver) named.sender

-- an SCCRQ that asks for a recovery which isn't answered yet
unfoldable pub recovers : End → Env → ℕ → ℕ → Result Message Why → Stepped
recovers e env peer nr (Ok (Sccrq o)) = recovers_by e env peer nr o o.recovery
recovers e env peer nr m = gives_only e (Drop why.Tunnel)

unfoldable pub for_addressee : End → Env → Event → ℕ → Header → List ℕ → Addressee → Stepped
for_addressee e env ev peer h body (Opens remote) = opens_or_declines e env ev peer remote (next_of_peer h) (against_body e body)
for_addressee e env ev peer h body (Stops remote) = gives_only e (Drop why.Tunnel)
for_addressee e env ev peer h body (Answers remote) = declined e peer remote (next_of_peer h) out_of_order
for_addressee e env ev peer h body (Main i) = in_main e env ev i (at e.tunnels i)
for_addressee e env ev peer h body (Recovery i) = in_recovery e env h body i (at e.tunnels i)
for_addressee e env ev peer h body (Recovers remote) = recovers e env peer (next_of_peer h) (message_in body)
for_addressee e env ev peer h body (Nobody w) = gives_only e (Drop w)

abbrev pub is_in : TunnelState → ℕ → Option Tunnel → Bool
is_in s peer None = false
is_in s peer (Some t) = (state_number t.control.state == state_number s && t.control.peer == peer) && is_current (mode_of t.recovery)

-- the least tunnel to a peer that is in a state
unfoldable pub least_in : TunnelState → ℕ → List (ℕ × Tunnel) → Option ℕ
least_in s peer tunnels = find (λ i. is_in s peer (at tunnels i)) (ids_of tunnels)

abbrev pub is_recovering : ℕ → Option Tunnel → Bool
is_recovering peer None = false
is_recovering peer (Some t) = t.control.peer == peer && not (is_current (mode_of t.recovery))

-- whether a tunnel to a peer is frozen or restored
unfoldable pub are_recovering : ℕ → List (ℕ × Tunnel) → Bool
are_recovering peer tunnels = is_some (find (λ i. is_recovering peer (at tunnels i)) (ids_of tunnels))

-- a ring goes over the least tunnel to the LNS that is open, else over the least that is to open; else it waits for none that is
-- recovered, and goes over a new one where there is no such tunnel
unfoldable pub rings_in : End → Env → Event → Option ℕ → Option ℕ → Stepped
rings_in e env ev (Some i) opening = in_main e env ev i (at e.tunnels i)
rings_in e env ev None (Some i) = in_main e env ev i (at e.tunnels i)
rings_in e env ev None None =
    if are_recovering e.config.lns e.tunnels then gives_only e (Cause cause.Recovering)
    else in_one_more e env ev e.config.lns (Cause cause.Tunnels)

unfoldable pub rings_at : End → Env → Event → Stepped
rings_at e env ev = rings_in e env ev (least_in Established e.config.lns e.tunnels) (least_in WaitCtlReply e.config.lns e.tunnels)

-- an event of a call goes to its tunnel
unfoldable pub for_call : End → Env → Event → Option CallPlace → Stepped
for_call e env ev None = gives_only e (Drop why.Call)
for_call e env ev (Some p) = in_main e env ev p.tunnel (at e.tunnels p.tunnel)

-- a live tunnel that isn't closed
abbrev pub is_not_closed : Option Tunnel → Bool
is_not_closed None = false
is_not_closed (Some t) = not (is_closed t.control.state)

-- ---- frames that come

abbrev pub look_in : Option CallPlace → Look
look_in None = look.Unborn
look_in (Some p) = p.look

-- what follows on a frame of a call in a tunnel that is handed up: one of LCP is heard by the LCP end of its call, in the same step
unfoldable pub then_heard : End → Env → ℕ → ℕ → List ℕ → Side → Stepped
then_heard e env tunnel session frame side.Sub = record { end = e; outputs = []; moves = [] }
then_heard e env tunnel session frame side.Net = record { end = e; outputs = []; moves = [] }
then_heard e env tunnel session frame side.Lcp = in_main e env (Lcp session frame) tunnel (at e.tunnels tunnel)

abbrev pub behind : Out → Move → Stepped → Stepped
behind o m s = record s { outputs = o ∷ s.outputs; moves = m ∷ s.moves }

unfoldable pub handed : End → Env → ℕ → Carried → Stepped
handed e env session (Upward tunnel peer side frame) =
    behind (Up session side frame)
    (move.FrameUp (record { tunnel = tunnel; peer = peer; session = session; side = side; frame = frame }))
    (then_heard e env tunnel session frame side)
handed e env session (Dropped w) = gives_only e (Drop w)

unfoldable pub hands_up : End → Env → ℕ → Header → List ℕ → Stepped
hands_up e env peer h body = handed e env h.session (carry_look e.role (look_in (at e.calls h.session)) peer h (frame_of body))

-- ---- the step

unfoldable pub receives : End → Env → ℕ → List ℕ → Result Header HeaderError → Stepped
receives e env peer bytes (Err x) = gives_only e (Drop (header_why x))
receives e env peer bytes (Ok h) =
    if h.control then for_addressee e env (Datagram peer bytes) peer h (body_of bytes h) (addressed e peer h (body_of bytes h))
    else hands_up e env peer h (body_of bytes h)

-- an event of the other kind of end is ignored
unfoldable pub only_by : Role → End → Stepped → Stepped
only_by Lac e s = if is_lac e.role then s else gives_only e (Drop why.Node)
only_by Lns e s = if is_lac e.role then gives_only e (Drop why.Node) else s

unfoldable pub step_in : End → Env → Event → Stepped
step_in e env (Datagram peer bytes) = receives e env peer bytes (header_of bytes)
step_in e env (Ring port) = only_by Lac e (rings_at e env (Ring port))
step_in e env (Admitted mac) = only_by Lac e (rings_at e env (Admitted mac))
step_in e env (Frame bytes) = gives_only e (Drop why.Node)
step_in e env (Payload session frame) = only_by Lac e (for_call e env (Payload session frame) (at e.calls session))
step_in e env (Lower session frame) = only_by Lns e (for_call e env (Lower session frame) (at e.calls session))
step_in e env (Lcp session packet) = only_by Lns e (for_call e env (Lcp session packet) (at e.calls session))
step_in e env (Hang session) = only_by Lac e (for_call e env (Hang session) (at e.calls session))
step_in e env OpenTunnel = only_by Lac e (in_one_more e env OpenTunnel e.config.lns (Cause cause.Tunnels))
step_in e env (CloseTunnel i) = in_main e env (CloseTunnel i) i (at e.tunnels i)
step_in e env (DropCall session) = for_call e env (DropCall session) (at e.calls session)
step_in e env Tick = ticks_all e env

-- a step at a moment, with a block of random bytes, on an event whose hidden values are uncovered
unfoldable pub plain_step : End → ℕ → List ℕ → Event → Stepped
plain_step e moment block ev = step_in e (env_of e moment block) ev

-- a step on what comes: what is hidden by the end's secret is uncovered first
abbrev pub step : End → ℕ → List ℕ → Event → Stepped
step e moment block ev = plain_step e moment block (uncovered_event e.config.secret ev)
