-- What each move needs before it, and what it changes, of those with which calls are set up and end.
use Rattle.step_laws.specs.Callers.{IsRing, WantsTunnel}
use Rattle.std.specs.Prelude.{◌≡◌, ℕ, ◌+◌, ◌<◌, ◌≤◌, ◌⊎◌, Bool, true, false, List, length, Option, None, Some, unwrap_or, Result, Ok, Err}
use Rattle.wire_base.specs.declared.why.Why.{Why}
use Rattle.id_table.specs.Ids.{at, put, without}
use Rattle.id_source.specs.declared.IdError.{IdError}
use Rattle.id_source.specs.Spaces.{takes_id, after_id}
use Rattle.control_message.specs.declared.message.Message.{Message}
use Rattle.control_message.specs.declared.message.Message.TheVariants.{Ocrq, Icrq, Icrp, Iccn, Cdn}
use Rattle.control_message.specs.declared.kind.Kind.{Kind}
use Rattle.control_message.specs.declared.kind.Kind.TheVariants as kind
use Rattle.tunnel_fsm.specs.Rows.{state_number}
use Rattle.call_fsm.specs.declared.table.CallState.TheVariants as call
use Rattle.call_fsm.specs.declared.table.CallEvent.{CallEvent}
use Rattle.call_fsm.specs.declared.table.CallEvent.TheVariants as call_event
use Rattle.step_laws.specs.Hides.{HidesNumber}
use Rattle.end_model.specs.declared.tunnel.Call.{Call}
use Rattle.session_looks.specs.declared.look.CellChange.TheVariants as cell
use Rattle.end_names.specs.declared.role.Role.TheVariants.{Lac, Lns}
use Rattle.end_model.specs.declared.event.Event.{Event}
use Rattle.end_model.specs.declared.event.Event.TheVariants.{Hang, DropCall, Tick}
use Rattle.end_model.specs.declared.moves.Added.{Added}
use Rattle.end_model.specs.declared.moves.Requested.{Requested}
use Rattle.end_model.specs.declared.moves.Replied.{Replied}
use Rattle.end_model.specs.declared.moves.Refused.{Refused}
use Rattle.end_model.specs.declared.moves.FirstUp.{FirstUp}
use Rattle.end_model.specs.declared.moves.SecondUp.{SecondUp}
use Rattle.end_model.specs.declared.moves.EndTold.{EndTold}
use Rattle.end_model.specs.declared.moves.EndHeard.{EndHeard}
use Rattle.end_model.specs.declared.moves.EndSilent.{EndSilent}
use Rattle.wire_base.specs.declared.cause.Cause.{Cause}
use Rattle.end_model.specs.Tunnels.{mode_of, is_current}
use Rattle.end_model.specs.Reading.{message_in, CallFault, call_fault_in}
use Rattle.end_model.specs.Calls.{row_for, row_of_none, advanced, with_numbers, rung, asked_for, is_request, is_reply, is_connection, is_told, is_up, is_clean_up}
use Rattle.end_model.specs.Tunnels.{Tunnel}
use Rattle.end_model.specs.Channels.{next_place, counts_taken}
use Rattle.end_model.specs.Messages.{request_of, connection}
use Rattle.end_model.specs.Asking.{session_named}
use Rattle.end_model.specs.Reasons.{fault_error}
use Rattle.end_model.specs.Links.{with_link}
use Rattle.step_laws.specs.Links.{EndsCall}
use Rattle.call_link.specs.Link.{new_link}
use Rattle.end_model.specs.End.{End, new_place, with_look}
use Rattle.step_laws.specs.Arrivals.{Came, Says, InTunnel, IsFaulty}
use Rattle.step_laws.specs.Openings.{has_all_calls, has_room, may_take, Taking, with_tunnel, with_letter, with_letter_as}

-- a call is born: it has its place, and nothing is seen of it yet
pub record Adds (e : End) (moment : ℕ) (ev : Event) (m : Added) (x : End) : Type 0 where
  pub tunnel : Tunnel
  pub there : at e.tunnels m.tunnel ≡ Some tunnel
  pub current : is_current (mode_of tunnel.recovery) ≡ true
  -- it is open, or its SCCRQ isn't answered yet
  pub goes : (state_number tunnel.control.state ≡ 3) ⊎ (state_number tunnel.control.state ≡ 1)
  -- it has fewer than 4,096 calls, and room for the letters that one more owes
  pub few : has_all_calls tunnel.calls ≡ false
  pub spare : may_take tunnel.control tunnel.calls ≡ true
  pub rings : IsRing ev m.subscriber
  pub wants : WantsTunnel e ev tunnel.control.peer
  pub drawn : takes_id e.session_ids ≡ Ok m.session
  pub after : x ≡ record (with_tunnel e m.tunnel (record tunnel { calls = put tunnel.calls m.session (rung e.role m.subscriber moment) })) {
    session_ids = after_id e.session_ids;
    calls = put e.calls m.session (new_place m.tunnel);
  }

pub record Requests (e : End) (moment : ℕ) (m : Requested) (x : End) : Type 0 where
  pub tunnel : Tunnel
  pub there : at e.tunnels m.tunnel ≡ Some tunnel
  pub current : is_current (mode_of tunnel.recovery) ≡ true
  pub open_is : state_number tunnel.control.state ≡ 3
  pub call : Call
  pub waits : at tunnel.calls m.session ≡ Some call
  pub row : is_request (row_for e.role call call_event.TunnelOpen).1 ≡ true
  pub session : m.session < 65536
  pub subscriber : m.subscriber ≡ call.subscriber
  pub hides : HidesNumber e.config m.session m.subscriber m.hidden
  pub room : has_room tunnel.control ≡ true
  pub given : m.given ≡ next_place tunnel.control
  pub after : x ≡ record (with_tunnel e m.tunnel (with_letter_as 0 (request_of m.session m.subscriber) m.hidden (record tunnel {
    calls = put tunnel.calls m.session (advanced e.role call_event.TunnelOpen moment call);
  }))) { calls = with_look (cell.Bind m.session m.tunnel tunnel.control.peer) e.calls }

-- ---- requests for a call

-- the id that a request tells is none, or that of a live call of the tunnel
abbrev pub IsIdInUse : Tunnel → ℕ → Type 0
IsIdInUse t remote = (remote ≡ 0) ⊎ ((s : ℕ) × (c : Call) × (at t.calls s ≡ Some c) × (c.remote ≡ remote))

-- a request in the tunnel is granted this session: the end is an LNS, the id that is told is neither 0 nor that of a live call of the
-- tunnel, which has fewer than 4,096 calls, and the session is the next one that is drawn
pub record GrantsCall (e : End) (t : Tunnel) (remote session : ℕ) : Type 0 where
  pub lns : e.role ≡ Lns
  pub free : IsIdInUse t remote → ⊥
  pub few : length t.calls < 4096
  pub drawn : takes_id e.session_ids ≡ Ok session

-- what stands against it, the first that counts, and the codes of the CDN that says so (RFC 2661 section 4.4.2): the end is a LAC, which
-- asks for calls itself; the id that is told is 0, or that of a live call of the tunnel; the tunnel has 4,096 calls; no session id is left
pub data DeniesCall (e : End) (t : Tunnel) (remote result : ℕ) (error : Option ℕ) : Type 0 where
  AsksItself : e.role ≡ Lac → result ≡ 2 → error ≡ Some 5 → DeniesCall e t remote result error
  HasUsedId : e.role ≡ Lns → IsIdInUse t remote → result ≡ 2 → error ≡ Some 5 → DeniesCall e t remote result error
  HasAllCalls : e.role ≡ Lns → (IsIdInUse t remote → ⊥) → 4096 ≤ length t.calls → result ≡ 4 → error ≡ None → DeniesCall e t remote result error
  HasNoSession : e.role ≡ Lns → (IsIdInUse t remote → ⊥) → length t.calls < 4096 → (x : IdError) → takes_id e.session_ids ≡ Err x
      → result ≡ 4 → error ≡ None → DeniesCall e t remote result error

pub record Replies (e : End) (moment : ℕ) (ev : Event) (m : Replied) (x : End) : Type 0 where
  pub tunnel : Tunnel
  pub there : at e.tunnels m.tunnel ≡ Some tunnel
  pub current : is_current (mode_of tunnel.recovery) ≡ true
  pub open_is : state_number tunnel.control.state ≡ 3
  pub peer : m.peer ≡ tunnel.control.peer
  pub serial : ℕ
  pub calling : Option (List ℕ)
  pub letter : Came
  pub takes : Taking ev tunnel letter m.taken
  pub said : message_in letter.body ≡ Ok (Icrq m.remote serial calling)
  -- it names no call, and none of the causes stands for which there can be no call
  pub none : at tunnel.calls letter.header.session ≡ None
  pub granted : GrantsCall e tunnel m.remote m.session
  pub row : is_reply (row_of_none e.role call_event.IcrqAcc).1 ≡ true
  pub few : has_all_calls tunnel.calls ≡ false
  pub drawn : takes_id e.session_ids ≡ Ok m.session
  pub room : has_room tunnel.control ≡ true
  pub given : m.given ≡ next_place tunnel.control
  pub after : x ≡ record (with_tunnel e m.tunnel (with_letter m.remote (Icrp m.session) (record tunnel {
    control = counts_taken tunnel.control;
    calls = put tunnel.calls m.session (asked_for e.role m.remote moment);
  }))) { session_ids = after_id e.session_ids; calls = put e.calls m.session (new_place m.tunnel) }

pub record ComesUpFirst (e : End) (moment : ℕ) (ev : Event) (m : FirstUp) (x : End) : Type 0 where
  pub tunnel : Tunnel
  pub there : at e.tunnels m.tunnel ≡ Some tunnel
  pub current : is_current (mode_of tunnel.recovery) ≡ true
  pub open_is : state_number tunnel.control.state ≡ 3
  pub call : Call
  pub asked : at tunnel.calls m.session ≡ Some call
  pub letter : Came
  pub takes : Taking ev tunnel letter m.taken
  pub says : Says letter m.session (Icrp m.remote)
  pub subscriber : m.subscriber ≡ call.subscriber
  pub row : is_connection (row_for e.role call call_event.IcrpAcc).1 ≡ true
  pub room : has_room tunnel.control ≡ true
  pub given : m.given ≡ next_place tunnel.control
  pub after : x ≡ record (with_tunnel e m.tunnel (with_letter m.remote connection (record tunnel {
    control = counts_taken tunnel.control;
    calls = put tunnel.calls m.session (advanced e.role call_event.IcrpAcc moment (record call { remote = m.remote }));
  }))) { calls = with_look (cell.Establish m.session) e.calls }

pub record ComesUpSecond (e : End) (moment : ℕ) (ev : Event) (m : SecondUp) (x : End) : Type 0 where
  pub tunnel : Tunnel
  pub there : at e.tunnels m.tunnel ≡ Some tunnel
  pub current : is_current (mode_of tunnel.recovery) ≡ true
  pub open_is : state_number tunnel.control.state ≡ 3
  pub call : Call
  pub made : at tunnel.calls m.session ≡ Some call
  pub remote : m.remote ≡ call.remote
  pub speed : ℕ
  pub framing : ℕ
  pub letter : Came
  pub takes : Taking ev tunnel letter m.taken
  pub says : Says letter m.session (Iccn speed framing m.sequenced)
  pub row : is_up (row_for e.role call call_event.IccnAcc).0 ≡ true
  -- its link begins with some random block; its data messages have numbers where the letter asks for them
  pub block : List ℕ
  pub after : x ≡ record (with_tunnel e m.tunnel (record tunnel {
    control = counts_taken tunnel.control;
    calls = put tunnel.calls m.session (with_link (new_link (record { moment = moment; block = block })) (with_numbers m.sequenced (advanced e.role call_event.IccnAcc moment call)));
  })) { calls = with_look (cell.Bind m.session m.tunnel tunnel.control.peer) e.calls }

-- the call isn't there any more, and its look is dead
abbrev pub without_call : End → ℕ → Tunnel → ℕ → End
without_call e i t s = record (with_tunnel e i (record t { calls = without t.calls s })) { calls = with_look (cell.Kill s) e.calls }

-- a call that isn't established entered its state 60 seconds ago or more
pub record TookTooLong (ev : Event) (moment : ℕ) (c : Call) : Type 0 where
  pub ticks : ev ≡ Tick
  pub not_up : c.state ≡ call.Established → ⊥
  pub over : c.since + 60000 ≤ moment

-- the event of a call's table that a faulty message is
abbrev pub fault_event : Kind → CallEvent
fault_event kind.Icrq = call_event.IcrqNotAcc
fault_event kind.Icrp = call_event.IcrpNotAcc
fault_event kind.Iccn = call_event.IccnNotAcc
fault_event k = call_event.Close

-- why a call ends: the event of its table, and the codes of the CDN that tells it (RFC 2661 section 4.4.2)
pub data WhyEnds (e : End) (t : Tunnel) (ev : Event) (moment session : ℕ) (c : Call) (on : CallEvent) (result : ℕ) (error : Option ℕ) : Type 0 where
  IsLate : TookTooLong ev moment c → on ≡ call_event.Close → result ≡ 10 → error ≡ None → WhyEnds e t ev moment session c on result error
  IsDropped : ev ≡ DropCall session → on ≡ call_event.Close → result ≡ 3 → error ≡ None → WhyEnds e t ev moment session c on result error
  IsHungUp : ev ≡ Hang session → on ≡ call_event.LineDrop → result ≡ 1 → error ≡ None → WhyEnds e t ev moment session c on result error
  -- a request named it
  IsAsked : (remote serial : ℕ) (calling : Option (List ℕ)) → InTunnel ev t.control session (Icrq remote serial calling)
      → on ≡ call_event.IcrqAcc → result ≡ 2 → error ≡ Some 5 → WhyEnds e t ev moment session c on result error
  -- its reply, or its connection, came out of state
  IsReplied : (remote : ℕ) → InTunnel ev t.control session (Icrp remote) → on ≡ call_event.IcrpAcc → result ≡ 2 → error ≡ Some 5
      → WhyEnds e t ev moment session c on result error
  IsConnected : (speed framing : ℕ) (sequenced : Bool) → InTunnel ev t.control session (Iccn speed framing sequenced)
      → on ≡ call_event.IccnAcc → result ≡ 2 → error ≡ Some 5 → WhyEnds e t ev moment session c on result error
  -- its link ends it
  IsEnded : (why : Cause) → EndsCall ev moment t.control session c why → on ≡ call_event.Close → result ≡ 3 → error ≡ None
      → WhyEnds e t ev moment session c on result error
  -- a message about it has a fault
  HasFault : (header : ℕ) (f : CallFault) → IsFaulty ev t.control header f → on ≡ fault_event f.kind → result ≡ 2 → error ≡ Some (fault_error f.cause)
      → WhyEnds e t ev moment session c on result error

-- of a call that is neither waiting nor idle the peer is told
pub record TellsEnd (e : End) (moment : ℕ) (ev : Event) (m : EndTold) (x : End) : Type 0 where
  pub tunnel : Tunnel
  pub there : at e.tunnels m.tunnel ≡ Some tunnel
  pub current : is_current (mode_of tunnel.recovery) ≡ true
  pub call : Call
  pub live : at tunnel.calls m.session ≡ Some call
  pub on : CallEvent
  pub why : WhyEnds e tunnel ev moment m.session call on m.result m.error
  pub row : is_told (row_for e.role call on).1 ≡ true
  pub session : m.session < 65536
  pub remote : m.remote ≡ call.remote
  pub booked : m.booked ≡ is_up call.state
  pub room : has_room tunnel.control ≡ true
  pub given : m.given ≡ next_place tunnel.control
  pub after : x ≡ without_call e m.tunnel (with_letter m.remote (Cdn m.session m.result m.error) tunnel) m.session

-- why there is no call, and what the CDN says that tells it: the session id that the letter tells, and the codes
pub data WhyRefused (e : End) (t : Tunnel) (header : ℕ) (said : Result Message Why) (fault : Option CallFault) (m : Refused) : Type 0 where
  -- a request that can't be granted
  IsNotGranted : (remote serial : ℕ) (calling : Option (List ℕ)) → said ≡ Ok (Icrq remote serial calling) → at t.calls header ≡ None
      → m.remote ≡ remote → DeniesCall e t remote m.result m.error
      → WhyRefused e t header said fault m
  -- no end places calls
  IsOutgoing : (remote : ℕ) → said ≡ Ok (Ocrq remote) → m.remote ≡ remote → m.result ≡ 5 → m.error ≡ None → WhyRefused e t header said fault m
  -- a reply to an end that asks for none
  IsReplyToNone : (remote : ℕ) → said ≡ Ok (Icrp remote) → at t.calls header ≡ None → e.role ≡ Lns → m.remote ≡ remote → m.result ≡ 2 → m.error ≡ Some 5
      → WhyRefused e t header said fault m
  IsWrong : (f : CallFault) → fault ≡ Some f → m.remote ≡ unwrap_or f.session 0 → m.result ≡ 2 → m.error ≡ Some (fault_error f.cause)
      → WhyRefused e t header said fault m

-- a letter about a call that there isn't is answered by a CDN that names none
pub record Refuses (e : End) (ev : Event) (m : Refused) (x : End) : Type 0 where
  pub tunnel : Tunnel
  pub there : at e.tunnels m.tunnel ≡ Some tunnel
  pub current : is_current (mode_of tunnel.recovery) ≡ true
  pub open_is : state_number tunnel.control.state ≡ 3
  pub letter : Came
  pub takes : Taking ev tunnel letter m.taken
  pub why : WhyRefused e tunnel letter.header.session (message_in letter.body) (call_fault_in letter.body) m
  pub room : has_room tunnel.control ≡ true
  pub given : m.given ≡ next_place tunnel.control
  pub after : x ≡ with_tunnel e m.tunnel (with_letter m.remote (Cdn 0 m.result m.error) (record tunnel { control = counts_taken tunnel.control }))

-- the peer's CDN names a live call: by its session id, or, where the header has none, by the one that the peer assigned
pub record HearsEnd (e : End) (ev : Event) (m : EndHeard) (x : End) : Type 0 where
  pub tunnel : Tunnel
  pub there : at e.tunnels m.tunnel ≡ Some tunnel
  pub current : is_current (mode_of tunnel.recovery) ≡ true
  pub open_is : state_number tunnel.control.state ≡ 3
  pub call : Call
  pub live : at tunnel.calls m.session ≡ Some call
  pub remote : ℕ
  pub code : ℕ
  pub error : Option ℕ
  pub letter : Came
  pub takes : Taking ev tunnel letter m.taken
  pub said : message_in letter.body ≡ Ok (Cdn remote code error)
  pub session_is : m.session ≡ session_named tunnel.calls letter.header.session remote
  pub named : (letter.header.session ≡ m.session) ⊎ ((letter.header.session ≡ 0) × (call.remote ≡ remote))
  pub row : is_clean_up (row_for e.role call call_event.CdnCame).1 ≡ true
  pub booked : m.booked ≡ is_up call.state
  pub after : x ≡ without_call e m.tunnel (record tunnel { control = counts_taken tunnel.control }) m.session

pub record EndsSilently (e : End) (moment : ℕ) (ev : Event) (m : EndSilent) (x : End) : Type 0 where
  pub tunnel : Tunnel
  pub there : at e.tunnels m.tunnel ≡ Some tunnel
  pub call : Call
  pub live : at tunnel.calls m.session ≡ Some call
  pub on : CallEvent
  pub result : ℕ
  pub error : Option ℕ
  pub why : WhyEnds e tunnel ev moment m.session call on result error
  -- the peer knows of it or knows nothing of the call; or nobody is told, as the tunnel is frozen or restored
  pub row : (is_clean_up (row_for e.role call on).1 ≡ true)
      ⊎ ((is_told (row_for e.role call on).1 ≡ true) × (is_current (mode_of tunnel.recovery) ≡ false))
  pub booked : m.booked ≡ is_up call.state
  pub after : x ≡ without_call e m.tunnel tunnel m.session
