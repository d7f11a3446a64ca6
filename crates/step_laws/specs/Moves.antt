-- What each move needs before it, and what it changes.
use Rattle.std.specs.Prelude.{◌≡◌, ℕ, ◌+◌, ◌%◌, ◌<◌, ◌≤◌, ◌⊎◌, Bool, true, false, nat_lt, List, [], ◌∷◌, drop, map, length, Option, None, Some, is_some, unwrap_or, Ok, Err}
use Rattle.id_table.specs.Ids.{at, put, without, ids_of}
use Rattle.id_source.specs.declared.IdError.{IdError}
use Rattle.id_source.specs.Spaces.{takes_id, after_id}
use Rattle.l2tp_header.specs.declared.header.Header.{Header}
use Rattle.l2tp_header.specs.Reading.{header_of}
use Rattle.control_message.specs.declared.message.Message.{Message}
use Rattle.control_message.specs.declared.message.Message.TheVariants.{Sccrq, Sccrp, Scccn, StopCcn, Hello, Ocrq, Ocrp, Occn, Icrq, Icrp, Iccn, Cdn, Wen, Sli, Fsq, Fsr}
use Rattle.control_message.specs.declared.message.Opening.{Opening}
use Rattle.send_window.specs.declared.window.Tick.TheVariants.{Again}
use Rattle.control_channel.specs.Numbers.{count_acked, next_to_go, answer_to_tick}
use Rattle.tunnel_fsm.specs.declared.table.TunnelState.TheVariants as state
use Rattle.tunnel_fsm.specs.declared.table.TunnelEvent.{TunnelEvent}
use Rattle.tunnel_fsm.specs.declared.table.TunnelEvent.TheVariants as event
use Rattle.tunnel_fsm.specs.declared.table.TunnelAction.TheVariants as action
use Rattle.tunnel_fsm.specs.Rows.{rows, row_of, state_number}
use Rattle.call_fsm.specs.declared.table.CallEvent.TheVariants as call_event
use Rattle.end_model.specs.declared.tunnel.Call.{Call}
use Rattle.end_model.specs.declared.tunnel.CallPlace.{CallPlace}
use Rattle.session_looks.specs.declared.look.CellChange.TheVariants as cell
use Rattle.end_model.specs.declared.tunnel.Control.{Control}
use Rattle.end_model.specs.declared.event.Event.{Event}
use Rattle.end_model.specs.declared.event.Event.TheVariants.{Datagram, CloseTunnel, Tick}
use Rattle.end_model.specs.declared.moves.TookPlain.{TookPlain}
use Rattle.end_model.specs.declared.moves.NrRead.{NrRead}
use Rattle.end_model.specs.declared.moves.LetGo.{LetGo}
use Rattle.end_model.specs.declared.moves.Greeted.{Greeted}
use Rattle.end_model.specs.declared.moves.Closed.{Closed}
use Rattle.end_model.specs.declared.moves.ClosedBy.{ClosedBy}
use Rattle.end_model.specs.declared.moves.Rejected.{Rejected}
use Rattle.end_model.specs.declared.moves.Declined.{Declined}
use Rattle.end_model.specs.declared.moves.Repeated.{Repeated}
use Rattle.end_model.specs.declared.moves.Negotiated.{Negotiated}
use Rattle.end_model.specs.declared.moves.Counted.{Counted}
use Rattle.end_model.specs.declared.moves.FrameSent.{FrameSent}
use Rattle.end_model.specs.declared.moves.Restored.{Restored}
use Rattle.end_model.specs.declared.moves.Forgot.{Forgot}
use Rattle.end_model.specs.declared.moves.Froze.{Froze}
use Rattle.end_model.specs.declared.moves.ResetAttempting.{ResetAttempting}
use Rattle.end_model.specs.declared.moves.ResetAnswering.{ResetAnswering}
use Rattle.std.specs.Prelude.{max, filter}
use Rattle.recv_window.specs.Window.{class_of, on_wire}
use Rattle.recv_window.specs.declared.Class.TheVariants.{Next}
use Rattle.std.specs.List.{flat_map}
use Rattle.wire_base.specs.declared.cause.Cause.{Cause}
use Rattle.wire_base.specs.declared.pair.Pair.{Pair}
use Rattle.session_query.specs.Queries.{Asking, new_query}
use Rattle.end_model.specs.Querying.{told_at}
use Rattle.control_message.specs.declared.message.Recovery.{Recovery}
use Rattle.control_message.specs.declared.message.Suggested.{Suggested}
use Rattle.control_channel.specs.Channel.{Channel}
use Rattle.control_channel.specs.Numbers.{reset_at}
use Rattle.session_book.specs.declared.record.BookCall.{BookCall}
use Rattle.session_looks.specs.declared.look.CellChange.{CellChange}
use Rattle.recovery_tunnel.specs.declared.progress.Progress.TheVariants as progress
use Rattle.recovery_tunnel.specs.Connections.{ControlConnection, is_waiting, is_lost}
use Rattle.recovery_tunnel.specs.Attempts.{against, suggested_in}
use Rattle.recovery_tunnel.specs.Answers.{Answering}
use Rattle.recovery_tunnel.specs.Secrets.{is_wrong}
use Rattle.end_names.specs.declared.role.Role.{Role}
use Rattle.end_model.specs.Tunnels.{Ground, Recovering, ByAttempt, ByAnswer, connection_of, with_connection, is_finished, mode_of, is_current}
use Rattle.end_model.specs.Recovering.{told_by, told_by_fault, cause_in, is_unfinished, suggested_by, frozen_control, asked_in}
use Rattle.end_model.specs.Starting.{kept_control, kept_call, kept_looks, can_recover}
use Rattle.end_model.specs.End.{placed, is_tied}
use Rattle.end_model.specs.declared.moves.FrameUp.{FrameUp}
use Rattle.end_model.specs.declared.moves.Move.{Move}
use Rattle.end_model.specs.declared.moves.Move.TheVariants as move
use Rattle.end_model.specs.declared.event.Addressee.TheVariants.{Answers}
use Rattle.end_model.specs.declared.event.Addressee.TheVariants as addressee
use Rattle.l2tp_header.specs.Reading.{body_of}
use Rattle.end_model.specs.Reading.{message_in, TunnelFault, tunnel_fault_in, at_zero}
use Rattle.session_looks.specs.Frames.{side_of}
use Rattle.end_model.specs.Calls.{sessions_of, row_for, number_of, counted, is_connection, is_up, is_clean_up}
use Rattle.end_model.specs.Tunnels.{Tunnel, new_tunnel}
use Rattle.end_model.specs.Channels.{place, next_place, taken_place, counts_taken, counts_acked, counts_sent, counts_repeated}
use Rattle.end_model.specs.Messages.{event_by}
use Rattle.end_model.specs.Asking.{session_named}
use Rattle.end_model.specs.Reasons.{fault_error}
use Rattle.end_model.specs.Moments.{is_closed, is_open}
use Rattle.end_model.specs.Links.{with_link, looks_of}
use Rattle.step_laws.specs.Failing.{HasFailed}
use Rattle.wire_base.specs.declared.cause.Cause.{Cause}
use Rattle.step_laws.specs.Links.{Calls, WhySent, Passes}
use Rattle.call_link.specs.Laws.{turn_at}
use Rattle.end_model.specs.End.{End, with_looks}
pub use Rattle.step_laws.specs.Arrivals.{Came, CameIn, Says, SaysFaulty, IsAgain, IsStop, IsFor, ComesTo, IsNext, HearsNext, heard_so, InTunnel, IsFaulty, Hears, heard_from, TellsNr}
pub use Rattle.step_laws.specs.Hides.{Asks, right_answer, Responds, IsRight, LacksSecret}
pub use Rattle.step_laws.specs.Links.{HearsFrame}
pub use Rattle.step_laws.specs.Queries.{Questions, AnswersQuestion, without_each, HearsAnswer}
pub use Rattle.step_laws.specs.Openings.{has_all_tunnels, has_all_calls, has_room, may_take, Taking, with_tunnel, with_letter, with_letter_as, begun, learns_window, Opens, IsUnknown, Accepts, Connects, Confirms}
pub use Rattle.step_laws.specs.Setups.{Adds, Requests, IsIdInUse, GrantsCall, DeniesCall, AsksItself, HasUsedId, HasAllCalls, HasNoSession, Replies, ComesUpFirst, ComesUpSecond, without_call, TookTooLong, fault_event, WhyEnds, IsLate, IsDropped, IsHungUp, IsAsked, IsReplied, IsConnected, IsEnded, HasFault, TellsEnd, WhyRefused, IsNotGranted, IsOutgoing, IsReplyToNone, IsWrong, Refuses, HearsEnd, EndsSilently}

-- ---- openings that are declined

-- what stands against an SCCRQ that would open a tunnel, the first that counts, and the codes of the StopCCN that says so (RFC 2661 section
-- 4.4.2): its version isn't 1.0; the end has 1,024 tunnels; it asks an end that has no secret; no tunnel id is left
pub data StandsAgainst (e : End) (o : Opening) (result : ℕ) (error : Option ℕ) : Type 0 where
  OtherVersion : (o.version ≡ 256 → ⊥) → result ≡ 5 → error ≡ None → StandsAgainst e o result error
  NoTunnel : o.version ≡ 256 → 1024 ≤ length e.tunnels → result ≡ 2 → error ≡ Some 4 → StandsAgainst e o result error
  Challenges : o.version ≡ 256 → length e.tunnels < 1024 → LacksSecret e.config.secret o.challenge → result ≡ 4 → error ≡ None
      → StandsAgainst e o result error
  NoId : o.version ≡ 256 → length e.tunnels < 1024 → (LacksSecret e.config.secret o.challenge → ⊥)
      → (x : IdError) → takes_id e.tunnel_ids ≡ Err x → result ≡ 2 → error ≡ Some 4 → StandsAgainst e o result error

-- an established tunnel with this id goes to the peer, which gave it that id
pub record IsNamed (e : End) (peer : ℕ) (r : Recovery) : Type 0 where
  pub tunnel : Tunnel
  pub there : at e.tunnels r.receiver ≡ Some tunnel
  pub open_is : state_number tunnel.control.state ≡ 3
  pub peer_is : tunnel.control.peer ≡ peer
  pub remote_is : tunnel.control.remote ≡ r.sender

-- what stands against an SCCRQ that asks for a recovery, the first that counts, and the codes that say so: its version; there is no such
-- tunnel; it asks an end that has no secret; no tunnel id or no draw number is left
pub data StandsAgainstRecovery (e : End) (peer : ℕ) (o : Opening) (r : Recovery) (result : ℕ) (error : Option ℕ) : Type 0 where
  OfOtherVersion : (o.version ≡ 256 → ⊥) → result ≡ 5 → error ≡ None → StandsAgainstRecovery e peer o r result error
  OfNoTunnel : o.version ≡ 256 → (IsNamed e peer r → ⊥) → result ≡ 2 → error ≡ Some 1 → StandsAgainstRecovery e peer o r result error
  OfNoSecret : o.version ≡ 256 → IsNamed e peer r → LacksSecret e.config.secret o.challenge → result ≡ 4 → error ≡ None
      → StandsAgainstRecovery e peer o r result error
  OfNoId : o.version ≡ 256 → IsNamed e peer r → (LacksSecret e.config.secret o.challenge → ⊥)
      → (x : IdError) → (takes_id e.tunnel_ids ≡ Err x) ⊎ (takes_id e.recovery_ids ≡ Err x) → result ≡ 2 → error ≡ Some 4
      → StandsAgainstRecovery e peer o r result error

-- why an opening is declined, by a StopCCN with these codes: something stands against an SCCRQ, or it has a fault, and none of this end's
-- tunnels is the one that it comes for again; or it is an SCCRP
pub data WhyDeclined (e : End) (body : List ℕ) (m : Declined) : Type 0 where
  AnOpening : (o : Opening) → message_in body ≡ Ok (Sccrq o) → o.recovery ≡ None → m.remote ≡ o.tunnel → IsUnknown e m.peer m.remote
      → StandsAgainst e o m.result m.error → WhyDeclined e body m
  ARecovery : (o : Opening) → message_in body ≡ Ok (Sccrq o) → (r : Recovery) → o.recovery ≡ Some r → m.remote ≡ o.tunnel
      → StandsAgainstRecovery e m.peer o r m.result m.error → WhyDeclined e body m
  AFaultyOpening : (g : TunnelFault) → at_zero body ≡ addressee.Opens m.remote → IsUnknown e m.peer m.remote → tunnel_fault_in body ≡ Some g
      → g.event ≡ event.SccrqNotAcc → m.result ≡ 2 → m.error ≡ Some (fault_error g.cause) → WhyDeclined e body m
  AnAnswer : at_zero body ≡ Answers m.remote → m.result ≡ 7 → m.error ≡ None → WhyDeclined e body m

-- it named no tunnel, and tells the id to which it is answered, with the number that its sender is to send next; nothing changes
pub record Declines (e : End) (ev : Event) (m : Declined) (x : End) : Type 0 where
  pub bytes : List ℕ
  pub is : ev ≡ Datagram m.peer bytes
  pub header : Header
  pub read : header_of bytes ≡ Ok header
  pub control : header.control ≡ true
  pub none : header.tunnel ≡ 0
  pub nr : m.nr ≡ (unwrap_or header.ns 0 + 1) % 65536
  pub some : m.remote ≡ 0 → ⊥
  pub why : WhyDeclined e (body_of bytes header) m
  pub after : x ≡ e

-- ---- tunnels that close

-- what stands against an opening in a tunnel that asked this: it asks an end that has no secret, or doesn't answer rightly
abbrev pub FailsSecret : Option (List ℕ) → Option (List ℕ) → Opening → Type 0
FailsSecret secret asked o = LacksSecret secret o.challenge ⊎ (IsRight 2 secret asked o.response → ⊥)

-- why an SCCRQ or an SCCRP closes the tunnel in which it comes, the first that counts, and the codes that say so: its version isn't 1.0; it
-- wants to recover a tunnel; its secret fails; or the tunnel doesn't wait for it
pub data ClosesIn (secret asked : Option (List ℕ)) (o : Opening) (result : ℕ) (error : Option ℕ) : Type 0 where
  HasOtherVersion : (o.version ≡ 256 → ⊥) → result ≡ 5 → error ≡ None → ClosesIn secret asked o result error
  HasRecovery : o.version ≡ 256 → is_some o.recovery ≡ true → result ≡ 2 → error ≡ Some 1 → ClosesIn secret asked o result error
  HasOtherSecret : o.version ≡ 256 → is_some o.recovery ≡ false → FailsSecret secret asked o → result ≡ 4 → error ≡ None
      → ClosesIn secret asked o result error
  IsUnawaited : o.version ≡ 256 → is_some o.recovery ≡ false → (FailsSecret secret asked o → ⊥) → result ≡ 7 → error ≡ None
      → ClosesIn secret asked o result error

-- and why an SCCCN does: it doesn't answer rightly, or the tunnel doesn't wait for it
pub data ClosesConnected (secret asked response : Option (List ℕ)) (on : TunnelEvent) (result : ℕ) (error : Option ℕ) : Type 0 where
  WronglyConnected : (IsRight 3 secret asked response → ⊥) → on ≡ event.ScccnNotAcc → result ≡ 4 → error ≡ None
      → ClosesConnected secret asked response on result error
  ComesUnawaited : IsRight 3 secret asked response → on ≡ event.ScccnAcc → result ≡ 7 → error ≡ None
      → ClosesConnected secret asked response on result error

-- why a letter closes the tunnel in which it comes: the event of the tunnel's table, the id of the peer's tunnel that it tells, where it is
-- an SCCRP, and the codes of the StopCCN that says so (RFC 2661 section 4.4.2); of an end with this secret
pub data LetterCloses (secret : Option (List ℕ)) (c : Control) (q : Asking) (k : Came) (on : TunnelEvent) (told result : ℕ)
    (error : Option ℕ) : Type 0 where
  -- an opening came again, or isn't acceptable
  BySccrq : (o : Opening) → message_in k.body ≡ Ok (Sccrq o) → on ≡ event_by event.SccrqAcc event.SccrqNotAcc secret None o
      → told ≡ 0 → ClosesIn secret None o result error → LetterCloses secret c q k on told result error
  BySccrp : (o : Opening) → message_in k.body ≡ Ok (Sccrp o) → on ≡ event_by event.SccrpAcc event.SccrpNotAcc secret c.challenge o
      → told ≡ o.tunnel → ClosesIn secret c.challenge o result error → LetterCloses secret c q k on told result error
  ByScccn : (response : Option (List ℕ)) → message_in k.body ≡ Ok (Scccn response) → told ≡ 0
      → ClosesConnected secret c.challenge response on result error → LetterCloses secret c q k on told result error
  -- it has a fault
  ByFault : (g : TunnelFault) → tunnel_fault_in k.body ≡ Some g → on ≡ g.event → told ≡ g.remote → result ≡ 2 → error ≡ Some (fault_error g.cause)
      → LetterCloses secret c q k on told result error
  -- it answers what wasn't asked for
  ByUnasked : (answers : List Pair) (place : ℕ) → message_in k.body ≡ Ok (Fsr answers) → told_at c.state q answers ≡ Err place
      → on ≡ event.AdminClose
      → told ≡ 0 → result ≡ 7 → error ≡ None → LetterCloses secret c q k on told result error

-- why a tunnel is closed with a StopCCN to the peer's tunnel that it knows: by an administrator, or by the next letter, which the closed
-- tunnel then takes
pub data WhyCloses (secret : Option (List ℕ)) (t : Tunnel) (ev : Event) (on : TunnelEvent) (m : Closed) : Type 0 where
  ByOperator : ev ≡ CloseTunnel m.tunnel → on ≡ event.AdminClose → m.remote ≡ t.control.remote → m.result ≡ 1 → m.error ≡ None
      → WhyCloses secret t ev on m
  ByLetter : (told : ℕ) (k : Came) → IsNext ev t k → may_take t.control t.calls ≡ true
      → LetterCloses secret t.control t.query k on told m.result m.error
      → (state_number t.control.state ≡ 1 → ⊥) → m.remote ≡ t.control.remote → WhyCloses secret t ev on m

-- its calls aren't there any more
abbrev pub without_calls : End → ℕ → Tunnel → List (ℕ × Call) → End
without_calls e i t calls = record (with_tunnel e i (record t { calls = [] })) { calls = with_looks (map cell.Kill (ids_of calls)) e.calls }

-- a tunnel that isn't closed is, by its table, at the moment of the step, and its peer is told
pub record Closes (e : End) (moment : ℕ) (ev : Event) (m : Closed) (x : End) : Type 0 where
  pub tunnel : Tunnel
  pub there : at e.tunnels m.tunnel ≡ Some tunnel
  pub current : is_current (mode_of tunnel.recovery) ≡ true
  pub on : TunnelEvent
  pub why : WhyCloses e.config.secret tunnel ev on m
  pub row : row_of rows tunnel.control.state on ≡ (state.Closed, action.SendStopCcn)
  pub booked : m.booked ≡ is_open tunnel.control.state
  pub room : has_room tunnel.control ≡ true
  pub given : m.given ≡ next_place tunnel.control
  pub after : x ≡ without_calls e m.tunnel (with_letter 0 (StopCcn m.tunnel m.result m.error) (record tunnel {
    control = record tunnel.control { state = state.Closed; remote = m.remote; closed = moment };
  })) tunnel.calls

-- a letter closes a tunnel that waits for its SCCRP, and the peer is told, whose id is as the letter tells it
pub record Rejects (e : End) (moment : ℕ) (ev : Event) (m : Rejected) (x : End) : Type 0 where
  pub tunnel : Tunnel
  pub there : at e.tunnels m.tunnel ≡ Some tunnel
  pub current : is_current (mode_of tunnel.recovery) ≡ true
  pub waits : state_number tunnel.control.state ≡ 1
  pub on : TunnelEvent
  pub letter : Came
  pub takes : Taking ev tunnel letter m.taken
  pub why : LetterCloses e.config.secret tunnel.control tunnel.query letter on m.remote m.result m.error
  pub row : row_of rows tunnel.control.state on ≡ (state.Closed, action.SendStopCcn)
  pub room : has_room tunnel.control ≡ true
  pub given : m.given ≡ next_place tunnel.control
  pub after : x ≡ without_calls e m.tunnel (with_letter 0 (StopCcn m.tunnel m.result m.error) (record tunnel {
    control = record (counts_taken tunnel.control) { state = state.Closed; remote = m.remote; closed = moment };
  })) tunnel.calls

-- it is a StopCCN, which may have a fault
abbrev pub SaysStop : List ℕ → Type 0
SaysStop body =
    ((id : ℕ) × (result : ℕ) × (error : Option ℕ) × (message_in body ≡ Ok (StopCcn id result error)))
    ⊎ ((g : TunnelFault) × (tunnel_fault_in body ≡ Some g) × (g.event ≡ event.StopCcnCame))

-- the next letter of the peer of a tunnel that isn't closed
pub record ClosesBy (e : End) (moment : ℕ) (ev : Event) (m : ClosedBy) (x : End) : Type 0 where
  pub tunnel : Tunnel
  pub there : at e.tunnels m.tunnel ≡ Some tunnel
  pub current : is_current (mode_of tunnel.recovery) ≡ true
  pub live : is_closed tunnel.control.state ≡ false
  pub letter : Came
  pub takes : Taking ev tunnel letter m.taken
  pub says : SaysStop letter.body
  pub booked : m.booked ≡ is_open tunnel.control.state
  pub after : x ≡ without_calls e m.tunnel (record tunnel {
    control = record (counts_taken tunnel.control) { state = state.Closed; closed = moment };
  }) tunnel.calls

-- a control message for a recovery tunnel, of the peer: it names the id of this end's, or is a StopCCN, or an SCCRQ, that names none and
-- tells the id of the peer's
abbrev pub IsForLine : Header → List ℕ → ControlConnection → Type 0
IsForLine h body c =
    (h.tunnel ≡ c.local)
    ⊎ ((h.tunnel ≡ 0) × ((at_zero body ≡ addressee.Recovers c.remote) ⊎ (at_zero body ≡ addressee.Stops c.remote)))

pub record ComesToLine (ev : Event) (peer : ℕ) (c : ControlConnection) (k : Came) : Type 0 where
  pub came : CameIn ev k
  pub peer_is : k.peer ≡ peer
  pub line : IsForLine k.header k.body c

-- the next letter of the other end
pub record HearsLine (ev : Event) (peer : ℕ) (c : ControlConnection) (k : Came) : Type 0 where
  pub comes : ComesToLine ev peer c k
  pub some : length k.body ≡ 0 → ⊥
  pub next : class_of (unwrap_or k.header.ns 0) c.channel.inbox ≡ Next

-- why a recovery tunnel clears its tunnel: it took a StopCCN, or what it refuses; its channel failed; or 60 seconds passed without a reset
pub data LineClears (e : End) (moment : ℕ) (ev : Event) (peer : ℕ) (r : Recovering) : Type 0 where
  ByMessage : (k : Came) (m : Message) → HearsLine ev peer (connection_of r) k → message_in k.body ≡ Ok m
      → (told_by e.config.secret m r ≡ progress.Cleared) ⊎ ((x : Cause) × (told_by e.config.secret m r ≡ progress.Given x)) → LineClears e moment ev peer r
  ByFaultOnLine : (k : Came) (x : Cause) → HearsLine ev peer (connection_of r) k → cause_in k.body ≡ Some x
      → told_by_fault (Some x) r ≡ progress.Given x → LineClears e moment ev peer r
  ByTime : ev ≡ Tick → is_lost moment (connection_of r) ≡ true → LineClears e moment ev peer r

-- why a tunnel is removed without a word: it failed; an administrator closes one that is frozen or restored; or its recovery tunnel does
pub data WhyCleared (e : End) (moment : ℕ) (ev : Event) (i : ℕ) (t : Tunnel) : Type 0 where
  HasFailedItself : ev ≡ Tick → HasFailed moment t.control → WhyCleared e moment ev i t
  IsClosedNow : ev ≡ CloseTunnel i → is_current (mode_of t.recovery) ≡ false → WhyCleared e moment ev i t
  ByRecovery : (r : Recovering) → t.recovery ≡ Some r → LineClears e moment ev t.control.peer r → WhyCleared e moment ev i t

-- the tunnel isn't there any more, nor are its calls
pub record Clears (e : End) (moment : ℕ) (ev : Event) (i : ℕ) (booked : Bool) (x : End) : Type 0 where
  pub tunnel : Tunnel
  pub there : at e.tunnels i ≡ Some tunnel
  pub why : WhyCleared e moment ev i tunnel
  pub established : booked ≡ is_open tunnel.control.state
  pub after : x ≡ record e { tunnels = without e.tunnels i; calls = with_looks (map cell.Kill (ids_of tunnel.calls)) e.calls }

-- nothing was heard in an open tunnel for 60 seconds, and it holds no letter
pub record Greets (e : End) (moment : ℕ) (ev : Event) (m : Greeted) (x : End) : Type 0 where
  pub tunnel : Tunnel
  pub there : at e.tunnels m.tunnel ≡ Some tunnel
  pub current : is_current (mode_of tunnel.recovery) ≡ true
  pub ticks : ev ≡ Tick
  pub open_is : state_number tunnel.control.state ≡ 3
  pub quiet : tunnel.control.channel.window.queued ≡ 0
  pub over : tunnel.control.heard + 60000 ≤ moment
  pub room : has_room tunnel.control ≡ true
  pub given : m.given ≡ next_place tunnel.control
  pub after : x ≡ with_tunnel e m.tunnel (with_letter 0 Hello tunnel)

-- by its tables the end does nothing on such a message in the tunnel
abbrev pub IsPlain : End → Tunnel → ℕ → Message → Type 0
-- an opening connects the tunnel, or closes it
IsPlain e t session (Sccrq o) = is_closed t.control.state ≡ true
IsPlain e t session (Sccrp o) = is_closed t.control.state ≡ true
IsPlain e t session (Scccn response) = is_closed t.control.state ≡ true
IsPlain e t session Hello = Unit {0}
IsPlain e t session (StopCcn tunnel code error) = is_closed t.control.state ≡ true
IsPlain e t session (Ocrq remote) = state_number t.control.state ≡ 3 → ⊥
IsPlain e t session Ocrp = Unit {0}
IsPlain e t session Occn = Unit {0}
IsPlain e t session Wen = Unit {0}
IsPlain e t session Sli = Unit {0}
-- a question is answered in an open tunnel, and an answer is taken, or closes the tunnel
IsPlain e t session (Fsq sessions) = state_number t.control.state ≡ 3 → ⊥
IsPlain e t session (Fsr sessions) = is_closed t.control.state ≡ true
-- a request that names a call makes none
IsPlain e t session (Icrq remote serial calling) = state_number t.control.state ≡ 3 → (c : Call) × (at t.calls session ≡ Some c)
IsPlain e t session (Icrp remote) = state_number t.control.state ≡ 3
    → (c : Call) → at t.calls session ≡ Some c → is_connection (row_for e.role c call_event.IcrpAcc).1 ≡ false
IsPlain e t session (Iccn speed framing sequenced) = state_number t.control.state ≡ 3
    → (c : Call) → at t.calls session ≡ Some c → is_up (row_for e.role c call_event.IccnAcc).0 ≡ false
IsPlain e t session (Cdn remote code error) = state_number t.control.state ≡ 3
    → (c : Call) → at t.calls (session_named t.calls session remote) ≡ Some c → is_clean_up (row_for e.role c call_event.CdnCame).1 ≡ false

-- a letter that can't be read, or on which nothing is done; one that closes a tunnel is taken once it is closed
pub record TakesPlain (e : End) (ev : Event) (m : TookPlain) (x : End) : Type 0 where
  pub tunnel : Tunnel
  pub there : at e.tunnels m.tunnel ≡ Some tunnel
  pub current : is_current (mode_of tunnel.recovery) ≡ true
  pub letter : Came
  pub next : IsNext ev tunnel letter
  pub why : (m : Message) → message_in letter.body ≡ Ok m → IsPlain e tunnel letter.header.session m
  pub taken : m.taken ≡ taken_place tunnel.control
  pub spare : is_closed tunnel.control.state ≡ false → may_take tunnel.control tunnel.calls ≡ true
  pub after : x ≡ with_tunnel e m.tunnel (record tunnel { control = counts_taken tunnel.control })

-- the letters before Nr go, and the timer of the next one starts
pub record Reads (e : End) (moment : ℕ) (ev : Event) (m : NrRead) (x : End) : Type 0 where
  pub tunnel : Tunnel
  pub there : at e.tunnels m.tunnel ≡ Some tunnel
  pub current : is_current (mode_of tunnel.recovery) ≡ true
  pub tells : TellsNr ev tunnel.control m.nr
  pub after : x ≡ with_tunnel e m.tunnel (record tunnel {
    control = record (counts_acked m.nr moment tunnel.control) { heard = moment };
    letters = drop (count_acked tunnel.control.channel m.nr) tunnel.letters;
  })

-- the next letter that was never on the wire is outstanding
pub record LetsGo (e : End) (moment : ℕ) (m : LetGo) (x : End) : Type 0 where
  pub tunnel : Tunnel
  pub there : at e.tunnels m.tunnel ≡ Some tunnel
  pub current : is_current (mode_of tunnel.recovery) ≡ true
  pub number : ℕ
  pub goes : next_to_go tunnel.control.channel ≡ Some number
  pub sent : m.sent ≡ place number
  pub after : x ≡ with_tunnel e m.tunnel (record tunnel { control = counts_sent moment tunnel.control })

-- the oldest letter that isn't acknowledged, once more
pub record Repeats (e : End) (moment : ℕ) (m : Repeated) (x : End) : Type 0 where
  pub tunnel : Tunnel
  pub there : at e.tunnels m.tunnel ≡ Some tunnel
  pub current : is_current (mode_of tunnel.recovery) ≡ true
  pub number : ℕ
  pub due : answer_to_tick tunnel.control.channel moment ≡ Again number
  pub sent : m.sent ≡ place number
  pub after : x ≡ with_tunnel e m.tunnel (record tunnel { control = counts_repeated moment tunnel.control })

-- an acknowledgement changes nothing
pub record IsQuiet (e : End) (i : ℕ) (x : End) : Type 0 where
  pub tunnel : Tunnel
  pub there : at e.tunnels i ≡ Some tunnel
  pub current : is_current (mode_of tunnel.recovery) ≡ true
  pub after : x ≡ e

-- the link of a call is called, and the call keeps it; where frames of the network begin to pass, all frames do
pub record Negotiates (e : End) (moment : ℕ) (ev : Event) (m : Negotiated) (x : End) : Type 0 where
  pub tunnel : Tunnel
  pub there : at e.tunnels m.tunnel ≡ Some tunnel
  pub call : Call
  pub live : at tunnel.calls m.session ≡ Some call
  pub up : is_up call.state ≡ true
  pub calls : Calls ev moment tunnel.control m.session call
  pub after : x ≡ record (with_tunnel e m.tunnel (record tunnel {
    calls = put tunnel.calls m.session (with_link (turn_at calls.by calls.link).link call);
  })) { calls = with_looks (looks_of (turn_at calls.by calls.link).opens m.session) e.calls }

-- a call whose data messages have numbers has the next one
pub record Counts (e : End) (m : Counted) (x : End) : Type 0 where
  pub tunnel : Tunnel
  pub there : at e.tunnels m.tunnel ≡ Some tunnel
  pub call : Call
  pub live : at tunnel.calls m.session ≡ Some call
  pub up : is_up call.state ≡ true
  pub number : ℕ
  pub has : call.sequence ≡ Some number
  pub after : x ≡ with_tunnel e m.tunnel (record tunnel { calls = put tunnel.calls m.session (counted call) })

-- a frame goes to the tunnel's peer
pub record SendsFrame (e : End) (moment : ℕ) (ev : Event) (m : FrameSent) (x : End) : Type 0 where
  pub tunnel : Tunnel
  pub there : at e.tunnels m.tunnel ≡ Some tunnel
  pub peer : m.peer ≡ tunnel.control.peer
  pub call : Call
  pub calls : at tunnel.calls m.session ≡ Some call
  pub up : is_up call.state ≡ true
  pub remote : m.remote ≡ call.remote
  pub number : m.number ≡ number_of call.sequence
  pub given : WhySent ev moment tunnel.control m.session call m.frame
  pub after : x ≡ e

-- a frame that the call's peer sent in the call's tunnel is handed up, where what is seen of the call lets it pass
pub record HandsUp (e : End) (ev : Event) (m : FrameUp) (x : End) : Type 0 where
  pub hears : HearsFrame ev m.peer m.tunnel m.session m.frame
  pub place : CallPlace
  pub there : at e.calls m.session ≡ Some place
  pub seen : Passes e.role place.look m.tunnel m.peer m.frame
  pub side : m.side ≡ side_of e.role m.frame
  pub after : x ≡ e

-- ---- recoveries

-- an attempt, and an answer, that hasn't reset its tunnel yet; the attempt doesn't know the id of the other end yet
pub record IsAttempt (r : Recovering) (local draw : ℕ) : Type 0 where
  pub connection : ControlConnection
  pub is : r ≡ ByAttempt connection
  pub local_is : connection.local ≡ local
  pub remote_is : connection.remote ≡ 0
  pub draw_is : connection.draw ≡ draw
  pub waits : is_waiting connection ≡ true

pub record IsAnswer (r : Recovering) (local remote draw : ℕ) (s : Suggested) : Type 0 where
  pub answering : Answering
  pub is : r ≡ ByAnswer answering
  pub local_is : answering.connection.local ≡ local
  pub remote_is : answering.connection.remote ≡ remote
  pub draw_is : answering.connection.draw ≡ draw
  pub suggested_is : answering.suggested ≡ s
  pub waits : is_waiting answering.connection ≡ true

-- the calls of a tunnel that comes back, and what is seen of them
abbrev pub calls_back : Role → Ground → List BookCall → List (ℕ × Call)
calls_back r g [] = []
calls_back r g (c ∷ cs) = put (calls_back r g cs) c.local (kept_call r g c)

abbrev pub looks_back : Role → ℕ → ℕ → List BookCall → List CellChange
looks_back r i peer cs = flat_map (λ (c : BookCall). kept_looks r c.local i peer) cs

-- a tunnel that was kept is there again with its calls
pub record Restores (e : End) (moment : ℕ) (m : Restored) (x : End) : Type 0 where
  pub none : at e.tunnels m.tunnel.local ≡ None
  pub can : can_recover m.tunnel ≡ true
  pub local : takes_id e.tunnel_ids ≡ Ok m.attempt
  pub draw : takes_id e.recovery_ids ≡ Ok m.draw
  pub asks : Asks e.config.secret m.challenge
  -- the links of its calls begin with some random block
  pub ground : Ground
  pub at_moment : ground.moment ≡ moment
  pub recovery : Recovering
  pub is : IsAttempt recovery m.attempt m.draw
  pub after : x ≡ record (with_tunnel e m.tunnel.local (record (new_tunnel (kept_control moment m.tunnel)) {
    calls = calls_back e.role ground m.calls;
    recovery = Some recovery;
  })) {
    tunnel_ids = after_id e.tunnel_ids;
    recovery_ids = after_id e.recovery_ids;
    calls = with_looks (looks_back e.role m.tunnel.local m.tunnel.peer m.calls) (placed m.tunnel.local (map (λ (c : BookCall). c.local) m.calls) e.calls);
  }

pub record Forgets (e : End) (m : Forgot) (x : End) : Type 0 where
  pub none : at e.tunnels m.tunnel ≡ None
  pub after : x ≡ e

-- the calls that aren't established
abbrev pub unfinished_of : List (ℕ × Call) → List ℕ
unfinished_of calls = filter (λ s. is_unfinished (at calls s)) (ids_of calls)

abbrev pub finished_of : List (ℕ × Call) → List (ℕ × Call)
finished_of calls = filter (λ c. is_up c.1.state) calls

-- a peer's attempt at the recovery of an established tunnel is answered; a LAC goes on with its own attempt instead
pub record Freezes (e : End) (ev : Event) (m : Froze) (x : End) : Type 0 where
  pub tunnel : Tunnel
  pub there : at e.tunnels m.tunnel ≡ Some tunnel
  pub open_is : state_number tunnel.control.state ≡ 3
  pub untied : is_tied e.role tunnel ≡ false
  pub letter : Came
  pub came : CameIn ev letter
  pub from : letter.peer ≡ m.peer
  pub none : letter.header.tunnel ≡ 0
  pub opening : Opening
  pub said : message_in letter.body ≡ Ok (Sccrq opening)
  pub version : opening.version ≡ 256
  -- it names both ends of the tunnel
  pub named : opening.recovery ≡ Some (record { sender = m.remote; receiver = m.tunnel })
  pub able : LacksSecret e.config.secret opening.challenge → ⊥
  pub peer : m.peer ≡ tunnel.control.peer
  pub remote : m.remote ≡ tunnel.control.remote
  pub attempt : m.attempt ≡ opening.tunnel
  pub asked : m.asked ≡ asked_in opening
  pub not_older : tunnel.control.mark ≤ m.asked
  pub marked : m.marked ≡ nat_lt tunnel.control.mark m.asked
  pub suggests : suggested_by tunnel.control ≡ record { ns = m.expect; nr = m.send_from }
  pub local : takes_id e.tunnel_ids ≡ Ok m.answer
  pub draw : takes_id e.recovery_ids ≡ Ok m.draw
  pub recovery : Recovering
  pub is : IsAnswer recovery m.answer m.attempt m.draw (record { ns = m.expect; nr = m.send_from })
  pub after : x ≡ record (with_tunnel e m.tunnel (record tunnel {
    control = frozen_control m.asked tunnel.control;
    calls = finished_of tunnel.calls;
    recovery = Some recovery;
  })) {
    tunnel_ids = after_id e.tunnel_ids;
    recovery_ids = after_id e.recovery_ids;
    calls = with_looks (map cell.Kill (unfinished_of tunnel.calls)) e.calls;
  }

-- the channel begins anew, without a letter, and the sessions that are established are to be asked for
abbrev pub begun_anew : ℕ → ℕ → ℕ → Recovering → Tunnel → Tunnel
begun_anew send_from expect mark r t = record t {
  control = record t.control { channel = reset_at t.control.channel (on_wire send_from) (on_wire expect); mark = mark };
  letters = [];
  recovery = Some r;
  query = new_query (sessions_of t.calls);
}

pub record ResetsAttempting (e : End) (moment : ℕ) (ev : Event) (m : ResetAttempting) (x : End) : Type 0 where
  pub tunnel : Tunnel
  pub there : at e.tunnels m.tunnel ≡ Some tunnel
  pub peer : m.peer ≡ tunnel.control.peer
  pub remote : m.remote ≡ tunnel.control.remote
  pub old : ControlConnection
  pub attempts : tunnel.recovery ≡ Some (ByAttempt old)
  pub waits : is_waiting old ≡ true
  pub local : old.local ≡ m.attempt
  pub letter : Came
  pub comes : ComesToLine ev m.peer old letter
  pub opening : Opening
  pub said : message_in letter.body ≡ Ok (Sccrp opening)
  pub right : against e.config.secret old.challenge opening ≡ None
  pub answer : m.answer ≡ opening.tunnel
  pub draw : m.draw ≡ asked_in opening
  pub numbers : suggested_in opening ≡ record { ns = m.send_from; nr = m.expect }
  pub marked : m.marked ≡ nat_lt tunnel.control.mark m.draw
  pub new : ControlConnection
  pub same : (new.local ≡ old.local) × (new.draw ≡ old.draw) × (new.remote ≡ m.answer) × (new.reset ≡ Some moment) × (new.closed ≡ false)
  pub after : x ≡ with_tunnel e m.tunnel (begun_anew m.send_from m.expect (max tunnel.control.mark m.draw) (ByAttempt new) tunnel)

pub record ResetsAnswering (e : End) (moment : ℕ) (ev : Event) (m : ResetAnswering) (x : End) : Type 0 where
  pub tunnel : Tunnel
  pub there : at e.tunnels m.tunnel ≡ Some tunnel
  pub peer : m.peer ≡ tunnel.control.peer
  pub remote : m.remote ≡ tunnel.control.remote
  pub old : Answering
  pub answers : tunnel.recovery ≡ Some (ByAnswer old)
  pub waits : is_waiting old.connection ≡ true
  pub local : old.connection.local ≡ m.answer
  pub attempt : old.connection.remote ≡ m.attempt
  pub suggested : old.suggested ≡ record { ns = m.expect; nr = m.send_from }
  pub letter : Came
  pub comes : ComesToLine ev m.peer old.connection letter
  pub response : Option (List ℕ)
  pub said : message_in letter.body ≡ Ok (Scccn response)
  pub right : is_wrong 3 e.config.secret old.connection.challenge response ≡ false
  pub new : Answering
  pub same : (new.connection.local ≡ m.answer) × (new.connection.remote ≡ m.attempt) × (new.connection.reset ≡ Some moment) × (new.suggested ≡ old.suggested)
      × (new.connection.draw ≡ old.connection.draw)
  pub after : x ≡ with_tunnel e m.tunnel (begun_anew m.send_from m.expect tunnel.control.mark (ByAnswer new) tunnel)

-- an SCCRP came to an attempt that waits, and assigns this id
pub record LearnsOfReply (ev : Event) (peer : ℕ) (r : Recovering) (remote : ℕ) : Type 0 where
  pub connection : ControlConnection
  pub is : r ≡ ByAttempt connection
  pub waits : is_waiting connection ≡ true
  pub letter : Came
  pub comes : ComesToLine ev peer connection letter
  pub opening : Opening
  pub said : message_in letter.body ≡ Ok (Sccrp opening)
  pub remote_is : remote ≡ opening.tunnel

-- the channel of its recovery tunnel goes on, or is closed by a StopCCN of its own; of an SCCRP that an attempt refuses it learns the other
-- end's id
pub record GoesOn (e : End) (ev : Event) (i : ℕ) (x : End) : Type 0 where
  pub tunnel : Tunnel
  pub there : at e.tunnels i ≡ Some tunnel
  pub old : Recovering
  pub has : tunnel.recovery ≡ Some old
  pub channel : Channel
  pub closed : Bool
  pub remote : ℕ
  pub learns : (remote ≡ (connection_of old).remote) ⊎ LearnsOfReply ev tunnel.control.peer old remote
  pub after : x ≡ with_tunnel e i (record tunnel {
    recovery = Some (with_connection (record (connection_of old) { channel = channel; closed = closed; remote = remote }) old);
  })

pub record EndsRecovery (e : End) (i : ℕ) (x : End) : Type 0 where
  pub tunnel : Tunnel
  pub there : at e.tunnels i ≡ Some tunnel
  pub old : Recovering
  pub has : tunnel.recovery ≡ Some old
  pub finished : is_finished old ≡ true
  pub after : x ≡ with_tunnel e i (record tunnel { recovery = None })

-- a message for a tunnel that is frozen or restored is heard, and not looked at
pub record IgnoresIt (e : End) (moment : ℕ) (ev : Event) (i : ℕ) (x : End) : Type 0 where
  pub tunnel : Tunnel
  pub there : at e.tunnels i ≡ Some tunnel
  pub inactive : is_current (mode_of tunnel.recovery) ≡ false
  pub letter : Came
  pub comes : ComesTo ev tunnel.control letter
  pub after : x ≡ with_tunnel e i (record tunnel { control = record tunnel.control { heard = moment } })

-- ---- a move at a moment, and a chain of moves

abbrev pub Does : End → ℕ → Event → Move → End → Type 0
Does e moment ev (move.Opened m) x = Opens e moment ev m x
Does e moment ev (move.Accepted m) x = Accepts e moment ev m x
Does e moment ev (move.Connected m) x = Connects e ev m x
Does e moment ev (move.Confirmed m) x = Confirms e ev m x
Does e moment ev (move.Added m) x = Adds e moment ev m x
Does e moment ev (move.Requested m) x = Requests e moment m x
Does e moment ev (move.Replied m) x = Replies e moment ev m x
Does e moment ev (move.FirstUp m) x = ComesUpFirst e moment ev m x
Does e moment ev (move.SecondUp m) x = ComesUpSecond e moment ev m x
Does e moment ev (move.Refused m) x = Refuses e ev m x
Does e moment ev (move.EndTold m) x = TellsEnd e moment ev m x
Does e moment ev (move.EndHeard m) x = HearsEnd e ev m x
Does e moment ev (move.EndSilent m) x = EndsSilently e moment ev m x
Does e moment ev (move.Declined m) x = Declines e ev m x
Does e moment ev (move.Closed m) x = Closes e moment ev m x
Does e moment ev (move.Rejected m) x = Rejects e moment ev m x
Does e moment ev (move.ClosedBy m) x = ClosesBy e moment ev m x
Does e moment ev (move.Cleared i booked) x = Clears e moment ev i booked x
Does e moment ev (move.Greeted m) x = Greets e moment ev m x
Does e moment ev (move.TookPlain m) x = TakesPlain e ev m x
Does e moment ev (move.NrRead m) x = Reads e moment ev m x
Does e moment ev (move.LetGo m) x = LetsGo e moment m x
Does e moment ev (move.Repeated m) x = Repeats e moment m x
Does e moment ev (move.Quiet i) x = IsQuiet e i x
Does e moment ev (move.Negotiated m) x = Negotiates e moment ev m x
Does e moment ev (move.Counted m) x = Counts e m x
Does e moment ev (move.FrameSent m) x = SendsFrame e moment ev m x
Does e moment ev (move.FrameUp m) x = HandsUp e ev m x
Does e moment ev (move.Restored m) x = Restores e moment m x
Does e moment ev (move.Forgot m) x = Forgets e m x
Does e moment ev (move.Froze m) x = Freezes e ev m x
Does e moment ev (move.ResetAttempting m) x = ResetsAttempting e moment ev m x
Does e moment ev (move.ResetAnswering m) x = ResetsAnswering e moment ev m x
Does e moment ev (move.Queried m) x = Questions e m x
Does e moment ev (move.AnsweredQuery m) x = AnswersQuestion e ev m x
Does e moment ev (move.TookAnswer m) x = HearsAnswer e ev m x
Does e moment ev (move.RecoveryWentOn i) x = GoesOn e ev i x
Does e moment ev (move.RecoveryEnded i) x = EndsRecovery e i x
Does e moment ev (move.Ignored i) x = IgnoresIt e moment ev i x

abbrev pub Chain : ℕ → Event → End → List Move → End → Type 0
Chain moment ev e [] x = e ≡ x
Chain moment ev e (m ∷ ms) x = (y : End) × Does e moment ev m y × Chain moment ev y ms x
