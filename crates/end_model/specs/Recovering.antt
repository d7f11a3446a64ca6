-- The recovery tunnel of a tunnel in a step (RFC 4951 section 4.3).
use Rattle.std.specs.Prelude.{ℕ, zero, suc, List, [], ◌∷◌, Bool, true, false, ◌==◌, ◌&&◌, ◌||◌, not, max, nat_le, nat_lt, length, if◌then◌else◌, Option, Some, None, is_some, unwrap_or, Result, Ok, Err}
use Rattle.id_table.specs.Ids.{at, ids_of}
use Rattle.id_source.specs.Spaces.{after_id}
use Rattle.wire_base.specs.declared.why.Why.{Why}
use Rattle.wire_base.specs.declared.why.Why.TheVariants as why
use Rattle.wire_base.specs.declared.cause.Cause.{Cause as Because}
use Rattle.wire_base.specs.declared.letter.Letter.{Letter}
use Rattle.l2tp_header.specs.declared.header.Header.{Header}
use Rattle.l2tp_header.specs.Spelling.{control_bytes}
use Rattle.control_message.specs.declared.message.Message.{Message}
use Rattle.control_message.specs.declared.message.Opening.{Opening}
use Rattle.control_message.specs.declared.message.Recovery.{Recovery}
use Rattle.control_message.specs.declared.message.Suggested.{Suggested}
use Rattle.recv_window.specs.declared.Class.{Class}
use Rattle.recv_window.specs.declared.Class.TheVariants.{Next, Duplicate, Ahead}
use Rattle.recv_window.specs.Window.{on_wire}
use Rattle.send_window.specs.declared.window.Tick.{Tick as Ticked}
use Rattle.send_window.specs.declared.window.Tick.TheVariants as tick
use Rattle.send_window.specs.Window.{next_unsent as next_unsent_of}
use Rattle.send_window.specs.Outbox.{letter_at}
use Rattle.control_channel.specs.Numbers.{reset_at, frozen_so, next_unsent}
use Rattle.control_channel.specs.Channel.{received, class_told, taken_by, next_to_go, let_go_at, answer_to_tick, ticked_at, nr_of}
use Rattle.recovery_tunnel.specs.declared.progress.Progress.{Progress}
use Rattle.recovery_tunnel.specs.declared.progress.Progress.TheVariants as progress
use Rattle.recovery_tunnel.specs.Connections.{ControlConnection, refuses, told_by_refusal, is_lost}
use Rattle.recovery_tunnel.specs.Attempts.{new_attempt, told_to_attempt, attempt_after, is_attempt_over}
use Rattle.recovery_tunnel.specs.Answers.{Answering, new_answer, told_to_answer, answer_after, is_answer_over}
use Rattle.session_query.specs.Queries.{new_query}
use Rattle.end_names.specs.declared.role.Role.{Role}
use Rattle.end_model.specs.declared.tunnel.Call.{Call}
use Rattle.end_model.specs.declared.tunnel.Config.{Config}
use Rattle.end_model.specs.declared.tunnel.Control.{Control}
use Rattle.end_model.specs.declared.out.Out.{Out}
use Rattle.end_model.specs.declared.out.Out.TheVariants.{Send, Cause}
use Rattle.end_model.specs.declared.out.Origin.TheVariants as origin
use Rattle.end_model.specs.declared.moves.Move.TheVariants as move
use Rattle.end_model.specs.Calls.{is_up, sessions_of}
use Rattle.end_model.specs.declared.event.Event.{Event}
use Rattle.end_model.specs.declared.event.Event.TheVariants.{Tick}
use Rattle.end_model.specs.Events.{turns, with_calls}
use Rattle.end_model.specs.Messages.{opening_of}
use Rattle.end_model.specs.Reading.{message_in, CallFault, call_fault_in, TunnelFault, tunnel_fault_in}
use Rattle.end_model.specs.Secrets.{challenge_by, response_by}
use Rattle.end_model.specs.Querying.{asks_next}
use Rattle.end_model.specs.Stopping.{clears}
use Rattle.end_model.specs.Tunnels.{Tunnel, Turn, Recovering, ByAttempt, ByAnswer, connection_of, with_connection, is_finished}
use Rattle.end_model.specs.Turn.{with_output, with_move, drops, ends_call}

-- a tunnel in a step, with its recovery tunnel
pub record RecoveryTurn : Type 0 where
  pub turn : Turn
  pub recovery : Option Recovering

abbrev pub with_recovery : Recovering → Turn → RecoveryTurn
with_recovery r t = record { turn = t; recovery = Some r }

-- ---- what it sends

-- a letter with its number, or an acknowledgement alone, with that of the next letter to go
abbrev pub recovery_sends : ℕ → ControlConnection → ℕ → ℕ → Bool → List ℕ → Out
recovery_sends peer c session number empty pairs =
    Send peer (control_bytes c.remote session (on_wire number) (nr_of c.channel) pairs) (origin.Recovery c.local number empty)

unfoldable pub recovery_letter : ControlConnection → ℕ → Option Letter → Turn → Turn
recovery_letter c number None t = t
recovery_letter c number (Some l) t =
    if nat_le (length l.avps) 65523 then with_output (recovery_sends t.control.peer c l.session number false l.avps) t else t

-- a connection in a step
pub record Line : Type 0 where
  pub connection : ControlConnection
  pub turn : Turn

-- the letter with a number goes
unfoldable pub goes_once : ℕ → Line → Line
goes_once number l = record {
  connection = record l.connection { channel = let_go_at l.connection.channel l.turn.on.moment };
  turn = recovery_letter l.connection number (letter_at l.connection.channel.outbox number) l.turn;
}

unfoldable pub goes_by : ℕ → Option ℕ → Line → Line
goes_by most None l = l
goes_by zero (Some number) l = l
goes_by (suc most) (Some number) l =
    let gone = goes_once number l in goes_by most (next_to_go gone.connection.channel) gone

-- all that its window lets go: it is given three letters at most
abbrev pub all_go : Line → Line
all_go l = goes_by 3 (next_to_go l.connection.channel) l

unfoldable pub goes : Recovering → Turn → RecoveryTurn
goes r t =
    let l = all_go (record { connection = connection_of r; turn = t }) in
    with_recovery (with_connection l.connection r) l.turn

unfoldable pub acknowledges_on : Recovering → Turn → RecoveryTurn
acknowledges_on r t =
    let c = connection_of r in
    with_recovery r (with_output (recovery_sends t.control.peer c 0 (next_unsent_of c.channel.outbox.window) true []) t)

-- ---- an attempt, as its end starts

unfoldable pub attempted : Role → Config → ℕ → ℕ → Turn → RecoveryTurn
attempted role c local draw t =
    goes
    (ByAttempt (new_attempt local (record { sender = t.control.local; receiver = t.control.remote }) draw (opening_of role c (challenge_by c.secret t.on.block) None local) t.on.moment))
    (record t { ids = record t.ids { tunnels = after_id t.ids.tunnels; recoveries = after_id t.ids.recoveries } })

-- ---- an answer: the channel is frozen, and an SCCRP suggests how it is to go on

-- a call that isn't established ends, and the peer isn't told
abbrev pub is_unfinished : Option Call → Bool
is_unfinished None = false
is_unfinished (Some c) = not (is_up c.state)

unfoldable pub ends_unfinished : List ℕ → List (ℕ × Call) → Turn → Turn
ends_unfinished [] calls t = t
ends_unfinished (s ∷ ss) calls t = ends_unfinished ss calls (if is_unfinished (at calls s) then ends_call s t else t)

-- the numbers of the letter that it expects, and of the one that it would send next. They are 0 and 0 at an end that was down
abbrev pub suggested_by : Control → Suggested
suggested_by c = record { ns = on_wire c.channel.inbox.taken; nr = on_wire (next_unsent c.channel) }

abbrev pub frozen_control : ℕ → Control → Control
frozen_control asked c = record c { channel = frozen_so c.channel; mark = max c.mark asked }

-- a peer's opening that asks for the recovery, by a draw number
abbrev pub asked_in : Opening → ℕ
asked_in o = unwrap_or o.attempt 0

-- a peer that tells a window of no letters tells none: it counts as one that isn't known (RFC 2661 section 4.4.3)
abbrev pub answer_window : ℕ → ℕ
answer_window told = if told == 0 then 4 else told

abbrev pub answer_to : Role → Config → Opening → Suggested → ℕ → ℕ → Turn → Answering
answer_to role c o s local draw t =
    new_answer local o.tunnel s (opening_of role c (challenge_by c.secret t.on.block) (response_by 2 c.secret o.challenge) local) (answer_window o.window) draw t.on.moment

unfoldable pub froze : Role → Config → List (ℕ × Call) → Opening → ℕ → ℕ → Turn → RecoveryTurn
froze role c calls o local draw t =
    let s = suggested_by t.control in
    goes (ByAnswer (answer_to role c o s local draw t))
    (ends_unfinished (ids_of calls) calls
    (with_move (move.Froze (record { tunnel = t.control.local; peer = t.control.peer; remote = t.control.remote; attempt = o.tunnel; answer = local; asked = asked_in o; draw = draw; expect = s.ns; send_from = s.nr; marked = nat_lt t.control.mark (asked_in o) }))
    (record t {
      control = frozen_control (asked_in o) t.control;
      ids = record t.ids { tunnels = after_id t.ids.tunnels; recoveries = after_id t.ids.recoveries };
    })))

-- ---- resets

-- the channel begins anew, without a letter; its numbers are those of the wire. The sessions that are established are those to ask for
unfoldable pub resets : ℕ → ℕ → ℕ → List Letter → List (ℕ × Call) → Turn → Turn
resets send_from expect mark letters calls t = record t {
  control = record t.control { channel = reset_at t.control.channel (on_wire send_from) (on_wire expect); mark = mark };
  query = new_query (sessions_of calls);
  given = [];
  acked = length letters;
}

unfoldable pub resets_by : List Letter → List (ℕ × Call) → Suggested → ℕ → Recovering → Turn → Turn
resets_by letters calls s draw (ByAttempt c) t =
    with_move (move.ResetAttempting (record { tunnel = t.control.local; peer = t.control.peer; remote = t.control.remote; attempt = c.local; answer = c.remote; draw = draw; send_from = s.ns; expect = s.nr; marked = nat_lt t.control.mark draw }))
    (resets s.ns s.nr (max t.control.mark draw) letters calls t)
resets_by letters calls s draw (ByAnswer a) t =
    with_move (move.ResetAnswering (record { tunnel = t.control.local; peer = t.control.peer; remote = t.control.remote; answer = a.connection.local; attempt = a.connection.remote; send_from = s.nr; expect = s.ns }))
    (resets s.nr s.ns t.control.mark letters calls t)

-- ---- letters that it takes

-- what a letter tells of the tunnel
abbrev pub told_by : Option (List ℕ) → Message → Recovering → Progress
told_by secret m (ByAttempt c) = told_to_attempt secret m c
told_by secret m (ByAnswer a) = told_to_answer secret m a

abbrev pub after_message : Option (List ℕ) → ℕ → Message → Recovering → Recovering
after_message secret moment m (ByAttempt c) = ByAttempt (attempt_after secret moment m c)
after_message secret moment m (ByAnswer a) = ByAnswer (answer_after secret moment m a)

-- of one that has a fault
abbrev pub cause_by : Option TunnelFault → Option CallFault → Option Because
cause_by (Some g) f = Some g.cause
cause_by None (Some f) = Some f.cause
cause_by None None = None

abbrev pub cause_in : List ℕ → Option Because
cause_in body = cause_by (tunnel_fault_in body) (call_fault_in body)

abbrev pub told_by_fault : Option Because → Recovering → Progress
told_by_fault None r = progress.Waiting
told_by_fault (Some x) r = told_by_refusal x (connection_of r)

abbrev pub after_fault : Option Because → Recovering → Recovering
after_fault None r = r
after_fault (Some x) r = with_connection (refuses x (connection_of r)) r

-- the tunnel goes on, and begins to ask
abbrev pub begins_to_ask : List Letter → RecoveryTurn → RecoveryTurn
begins_to_ask letters v = record v { turn = asks_next letters v.turn }

-- what becomes of the tunnel; where it is reset, the recovery tunnel's letter goes first
unfoldable pub follows : List Letter → List (ℕ × Call) → Progress → Recovering → Turn → RecoveryTurn
follows letters calls progress.Waiting r t = goes r t
follows letters calls (progress.Reset s draw) r t = begins_to_ask letters (goes r (resets_by letters calls s (unwrap_or draw 0) r t))
follows letters calls (progress.Given cause) r t =
    let v = goes r (with_output (Cause cause) t) in record v { turn = clears calls v.turn }
follows letters calls progress.Cleared r t = with_recovery r (clears calls t)

unfoldable pub heeds : Config → List Letter → List (ℕ × Call) → List ℕ → Result Message Why → Recovering → Turn → RecoveryTurn
heeds c letters calls body (Ok m) r t = follows letters calls (told_by c.secret m r) (after_message c.secret t.on.moment m r) t
heeds c letters calls body (Err w) r t = follows letters calls (told_by_fault (cause_in body) r) (after_fault (cause_in body) r) t

abbrev pub takes_letter : Recovering → Recovering
takes_letter r = with_connection (record (connection_of r) { channel = taken_by (connection_of r).channel }) r

-- the next letter is heeded
unfoldable pub hears_class : Config → List Letter → List (ℕ × Call) → List ℕ → Option Class → Recovering → Turn → RecoveryTurn
hears_class c letters calls body (Some Next) r t = heeds c letters calls body (message_in body) (takes_letter r) t
hears_class c letters calls body (Some (Ahead by)) r t = goes r (drops why.Ahead t)
hears_class c letters calls body (Some Duplicate) r t = goes r t
hears_class c letters calls body None r t = goes r t

-- what came again is acknowledged always, what was taken where no letter went that says so
abbrev pub outstanding_of : Recovering → ℕ
outstanding_of r = (connection_of r).channel.outbox.window.outstanding

abbrev pub is_acknowledged : Option Class → ℕ → ℕ → Bool
is_acknowledged (Some Next) before after = after == before
is_acknowledged (Some Duplicate) before after = true
is_acknowledged c before after = false

unfoldable pub settles_on : Option Class → ℕ → Option Recovering → Turn → RecoveryTurn
settles_on class before None t = record { turn = t; recovery = None }
settles_on class before (Some r) t =
    if is_acknowledged class before (outstanding_of r) then acknowledges_on r t else with_recovery r t

-- an attempt is over as its SCCCN is acknowledged; a tunnel that was cleared has none any more
abbrev pub is_over_now : Bool → Recovering → Bool
is_over_now cleared (ByAttempt c) = not cleared && is_attempt_over c
is_over_now cleared (ByAnswer a) = false

unfoldable pub without_recovery : Turn → RecoveryTurn
without_recovery t = record { turn = with_move (move.RecoveryEnded t.control.local) t; recovery = None }

unfoldable pub ends_attempt : Option Recovering → Turn → RecoveryTurn
ends_attempt None t = record { turn = t; recovery = None }
ends_attempt (Some r) t = if is_over_now t.cleared r then without_recovery t else with_recovery r t

-- Nr is read
abbrev pub reads_nr_on : ℕ → ℕ → Recovering → Recovering
reads_nr_on nr moment r = with_connection (record (connection_of r) { channel = received (connection_of r).channel nr moment }) r

-- a control message for it
unfoldable pub hears_read : Config → List Letter → List (ℕ × Call) → List ℕ → Option Class → Recovering → Turn → RecoveryTurn
hears_read c letters calls body class r t =
    let u = hears_class c letters calls body class r (with_move (move.RecoveryWentOn t.control.local) t) in
    let v = settles_on class (outstanding_of r) u.recovery u.turn in
    ends_attempt v.recovery v.turn

unfoldable pub hears_recovery : Config → List Letter → List (ℕ × Call) → Header → List ℕ → Option Recovering → Turn → RecoveryTurn
hears_recovery c letters calls h body None t = record { turn = drops why.Tunnel t; recovery = None }
hears_recovery c letters calls h body (Some r) t =
    let read = reads_nr_on (unwrap_or h.nr 0) t.on.moment r in
    hears_read c letters calls body (class_told (connection_of read).channel (unwrap_or h.ns 0) (length body == 0)) read t

-- ---- time

-- the oldest letter that isn't acknowledged goes again
unfoldable pub repeats_on : Ticked → Recovering → Turn → Turn
repeats_on (tick.Again number) r t =
    recovery_letter (connection_of r) number (letter_at (connection_of r).channel.outbox number) (with_move (move.RecoveryWentOn t.control.local) t)
repeats_on k r t = t

abbrev pub ticked : ℕ → Recovering → Recovering
ticked moment r = with_connection (record (connection_of r) { channel = ticked_at (connection_of r).channel moment }) r

abbrev pub is_kept_long : ℕ → Recovering → Bool
is_kept_long moment (ByAttempt c) = false
is_kept_long moment (ByAnswer a) = is_answer_over moment a

-- a channel that failed, or 60 seconds without a reset, clear the tunnel; an answer is over 31 seconds after its reset
unfoldable pub ticks_on : List (ℕ × Call) → Recovering → Turn → RecoveryTurn
ticks_on calls r t =
    let u = repeats_on (answer_to_tick (connection_of r).channel t.on.moment) r t in
    if is_lost t.on.moment (connection_of r) then with_recovery r (clears (with_calls u.changed calls) u)
    else if is_kept_long t.on.moment r then without_recovery u
    else with_recovery (ticked t.on.moment r) u

unfoldable pub recovery_ticks : List (ℕ × Call) → Option Recovering → Turn → RecoveryTurn
recovery_ticks calls None t = record { turn = t; recovery = None }
recovery_ticks calls (Some r) t = if t.cleared then with_recovery r t else ticks_on calls r t

-- ---- events

abbrev pub is_tick : Event → Bool
is_tick Tick = true
is_tick ev = false

-- an event of a tunnel; time passes for its recovery tunnel behind all else
unfoldable pub recovering_turns : Role → Config → Tunnel → Event → Turn → RecoveryTurn
recovering_turns role c t ev u =
    if is_tick ev then recovery_ticks t.calls t.recovery (turns role c t.letters t.calls ev u)
    else record { turn = turns role c t.letters t.calls ev u; recovery = t.recovery }
