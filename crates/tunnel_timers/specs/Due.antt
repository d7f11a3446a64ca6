-- When a tick next does something: a moment for each tunnel by itself, and for an end the earliest of these.
use Rattle.std.specs.Prelude.{◌≡◌, ℕ, ◌+◌, ◌-◌, ◌^◌, ◌≤◌, Bool, true, not, ◌==◌, ◌&&◌, nat_lt, min, if◌then◌else◌, List, [], ◌∷◌, Option, Some, None, is_none}
use Rattle.id_table.specs.Ids.{at}
use Rattle.send_window.specs.Kept.{Window}
use Rattle.send_window.specs.Window.{wait_after}
use Rattle.control_channel.specs.Numbers.{Numbers}
use Rattle.recovery_tunnel.specs.Connections.{ControlConnection, patience as reset_patience}
use Rattle.recovery_tunnel.specs.Answers.{kept_after_reset}
use Rattle.call_link.specs.Link.{Link, due_of as link_due_of}
use Rattle.end_model.specs.declared.tunnel.Call.{Call}
use Rattle.end_model.specs.declared.tunnel.Control.{Control}
use Rattle.end_model.specs.declared.tunnel.Mode.{Mode}
use Rattle.end_model.specs.Moments.{patience, kept_closed, is_open, is_closed, is_being_set_up}
use Rattle.end_model.specs.Calls.{is_up, is_set_up}
use Rattle.end_model.specs.Tunnels.{Tunnel, Turn, Recovering, ByAttempt, ByAnswer, connection_of, mode_of, is_current}
use Rattle.end_model.specs.Recovering.{RecoveryTurn}
use Rattle.end_model.specs.End.{End}

-- ---- moments, in milliseconds, of which None never comes

abbrev pub earlier : Option ℕ → Option ℕ → Option ℕ
earlier None b = b
earlier (Some a) None = Some a
earlier (Some a) (Some b) = Some (min a b)

-- the earliest of those of all items
unfoldable pub earliest : {X : Type 0} → (X → Option ℕ) → List X → Option ℕ
earliest f [] = None
earliest f (x ∷ xs) = earlier (f x) (earliest f xs)

-- that of the value with an id, if there is one
abbrev pub due_at : {X : Type 0} → (ℕ × X → Option ℕ) → ℕ → Option X → Option ℕ
due_at f i None = None
due_at f i (Some x) = f (i, x)

-- the earliest of those with these ids
unfoldable pub earliest_at : {X : Type 0} → (ℕ × X → Option ℕ) → List (ℕ × X) → List ℕ → Option ℕ
earliest_at f es [] = None
earliest_at f es (i ∷ is) = earlier (due_at f i (at es i)) (earliest_at f es is)

abbrev pub is_before : ℕ → Option ℕ → Bool
is_before moment None = true
is_before moment (Some due) = nat_lt moment due

-- so many milliseconds after a moment that is kept, where something is waited for
abbrev pub due_after : Bool → ℕ → ℕ → Option ℕ
due_after waits limit kept = if waits then Some (kept + limit) else None

-- ---- a tunnel's channel and its own states

-- one that is closed, or isn't set up in time, is removed
abbrev pub removal_due : Control → Option ℕ
removal_due c = earlier (due_after (is_closed c.state) kept_closed c.closed) (due_after (is_being_set_up c.state) patience c.made)

-- the oldest letter on the wire goes out again, or its channel has failed; a frozen channel waits for nothing
abbrev pub window_due : Bool → Window → Option ℕ
window_due frozen w = due_after (not frozen && nat_lt 0 w.outstanding) (wait_after w.repetitions) w.since

abbrev pub repetition_due : Numbers → Option ℕ
repetition_due n = window_due n.frozen n.window

-- a HELLO, where nothing waits and the tunnel is neither frozen nor restored
abbrev pub hello_due : Mode → Control → Option ℕ
hello_due m c = due_after (is_open c.state && is_current m && c.channel.window.queued == 0) patience c.heard

abbrev pub channel_due : Mode → Control → Option ℕ
channel_due m c = earlier (removal_due c) (earlier (repetition_due c.channel) (hello_due m c))

-- ---- its calls, by session ids of 16 bits

-- one that isn't set up in time ends
abbrev pub setup_due : ℕ → Call → Option ℕ
setup_due s c = due_after (nat_lt s 65536 && is_set_up c.state) patience c.since

-- the timer of its link
abbrev pub link_due : ℕ → Call → Option Link → Option ℕ
link_due s c None = None
link_due s c (Some l) = if nat_lt s 65536 && is_up c.state then link_due_of l else None

abbrev pub call_due : ℕ → Call → Option ℕ
call_due s c = earlier (setup_due s c) (link_due s c c.link)

abbrev pub calls_due : List (ℕ × Call) → Option ℕ
calls_due calls = earliest (λ c. call_due c.0 c.1) calls

-- ---- its recovery tunnel

-- the tunnel is cleared, as its recovery took too long
abbrev pub reset_due : ControlConnection → Option ℕ
reset_due c = due_after (is_none c.reset) reset_patience c.since

abbrev pub connection_due : ControlConnection → Option ℕ
connection_due c = earlier (window_due c.channel.frozen c.channel.outbox.window) (reset_due c)

-- an answer is over; an attempt waits for its acknowledgement alone
abbrev pub kept_until : Option ℕ → Option ℕ
kept_until None = None
kept_until (Some reset) = Some (reset + kept_after_reset)

abbrev pub over_due : Recovering → Option ℕ
over_due (ByAttempt c) = None
over_due (ByAnswer a) = kept_until a.connection.reset

abbrev pub recovery_due : Option Recovering → Option ℕ
recovery_due None = None
recovery_due (Some r) = earlier (connection_due (connection_of r)) (over_due r)

-- ---- tunnels and ends

-- a tunnel in this mode, with this control part and these calls
abbrev pub due_of : Mode → Control → List (ℕ × Call) → Option ℕ
due_of m c calls = earlier (channel_due m c) (calls_due calls)

abbrev pub tunnel_due : Tunnel → Option ℕ
tunnel_due t = earlier (due_of (mode_of t.recovery) t.control t.calls) (recovery_due t.recovery)

abbrev pub tunnels_due : List (ℕ × Tunnel) → Option ℕ
tunnels_due tunnels = earliest (λ t. tunnel_due t.1) tunnels

abbrev pub end_due : End → Option ℕ
end_due e = tunnels_due e.tunnels

-- ---- bounds below it

abbrev pub IsNoLater : ℕ → Option ℕ → Type 0
IsNoLater bound None = Unit {0}
IsNoLater bound (Some due) = bound ≤ due

-- a moment as 64 bits hold it: the last of them stands for one that never comes too
abbrev pub bound_of : Option ℕ → ℕ
bound_of None = 2 ^ 64 - 1
bound_of (Some due) = min due (2 ^ 64 - 1)

-- of a call that a turn made or changed; one that it ended is waited for no more
abbrev pub left_due : ℕ → Option Call → Option ℕ
left_due s None = None
left_due s (Some c) = call_due s c

-- what a turn changed of a tunnel that is in this mode then: its control part, and those calls
abbrev pub main_changed_due : Mode → Turn → Option ℕ
main_changed_due m t = earlier (channel_due m t.control) (earliest (λ c. left_due c.0 c.1) t.changed)

-- and with its recovery tunnel, which says the mode
abbrev pub changed_due : RecoveryTurn → Option ℕ
changed_due t = earlier (main_changed_due (mode_of t.recovery) t.turn) (recovery_due t.recovery)

-- ---- tunnels that may wait

-- the second list is the first one without some ids of which this holds
pub data LeavesOut (P : ℕ → Type 0) : List ℕ → List ℕ → Type 0 where
  NoneLeft : LeavesOut P [] []
  Stays : (i : ℕ) (is js : List ℕ) → LeavesOut P is js → LeavesOut P (i ∷ is) (i ∷ js)
  Waits : (i : ℕ) (is js : List ℕ) → P i → LeavesOut P is js → LeavesOut P (i ∷ is) js

-- at a moment the tunnel with this id isn't due, if there is one
abbrev pub IsEarly : List (ℕ × Tunnel) → ℕ → ℕ → Type 0
IsEarly tunnels moment i = (t : Tunnel) → at tunnels i ≡ Some t → is_before moment (tunnel_due t) ≡ true
