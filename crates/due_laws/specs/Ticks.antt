-- Before it is due a tick changes nothing and gives nothing, and from then on it does something.
use Rattle.std.specs.Prelude.{◌≡◌, ◌<◌, ℕ, ◌+◌, true, false, ◌||◌, if◌then◌else◌, List, [], length, Option, Some}
use Rattle.id_table.specs.Ids.{at, put, without, ids_of}
use Rattle.id_table.specs.Order.{Ascends}
use Rattle.wire_base.specs.declared.letter.Letter.{Letter}
use Rattle.call_fsm.specs.declared.table.CallEvent.TheVariants.{Close}
use Rattle.end_names.specs.declared.role.Role.{Role}
use Rattle.end_model.specs.declared.event.Event.TheVariants.{Tick}
use Rattle.end_model.specs.declared.tunnel.Call.{Call}
use Rattle.end_model.specs.Calls.{row_for, is_set_up, is_told, is_clean_up}
use Rattle.end_model.specs.Tunnels.{Tunnel, Turn, Recovering}
use Rattle.end_model.specs.Events.{tunnel_after}
use Rattle.end_model.specs.Ticking.{limits_all, ticks}
use Rattle.end_model.specs.Recovering.{RecoveryTurn, recovery_ticks}
use Rattle.end_model.specs.End.{End, Stepped, env_of, after_turn, after_both, ticks_of, after_all, ticks_all, plain_step}
use Rattle.tunnel_timers.specs.Due.{earlier, is_before, calls_due, due_of, recovery_due, tunnel_due, tunnels_due, end_due, IsNoLater, changed_due, LeavesOut, IsEarly}

-- ---- before it is due

-- the turn of a tunnel stays that very turn, in whichever mode the tunnel is
abbrev pub EarlyTurnsStay : Type 0
EarlyTurnsStay =
    (role : Role) (letters : List Letter) (calls : List (ℕ × Call)) (t : Turn) → is_before t.on.moment (due_of t.on.mode t.control calls) ≡ true
    → ticks role letters calls t ≡ t

-- and so does the part of it that looks at the tunnel's calls, before any of them is due
abbrev pub EarlyCallsStay : Type 0
EarlyCallsStay =
    (role : Role) (letters : List Letter) (sessions : List ℕ) (calls : List (ℕ × Call)) (t : Turn) → is_before t.on.moment (calls_due calls) ≡ true
    → limits_all role letters sessions calls t ≡ t

-- before its recovery tunnel is due, that one and the turn beside it stay
abbrev pub EarlyRecoveriesStay : Type 0
EarlyRecoveriesStay =
    (calls : List (ℕ × Call)) (recovery : Option Recovering) (t : Turn) → is_before t.on.moment (recovery_due recovery) ≡ true
    → recovery_ticks calls recovery t ≡ record { turn = t; recovery = recovery }

-- Of the tick of an end those tunnels may be left out that aren't due, whichever others are: its tunnels ascend by their ids, as those of
-- each end do.
abbrev pub TunnelsMayBeLeftOut : Type 0
TunnelsMayBeLeftOut =
    (e : End) → Ascends e.tunnels → (moment : ℕ) (block : List ℕ) (ids : List ℕ) → LeavesOut (IsEarly e.tunnels moment) (ids_of e.tunnels) ids
    → let env = env_of e moment block in ticks_all e env ≡ after_all (ticks_of e env ids) e

-- the step of an end in which nothing is done
abbrev pub nothing_done : End → Stepped
nothing_done e = record { end = e; outputs = []; moves = [] }

-- so before the end is due, its tick does nothing
abbrev pub EarlyTicksDoNothing : Type 0
EarlyTicksDoNothing =
    (e : End) → Ascends e.tunnels → (moment : ℕ) (block : List ℕ) → is_before moment (end_due e) ≡ true
    → ticks_all e (env_of e moment block) ≡ nothing_done e

abbrev pub EarlyStepsDoNothing : Type 0
EarlyStepsDoNothing =
    (e : End) → Ascends e.tunnels → (moment : ℕ) (block : List ℕ) → is_before moment (end_due e) ≡ true
    → plain_step e moment block Tick ≡ nothing_done e

-- ---- from then on

-- the outputs and the moves of a turn
abbrev pub count_done : Turn → ℕ
count_done t = length t.outputs + length t.moves

-- A call that is being set up is ended by its end's table where it is closed. So is each one in a state that calls of this end come to: those
-- of a LAC aren't in wait-connect, and those of an LNS neither in wait-tunnel nor in wait-reply.
abbrev pub CanEnd : Role → Call → Type 0
CanEnd role c = is_set_up c.state ≡ true → (is_told (row_for role c Close).1 || is_clean_up (row_for role c Close).1) ≡ true

abbrev pub CallsCanEnd : Role → List (ℕ × Call) → Type 0
CallsCanEnd role calls = (s : ℕ) (c : Call) → at calls s ≡ Some c → CanEnd role c

-- the turn of a tunnel whose calls ascend gives more outputs or moves
abbrev pub DueTurnsAct : Type 0
DueTurnsAct =
    (role : Role) (letters : List Letter) (calls : List (ℕ × Call)) (t : Turn) → Ascends calls → CallsCanEnd role calls
    → is_before t.on.moment (due_of t.on.mode t.control calls) ≡ false → count_done t < count_done (ticks role letters calls t)

-- and so does that of its recovery tunnel, where the tunnel wasn't removed before it
abbrev pub DueRecoveriesAct : Type 0
DueRecoveriesAct =
    (calls : List (ℕ × Call)) (recovery : Option Recovering) (t : Turn) → t.cleared ≡ false
    → is_before t.on.moment (recovery_due recovery) ≡ false → count_done t < count_done (recovery_ticks calls recovery t).turn

-- the tick of an end gives an output or makes a move
abbrev pub DueTicksAct : Type 0
DueTicksAct =
    (e : End) → Ascends e.tunnels → ((i : ℕ) (t : Tunnel) → at e.tunnels i ≡ Some t → Ascends t.calls × CallsCanEnd e.role t.calls)
    → (moment : ℕ) (block : List ℕ) → is_before moment (end_due e) ≡ false
    → let s = ticks_all e (env_of e moment block) in 0 < length s.outputs + length s.moves

-- ---- how it moves

-- with one tunnel put, it is the earlier of that tunnel's and that of the others
abbrev pub PutsMoveDue : Type 0
PutsMoveDue =
    (tunnels : List (ℕ × Tunnel)) → Ascends tunnels → (i : ℕ) (t : Tunnel)
    → tunnels_due (put tunnels i t) ≡ earlier (tunnel_due t) (tunnels_due (without tunnels i))

-- so it is after a turn, which leaves its tunnel with a recovery tunnel or without one, or removes it
abbrev pub TurnsMoveDue : Type 0
TurnsMoveDue =
    (e : End) → Ascends e.tunnels → (i : ℕ) (letters : List Letter) (calls : List (ℕ × Call)) (recovery : Option Recovering) (t : Turn)
    → let others = tunnels_due (without e.tunnels i) in
    end_due (after_turn e i letters calls recovery t).end
    ≡ (if t.cleared then others else earlier (tunnel_due (tunnel_after t letters calls recovery)) others)

-- A bound of an end is one still after a turn where it is a bound of what the turn changed. So neither the tunnel's other calls nor other
-- tunnels have to be looked at.
pub record KeepBounds (e : End) (bound : ℕ) : Type 0 where
  pub early : (moment : ℕ) → moment < bound → is_before moment (end_due e) ≡ true
  pub turn : (i : ℕ) (t : Tunnel) → at e.tunnels i ≡ Some t → (r : RecoveryTurn) → IsNoLater bound (changed_due r)
      → IsNoLater bound (end_due (after_both e i t r).end)
  pub new : (i : ℕ) (r : RecoveryTurn) → IsNoLater bound (changed_due r)
      → IsNoLater bound (end_due (after_turn e i [] [] r.recovery r.turn).end)

abbrev pub BoundsStay : Type 0
BoundsStay = (e : End) (bound : ℕ) → IsNoLater bound (end_due e) → KeepBounds e bound
