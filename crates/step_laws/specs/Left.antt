-- Which calls and tunnels a step leaves: after a tick none that took too long, and in an open tunnel no call that isn't asked for; and never
-- more than 1,024 tunnels.
use Rattle.std.specs.Prelude.{◌≡◌, ℕ, ◌+◌, ◌<◌, ◌≤◌, List, length, Some}
use Rattle.id_table.specs.Ids.{at}
use Rattle.tunnel_fsm.specs.Rows.{state_number}
use Rattle.call_fsm.specs.declared.table.CallState.{CallState}
use Rattle.call_fsm.specs.declared.table.CallState.TheVariants.{Idle, WaitTunnel, WaitReply, WaitConnect, Established}
use Rattle.end_model.specs.declared.event.Event.{Event}
use Rattle.end_model.specs.declared.event.Event.TheVariants.{Tick}
use Rattle.end_model.specs.declared.tunnel.Call.{Call}
use Rattle.end_model.specs.declared.tunnel.Config.{Config}
use Rattle.end_names.specs.declared.role.Role.{Role}
use Rattle.end_names.specs.declared.role.Role.TheVariants.{Lac, Lns}
use Rattle.end_model.specs.Tunnels.{Tunnel}
use Rattle.end_model.specs.End.{End, new_end, plain_step}
use Rattle.step_laws.specs.Failing.{HasFailed}
use Rattle.step_laws.specs.Steps.{AreKept}

-- no call that is there is idle, a LAC's doesn't wait to be connected, and an LNS's is made as it is asked for
abbrev pub CanBe : Role → CallState → Type 0
CanBe Lac Idle = ⊥
CanBe Lns Idle = ⊥
CanBe Lac WaitConnect = ⊥
CanBe Lns WaitTunnel = ⊥
CanBe Lns WaitReply = ⊥
CanBe r s = Unit {0}

-- the sessions of calls have 16 bits, and each call is in a state that a call of the end's role can be in
abbrev pub AreSound : End → Type 0
AreSound e =
    (i : ℕ) (t : Tunnel) → at e.tunnels i ≡ Some t → (s : ℕ) (c : Call) → at t.calls s ≡ Some c → (s < 65536) × CanBe e.role c.state

-- a call waits for its tunnel only where the tunnel's SCCRQ isn't answered yet
abbrev pub AreAsked : End → Type 0
AreAsked e =
    (i : ℕ) (t : Tunnel) → at e.tunnels i ≡ Some t → (state_number t.control.state ≡ 1 → ⊥) → (s : ℕ) (c : Call) → at t.calls s ≡ Some c
    → c.state ≡ WaitTunnel → ⊥

-- at a moment no call that isn't established entered its state 60 seconds ago or more
abbrev pub NoneIsLate : ℕ → End → Type 0
NoneIsLate moment e =
    (i : ℕ) (t : Tunnel) → at e.tunnels i ≡ Some t → (s : ℕ) (c : Call) → at t.calls s ≡ Some c → (c.state ≡ Established → ⊥)
    → c.since + 60000 ≤ moment → ⊥

-- and no tunnel is there that wasn't set up within 60 seconds, that was closed 31 seconds ago or more, or whose peer acknowledges nothing
abbrev pub NoneHasFailed : ℕ → End → Type 0
NoneHasFailed moment e = (i : ℕ) (t : Tunnel) → at e.tunnels i ≡ Some t → HasFailed moment t.control → ⊥

-- an end has 1,024 tunnels at most, the closed ones among them
abbrev pub AreFew : End → Type 0
AreFew e = length e.tunnels ≤ 1024

-- each step of an end whose tunnels are kept
abbrev pub CallsStaySound : Type 0
CallsStaySound = (e : End) → AreKept e → AreSound e → (moment : ℕ) (block : List ℕ) (ev : Event) → AreSound (plain_step e moment block ev).end

abbrev pub CallsAreAsked : Type 0
CallsAreAsked =
    (e : End) → AreKept e → AreSound e → AreAsked e → (moment : ℕ) (block : List ℕ) (ev : Event) → AreAsked (plain_step e moment block ev).end

-- and each tick
abbrev pub LateCallsEnd : Type 0
LateCallsEnd = (e : End) → AreKept e → AreSound e → (moment : ℕ) (block : List ℕ) → NoneIsLate moment (plain_step e moment block Tick).end

abbrev pub FailedTunnelsGo : Type 0
FailedTunnelsGo = (e : End) → AreKept e → (moment : ℕ) (block : List ℕ) → NoneHasFailed moment (plain_step e moment block Tick).end

-- a new end has none, and each step leaves no more than there may be
abbrev pub TunnelsBeginFew : Type 0
TunnelsBeginFew = (r : Role) (c : Config) → AreFew (new_end r c)

abbrev pub TunnelsStayFew : Type 0
TunnelsStayFew = (e : End) → AreKept e → AreFew e → (moment : ℕ) (block : List ℕ) (ev : Event) → AreFew (plain_step e moment block ev).end
