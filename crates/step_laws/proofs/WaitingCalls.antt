-- Which calls wait for their tunnel, and what an end does while they do.
use Rattle.std.proofs.Common.{◌≡◌, ℕ, ◌<◌, true, refl, sym, ◌∙◌, arith}
use Rattle.tunnel_fsm.specs.declared.table.TunnelState.{TunnelState}
use Rattle.tunnel_fsm.specs.declared.table.TunnelState.TheVariants as state
use Rattle.tunnel_fsm.specs.declared.table.TunnelAction.TheVariants as action
use Rattle.tunnel_fsm.specs.declared.table.TunnelEvent.{TunnelEvent}
use Rattle.tunnel_fsm.specs.declared.table.TunnelEvent.TheVariants as event
use Rattle.tunnel_fsm.specs.Rows.{rows, row_of, state_number}
use Rattle.call_fsm.specs.declared.table.CallEvent.TheVariants as call_event
use Rattle.call_fsm.specs.declared.table.CallState.{CallState}
use Rattle.call_fsm.specs.declared.table.CallState.TheVariants as call
use Rattle.end_model.specs.declared.tunnel.Call.{Call}
use Rattle.end_names.specs.declared.role.Role.{Role}
use Rattle.end_names.specs.declared.role.Role.TheVariants.{Lac, Lns}
use Rattle.end_model.specs.Calls.{call_row, row_for, advanced, asked_for, is_request}
use Rattle.end_model.specs.Tunnels.{Turn}

-- ---- which calls wait

-- a call isn't asked for yet, and is to be as soon as its tunnel is open
pub record Waits (role : Role) (s : ℕ) (c : Call) : Type 0 where
  pub small : s < 65536
  pub row : is_request (row_for role c call_event.TunnelOpen).1 ≡ true

-- one in another state doesn't
pub other_state : (s n : CallState) → s ≡ n → (n ≡ call.WaitTunnel → ⊥) → s ≡ call.WaitTunnel → ⊥
other_state s n is other k = other (sym is ∙ k)

-- nor does one that the peer asked for
pub replied_state : (r : Role) (remote moment : ℕ) → (asked_for r remote moment).state ≡ call.WaitTunnel → ⊥
unfolding call_row asked_for advanced
replied_state Lac remote moment k = absurd cc
replied_state Lns remote moment k = absurd cc

-- a tunnel whose SCCRQ isn't answered yet stays so on each event on which it does nothing
pub opening_row : (s : TunnelState) → state_number s ≡ 1 → (on : TunnelEvent) → (row_of rows s on).1 ≡ action.Nothing
    → state_number (row_of rows s on).0 ≡ state_number s
opening_row state.Idle h on k = absurd (omega (arith, h))
opening_row state.WaitCtlConn h on k = absurd (omega (arith, h))
opening_row state.Established h on k = absurd (omega (arith, h))
opening_row state.Closed h on k = absurd (omega (arith, h))
opening_row state.WaitCtlReply h event.LocalOpen k = refl
opening_row state.WaitCtlReply h event.SccrqAcc k = absurd cc
opening_row state.WaitCtlReply h event.SccrqNotAcc k = absurd cc
opening_row state.WaitCtlReply h event.SccrpAcc k = absurd cc
opening_row state.WaitCtlReply h event.SccrpNotAcc k = absurd cc
opening_row state.WaitCtlReply h event.ScccnAcc k = absurd cc
opening_row state.WaitCtlReply h event.ScccnNotAcc k = absurd cc
opening_row state.WaitCtlReply h event.AdminClose k = absurd cc
opening_row state.WaitCtlReply h event.StopCcnCame k = absurd cc

-- the tunnel is no new one, or it is
abbrev pub Busy : Turn → Type 0
Busy t = state_number t.control.state ≡ 0 → ⊥

abbrev pub Idle : Turn → Type 0
Idle t = state_number t.control.state ≡ 0
