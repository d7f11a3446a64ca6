-- How the tunnels, calls and letters of nodes are named in the abstract machine.
use Rattle.std.specs.Prelude.{ℕ, ◌+◌, ◌*◌, ◌==◌, if◌then◌else◌, Bool, true, false, Option, Some, None}
use Rattle.control_message.specs.declared.message.Message.{Message}
use Rattle.control_message.specs.declared.message.Message.TheVariants as message
use Rattle.tunnel_fsm.specs.declared.table.TunnelState.{TunnelState}
use Rattle.tunnel_fsm.specs.declared.table.TunnelState.TheVariants as tunnel
use Rattle.call_fsm.specs.declared.table.CallState.{CallState}
use Rattle.call_fsm.specs.declared.table.CallState.TheVariants as call
use Rattle.end_model.specs.Tunnels.{Tunnel}
use Rattle.step_laws.specs.Letters as step
use Rattle.epoch_machine.specs.Letters as machine
use Rattle.epoch_machine.specs.Tunnels.{Phase, Gone, WaitReply, WaitConnect, Open, Closed}
use Rattle.epoch_machine.specs.Calls as calls
use Rattle.connection_laws.specs.Accounts.{Part, Unmade, Opener, Acceptor, Account}

-- the name of a tunnel, or of a call, by its node and its local id, which has 16 bits
unfoldable pub name : ℕ → ℕ → ℕ
name n i = n * 65536 + i

-- where the id isn't known there is no name
abbrev pub name_of : ℕ → ℕ → ℕ
name_of n i = if i == 0 then 0 else name n i

-- the other end of a tunnel, as far as it is known
abbrev pub other_name : Account → ℕ
other_name a = name_of a.peer a.remote

-- an opener that is closed before it heeded a letter learns none: it gave up, or rejected the SCCRP that told it the id
abbrev pub is_early : Part → Option ℕ → Bool
is_early Unmade closed = false
is_early Acceptor closed = false
is_early Opener None = false
is_early Opener (Some count) = count == 0

-- the other end, as far as it was learned
abbrev pub learned_name : Account → ℕ
learned_name a = if is_early a.part a.closed then 0 else other_name a

-- a letter of a tunnel from one node to another, by the session id of its header and what it says. A CDN that ends no call of its
-- own end has no name for one. Messages that no end gives, and of which the machine knows nothing, say as little as a HELLO
abbrev pub spoken : ℕ → ℕ → ℕ → Message → machine.Letter
spoken n m header (message.Sccrq o) = machine.Sccrq
spoken n m header (message.Sccrp o) = machine.Sccrp
spoken n m header (message.Scccn response) = machine.Scccn
spoken n m header (message.StopCcn tunnel result error) = machine.StopCcn
spoken n m header message.Hello = machine.Hello
spoken n m header (message.Ocrq session) = machine.Hello
spoken n m header message.Ocrp = machine.Hello
spoken n m header message.Occn = machine.Hello
spoken n m header message.Wen = machine.Hello
spoken n m header message.Sli = machine.Hello
spoken n m header (message.Fsq sessions) = machine.Hello
spoken n m header (message.Fsr sessions) = machine.Hello
spoken n m header (message.Icrq session serial calling) = machine.Request (name n session)
spoken n m header (message.Icrp session) = machine.Reply (name n session) (name m header)
spoken n m header (message.Iccn speed framing sequenced) = machine.Connect (name m header)
spoken n m header (message.Cdn session result error) = machine.Cdn (name_of n session) (name_of m header)

abbrev pub letter_of : ℕ → ℕ → step.Letter → machine.Letter
letter_of n m l = spoken n m l.session l.message

-- ---- states

abbrev pub phase_of : TunnelState → Phase
phase_of tunnel.Idle = Gone
phase_of tunnel.WaitCtlReply = WaitReply
phase_of tunnel.WaitCtlConn = WaitConnect
phase_of tunnel.Established = Open
phase_of tunnel.Closed = Closed

-- of a tunnel that lives, or of none
abbrev pub phase_in : Option Tunnel → Phase
phase_in None = Gone
phase_in (Some t) = phase_of t.control.state

abbrev pub state_of : CallState → calls.CallState
state_of call.Idle = calls.NoCall
state_of call.WaitTunnel = calls.Waits
state_of call.WaitReply = calls.WaitsReply
state_of call.WaitConnect = calls.WaitsConnect
state_of call.Established = calls.Up

abbrev pub is_made : Part → Bool
is_made Unmade = false
is_made Opener = true
is_made Acceptor = true

abbrev pub is_opener : Part → Bool
is_opener Unmade = false
is_opener Opener = true
is_opener Acceptor = false
