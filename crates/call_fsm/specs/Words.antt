-- The words of reports for the states of a call, in ASCII.
use Rattle.std.specs.Prelude.{ℕ, List, codes}
use Rattle.call_fsm.specs.declared.table.CallState.{CallState}
use Rattle.call_fsm.specs.declared.table.CallState.TheVariants.{Idle, WaitTunnel, WaitReply, WaitConnect, Established}

abbrev pub state_word : CallState → List ℕ
state_word Idle = codes "idle"
state_word WaitTunnel = codes "wait-tunnel"
state_word WaitReply = codes "wait-reply"
state_word WaitConnect = codes "wait-connect"
state_word Established = codes "established"
