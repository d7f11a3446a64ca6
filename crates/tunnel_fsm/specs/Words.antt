-- The words of reports for the states of a tunnel, in ASCII.
use Rattle.std.specs.Prelude.{ℕ, List, codes}
use Rattle.tunnel_fsm.specs.declared.table.TunnelState.{TunnelState}
use Rattle.tunnel_fsm.specs.declared.table.TunnelState.TheVariants.{Idle, WaitCtlReply, WaitCtlConn, Established, Closed}

abbrev pub state_word : TunnelState → List ℕ
state_word Idle = codes "idle"
state_word WaitCtlReply = codes "wait-ctl-reply"
state_word WaitCtlConn = codes "wait-ctl-conn"
state_word Established = codes "established"
state_word Closed = codes "closed"
