-- When a tunnel has failed, or was kept long enough.
use Rattle.std.specs.Prelude.{◌≡◌, ◌⊎◌, ℕ, ◌+◌, ◌<◌, ◌≤◌, false}
use Rattle.control_channel.specs.Numbers.{Numbers}
use Rattle.tunnel_fsm.specs.declared.table.TunnelState.TheVariants as state
use Rattle.tunnel_fsm.specs.declared.table.TunnelState.TheVariants.{WaitCtlReply, WaitCtlConn}
use Rattle.end_model.specs.declared.tunnel.Control.{Control}

-- the oldest letter that isn't acknowledged was repeated five times, the last time 8 seconds ago or more
pub record IsGivenUp (moment : ℕ) (n : Numbers) : Type 0 where
  pub going : n.frozen ≡ false
  pub some : 0 < n.window.outstanding
  pub repeated : 5 ≤ n.window.repetitions
  pub over : n.window.since + 8000 ≤ moment

-- a tunnel that waits to be set up was made 60 seconds ago or more, a closed one was closed 31 seconds ago or more, or its peer
-- acknowledges nothing
pub data HasFailed (moment : ℕ) (c : Control) : Type 0 where
  IsNotSetUp : (c.state ≡ WaitCtlReply) ⊎ (c.state ≡ WaitCtlConn) → c.made + 60000 ≤ moment → HasFailed moment c
  WasClosed : c.state ≡ state.Closed → c.closed + 31000 ≤ moment → HasFailed moment c
  IsUnanswered : IsGivenUp moment c.channel → HasFailed moment c
