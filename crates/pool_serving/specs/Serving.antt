-- What holds between what the calling thread of a pool holds, and what it holds later.
use Rattle.std.specs.Prelude.{◌+◌, ◌≡◌, ◌++◌, List, length, None}
use Rattle.worker_pool.specs.declared.pass.PoolPass.{PoolPass}
use Rattle.held_ports.specs.Around.{Around, PortCounts}
use Rattle.pool_turns.specs.Turns.{Put, RanTo}
use Rattle.pool_serving.specs.declared.serving.PoolServing.{PoolServing}
use Rattle.pool_serving.specs.Faults.{AreBlamed}
use Rattle.pool_giving.specs.Hosts.{KeepsTold}
use Rattle.pool_serving.specs.Handing.{puts_in}

module _ {P G : Type 0} (around : P → Around) (counts : P → PortCounts) where
  -- It holds the same ports and the same desk, and was told the same. Where nothing had stopped it before, it made the turns that it was told to make, or
  -- fewer where it stopped; what it took from the ports, and what it put, is that of these turns.
  pub record PoolServes (before after : PoolServing P G) : Type 0 where
    pub ports : after.ports.ghost_name ≡ before.ports.ghost_name
    pub desk : after.desk.ghost_name ≡ before.desk.ghost_name
    pub turns : after.turns ≡ before.turns
    pub opens : after.opens ≡ before.opens
    pub told : KeepsTold before.desk.now.hosts after.desk.now.hosts
    pub ps : List Put
    pub puts : after.desk.now.puts ≡ before.desk.now.puts + length ps
    pub blames : before.fault ≡ None → AreBlamed (counts before.ports.now) (counts after.ports.now) after.fault
    pub ran : before.fault ≡ None → RanTo after.fault before.opens before.turns ps (around before.ports.now) (around after.ports.now)

  -- What it put are the datagrams of these turns, in order, each once and at its moment: all that it took, unless it stopped.
  pub record ServesPutting (before after : PoolServing P G) (old new : PoolPass) : Type 0 where
    pub ps : List Put
    pub ran : RanTo after.fault before.opens before.turns ps (around before.ports.now) (around after.ports.now)
    pub puts : puts_in new ≡ puts_in old ++ ps
