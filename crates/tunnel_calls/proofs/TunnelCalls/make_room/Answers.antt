use Rattle.tunnel_calls.specs.Remotes.{remotes_of}
use Rattle.tunnel_calls.proofs.TunnelCalls.make_room.Goals as goal

pub invariant_of-self : goal.invariant_of-self
invariant_of-self c = (
  c.self.invariant.0,
  c.self.invariant.1,
  c.self.invariant.2,
  c.make_key.ensures (remotes_of c.self.inside.table.entries) c.self.invariant.3,
  c.self.invariant.4,
  c.self.invariant.5,
)

pub invariant_of-self-2 : goal.invariant_of-self-2
invariant_of-self-2 c =
    rw c.make_room.ensures.entries (
      c.self.invariant.0,
      c.self.invariant.1,
      c.self.invariant.2,
      c.make_key.ensures (remotes_of c.self.inside.table.entries) c.self.invariant.3,
      c.self.invariant.4,
      c.self.invariant.5,
    )
