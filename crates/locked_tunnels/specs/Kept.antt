-- A tunnel as it stands behind its lock.
use Rattle.std.specs.Prelude.{List, Bool}
use Rattle.session_looks.specs.declared.look.CellChange.{CellChange}
use Rattle.end_names.specs.declared.role.Role.{Role}
use Rattle.end_model.specs.Tunnels.{Tunnel}
use Rattle.tunnel_core.specs.Cores.{Core, tunnel_of}

pub record Kept : Type 0 where
  -- which end it is of
  pub role : Role
  -- with the room that was made in it
  pub core : Core
  -- what its last turn changed in the looks
  pub changes : List CellChange
  -- whether its last turn removed it
  pub gone : Bool

-- what it stands for
pub record Known : Type 0 where
  pub role : Role
  pub tunnel : Tunnel
  pub changes : List CellChange
  pub gone : Bool

abbrev pub known : Kept → Known
known k = record { role = k.role; tunnel = tunnel_of k.core; changes = k.changes; gone = k.gone }
