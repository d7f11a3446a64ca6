-- An end that was taken apart.
use Rattle.std.specs.Prelude.{◌≡◌, ◌≤◌, map}
use Rattle.end_model.specs.End.{End, drawing_of}
use Rattle.tunnel_table.specs.Apart.{tunnels_in}
use Rattle.end_core.specs.declared.apart.EndParts.{EndParts}

pub record IsApart (e : End) (p : EndParts) : Type 0 where
  -- its tunnels with their calls, in the order of their ids
  pub cores : tunnels_in p.cores ≡ map (λ t. t.1) e.tunnels
  -- where it draws its numbers from, of which tunnel ids and session ids have 16 bits
  pub spaces : p.spaces ≡ drawing_of e
  pub tunnels : p.spaces.tunnels.last ≤ 65535
  pub sessions : p.spaces.sessions.last ≤ 65535
  -- what it was told when it was made
  pub config : p.config ≡ e.config
