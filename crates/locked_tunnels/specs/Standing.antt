-- What stands in the table of tunnels that threads share.
use Rattle.std.specs.Prelude.{◌≡◌, ℕ, is_some}
use Rattle.id_table.specs.Ids.{at}
use Rattle.id_table.specs.Tables.{Kept}
use Rattle.tunnel_listing.specs.Directory.{Directory}
use Rattle.locked_tunnels.specs.declared.table.Place.{Place}

pub record Standing : Type 0 where
  -- how the tunnels are listed
  pub directory : Directory
  -- each behind its lock
  pub places : Kept Place

-- the same tunnels are listed and stand behind locks
unfoldable pub AreSame : Directory → Kept Place → Type 0
AreSame d places = (i : ℕ) → is_some (at places.entries i) ≡ is_some (at d.places.entries i)
