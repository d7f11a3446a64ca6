-- A hub that nothing is drawn from, and nothing committed to.
use Rattle.id_source.specs.Spaces.{new_space}
use Rattle.end_model.specs.Tunnels.{Drawing}

-- spaces of which nothing was drawn
abbrev pub undrawn : Drawing
undrawn = record { tunnels = new_space 65535; sessions = new_space 65534; recoveries = new_space 4294967295 }
