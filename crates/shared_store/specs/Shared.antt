-- What the tunnels of an end share.
use Rattle.std.specs.Prelude.{Option}
use Rattle.end_model.specs.Tunnels.{Drawing}
use Rattle.end_model.specs.declared.tunnel.Config.{Config}
use Rattle.end_store.specs.Stored.{Stored}
use Rattle.step_hub.specs.declared.stop.Stop.{Stop}

pub record Shared : Type 0 where
  -- what the end was told when it was made
  pub told : Config
  -- where its tunnels draw their numbers from
  pub spaces : Drawing
  pub store : Stored
  -- why nothing is committed any more
  pub stop : Option Stop
