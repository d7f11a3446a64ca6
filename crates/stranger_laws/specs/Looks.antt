-- Looks that are true fit the tunnels of their end.
use Rattle.end_model.specs.End.{End}
use Rattle.step_laws.specs.Looks.{LooksAreTrue}
use Rattle.stranger_steps.specs.Strangers.{LooksFitTunnels}

-- so what steps of ends say of strangers holds at first, and after each step and each start
abbrev pub TrueLooksFit : Type 0
TrueLooksFit = (e : End) → LooksAreTrue e → LooksFitTunnels e
