-- A step of the definitions keeps an LNS from strangers.
use Rattle.std.proofs.Common.{◌≡◌, ℕ, List, Result, Ok, Err, subst}
use Rattle.end_core.specs.declared.end.Given.{Given}
use Rattle.end_core.specs.Gives.{GivesStep}
use Rattle.end_model.specs.declared.event.Event.{Event}
use Rattle.end_model.specs.End.{End, step}
use Rattle.stranger_steps.specs.Strangers.{StepKeepsFromStrangers}
use Rattle.stranger_steps.proofs.Strangers.{strangers_change_nothing}
use Rattle.lns_core.specs.Strangers.{KeepsFromStrangers}

pub keeps_from_strangers : {F : Type 0} (r : Result Given F) (old new : End) (moment : ℕ) (block : List ℕ) (ev : Event)
    → GivesStep r (step old moment block ev) old new → KeepsFromStrangers r ev old new
keeps_from_strangers (Ok g) old new moment block ev is = subst (StepKeepsFromStrangers ev old) is (strangers_change_nothing old moment block ev)
keeps_from_strangers (Err e) old new moment block ev is = is
