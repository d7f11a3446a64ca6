-- What the answer of a step says of strangers.
use Rattle.std.specs.Prelude.{◌≡◌, Result, Ok, Err}
use Rattle.end_core.specs.declared.end.Given.{Given}
use Rattle.end_model.specs.declared.event.Event.{Event}
use Rattle.end_model.specs.End.{End}
use Rattle.stranger_steps.specs.Strangers.{StepKeepsFromStrangers}

-- on a stranger's datagram the LNS changes nothing of what is there, or it is as before, where the step wasn't made
abbrev pub KeepsFromStrangers : {F : Type 0} → Result Given F → Event → End → End → Type 0
KeepsFromStrangers (Ok g) ev old new = StepKeepsFromStrangers ev old (record { end = new; outputs = g.outputs; moves = g.moves })
KeepsFromStrangers (Err e) ev old new = new ≡ old
