-- What the answer of a LAC's step says of strangers.
use Rattle.std.specs.Prelude.{ℕ, ◌≡◌, List, None, Result, Ok, Err}
use Rattle.end_model.specs.declared.event.Event.{Event}
use Rattle.end_model.specs.declared.event.Event.TheVariants.{Datagram}
use Rattle.end_model.specs.Access.{Concentrator}
use Rattle.stranger_steps.specs.Strangers.{StepKeepsFromStrangers}
use Rattle.lac_core.specs.declared.LacGiven.{LacGiven}

-- on a datagram, whoever sent it, a LAC holds the hosts that it held, and answers none
abbrev pub KeepsHosts : Event → Concentrator → LacGiven → Concentrator → Type 0
KeepsHosts ev old g new = (peer : ℕ) (bytes : List ℕ) → ev ≡ Datagram peer bytes → (new.access ≡ old.access) × (g.reply ≡ None)

-- and on a stranger's its end changes nothing of what is there; or the LAC is as before, where the step wasn't made
abbrev pub KeepsFromStrangers : {F : Type 0} → Result LacGiven F → Event → Concentrator → Concentrator → Type 0
KeepsFromStrangers (Ok g) ev old new =
    StepKeepsFromStrangers ev old.end (record { end = new.end; outputs = g.outputs; moves = g.moves }) × KeepsHosts ev old g new
KeepsFromStrangers (Err e) ev old new = new ≡ old
