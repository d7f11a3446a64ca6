-- What a frame is to a LAC, once it is known which calls are live.
use Rattle.std.specs.Prelude.{⊤, ℕ, Option, is_some}
use Rattle.id_table.specs.Ids.{at}
use Rattle.wire_base.specs.declared.why.Why.TheVariants as why
use Rattle.pppoe_discovery.specs.declared.outcome.Discovered.{Discovered}
use Rattle.pppoe_discovery.specs.declared.outcome.Discovered.TheVariants.{Admit}
use Rattle.pppoe_discovery.specs.Told.{IsAdmission}
use Rattle.end_model.specs.End.{End}
use Rattle.end_model.specs.Access.{Access, Coming, Ignores, Answers, of_call, wants_call}
use Rattle.host_frames.specs.declared.reading.HostFrame.{HostFrame}
use Rattle.host_frames.specs.declared.reading.HostFrame.TheVariants.{Ignored, Answered, InCall, Wants}

-- a host that was admitted wants a call, or gets again that of its first PADR, where it is live
abbrev pub wanted : Access → End → Discovered → Option ℕ → Coming
wanted a e (Admit src service uniq relay) before = wants_call a e src uniq (Admit src service uniq relay) before
wanted a e other before = Ignores why.Call

abbrev pub came : Access → End → HostFrame → Coming
came a e (Ignored word) = Ignores word
came a e (Answered because frame) = Answers because frame
came a e (InCall session is ev) = of_call (is_some (at e.calls session)) is ev
came a e (Wants asked before) = wanted a e asked before

-- what wants a call is an admission
abbrev pub IsAnswerable : HostFrame → Type 0
IsAnswerable (Wants asked before) = IsAdmission asked
IsAnswerable other = ⊤
