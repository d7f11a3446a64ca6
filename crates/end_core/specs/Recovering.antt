-- Attempts of peers at the recovery of a tunnel, by what counts of it.
use Rattle.std.specs.Prelude.{ℕ, not, nat_lt, if◌then◌else◌, Option, Some, None}
use Rattle.wire_base.specs.declared.why.Why.TheVariants as why
use Rattle.id_source.specs.Spaces.{takes_id}
use Rattle.control_message.specs.declared.message.Opening.{Opening}
use Rattle.end_names.specs.declared.role.Role.{Role}
use Rattle.end_model.specs.declared.out.Out.TheVariants.{Drop}
use Rattle.end_model.specs.Reasons.{no_recovery, no_secret}
use Rattle.end_model.specs.Secrets.{lacks_secret}
use Rattle.end_model.specs.Recovering.{asked_in}
use Rattle.end_model.specs.Tunnels.{Tunnel, Env}
use Rattle.end_model.specs.End.{End, Stepped, gives_only, declined, is_recoverable, is_tied, freezes}
use Rattle.end_core.specs.declared.recovering.Found.{Found}

abbrev pub found_at : Role → ℕ → ℕ → Tunnel → Found
found_at role peer sender t = record { recoverable = is_recoverable peer sender t; tied = is_tied role t; mark = t.control.mark }

-- it is answered
abbrev pub freezes_at : End → Env → ℕ → ℕ → Opening → ℕ → Option Tunnel → Stepped
freezes_at e env peer nr o i None = declined e peer o.tunnel nr no_recovery
freezes_at e env peer nr o i (Some t) = freezes e env peer nr o i t (takes_id env.ids.tunnels) (takes_id env.ids.recoveries)

abbrev pub recovers_found : End → Env → ℕ → ℕ → Opening → ℕ → Option Tunnel → Found → Stepped
recovers_found e env peer nr o i t f =
    if not f.recoverable then declined e peer o.tunnel nr no_recovery
    else if f.tied then gives_only e (Drop why.Tie)
    else if nat_lt (asked_in o) f.mark then gives_only e (Drop why.Mark)
    else if lacks_secret e.config.secret o.challenge then declined e peer o.tunnel nr no_secret
    else freezes_at e env peer nr o i t
