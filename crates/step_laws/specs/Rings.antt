-- What each ring comes to: a call that lives, or one cause of those for which rings are refused.
use Rattle.step_laws.specs.Callers.{IsRing}
use Rattle.std.specs.Prelude.{◌≡◌, ℕ, true, List, [], ◌∷◌, is_some, Ok}
use Rattle.id_table.specs.Ids.{at}
use Rattle.id_source.specs.Spaces.{takes_id}
use Rattle.wire_base.specs.declared.cause.Cause.{Cause as CauseOf}
use Rattle.wire_base.specs.declared.cause.Cause.TheVariants as cause
use Rattle.end_model.specs.declared.event.Event.{Event}
use Rattle.end_names.specs.declared.role.Role.TheVariants.{Lac}
use Rattle.end_model.specs.End.{End, Stepped, plain_step}
use Rattle.step_laws.specs.Answers.{causes_of}
use Rattle.step_laws.specs.Steps.{AreKept}

-- there may be no more tunnels, or no more calls in the tunnel; the tunnel has no room for letters; no id is left; or a tunnel is recovered
pub data IsRingCause : CauseOf → Type 0 where
  ForTunnels : IsRingCause cause.Tunnels
  ForCalls : IsRingCause cause.Calls
  ForRoom : IsRingCause cause.Queue
  ForIds : IsRingCause cause.Ids
  ForRecovery : IsRingCause cause.Recovering

-- a call of the session that is drawn lives after the step, and no cause is told; or one cause is told, and the calls are those that were
pub data RingComes (e : End) (s : Stepped) : Type 0 where
  ToCall : (session : ℕ) → takes_id e.session_ids ≡ Ok session → is_some (at s.end.calls session) ≡ true → causes_of s.outputs ≡ [] → RingComes e s
  ToCause : (c : CauseOf) → IsRingCause c → causes_of s.outputs ≡ c ∷ [] → s.end.calls ≡ e.calls → RingComes e s

-- so does each ring of a LAC whose tunnels are kept
abbrev pub RingsCome : Type 0
RingsCome = (e : End) → AreKept e → e.role ≡ Lac → (moment : ℕ) (block : List ℕ) (ev : Event) (who : List ℕ) → IsRing ev who
    → RingComes e (plain_step e moment block ev)
