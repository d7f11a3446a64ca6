-- The answers to a host that wants a call, which are written before it is known which of them is given.
use Rattle.std.specs.Prelude.{ℕ, ◌≡◌, List, Bool, true, false, if◌then◌else◌, Option, Some, None, is_some}
use Rattle.id_table.specs.Ids.{at}
use Rattle.wire_base.specs.declared.cause.Cause.{Cause}
use Rattle.wire_base.specs.declared.cause.Cause.TheVariants as cause
use Rattle.pppoe_session.specs.declared.Subscriber.{Subscriber}
use Rattle.pppoe_session.specs.Subscribers.{dropped}
use Rattle.pppoe_discovery.specs.declared.outcome.Discovered.{Discovered}
use Rattle.pppoe_discovery.specs.Told.{pads_to}
use Rattle.end_model.specs.declared.out.Out.{Out}
use Rattle.end_model.specs.declared.out.Out.TheVariants.{Cause as Refused}
use Rattle.end_model.specs.Access.{refusal_in, ring_cause}
use Rattle.end_model.specs.End.{End}
use Rattle.lac_core.specs.declared.answers.Refusals.{Refusals}

-- the session that is drawn next, where a call is live under it afterwards
abbrev pub live_at : End → Option ℕ → Option ℕ
live_at e None = None
live_at e (Some session) = if is_some (at e.calls session) then Some session else None

-- whether an output tells a cause, and the refusal for the first that does
abbrev pub is_refused : Out → Bool
is_refused (Refused c) = true
is_refused o = false

abbrev pub refusal_by : Option Out → Cause
refusal_by (Some (Refused c)) = ring_cause c
refusal_by other = cause.Ids

-- the frame that refuses for a cause
abbrev pub frame_for : Refusals → Cause → List ℕ
frame_for r cause.Tunnels = r.tunnels
frame_for r cause.Calls = r.calls
frame_for r cause.Queue = r.queue
frame_for r cause.Recovering = r.recovering
frame_for r other = r.ids

-- these refuse what is asked for
pub record AreRefusals (mac : List ℕ) (asked : Discovered) (r : Refusals) : Type 0 where
  pub tunnels : r.tunnels ≡ pads_to mac asked 0 (Some cause.Tunnels)
  pub calls : r.calls ≡ pads_to mac asked 0 (Some cause.Calls)
  pub queue : r.queue ≡ pads_to mac asked 0 (Some cause.Queue)
  pub recovering : r.recovering ≡ pads_to mac asked 0 (Some cause.Recovering)
  pub ids : r.ids ≡ pads_to mac asked 0 (Some cause.Ids)

-- the PADS where the host got a session, and else the refusal
abbrev pub answer_by : List ℕ → Refusals → List Out → Option ℕ → List ℕ
answer_by pads r outputs (Some session) = pads
answer_by pads r outputs None = frame_for r (refusal_in outputs)

-- without a session that was given for this, where it was
abbrev pub let_go : Bool → ℕ → List (ℕ × Subscriber) → List (ℕ × Subscriber)
let_go true session es = dropped es session
let_go false session es = es
