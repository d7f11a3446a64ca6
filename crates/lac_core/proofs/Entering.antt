-- The answers that are written before a step are those that its end asks for.
use Rattle.std.proofs.Common.{rules, refl, ap, sym, ◌∙◌}
use Rattle.std.specs.Prelude.{ℕ, ◌≡◌, List, [], ◌∷◌, find, Bool, true, false, if◌then◌else◌, Option, Some, None, is_some, Result, Ok, Err}
use Rattle.id_table.specs.Ids.{at}
use Rattle.id_source.specs.Spaces.{takes_id}
use Rattle.id_source.specs.declared.IdError.{IdError}
use Rattle.wire_base.specs.declared.cause.Cause.{Cause}
use Rattle.pppoe_discovery.specs.declared.outcome.Discovered.{Discovered}
use Rattle.pppoe_discovery.specs.Told.{pads_to}
use Rattle.end_model.specs.declared.out.Out.{Out}
use Rattle.end_model.specs.declared.out.Out.TheVariants.{Send, Up, Gone, Drop, Cause as Refused}
use Rattle.end_model.specs.Access.{Concentrator, Served, refusal_in, ring_cause, live_in, session_got, pads_for, pads_of, with_host, entered, of_step, admits}
use Rattle.end_model.specs.End.{End, Stepped}
use Rattle.end_names.specs.Names.{mac_of}
use Rattle.end_core.specs.Sessions.{drawn, next_session}
use Rattle.lac_core.specs.declared.answers.Refusals.{Refusals}
use Rattle.lac_core.specs.Entering.{AreRefusals, answer_by, frame_for, is_refused, live_at, refusal_by}

-- the first output that tells a cause decides
pub refusal_found : (os : List Out) → refusal_in os ≡ refusal_by (find is_refused os)
unfolding refusal_in
refusal_found [] = refl
refusal_found (Refused c ∷ os) = refl
refusal_found (Send peer bytes origin ∷ os) = refusal_found os
refusal_found (Up session side frame ∷ os) = refusal_found os
refusal_found (Gone session ∷ os) = refusal_found os
refusal_found (Drop why ∷ os) = refusal_found os

module _ (mac : List ℕ) (asked : Discovered) (r : Refusals) (are : AreRefusals mac asked r) where
  frame_is : (c : Cause) → frame_for r (ring_cause c) ≡ pads_to mac asked 0 (Some (ring_cause c))
  frame_is c = search (rules, are.tunnels, are.calls, are.queue, are.recovering, are.ids)

  refused : (os : List Out) → frame_for r (refusal_in os) ≡ pads_to mac asked 0 (Some (refusal_in os))
  unfolding refusal_in
  refused [] = are.ids
  refused (Refused c ∷ os) = frame_is c
  refused (Send peer bytes origin ∷ os) = refused os
  refused (Up session side frame ∷ os) = refused os
  refused (Gone session ∷ os) = refused os
  refused (Drop why ∷ os) = refused os

-- what is live of what was drawn
live_drawn : (e : End) (r : Result ℕ IdError) → live_in e r ≡ live_at e (drawn r)
live_drawn e (Ok s) = refl
live_drawn e (Err x) = refl

got_is : (before : End) (s : Stepped) (next : Option ℕ) → next_session before.session_ids ≡ next → session_got before s ≡ live_at s.end next
unfolding next_session
got_is before s next is = live_drawn s.end (takes_id before.session_ids) ∙ ap (live_at s.end) is

module _ (l : Concentrator) (src : List ℕ) (uniq : Option (List ℕ)) (asked : Discovered) (s : Stepped) (r : Refusals) (mac : List ℕ)
    (own : mac ≡ mac_of l.end.config.number) (are : AreRefusals mac asked r) where
  abbrev by_got : Option ℕ → Served
  by_got got = of_step (with_host l.access src uniq got) (Some (pads_for l.end asked s.outputs got)) s

  admits_by : (got : Option ℕ) → session_got l.end s ≡ got → admits l src uniq asked s ≡ by_got got
  unfolding admits entered pads_of
  admits_by got is = ap by_got is

  refusal_is : frame_for r (refusal_in s.outputs) ≡ pads_to (mac_of l.end.config.number) asked 0 (Some (refusal_in s.outputs))
  refusal_is = refused mac asked r are s.outputs ∙ ap (λ m. pads_to m asked 0 (Some (refusal_in s.outputs))) own

  pub admits_without : next_session l.end.session_ids ≡ None
      → admits l src uniq asked s ≡ of_step l.access (Some (answer_by [] r s.outputs None)) s
  admits_without is = admits_by None (got_is l.end s None is) ∙ ap (λ f. of_step l.access (Some f) s) (sym refusal_is)

  with_by : (session : ℕ) (pads : List ℕ) → pads ≡ pads_to mac asked session None
      → (live : Bool) → pads_for l.end asked s.outputs (if live then Some session else None) ≡ answer_by pads r s.outputs (if live then Some session else None)
  with_by session pads told true = sym (told ∙ ap (λ m. pads_to m asked session None) own)
  with_by session pads told false = sym refusal_is

  pub admits_with : (session : ℕ) (pads : List ℕ) → next_session l.end.session_ids ≡ Some session → pads ≡ pads_to mac asked session None
      → admits l src uniq asked s
      ≡ of_step (with_host l.access src uniq (live_at s.end (Some session))) (Some (answer_by pads r s.outputs (live_at s.end (Some session)))) s
  admits_with session pads is told = admits_by (live_at s.end (Some session)) (got_is l.end s (Some session) is)
      ∙ ap (λ f. of_step (with_host l.access src uniq (live_at s.end (Some session))) (Some f) s) (with_by session pads told (is_some (at s.end.calls session)))
