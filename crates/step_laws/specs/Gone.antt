-- Which calls a step tells as gone: each that had its place before the step and has none after it, once, and no other.
use Rattle.std.specs.Prelude.{◌≡◌, ℕ, true, List, [], ◌∷◌, None, is_some}
use Rattle.std.specs.List.{flat_map, AllPairs}
use Rattle.id_table.specs.Ids.{at}
use Rattle.end_model.specs.declared.event.Event.{Event}
use Rattle.end_model.specs.declared.out.Out.{Out}
use Rattle.end_model.specs.declared.out.Out.TheVariants.{Gone}
use Rattle.end_model.specs.End.{End, Stepped, plain_step}
use Rattle.step_laws.specs.Letters.{Among}
use Rattle.step_laws.specs.Looks.{LooksAreTrue}
use Rattle.step_laws.specs.Steps.{AreKept}

-- the session that an output tells as gone, if it tells one
abbrev pub gone_of_output : Out → List ℕ
gone_of_output (Gone session) = session ∷ []
gone_of_output o = []

-- the sessions that outputs tell as gone, in order
abbrev pub gone_in : List Out → List ℕ
gone_in outs = flat_map gone_of_output outs

-- what a step of an end tells as gone
pub record GoesOnce (e : End) (s : Stepped) : Type 0 where
  -- no session twice
  pub once : AllPairs (λ before after. before ≡ after → ⊥) (gone_in s.outputs)
  -- each had its place before the step, and has none after it
  pub had : (q : ℕ) → Among q (gone_in s.outputs) → is_some (at e.calls q) ≡ true
  pub left : (q : ℕ) → Among q (gone_in s.outputs) → at s.end.calls q ≡ None
  -- and each that had one and has none is told
  pub told : (q : ℕ) → is_some (at e.calls q) ≡ true → at s.end.calls q ≡ None → Among q (gone_in s.outputs)

-- each step of an end whose tunnels are kept, and whose looks are true
abbrev pub CallsGoOnce : Type 0
CallsGoOnce =
    (e : End) → AreKept e → LooksAreTrue e → (moment : ℕ) (block : List ℕ) (ev : Event) → GoesOnce e (plain_step e moment block ev)
