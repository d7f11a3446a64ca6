-- What the answer of a step says.
use Rattle.std.specs.Prelude.{⊤, ◌≡◌, ◌==◌, ◌++◌, ℕ, List, Option, Some, None, Result, Ok, Err, if◌then◌else◌}
use Rattle.session_book.specs.declared.record.Record.{Record}
use Rattle.step_ledger.specs.declared.ledger.StepFault.{StepFault}
use Rattle.step_ledger.specs.Committing.{Commits}
use Rattle.step_records.specs.Leaving.{leaves}
use Rattle.end_names.specs.declared.role.Role.{Role}
use Rattle.end_model.specs.declared.event.Event.{Event}
use Rattle.end_model.specs.declared.tunnel.Config.{Config}
use Rattle.end_model.specs.Contents.{contents_of}
use Rattle.wire_base.specs.declared.why.Why.TheVariants as why
use Rattle.end_model.specs.declared.out.Out.TheVariants.{Drop}
use Rattle.end_model.specs.Tunnels.{Tunnel, Turn, Drawing, Env, turn_of}
use Rattle.end_model.specs.Turn.{with_turn}
use Rattle.end_model.specs.Events.{turns}
use Rattle.tunnel_table.specs.Cores.{Task}
use Rattle.tunnel_table.specs.Plans.{turn_at}
use Rattle.end_model.specs.End.{End, Stepped, gives_only, after_both}
use Rattle.end_core.specs.declared.end.Given.{Given}

-- the step is this: the next end with what it gave, or the end as before, where it wasn't made
abbrev pub GivesStep : {F : Type 0} → Result Given F → Stepped → End → End → Type 0
GivesStep (Ok g) s old new = s ≡ record { end = new; outputs = g.outputs; moves = g.moves }
GivesStep (Err e) s old new = new ≡ old

-- and all that it leaves was committed before it was made, or this is why not
abbrev pub CommitsStep : {L S : Type 0} → (L → List Record → Result ⊤ S → L → Type 0) → Result Given (StepFault S) → Stepped → End → L → L → Type 0
CommitsStep commits_to result s old before after = Commits commits_to result (contents_of old s) before after

-- a step behind what was given before it
abbrev pub behind_given : Given → Stepped → Stepped
behind_given g s = record s { outputs = g.outputs ++ s.outputs; moves = g.moves ++ s.moves }

-- what was given in this environment
abbrev pub given_in : Env → Given
given_in env = record { outputs = env.outputs; moves = env.moves }

-- what a step of a tunnel leaves that is this turn
abbrev pub turn_leaves : Env → Turn → List Record
turn_leaves env t = leaves env.ids (with_turn t env).ids (with_turn t env).moves

-- where an end draws from behind the first step of a tunnel that has this id, or has drawn none
abbrev pub drawn_first : ℕ → Drawing → Env → Drawing
drawn_first local before env = if local == 0 then before else env.ids

-- the first step of a tunnel that is new, and has no recovery tunnel
abbrev pub first_turn : Role → Config → Event → Env → Tunnel → Turn
first_turn role c ev env t = turns role c t.letters t.calls ev (turn_of t.control env)

-- what the first step of a tunnel leaves that is this turn
abbrev pub first_leaves : Env → Turn → List Record
first_leaves env t = leaves env.ids (drawn_first t.control.local env.ids (with_turn t env)) (with_turn t env).moves

-- what a step about this leaves for a tunnel that may be there
abbrev pub main_leaves : Role → Config → Task → Env → Option Tunnel → List Record
main_leaves role c task env None = leaves env.ids env.ids env.moves
main_leaves role c task env (Some t) = turn_leaves env (turn_at role c task env t).turn

-- a step of the tunnel with an id, if there is one, about this
abbrev pub in_task : End → Env → Task → ℕ → Option Tunnel → Stepped
in_task e env task i None = gives_only e (Drop why.Tunnel)
in_task e env task i (Some t) = after_both e i t (turn_at e.role e.config task env t)
