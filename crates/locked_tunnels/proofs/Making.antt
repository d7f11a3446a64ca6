-- A turn that was made of a tunnel by what was planned leaves it as that turn does.
use Rattle.std.proofs.Common.{◌≡◌, false, List, Option, Some, None, refl, sym, ap}
use Rattle.std.proofs.lemmas.List.{append-nil}
use Rattle.wire_base.specs.declared.letter.Letter.{Letter}
use Rattle.session_looks.specs.declared.look.CellChange.{CellChange}
use Rattle.end_model.specs.Tunnels.{Tunnel, Env, turn_in}
use Rattle.end_model.specs.Turn.{with_turn}
use Rattle.end_model.specs.Events.{with_calls}
use Rattle.end_model.specs.Recovering.{RecoveryTurn}
use Rattle.event_routing.specs.declared.answers.Given.{Given}
use Rattle.step_hub.specs.Hubs.{lent_env}
use Rattle.tunnel_core.specs.Cores.{Plan}
use Rattle.locked_tunnels.specs.Kept.{Known}
use Rattle.locked_tunnels.specs.Turns.{turned}
use Rattle.locked_tunnels.specs.Attempts.{gives_in}
use Rattle.locked_tunnels.specs.Kinds.{PlansTurn, made_by}

pub made_is : (planned : Option Plan) (changes : List CellChange) (k : Known) (r : RecoveryTurn) → PlansTurn planned k.tunnel r → k.gone ≡ false → changes ≡ r.turn.changes
    → made_by planned changes k ≡ turned r k
made_is (Some p) changes k r plans there same =
    rw (plans.control, plans.query, plans.acked, plans.given, plans.cleared, plans.changed, plans.recovery, same) refl
made_is None changes k r plans there same = rw (plans.0, plans.1, sym there, same) refl

-- a turn in which something is given, and nothing else is done, leaves the tunnel that very tunnel
pub gives_leaves : (g : Given) (t : Tunnel) (e : Env) → PlansTurn None t (gives_in g t.recovery (turn_in t e))
unfolding with_calls
gives_leaves g t e = (ap (λ (ls : List Letter). record t { letters = ls }) (append-nil t.letters), refl)

-- and what it works in has that, where nothing was given before
pub gives_so : (g : Given) (t : Tunnel) (e : Env) → e ≡ lent_env e.ids e.on.moment e.on.block
    → record e { outputs = g.outputs; moves = g.moves } ≡ with_turn (gives_in g t.recovery (turn_in t e)).turn e
unfolding with_turn
gives_so g t e is = rw (ap (λ (x : Env). x.outputs) is, ap (λ (x : Env). x.changes) is, ap (λ (x : Env). x.moves) is) refl
