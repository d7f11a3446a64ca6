-- What is planned for a tunnel of a table, and then made.
use Rattle.std.specs.Prelude.{◌≡◌, ℕ, List, Option, Some, None, IfSome}
use Rattle.id_table.specs.Ids.{at}
use Rattle.id_table.specs.Tables.{Kept}
use Rattle.end_model.specs.declared.tunnel.Config.{Config}
use Rattle.end_names.specs.declared.role.Role.{Role}
use Rattle.end_model.specs.Tunnels.{Tunnel, Env, turn_in}
use Rattle.end_model.specs.Turn.{with_turn}
use Rattle.end_model.specs.Recovering.{RecoveryTurn}
use Rattle.end_model.specs.End.{tunnels_after}
use Rattle.tunnel_core.specs.declared.task.Task.{Task}
use Rattle.tunnel_core.specs.Cores.{Core, Plan, IsTurn, HasRoomFor, made_of, task_turn}

-- the turn of a tunnel about this
abbrev pub turn_at : Role → Config → Task → Env → Tunnel → RecoveryTurn
turn_at role c task env t = task_turn role c t task (turn_in t env)

-- the plan has what that leads to at this tunnel
abbrev pub IsPlanned : Role → Config → Task → Env → Option Tunnel → Plan → Type 0
IsPlanned role c task env o p = IfSome o (λ t. IsTurn p t.recovery (turn_at role c task env t))

-- and this took in what it gave
abbrev pub IsGiven : Role → Config → Task → Env → Option Tunnel → Env → Type 0
IsGiven role c task env o later = IfSome o (λ t. later ≡ with_turn (turn_at role c task env t).turn env)

-- there is a tunnel with the plan's id, and in it room for what is planned
pub record HasPlace (kept : Kept Core) (p : ℕ × Plan) : Type 0 where
  pub core : Core
  pub there : at kept.entries p.0 ≡ Some core
  pub room : HasRoomFor core p.1

-- the tunnels after a plan was made
abbrev pub after_plan : List (ℕ × Tunnel) → ℕ × Plan → Option Tunnel → List (ℕ × Tunnel)
after_plan ts p None = ts
after_plan ts p (Some t) = tunnels_after ts p.0 p.1.cleared (made_of p.1 t)
