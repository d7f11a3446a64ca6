-- A tunnel as its code keeps it, and what a step of it is about to change.
use Rattle.std.specs.Prelude.{◌≡◌, ℕ, ◌<◌, ◌≤◌, Bool, List, ◌++◌, drop, length, Option, unwrap_or}
use Rattle.std.specs.List.{AllByRecursion}
use Rattle.id_table.specs.Tables.{Kept, HasRoom}
use Rattle.wire_base.specs.declared.letter.Letter.{Letter}
use Rattle.send_window.specs.Queue.{Queue}
use Rattle.end_model.specs.declared.tunnel.Call.{Call}
use Rattle.end_model.specs.declared.tunnel.Control.{Control}
use Rattle.end_names.specs.declared.role.Role.{Role}
use Rattle.end_model.specs.declared.tunnel.Config.{Config}
use Rattle.end_model.specs.Tunnels.{Tunnel, Turn, Recovering, Asking, new_tunnel}
use Rattle.end_model.specs.Events.{with_calls}
use Rattle.end_model.specs.Recovering.{RecoveryTurn, recovering_turns, hears_recovery, froze}
use Rattle.end_model.specs.Starting.{restores}
use Rattle.tunnel_core.specs.declared.task.Task.{Task}
use Rattle.tunnel_core.specs.declared.task.Task.TheVariants as task

pub record Core : Type 0 where
  pub control : Control
  -- the letters that aren't acknowledged, with the room that was made for more
  pub letters : Queue
  -- the calls, with the room that was made for more
  pub calls : Kept Call
  pub recovery : Option Recovering
  pub query : Asking

abbrev pub tunnel_of : Core → Tunnel
tunnel_of c = record (new_tunnel c.control) { letters = c.letters.letters; calls = c.calls.entries; recovery = c.recovery; query = c.query }

pub record Plan : Type 0 where
  pub control : Control
  pub query : Asking
  pub acked : ℕ
  pub given : List Letter
  pub cleared : Bool
  pub changed : List (ℕ × Option Call)
  pub added : List ℕ
  -- what its recovery tunnel becomes, where the step is about that
  pub recovery : Option (Option Recovering)

-- the recovery tunnel after a plan of a tunnel that had this one
abbrev pub recovery_after : Plan → Option Recovering → Option Recovering
recovery_after p before = unwrap_or p.recovery before

-- the plan of a tunnel with this recovery tunnel has what a turn leads to
pub record IsTurn (p : Plan) (before : Option Recovering) (t : RecoveryTurn) : Type 0 where
  pub control : p.control ≡ t.turn.control
  pub query : p.query ≡ t.turn.query
  pub acked : p.acked ≡ t.turn.acked
  pub given : p.given ≡ t.turn.given
  pub cleared : p.cleared ≡ t.turn.cleared
  pub changed : p.changed ≡ t.turn.changed
  pub added : p.added ≡ t.turn.added
  pub recovery : recovery_after p before ≡ t.recovery

-- a turn beside which the recovery tunnel stays
abbrev pub beside : Option Recovering → Turn → RecoveryTurn
beside recovery t = record { turn = t; recovery = recovery }

-- what a tunnel does in a step about this
abbrev pub task_turn : Role → Config → Tunnel → Task → Turn → RecoveryTurn
task_turn role c t (task.Event ev) u = recovering_turns role c t ev.now u
task_turn role c t (task.Recovery header body) u = hears_recovery c t.letters t.calls header.now body.now t.recovery u
task_turn role c t (task.Freeze opening local draw) u = froze role c t.calls opening.now local draw u
task_turn role c t (task.Restore tunnel calls local draw) u = restores role c calls.now tunnel.now local draw u

-- the id that a step drew for a recovery tunnel isn't 0
abbrev pub HasId : Task → Type 0
HasId (task.Freeze opening local draw) = 0 < local
HasId (task.Restore tunnel calls local draw) = 0 < local
HasId t = Unit {0}

-- there is room for each of these calls
abbrev pub AllHaveRoom : Kept Call → List (ℕ × Option Call) → Type 0
AllHaveRoom kept calls = AllByRecursion (λ c. HasRoom kept c.0) calls

-- a tunnel after what was planned for it
abbrev pub made_of : Plan → Tunnel → Tunnel
made_of p t = record t {
  control = p.control;
  letters = drop p.acked t.letters ++ p.given;
  calls = with_calls p.changed t.calls;
  recovery = recovery_after p t.recovery;
  query = p.query;
}

-- there is room for the calls and the letters of a plan
pub record HasRoomFor (c : Core) (p : Plan) : Type 0 where
  pub calls : AllHaveRoom c.calls p.changed
  pub letters : length p.given ≤ c.letters.spare
