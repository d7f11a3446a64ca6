-- Ends that agree hold the same established sessions.
use Rattle.std.specs.Prelude.{◌≡◌, ℕ, ◌^◌, ◌<◌, true, List, length, Some}
use Rattle.id_table.specs.Ids.{at}
use Rattle.schedule_text.specs.declared.line.Line.{Line}
use Rattle.schedule_text.specs.Grammar.{AreLines}
use Rattle.end_model.specs.declared.tunnel.Call.{Call}
use Rattle.end_names.specs.declared.role.Role.TheVariants.{Lac}
use Rattle.end_model.specs.Calls.{is_up}
use Rattle.end_model.specs.Tunnels.{Tunnel}
use Rattle.world_model.specs.World.{World, Node, birth_of}
use Rattle.world_model.specs.Run.{Run, run, partner_of, agree, session_count}
use Rattle.end_names.specs.Names.{node_of}
use Rattle.epoch_machine.specs.Worlds as machine
use Rattle.step_laws.specs.Calm.{AreCalm}
use Rattle.connection_laws.specs.Accounts.{account_of}
use Rattle.session_laws.specs.Joined.{AreJoined, BirthsJoined, RepliesJoined, MatesJoined, ends_of}

-- a tunnel has an established call of this session, which the other end knows by that one
pub record HoldsSession (t : Tunnel) (session remote : ℕ) : Type 0 where
  pub call : Call
  pub live : at t.calls session ≡ Some call
  pub up : is_up call.state ≡ true
  pub known : call.remote ≡ remote

-- a tunnel of a LAC and the one of an LNS that it has learned, which agree: both are established, and each took all that was
-- given to the other
pub record AgreeIn (w : World) (n i : ℕ) (t u : Tunnel) : Type 0 where
  pub node : Node
  pub is : at w.nodes n ≡ Some node
  pub lac : node.end.role ≡ Lac
  pub there : at node.end.tunnels i ≡ Some t
  pub partner : partner_of w.nodes t.control ≡ Some u
  pub all : agree n t.control u.control ≡ true

-- they hold the same established sessions, each under both of its ids and with one birth
pub record HoldTheSame (w : World) (n m : ℕ) (t u : Tunnel) : Type 0 where
  pub there : (session remote : ℕ) → HoldsSession t session remote → HoldsSession u remote session
  pub here : (session remote : ℕ) → HoldsSession u remote session → HoldsSession t session remote
  pub births : (session remote : ℕ) → HoldsSession t session remote → birth_of w n session ≡ birth_of w m remote
  -- as many as the report's line on the two tells
  pub count : session_count t.calls ≡ session_count u.calls

abbrev pub SessionsAgree : Run → Type 0
SessionsAgree r = (n i : ℕ) (t u : Tunnel) → AgreeIn r.world n i t u → HoldTheSame r.world n (node_of t.control.peer) t u

-- a run of the abstract machine is joined with the run
pub record IsJoined (r : Run) : Type 0 where
  pub machine : machine.World
  pub joined : AreJoined (account_of r.done) (ends_of r.world.nodes) machine
  pub births : BirthsJoined r.world (ends_of r.world.nodes) machine
  pub replies : RepliesJoined machine r.done
  pub mates : MatesJoined (account_of r.done) (ends_of r.world.nodes) machine

-- after the run of each list of lines of the grammar in which no node crashes, is to stop, or starts
abbrev pub JoinedInRuns : Type 0
JoinedInRuns = (lines : List Line) → AreLines lines → AreCalm lines → length lines < 2 ^ 47 → IsJoined (run lines)

abbrev pub SessionsOfRuns : Type 0
SessionsOfRuns = (lines : List Line) → AreLines lines → AreCalm lines → length lines < 2 ^ 47 → SessionsAgree (run lines)
