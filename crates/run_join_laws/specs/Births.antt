-- The births of calls after every run, whatever crashed in it: a session of each end of a call has the birth of that call, and no other
-- session has it.
use Rattle.std.specs.Prelude.{◌≡◌, ℕ, ◌^◌, ◌<◌, true, List, length, Some}
use Rattle.id_table.specs.Ids.{at}
use Rattle.schedule_text.specs.declared.line.Line.{Line}
use Rattle.schedule_text.specs.Grammar.{AreLines}
use Rattle.end_names.specs.declared.role.Role.{Role}
use Rattle.end_names.specs.declared.role.Role.TheVariants.{Lac, Lns}
use Rattle.end_names.specs.Names.{node_of}
use Rattle.end_model.specs.declared.tunnel.Call.{Call}
use Rattle.end_model.specs.Tunnels.{Tunnel}
use Rattle.world_model.specs.World.{World, Node, birth_of}
use Rattle.world_model.specs.Run.{run}
use Rattle.epoch_machine.specs.Calls.{Calls}
use Rattle.epoch_machine.specs.Moves.{Move, after}
use Rattle.epoch_machine.specs.Worlds.{all_rules}

-- ---- of the machine

-- a name with a birth was drawn
abbrev pub AreDrawn : Calls → Type 0
AreDrawn c = (z : ℕ) → 0 < c.birth z → c.drawn z ≡ true

-- over every list of moves from the empty world, by all rules
abbrev pub BirthsAreDrawn : Type 0
BirthsAreDrawn = (ms : List Move) → AreDrawn (after all_rules ms).calls

-- ---- of runs

-- the session of an end of this role has this birth; births are counted from 1
pub record IsBornTo (w : World) (r : Role) (n session birth : ℕ) : Type 0 where
  pub node : Node
  pub is : at w.nodes n ≡ Some node
  pub role : node.end.role ≡ r
  pub birth_is : birth_of w n session ≡ birth
  pub some : 0 < birth

-- two sessions of LACs with one birth are one session, and so are two sessions of LNSs
abbrev pub AreOfOneCall : World → Type 0
AreOfOneCall w = (r : Role) (birth n session m other : ℕ) → IsBornTo w r n session birth → IsBornTo w r m other birth
    → (n ≡ m) × (session ≡ other)

abbrev pub BirthsAreOfOneCall : Type 0
BirthsAreOfOneCall = (lines : List Line) → AreLines lines → length lines < 2 ^ 47 → AreOfOneCall (run lines).world

-- ---- mates

abbrev pub other_role : Role → Role
other_role Lac = Lns
other_role Lns = Lac

-- a call of a tunnel of a node: the node at the other end is of the other kind, and the session there by which the call knows it has the
-- birth of the call
pub record KnowsItsMate (w : World) (n : ℕ) (node : Node) (t : Tunnel) (session : ℕ) (c : Call) : Type 0 where
  pub other : Node
  pub there : at w.nodes (node_of t.control.peer) ≡ Some other
  pub role : other.end.role ≡ other_role node.end.role
  pub birth : birth_of w (node_of t.control.peer) c.remote ≡ birth_of w n session
  pub some : 0 < birth_of w n session

-- each live call that knows the session of the other end
abbrev pub CallsKnowTheirMates : Type 0
CallsKnowTheirMates = (lines : List Line) → AreLines lines → length lines < 2 ^ 47
    → (n : ℕ) (node : Node) → at (run lines).world.nodes n ≡ Some node → (i : ℕ) (t : Tunnel) → at node.end.tunnels i ≡ Some t
    → (session : ℕ) (c : Call) → at t.calls session ≡ Some c → 0 < c.remote → KnowsItsMate (run lines).world n node t session c
