-- Each call is asked for once, and each request is taken once: so no two calls of LNSs have one birth.
use Rattle.std.specs.Prelude.{◌≡◌, ℕ, ◌^◌, ◌<◌, List, length, slice_get, Option, Some}
use Rattle.id_table.specs.Ids.{at}
use Rattle.control_message.specs.declared.message.Message.TheVariants.{Icrq}
use Rattle.schedule_text.specs.declared.line.Line.{Line}
use Rattle.schedule_text.specs.Grammar.{AreLines}
use Rattle.end_model.specs.declared.moves.Replied.{Replied}
use Rattle.end_model.specs.declared.moves.Move.TheVariants as move
use Rattle.end_names.specs.declared.role.Role.TheVariants.{Lac, Lns}
use Rattle.world_model.specs.World.{World, Node, Deed}
use Rattle.world_model.specs.Run.{Run, run}
use Rattle.step_laws.specs.Calm.{AreCalm}
use Rattle.step_laws.specs.Letters.{Letter}
use Rattle.connection_laws.specs.Accounts.{Taken, account_of}

-- ---- requests

-- the letter with a number, of those given to a tunnel of a node, asks for the call of a session
pub record IsAskedAt (ds : List Deed) (n i number session : ℕ) : Type 0 where
  pub letter : Letter
  pub there : slice_get (account_of ds n i).given number ≡ Some letter
  pub serial : ℕ
  pub calling : Option (List ℕ)
  pub asks : letter.message ≡ Icrq session serial calling

-- a node asks for each of its calls once, in one tunnel
abbrev pub AreAskedOnce : List Deed → Type 0
AreAskedOnce ds = (n i number j other session : ℕ) → IsAskedAt ds n i number session → IsAskedAt ds n j other session → (i ≡ j) × (number ≡ other)

-- ---- calls that are made for requests

-- a tunnel of a node made a call for a request, which it took as the letter with a number
pub record IsMadeAt (ds : List Deed) (n i number : ℕ) (m : Replied) : Type 0 where
  pub taken : Taken
  pub there : slice_get (account_of ds n i).taken number ≡ Some taken
  pub replied : taken.move ≡ move.Replied m

-- for a request of one node one call is made: by one tunnel, which took it once
abbrev pub AreMadeOnce : List Deed → Type 0
AreMadeOnce ds = (n i number o j other : ℕ) (m k : Replied) → IsMadeAt ds n i number m → IsMadeAt ds o j other k
    → (account_of ds n i).peer ≡ (account_of ds o j).peer → m.remote ≡ k.remote → (n ≡ o) × (i ≡ j) × (number ≡ other)

-- ---- which session ids are drawn

-- a request names a session id that a LAC has drawn
pub record IsDrawnAtLac (w : World) (n session : ℕ) : Type 0 where
  pub node : Node
  pub is : at w.nodes n ≡ Some node
  pub role : node.end.role ≡ Lac
  pub some : 0 < session
  pub drawn : session < node.end.session_ids.next

abbrev pub AreDrawnAtLacs : Run → Type 0
AreDrawnAtLacs r = (n i number session : ℕ) → IsAskedAt r.done n i number session → IsDrawnAtLac r.world n session

-- a session id of a node was drawn for a request that one of its tunnels took
pub record IsDrawnFor (ds : List Deed) (n session : ℕ) : Type 0 where
  pub tunnel : ℕ
  pub number : ℕ
  pub reply : Replied
  pub made : IsMadeAt ds n tunnel number reply
  pub session_is : reply.session ≡ session

-- so are all that an LNS has drawn
abbrev pub AreDrawnForRequests : Run → Type 0
AreDrawnForRequests r = (n : ℕ) (node : Node) → at r.world.nodes n ≡ Some node → node.end.role ≡ Lns
    → (session : ℕ) → 0 < session → session < node.end.session_ids.next → IsDrawnFor r.done n session

-- ---- births

-- the session of an LNS has this birth
pub record IsBornAtLns (w : World) (n session birth : ℕ) : Type 0 where
  pub node : Node
  pub is : at w.nodes n ≡ Some node
  pub role : node.end.role ≡ Lns
  pub birth_is : at node.births session ≡ Some birth

-- two sessions of LNSs with one birth are one session
abbrev pub AreBornOnce : World → Type 0
AreBornOnce w = (birth n session m other : ℕ) → IsBornAtLns w n session birth → IsBornAtLns w m other birth → (n ≡ m) × (session ≡ other)

-- ---- after the run of each list of lines of the grammar, where no node crashes, is to stop, or starts

abbrev pub AskedInRuns : Type 0
AskedInRuns = (lines : List Line) → AreLines lines → AreCalm lines → AreAskedOnce (run lines).done

abbrev pub DrawnAtLacsInRuns : Type 0
DrawnAtLacsInRuns = (lines : List Line) → AreLines lines → AreCalm lines → AreDrawnAtLacs (run lines)

abbrev pub DrawnForRequestsInRuns : Type 0
DrawnForRequestsInRuns = (lines : List Line) → AreLines lines → AreCalm lines → AreDrawnForRequests (run lines)

abbrev pub MadeInRuns : Type 0
MadeInRuns = (lines : List Line) → AreLines lines → AreCalm lines → length lines < 2 ^ 47 → AreMadeOnce (run lines).done

abbrev pub BornInRuns : Type 0
BornInRuns = (lines : List Line) → AreLines lines → AreCalm lines → length lines < 2 ^ 47 → AreBornOnce (run lines).world
