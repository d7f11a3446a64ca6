-- Each step of an end is a chain of its moves; what it sends and hands up is theirs, and what is kept of tunnels stays kept.
use Rattle.std.specs.Prelude.{◌≡◌, ◌⊎◌, ◌<◌, ◌≤◌, ℕ, ◌+◌, ◌^◌, true, false, List, [], ◌++◌, Some, length}
use Rattle.std.specs.List.{AllByRecursion}
use Rattle.id_table.specs.Ids.{at}
use Rattle.id_table.specs.Order.{Ascends}
use Rattle.tunnel_fsm.specs.Rows.{state_number}
use Rattle.wire_base.specs.declared.letter.Side.{Side}
use Rattle.end_names.specs.declared.role.Role.{Role}
use Rattle.end_model.specs.declared.tunnel.Config.{Config}
use Rattle.end_model.specs.declared.event.Event.{Event}
use Rattle.end_model.specs.declared.out.Out.{Out}
use Rattle.end_model.specs.declared.out.Out.TheVariants.{Send, Up, Gone, Drop, Cause}
use Rattle.end_model.specs.declared.out.Origin.{Origin}
use Rattle.end_model.specs.declared.moves.Move.{Move}
use Rattle.end_model.specs.declared.moves.Move.TheVariants as move
use Rattle.end_model.specs.Calls.{owed_by}
use Rattle.end_model.specs.Tunnels.{Tunnel, Recovering, connection_of, mode_of, is_current}
use Rattle.end_model.specs.Moments.{is_closed}
use Rattle.end_model.specs.End.{End, Stepped, decline_origin, plain_step}
use Rattle.end_model.specs.declared.moves.Declined.{Declined}
use Rattle.l2tp_header.specs.Spelling.{control_bytes}
use Rattle.avp_codec.specs.Spelling.{spelling}
use Rattle.control_message.specs.declared.message.Message.TheVariants.{StopCcn}
use Rattle.control_message.specs.Pairs.{pairs_of}
use Rattle.step_laws.specs.Letters.{Among, IsRecoveryLetter, Carries, HasOutput}
use Rattle.step_laws.specs.Moves.{Chain}
use Rattle.step_laws.specs.Queries.{IsQuery}

-- a tunnel of an end stands under its own id, isn't idle, its calls ascend, at most 4,096 of them, and it keeps as many letters
-- as its window counts. These and the letters that its calls owe are fewer than 8,192, the most that a channel holds, as long as it
-- isn't closed; so there is room for one more then, also for a HELLO of an open tunnel, which comes where no letter waits. A closed
-- tunnel has no calls, and gives nothing more
pub record IsKept (role : Role) (config : Config) (i : ℕ) (t : Tunnel) : Type 0 where
  pub local : t.control.local ≡ i
  pub some : i ≡ 0 → ⊥
  pub busy : state_number t.control.state ≡ 0 → ⊥
  pub calls : Ascends t.calls
  pub letters : length t.letters ≡ t.control.channel.window.queued
  pub outstanding : t.control.channel.window.outstanding ≤ t.control.channel.window.queued
  pub calls_few : length t.calls ≤ 4096
  pub few : is_closed t.control.state ≡ false → t.control.channel.window.queued + owed_by t.calls ≤ 8191
  pub most : t.control.channel.window.queued ≤ 8192
  pub shut : is_closed t.control.state ≡ true → t.calls ≡ []
  pub owed : state_number t.control.state ≡ 3 → owed_by t.calls ≤ 8190
  pub acked : t.control.channel.window.acked < 2 ^ 64
  -- the channel of one that is frozen or restored gives nothing
  pub frozen : is_current (mode_of t.recovery) ≡ false → t.control.channel.frozen ≡ true
  -- and it is open
  pub open_is : is_current (mode_of t.recovery) ≡ false → state_number t.control.state ≡ 3
  -- what it asks for
  pub asks : IsQuery t.query
  -- what its recovery tunnel holds is of a recovery
  pub recovering : (r : Recovering) → t.recovery ≡ Some r → AllByRecursion (IsRecoveryLetter role config i r) (connection_of r).channel.outbox.letters

-- so are all tunnels of an end, and its tables ascend
pub record AreKept (e : End) : Type 0 where
  pub tunnels : (i : ℕ) (t : Tunnel) → at e.tunnels i ≡ Some t → IsKept e.role e.config i t
  pub order : Ascends e.tunnels
  pub places : Ascends e.calls
  -- ids have 16 bits, and tunnels none that is 0
  pub sessions : e.session_ids.last < 65536
  pub first : 0 < e.tunnel_ids.next

-- an end of a step's chain of moves: some of the moves lead to it, and the rest of them from it to the end that the step leaves
pub record InChain (moment : ℕ) (ev : Event) (e : End) (moves : List Move) (x : End) : Type 0 where
  pub made : List Move
  pub rest : List Move
  pub moves_are : moves ≡ made ++ rest
  pub end : End
  pub comes : Chain moment ev e made end
  pub goes : Chain moment ev end rest x

-- what is sent goes to the peer of a tunnel, as it stands at one end of the chain, and is of the moves up to there: the moves behind
-- it may change the tunnel, or remove it
pub record IsSent (moment : ℕ) (ev : Event) (e : End) (moves : List Move) (x : End) (peer : ℕ) (bytes : List ℕ) (o : Origin) : Type 0 where
  pub amid : InChain moment ev e moves x
  pub id : ℕ
  pub tunnel : Tunnel
  pub there : at amid.end.tunnels id ≡ Some tunnel
  pub peer_is : peer ≡ tunnel.control.peer
  pub carries : Carries amid.end.role amid.end.config tunnel amid.made bytes o

-- what is sent for no tunnel is the StopCCN of an opening that a move declines
pub record IsDecline (moves : List Move) (peer : ℕ) (bytes : List ℕ) (o : Origin) : Type 0 where
  pub declined : Declined
  pub there : Among (move.Declined declined) moves
  pub peer_is : peer ≡ declined.peer
  pub bytes_are : bytes ≡ control_bytes declined.remote 0 0 declined.nr (spelling (pairs_of (StopCcn 0 declined.result declined.error)))
  pub origin_is : o ≡ decline_origin declined.nr

-- what is handed up is what a move hands up
pub record IsHandedUp (moves : List Move) (session : ℕ) (side : Side) (frame : List ℕ) : Type 0 where
  pub tunnel : ℕ
  pub peer : ℕ
  pub there : Among (move.FrameUp (record { tunnel = tunnel; peer = peer; session = session; side = side; frame = frame })) moves

-- what holds of each output of a step that leads from one end to another
abbrev pub IsOfMoves : ℕ → Event → End → List Move → End → Out → Type 0
IsOfMoves moment ev e moves x (Send peer bytes o) = IsSent moment ev e moves x peer bytes o ⊎ IsDecline moves peer bytes o
IsOfMoves moment ev e moves x (Up session side frame) = IsHandedUp moves session side frame
IsOfMoves moment ev e moves x (Gone session) = Unit {0}
IsOfMoves moment ev e moves x (Drop w) = Unit {0}
IsOfMoves moment ev e moves x (Cause w) = Unit {0}

-- a step that leads there
pub record IsChain (e : End) (moment : ℕ) (ev : Event) (s : Stepped) : Type 0 where
  pub chain : Chain moment ev e s.moves s.end
  pub outputs : AllByRecursion (IsOfMoves moment ev e s.moves s.end) s.outputs
  pub frames : AllByRecursion (HasOutput s.outputs) s.moves
  pub kept : AreKept s.end

-- each step of an end whose tunnels are kept
abbrev pub StepsAreChains : Type 0
StepsAreChains = (e : End) → AreKept e → (moment : ℕ) (block : List ℕ) (ev : Event) → IsChain e moment ev (plain_step e moment block ev)

-- no move of a step is one of a start
abbrev pub IsOfNoStart : Move → Type 0
IsOfNoStart (move.Restored m) = ⊥
IsOfNoStart (move.Forgot m) = ⊥
IsOfNoStart m = Unit {0}

abbrev pub StepsAreNoStarts : Type 0
StepsAreNoStarts = (e : End) (moment : ℕ) (block : List ℕ) (ev : Event) → AllByRecursion IsOfNoStart (plain_step e moment block ev).moves
