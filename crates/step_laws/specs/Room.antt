-- Where a step tells that there is no room for letters.
use Rattle.step_laws.specs.Callers.{IsRing}
use Rattle.std.specs.Prelude.{◌≡◌, ◌⊎◌, ◌≤◌, ℕ, true, false, List, Some, unwrap_or}
use Rattle.id_table.specs.Ids.{at}
use Rattle.tunnel_fsm.specs.declared.table.TunnelState.{TunnelState}
use Rattle.tunnel_fsm.specs.declared.table.TunnelState.TheVariants.{WaitCtlReply, Established}
use Rattle.wire_base.specs.declared.why.Why.TheVariants as why
use Rattle.end_model.specs.declared.event.Event.{Event}
use Rattle.end_model.specs.declared.out.Out.TheVariants.{Drop}
use Rattle.end_model.specs.Tunnels.{Tunnel, mode_of, is_current}
use Rattle.end_model.specs.Channels.{counts_acked}
use Rattle.end_model.specs.End.{End, plain_step}
use Rattle.step_laws.specs.Letters.{Among}
use Rattle.step_laws.specs.Moves.{may_take, Came, IsNext, TellsNr}
use Rattle.step_laws.specs.Steps.{AreKept}

-- the next message of a tunnel came, which holds so many letters, once Nr is read, and whose calls owe so many, that it may not
-- be taken
pub record IsFull (e : End) (moment : ℕ) (ev : Event) : Type 0 where
  pub id : ℕ
  pub tunnel : Tunnel
  pub there : at e.tunnels id ≡ Some tunnel
  pub letter : Came
  pub next : IsNext ev tunnel letter
  pub nr : ℕ
  pub tells : TellsNr ev tunnel.control nr
  pub current : is_current (mode_of tunnel.recovery) ≡ true
  pub full : may_take (counts_acked nr moment tunnel.control) tunnel.calls ≡ false

-- a tunnel to the LNS is in this state, and its channel carries messages; and none with a lesser id is one
pub record IsLeast (e : End) (s : TunnelState) (i : ℕ) : Type 0 where
  pub tunnel : Tunnel
  pub there : at e.tunnels i ≡ Some tunnel
  pub peer : tunnel.control.peer ≡ e.config.lns
  pub state : tunnel.control.state ≡ s
  pub current : is_current (mode_of tunnel.recovery) ≡ true
  pub least : (j : ℕ) (t : Tunnel) → at e.tunnels j ≡ Some t → is_current (mode_of t.recovery) ≡ true → t.control.peer ≡ e.config.lns → t.control.state ≡ s → i ≤ j

-- no tunnel to the LNS is in this state, whose channel carries messages
abbrev pub HasNone : End → TunnelState → Type 0
HasNone e s = (j : ℕ) (t : Tunnel) → at e.tunnels j ≡ Some t → is_current (mode_of t.recovery) ≡ true → t.control.peer ≡ e.config.lns → t.control.state ≡ s → ⊥

-- a ring goes over the least tunnel to the LNS that is open, else over the least whose SCCRQ isn't answered yet
abbrev pub IsChosen : End → ℕ → Type 0
IsChosen e i = IsLeast e Established i ⊎ (HasNone e Established × IsLeast e WaitCtlReply i)

-- a tunnel to the LNS is frozen or restored
abbrev pub IsRecovering : End → Type 0
IsRecovering e = (j : ℕ) × (t : Tunnel) × (at e.tunnels j ≡ Some t) × (t.control.peer ≡ e.config.lns) × (is_current (mode_of t.recovery) ≡ false)

-- else over a new one, where there is none that is recovered
abbrev pub RingsNew : End → Event → Type 0
RingsNew e ev = (who : List ℕ) × (IsRing ev who) × HasNone e Established × HasNone e WaitCtlReply × (IsRecovering e → ⊥)

-- and it is refused where there is one
abbrev pub RingsInRecovery : End → Event → Type 0
RingsInRecovery e ev = (who : List ℕ) × (IsRing ev who) × HasNone e Established × HasNone e WaitCtlReply × IsRecovering e

-- the tunnel over which a call is to go that rings
pub record RingsOver (e : End) (ev : Event) (t : Tunnel) : Type 0 where
  pub subscriber : List ℕ
  pub rings : IsRing ev subscriber
  pub id : ℕ
  pub chosen : IsChosen e id
  pub there : at e.tunnels id ≡ Some t
  pub peer : t.control.peer ≡ e.config.lns

-- A step tells `queue` only of a message that isn't taken, or of a ring (of that its cause tells, see Causes). So no letter that
-- a tunnel has to give is ever refused for room.
abbrev pub StepsRefuseTruly : Type 0
StepsRefuseTruly = (e : End) → AreKept e → (moment : ℕ) (block : List ℕ) (ev : Event)
    → Among (Drop why.Queue) (plain_step e moment block ev).outputs → IsFull e moment ev

-- and each such message that names its tunnel is dropped for it
abbrev pub FullAreRefused : Type 0
FullAreRefused = (e : End) → AreKept e → (moment : ℕ) (block : List ℕ) (ev : Event) (f : IsFull e moment ev) → f.letter.header.tunnel ≡ f.id
    → f.nr ≡ unwrap_or f.letter.header.nr 0 → Among (Drop why.Queue) (plain_step e moment block ev).outputs
