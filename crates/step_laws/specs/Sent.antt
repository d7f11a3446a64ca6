-- Why a step sends a frame down a call: the event gives it; or the link of the call does, as the call is before the step, at the moment and with the
-- random block of the step.
use Rattle.std.specs.Prelude.{◌≡◌, ◌⊎◌, ℕ, true, List, Some}
use Rattle.id_table.specs.Ids.{at}
use Rattle.call_link.specs.declared.env.LinkEnv.{LinkEnv}
use Rattle.call_link.specs.Link.{Link, new_link}
use Rattle.call_link.specs.Turns.{LinkCall, Opens, Ticks, Hears}
use Rattle.call_link.specs.Laws.{LinkStep, turn_at}
use Rattle.call_fsm.specs.declared.table.CallEvent.TheVariants as call_event
use Rattle.end_model.specs.declared.event.Event.{Event}
use Rattle.end_model.specs.declared.event.Event.TheVariants.{Payload, Lower, Tick}
use Rattle.end_model.specs.declared.moves.FrameSent.{FrameSent}
use Rattle.end_model.specs.declared.moves.Move.TheVariants as move
use Rattle.end_model.specs.declared.tunnel.Call.{Call}
use Rattle.end_model.specs.Calls.{row_for, is_up}
use Rattle.end_model.specs.Tunnels.{Tunnel}
use Rattle.end_model.specs.End.{End, plain_step}
use Rattle.step_laws.specs.Letters.{Among}
use Rattle.step_laws.specs.Links.{HearsLcp}
use Rattle.step_laws.specs.Looks.{LooksAreTrue}
use Rattle.step_laws.specs.Steps.{AreKept}

-- a live call of an end, in a tunnel
pub record IsCallIn (e : End) (t : Tunnel) (session : ℕ) (c : Call) : Type 0 where
  pub id : ℕ
  pub there : at e.tunnels id ≡ Some t
  pub live : at t.calls session ≡ Some c

-- the step in which a link is called, and its call
abbrev pub env_at : ℕ → List ℕ → LinkEnv
env_at moment block = record { moment = moment; block = block }

abbrev pub called_at : ℕ → List ℕ → LinkCall → LinkStep
called_at moment block by = record { env = env_at moment block; call = by }

-- a link that is so called gives the frame
abbrev pub Gives : LinkStep → Link → List ℕ → Type 0
Gives by l frame = Among frame (turn_at by l).frames

-- the call is connected, and its link is new, and opened; or its timer is due; or a frame for it came in the call from the peer of its tunnel
pub data WhySentIn (e : End) (moment : ℕ) (block : List ℕ) (ev : Event) (session : ℕ) (frame : List ℕ) : Type 0 where
  IsGivenIt : (ev ≡ Payload session frame) ⊎ (ev ≡ Lower session frame) → WhySentIn e moment block ev session frame
  AsItOpens : (t : Tunnel) (c : Call) → IsCallIn e t session c → is_up (row_for e.role c call_event.IccnAcc).0 ≡ true
      → Gives (called_at moment block Opens) (new_link (env_at moment block)) frame → WhySentIn e moment block ev session frame
  AsTimePasses : (t : Tunnel) (c : Call) (l : Link) → IsCallIn e t session c → c.link ≡ Some l → ev ≡ Tick → Gives (called_at moment block Ticks) l frame
      → WhySentIn e moment block ev session frame
  AsItHears : (t : Tunnel) (c : Call) (l : Link) (heard : List ℕ) → IsCallIn e t session c → c.link ≡ Some l
      → HearsLcp ev t.control.peer t.control.local session heard → Gives (called_at moment block (Hears heard)) l frame
      → WhySentIn e moment block ev session frame

-- of each frame that a step sends, of an end whose looks are true
abbrev pub FramesAreOfSteps : Type 0
FramesAreOfSteps = (e : End) → AreKept e → LooksAreTrue e → (moment : ℕ) (block : List ℕ) (ev : Event) (f : FrameSent)
    → Among (move.FrameSent f) (plain_step e moment block ev).moves → WhySentIn e moment block ev f.session f.frame
