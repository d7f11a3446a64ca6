-- What the data plane sees of each session is so of its call.
use Rattle.std.specs.Prelude.{◌≡◌, ℕ, ◌<◌, Bool, true, false, List, Option, None, Some, is_some}
use Rattle.id_table.specs.Ids.{at}
use Rattle.call_fsm.specs.declared.table.CallState.{CallState}
use Rattle.call_fsm.specs.declared.table.CallState.TheVariants.{Idle, WaitTunnel, WaitReply, WaitConnect, Established}
use Rattle.end_model.specs.declared.event.Event.{Event}
use Rattle.end_model.specs.declared.tunnel.Call.{Call}
use Rattle.end_model.specs.declared.tunnel.CallPlace.{CallPlace}
use Rattle.end_model.specs.declared.tunnel.Config.{Config}
use Rattle.call_link.specs.Link.{Link}
use Rattle.session_looks.specs.declared.look.Look.{Look}
use Rattle.session_looks.specs.declared.look.Look.TheVariants as look
use Rattle.end_names.specs.declared.role.Role.{Role}
use Rattle.end_names.specs.declared.role.Role.TheVariants.{Lns}
use Rattle.end_model.specs.Links.{is_passing}
use Rattle.end_model.specs.Tunnels.{Tunnel}
use Rattle.end_model.specs.End.{End, new_end, plain_step, new_place}
use Rattle.step_laws.specs.Steps.{AreKept}

-- what is to be seen of an established call: frames of the network pass, at an LNS once LCP was open in it
abbrev pub look_by : Bool → ℕ → ℕ → Look
look_by true tunnel peer = look.Established tunnel peer
look_by false tunnel peer = look.Bound tunnel peer

-- what is to be seen of a call in a state, with its link, in a tunnel to a peer: the other end knows it once it was asked for, and it
-- carries frames where it is established
abbrev pub look_in_state : CallState → Option Link → ℕ → ℕ → Look
look_in_state WaitReply link tunnel peer = look.Bound tunnel peer
look_in_state Established link tunnel peer = look_by (is_passing link) tunnel peer
look_in_state Idle link tunnel peer = look.Unborn
look_in_state WaitTunnel link tunnel peer = look.Unborn
look_in_state WaitConnect link tunnel peer = look.Unborn

abbrev pub look_of : Call → ℕ → ℕ → Look
look_of c tunnel peer = look_in_state c.state c.link tunnel peer

-- an LNS's call has a link once it is established, and a LAC's has none
abbrev pub LinkFits : Role → CallState → Option Link → Type 0
LinkFits Lns Established link = is_some link ≡ true
LinkFits r s link = link ≡ None

-- a live call of an end, in a tunnel
pub record IsLive (e : End) (i s : ℕ) : Type 0 where
  pub tunnel : Tunnel
  pub there : at e.tunnels i ≡ Some tunnel
  pub call : Call
  pub live : at tunnel.calls s ≡ Some call

pub record LooksAreTrue (e : End) : Type 0 where
  -- each session that has a place is that of a live call
  pub live : (s : ℕ) (p : CallPlace) → at e.calls s ≡ Some p → IsLive e p.tunnel s
  -- each live call has its place, and what is seen of it is so
  pub seen : (i : ℕ) (t : Tunnel) → at e.tunnels i ≡ Some t → (s : ℕ) (c : Call) → at t.calls s ≡ Some c
      → at e.calls s ≡ Some (record (new_place i) { look = look_of c i t.control.peer })
  pub links : (i : ℕ) (t : Tunnel) → at e.tunnels i ≡ Some t → (s : ℕ) (c : Call) → at t.calls s ≡ Some c → LinkFits e.role c.state c.link
  -- ids that are in use were drawn
  pub tunnels : (i : ℕ) (t : Tunnel) → at e.tunnels i ≡ Some t → i < e.tunnel_ids.next
  pub sessions : (s : ℕ) (p : CallPlace) → at e.calls s ≡ Some p → s < e.session_ids.next

-- at first, and after each step
abbrev pub LooksStayTrue : Type 0
LooksStayTrue = (e : End) → AreKept e → LooksAreTrue e → (moment : ℕ) (block : List ℕ) (ev : Event) → LooksAreTrue (plain_step e moment block ev).end

abbrev pub LooksBeginTrue : Type 0
LooksBeginTrue = (r : Role) (c : Config) → LooksAreTrue (new_end r c)
