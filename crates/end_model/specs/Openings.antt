-- Tunnels that are opened, accepted, connected and confirmed.
use Rattle.std.specs.Prelude.{ℕ, List, if◌then◌else◌, Option, None, Result, Ok, Err}
use Rattle.id_source.specs.Spaces.{takes_id, after_id}
use Rattle.id_source.specs.declared.IdError.{IdError}
use Rattle.wire_base.specs.declared.why.Why.TheVariants as why
use Rattle.wire_base.specs.declared.cause.Cause.TheVariants as cause
use Rattle.control_message.specs.declared.message.Message.TheVariants.{Sccrq, Sccrp, Scccn}
use Rattle.control_channel.specs.Numbers.{opened_at}
use Rattle.tunnel_fsm.specs.declared.table.TunnelState.{TunnelState}
use Rattle.tunnel_fsm.specs.declared.table.TunnelState.TheVariants.{Idle}
use Rattle.tunnel_fsm.specs.declared.table.TunnelEvent.{TunnelEvent}
use Rattle.tunnel_fsm.specs.declared.table.TunnelEvent.TheVariants as event
use Rattle.tunnel_fsm.specs.Rows.{rows, row_of}
use Rattle.end_model.specs.declared.tunnel.Config.{Config}
use Rattle.end_model.specs.declared.tunnel.Control.{Control}
use Rattle.end_names.specs.declared.role.Role.{Role}
use Rattle.end_model.specs.declared.out.Out.TheVariants.{Cause}
use Rattle.end_model.specs.declared.moves.Move.TheVariants as move
use Rattle.end_model.specs.Tunnels.{Turn}
use Rattle.end_model.specs.Channels.{next_place, taken_place, has_room, learns_window, peer_window}
use Rattle.end_model.specs.Messages.{opening_of, Told}
use Rattle.end_model.specs.Secrets.{challenge_by, response_by}
use Rattle.end_model.specs.Turn.{with_output, with_move, drops}
use Rattle.end_model.specs.Sending.{gives, takes_one}

-- a tunnel to a peer that is neither opened nor accepted yet; as long as it isn't known, the peer's window counts as 4
-- (RFC 2661 section 4.4.3)
abbrev pub fresh : ℕ → ℕ → Control
fresh peer moment = record { local = 0; peer = peer; remote = 0; state = Idle; channel = opened_at 0 0 4; made = moment; heard = moment; closed = 0; flags = 0; mark = 0; challenge = None }

abbrev pub in_state : TunnelState → Control → Control
in_state s c = record c { state = s }

-- what it asks its peer to answer by the secret
abbrev pub asking : Option (List ℕ) → Control → Control
asking challenge c = record c { challenge = challenge }

-- the state that follows on an event by the table
abbrev pub next_of : TunnelState → TunnelEvent → TunnelState
next_of s e = (row_of rows s e).0

-- a tunnel gets the id that was drawn
unfoldable pub with_local : ℕ → Turn → Turn
with_local local t = record t { control = record t.control { local = local }; ids = record t.ids { tunnels = after_id t.ids.tunnels } }

-- a new tunnel is opened by an SCCRQ
unfoldable pub opened : Role → Config → ℕ → Turn → Turn
opened role c local t =
    gives 0 (Sccrq (opening_of role c (challenge_by c.secret t.on.block) None local))
    (with_move (move.Opened (record { tunnel = local; peer = t.control.peer; challenge = challenge_by c.secret t.on.block; given = next_place t.control }))
    (with_local local (record t { control = asking (challenge_by c.secret t.on.block) (in_state (next_of t.control.state event.LocalOpen) t.control) })))

unfoldable pub opens_by : Role → Config → Result ℕ IdError → Turn → Turn
opens_by role c (Err e) t = with_output (Cause cause.Ids) t
opens_by role c (Ok local) t = if has_room t.control then opened role c local t else with_output (Cause cause.Queue) t

unfoldable pub opens : Role → Config → Turn → Turn
opens role c t = opens_by role c (takes_id t.ids.tunnels) t

-- a new tunnel is made by an SCCRQ that tells this of its peer, and answered by an SCCRP
unfoldable pub accepted : Role → Config → Told → ℕ → Turn → Turn
accepted role c told local t =
    gives 0 (Sccrp (opening_of role c (challenge_by c.secret t.on.block) (response_by 2 c.secret told.asks) local))
    (with_move (move.Accepted (record { tunnel = local; peer = t.control.peer; remote = told.remote; window = told.window; challenge = challenge_by c.secret t.on.block; response = response_by 2 c.secret told.asks; taken = taken_place t.control; given = next_place t.control }))
    (takes_one
    (with_local local (record t { control = learns_window told.window (asking (challenge_by c.secret t.on.block) (record t.control { remote = told.remote; flags = told.flags; state = next_of t.control.state event.SccrqAcc })) }))))

unfoldable pub accepts_by : Role → Config → Told → Result ℕ IdError → Turn → Turn
accepts_by role c told (Err e) t = drops why.Tunnel t
accepts_by role c told (Ok local) t = if has_room t.control then accepted role c told local t else drops why.Queue t

unfoldable pub accepts : Role → Config → Told → Turn → Turn
accepts role c told t = accepts_by role c told (takes_id t.ids.tunnels) t

-- what the peer tells of itself is learned, what it asks is answered, and the tunnel is connected
unfoldable pub connected : Config → Told → TunnelState → Turn → Turn
connected c told next t =
    gives 0 (Scccn (response_by 3 c.secret told.asks))
    (with_move (move.Connected (record { tunnel = t.control.local; peer = t.control.peer; remote = told.remote; window = told.window; flags = told.flags; response = response_by 3 c.secret told.asks; taken = taken_place t.control; given = next_place t.control }))
    (takes_one (record t { control = learns_window told.window (record t.control { remote = told.remote; flags = told.flags; state = next }) })))

unfoldable pub confirms : TunnelState → Turn → Turn
confirms next t =
    with_move (move.Confirmed (record { tunnel = t.control.local; peer = t.control.peer; remote = t.control.remote; window = peer_window t.control; flags = t.control.flags; taken = taken_place t.control }))
    (takes_one (record t { control = in_state next t.control }))
