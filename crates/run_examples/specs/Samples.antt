-- Tunnels and calls of the samples.
use Rattle.std.specs.Prelude.{ℕ, List}
use Rattle.wire_base.specs.declared.letter.Letter.{Letter}
use Rattle.control_channel.specs.Numbers.{Numbers}
use Rattle.tunnel_fsm.specs.declared.table.TunnelState.TheVariants.{Established}
use Rattle.call_fsm.specs.declared.table.CallState.{CallState}
use Rattle.call_fsm.specs.declared.table.CallState.TheVariants as call_states
use Rattle.session_looks.specs.declared.look.Look.{Look}
use Rattle.end_names.specs.Names.{address_of}
use Rattle.end_model.specs.declared.tunnel.Call.{Call}
use Rattle.end_model.specs.declared.tunnel.CallPlace.{CallPlace}
use Rattle.end_model.specs.declared.tunnel.Control.{Control}
use Rattle.end_model.specs.Calls.{idle_call}
use Rattle.end_model.specs.Openings.{fresh}
use Rattle.end_model.specs.Tunnels.{Tunnel, new_tunnel}
use Rattle.end_model.specs.End.{new_place}

-- an open tunnel to a node, by both of its ids, with this channel
abbrev pub control_up : ℕ → ℕ → ℕ → Numbers → Control
control_up local node remote n = record (fresh (address_of node) 0) { local = local; remote = remote; state = Established; channel = n; flags = 3 }

-- with these letters, and these calls
abbrev pub tunnel_up : ℕ → ℕ → ℕ → Numbers → List Letter → List (ℕ × Call) → Tunnel
tunnel_up local node remote n letters calls = record (new_tunnel (control_up local node remote n)) { letters = letters; calls = calls }

-- a call in a state, and one that is up, by the peer's session, for a subscriber
abbrev pub call_in : CallState → ℕ → List ℕ → Call
call_in s remote who = record (idle_call remote who) { state = s }

abbrev pub call_up : ℕ → List ℕ → Call
call_up remote who = call_in call_states.Established remote who

-- where a call is, and what is seen of it
abbrev pub place_in : ℕ → Look → CallPlace
place_in tunnel l = record (new_place tunnel) { look = l }
