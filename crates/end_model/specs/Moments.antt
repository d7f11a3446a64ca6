-- How long a tunnel and a call may take, and how long a closed tunnel is kept.
use Rattle.std.specs.Prelude.{ℕ, ◌-◌, ◌==◌, ◌&&◌, ◌||◌, Bool, nat_le}
use Rattle.tunnel_fsm.specs.declared.table.TunnelState.{TunnelState}
use Rattle.tunnel_fsm.specs.Rows.{state_number}
use Rattle.end_model.specs.declared.tunnel.Control.{Control}

-- so many milliseconds have passed; where the moment is below the kept one, no time has
abbrev pub is_over : ℕ → ℕ → ℕ → Bool
is_over limit moment kept = nat_le limit (moment - kept)

-- how long a tunnel and a call may take to be set up, and how long a tunnel may be quiet: 60 seconds
abbrev pub patience : ℕ
patience = 60000

-- it is neither opened nor accepted, it waits for its SCCRP, it is open
abbrev pub is_idle : TunnelState → Bool
is_idle s = state_number s == 0

abbrev pub is_waiting_reply : TunnelState → Bool
is_waiting_reply s = state_number s == 1

abbrev pub is_open : TunnelState → Bool
is_open s = state_number s == 3

-- it is in wait-ctl-reply or wait-ctl-conn
abbrev pub is_being_set_up : TunnelState → Bool
is_being_set_up s = state_number s == 1 || state_number s == 2

abbrev pub is_closed : TunnelState → Bool
is_closed s = state_number s == 4

-- a closed tunnel is kept for 31 seconds, as long as its peer may repeat what it sent
abbrev pub kept_closed : ℕ
kept_closed = 31000

abbrev pub is_at_its_end : ℕ → Control → Bool
is_at_its_end moment c =
    (is_closed c.state && is_over kept_closed moment c.closed) || (is_being_set_up c.state && is_over patience moment c.made)
