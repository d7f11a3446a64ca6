-- Events of a tunnel, and what a turn leaves.
use Rattle.std.specs.Prelude.{ℕ, List, [], ◌∷◌, false, Option, Some, None}
use Rattle.id_table.specs.Ids.{at, put, without}
use Rattle.wire_base.specs.declared.why.Why.TheVariants as why
use Rattle.wire_base.specs.declared.cause.Cause.TheVariants as cause
use Rattle.wire_base.specs.declared.letter.Letter.{Letter}
use Rattle.l2tp_header.specs.Reading.{header_of}
use Rattle.tunnel_fsm.specs.declared.table.TunnelEvent.TheVariants as event
use Rattle.tunnel_fsm.specs.Rows.{rows, row_of}
use Rattle.call_fsm.specs.declared.table.CallEvent.TheVariants as call_event
use Rattle.end_model.specs.declared.tunnel.Call.{Call}
use Rattle.end_model.specs.declared.tunnel.Config.{Config}
use Rattle.end_names.specs.declared.role.Role.{Role}
use Rattle.end_model.specs.declared.event.Event.{Event}
use Rattle.end_model.specs.declared.event.Event.TheVariants.{Datagram, Ring, Frame, Admitted, Payload, Lower, Lcp, Hang, OpenTunnel, DropCall, CloseTunnel}
use Rattle.end_model.specs.declared.event.Event.TheVariants as event_of
use Rattle.end_model.specs.Tunnels.{Tunnel, Turn, Recovering, new_tunnel}
use Rattle.end_names.specs.Names.{subscriber}
use Rattle.end_model.specs.Turn.{drops}
use Rattle.end_model.specs.Sending.{letters_after, settles}
use Rattle.end_model.specs.Openings.{opens}
use Rattle.end_model.specs.Ringing.{rings}
use Rattle.end_model.specs.Stopping.{shuts_by}
use Rattle.end_model.specs.Closing.{closes}
use Rattle.end_model.specs.Frames.{carries}
use Rattle.end_model.specs.Linking.{hears_lcp}
use Rattle.end_model.specs.Hearing.{hears_datagram}
use Rattle.end_model.specs.Ticking.{ticks}
use Rattle.end_model.specs.Codes.{carrier_lost, administrative}

-- an event of the tunnel, which has these letters and calls
unfoldable pub turns : Role → Config → List Letter → List (ℕ × Call) → Event → Turn → Turn
turns role c letters calls (Datagram peer bytes) t = hears_datagram role c letters calls bytes (header_of bytes) t
turns role c letters calls (Ring port) t = settles false letters (rings role c calls (subscriber port) t)
turns role c letters calls (Admitted mac) t = settles false letters (rings role c calls mac t)
turns role c letters calls (Frame bytes) t = drops why.Node t
turns role c letters calls (Payload s frame) t = carries s frame (at calls s) t
turns role c letters calls (Lower s frame) t = carries s frame (at calls s) t
turns role c letters calls (Lcp s packet) t = hears_lcp role letters s packet (at calls s) t
turns role c letters calls (Hang s) t = settles false letters (closes role cause.Line call_event.LineDrop carrier_lost s (at calls s) t)
turns role c letters calls OpenTunnel t = settles false letters (opens role c t)
turns role c letters calls (DropCall s) t = settles false letters (closes role cause.Operator call_event.Close administrative s (at calls s) t)
turns role c letters calls (CloseTunnel i) t = settles false letters (shuts_by calls (row_of rows t.control.state event.AdminClose) t)
turns role c letters calls event_of.Tick t = ticks role letters calls t

-- the calls with those that were made or changed, without those that ended
abbrev pub changed_at : List (ℕ × Call) → ℕ → Option Call → List (ℕ × Call)
changed_at calls s None = without calls s
changed_at calls s (Some c) = put calls s c

unfoldable pub with_calls : List (ℕ × Option Call) → List (ℕ × Call) → List (ℕ × Call)
with_calls [] calls = calls
with_calls (c ∷ cs) calls = with_calls cs (changed_at calls c.0 c.1)

abbrev pub tunnel_after : Turn → List Letter → List (ℕ × Call) → Option Recovering → Tunnel
tunnel_after t letters calls recovery =
    record (new_tunnel t.control) {
      letters = letters_after t letters;
      calls = with_calls t.changed calls;
      recovery = recovery;
      query = t.query;
    }
