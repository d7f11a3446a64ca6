-- Frames of calls.
use Rattle.std.specs.Prelude.{ℕ, List, ◌&&◌, if◌then◌else◌, Option, Some, None}
use Rattle.wire_base.specs.declared.why.Why.TheVariants as why
use Rattle.l2tp_header.specs.Spelling.{data_bytes}
use Rattle.end_model.specs.declared.tunnel.Call.{Call}
use Rattle.end_model.specs.declared.out.Out.TheVariants.{Send}
use Rattle.end_model.specs.declared.out.Origin.TheVariants as origin
use Rattle.end_model.specs.declared.moves.Move.TheVariants as move
use Rattle.end_model.specs.Tunnels.{Turn}
use Rattle.end_model.specs.Calls.{counted, number_of, is_up, is_short, is_long}
use Rattle.end_model.specs.Links.{is_passing}
use Rattle.end_model.specs.Turn.{with_output, with_move, with_call, drops}

-- the frame goes to the tunnel's peer, by its number where data messages have one
unfoldable pub sends_frame : ℕ → List ℕ → Call → Turn → Turn
sends_frame s frame c t =
    with_output (Send t.control.peer (data_bytes t.control.remote c.remote (number_of c.sequence) frame) (origin.Data s))
    (with_move (move.FrameSent (record {
      tunnel = t.control.local;
      peer = t.control.peer;
      session = s;
      remote = c.remote;
      number = number_of c.sequence;
      frame = frame;
    })) t)

-- and the call, which has this number, has the next one
unfoldable pub counts : ℕ → Call → Option ℕ → Turn → Turn
counts s c None t = t
counts s c (Some n) t = with_move (move.Counted (record { tunnel = t.control.local; session = s })) (with_call s (counted c) t)

unfoldable pub carried : ℕ → List ℕ → Call → Turn → Turn
carried s frame c t = counts s c c.sequence (sends_frame s frame c t)

unfoldable pub carries : ℕ → List ℕ → Option Call → Turn → Turn
carries s frame None t = drops why.Call t
carries s frame (Some c) t =
    if is_up c.state && is_passing c.link
    then (if is_short frame then drops why.Short t else if is_long frame then drops why.Long t else carried s frame c t)
    else drops why.Closed t
