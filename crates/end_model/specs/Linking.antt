-- What a step does with the link of a call (RFC 1661).
use Rattle.std.specs.Prelude.{ℕ, List, [], ◌∷◌, false, ◌&&◌, nat_lt, if◌then◌else◌, Option, Some, None}
use Rattle.wire_base.specs.declared.why.Why.TheVariants as why
use Rattle.wire_base.specs.declared.cause.Cause.{Cause}
use Rattle.wire_base.specs.declared.letter.Letter.{Letter}
use Rattle.call_link.specs.declared.turn.LinkTurn.{LinkTurn}
use Rattle.call_link.specs.Link.{Link, is_due}
use Rattle.call_link.specs.Turns.{Ticks, Hears, linked}
use Rattle.call_fsm.specs.declared.table.CallEvent.TheVariants as call_event
use Rattle.end_model.specs.declared.tunnel.Call.{Call}
use Rattle.end_names.specs.declared.role.Role.{Role}
use Rattle.end_model.specs.declared.moves.Move.TheVariants as move
use Rattle.end_model.specs.Tunnels.{Turn}
use Rattle.end_model.specs.Calls.{counted, counted_all, row_for, is_up}
use Rattle.end_model.specs.Links.{link_env, with_link, looks_of}
use Rattle.end_model.specs.Turn.{with_move, with_looks_of, with_call, drops}
use Rattle.end_model.specs.Sending.{settles}
use Rattle.end_model.specs.Closing.{ends_by}
use Rattle.end_model.specs.Frames.{carried}
use Rattle.end_model.specs.Codes.{administrative}

-- these frames of the call go to the tunnel's peer, in order
unfoldable pub sends_frames : ℕ → List (List ℕ) → Call → Turn → Turn
sends_frames s [] c t = t
sends_frames s (f ∷ fs) c t = sends_frames s fs (counted c) (carried s f c t)

-- the link of a call gave this, and doesn't end it: its frames are sent, and the call keeps it
unfoldable pub negotiated : ℕ → Call → LinkTurn → Turn → Turn
negotiated s c v t =
    with_looks_of (looks_of v.opens s)
    (with_move (move.Negotiated (record { tunnel = t.control.local; session = s }))
    (with_call s (with_link v.link (counted_all v.frames c))
    (sends_frames s v.frames c t)))

-- or it ends the call, behind its frames
unfoldable pub ends_linked : Role → List Letter → ℕ → Call → LinkTurn → Cause → Turn → Turn
ends_linked role letters s c v for t =
    settles false letters
    (ends_by for administrative None s (counted_all v.frames c) (row_for role c call_event.Close).1 (sends_frames s v.frames c t))

unfoldable pub links_by : Role → List Letter → ℕ → Call → LinkTurn → Option Cause → Turn → Turn
links_by role letters s c v None t = negotiated s c v t
links_by role letters s c v (Some for) t = ends_linked role letters s c v for t

abbrev pub links : Role → List Letter → ℕ → Call → LinkTurn → Turn → Turn
links role letters s c v t = links_by role letters s c v v.ends t

-- a frame for its link, from its protocol field on, came up a call
unfoldable pub hears_link : Role → List Letter → ℕ → List ℕ → Call → Option Link → Turn → Turn
hears_link role letters s frame c None t = drops why.Closed t
hears_link role letters s frame c (Some l) t = links role letters s c (linked (link_env t.on) (Hears frame) l) t

unfoldable pub hears_lcp : Role → List Letter → ℕ → List ℕ → Option Call → Turn → Turn
hears_lcp role letters s frame None t = drops why.Call t
hears_lcp role letters s frame (Some c) t =
    if nat_lt s 65536 && is_up c.state then hears_link role letters s frame c c.link t else drops why.Closed t

-- its timer; session ids have 16 bits
unfoldable pub ticks_link : Role → List Letter → ℕ → Call → Option Link → Turn → Turn
ticks_link role letters s c None t = t
ticks_link role letters s c (Some l) t =
    if nat_lt s 65536 && is_up c.state && is_due t.on.moment l then links role letters s c (linked (link_env t.on) Ticks l) t else t
