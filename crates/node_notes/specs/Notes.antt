-- What an operator is told of a step, by its moves and by the causes that it told.
use Rattle.std.specs.Prelude.{ℕ, List, [], ◌∷◌, ◌++◌, map, Bool, true, false, Option, Some, None, option_to_list}
use Rattle.std.specs.List.{flat_map}
use Rattle.wire_base.specs.declared.cause.Cause.{Cause as CauseOf}
use Rattle.end_model.specs.declared.out.Out.{Out}
use Rattle.end_model.specs.declared.out.Out.TheVariants.{Cause}
use Rattle.end_model.specs.declared.moves.Move.{Move}
use Rattle.end_model.specs.declared.moves.Move.TheVariants as move
use Rattle.node_notes.specs.declared.note.Told.{Told}
use Rattle.node_notes.specs.declared.note.Note.{Note}
use Rattle.node_notes.specs.declared.note.Note.TheVariants as note

-- ---- the causes of a step

-- in the order in which it told them
abbrev pub cause_of_output : Out → List CauseOf
cause_of_output (Cause c) = c ∷ []
cause_of_output o = []

abbrev pub causes_of : List Out → List CauseOf
causes_of outputs = flat_map cause_of_output outputs

-- a move by which a peer is told a result code. Each of the definitions that make one tells one cause before it: `end_told` (in Closing),
-- `closed_told` and `rejected` (in Stopping), `refused` (in Refusing) and `declined` (in End). A step that tells a cause without such a
-- move, of a ring or an opening that is refused, or of a recovery that is given up, makes no such move. So the causes of a step and these
-- moves go together, one with one, in order
abbrev pub tells_code : Move → Bool
tells_code (move.EndTold m) = true
tells_code (move.Refused m) = true
tells_code (move.Declined m) = true
tells_code (move.Closed m) = true
tells_code (move.Rejected m) = true
tells_code m = false

-- the cause that goes with a move, of those that are left, and those that are left behind it
abbrev pub cause_for : Bool → List CauseOf → Option CauseOf
cause_for true (c ∷ cs) = Some c
cause_for tells cs = None

abbrev pub causes_behind : Bool → List CauseOf → List CauseOf
causes_behind true (c ∷ cs) = cs
causes_behind tells cs = cs

-- ---- what is told of a move

abbrev pub told : ℕ → Option ℕ → Option CauseOf → Told
told result error cause = record { result = result; error = error; cause = cause }

-- a tunnel is removed without a word to its peer. One that was established is lost: its channel failed, its recovery did, or it was closed
-- while it was recovered. Any other was closed before, and told then, or was given up before it was established
abbrev pub cleared : ℕ → Bool → Note
cleared tunnel true = note.TunnelLost tunnel
cleared tunnel false = note.TunnelRemoved tunnel

-- A tunnel or a call of this end comes up or ends, or a tunnel is there again after a crash, frozen, or recovered. Nothing is told of what
-- a datagram does beside that: an opening that is declined and a call that is refused are answered, and have no id of this end, so that a
-- stranger who sends as many as he likes makes no line. Calls that go with their tunnel, come back with it, or end as it is frozen have no
-- move, and the line of the tunnel tells them. A tunnel that was kept and is given up at a start is lost
unfoldable pub note_of : Move → Option CauseOf → Option Note
note_of (move.Connected m) cause = Some (note.TunnelUp m.tunnel m.peer m.remote)
note_of (move.Confirmed m) cause = Some (note.TunnelUp m.tunnel m.peer m.remote)
note_of (move.Closed m) cause = Some (note.TunnelClosed m.tunnel (told m.result m.error cause))
note_of (move.Rejected m) cause = Some (note.TunnelClosed m.tunnel (told m.result m.error cause))
note_of (move.ClosedBy m) cause = Some (note.TunnelClosedBy m.tunnel)
note_of (move.Cleared tunnel booked) cause = Some (cleared tunnel booked)
note_of (move.FirstUp m) cause = Some (note.CallUp m.session m.tunnel m.remote (Some m.subscriber))
note_of (move.SecondUp m) cause = Some (note.CallUp m.session m.tunnel m.remote None)
note_of (move.EndTold m) cause = Some (note.CallGone m.session m.tunnel (told m.result m.error cause))
note_of (move.EndHeard m) cause = Some (note.CallGoneBy m.session m.tunnel)
note_of (move.EndSilent m) cause = Some (note.CallLeft m.session m.tunnel)
note_of (move.Restored m) cause = Some (note.TunnelRestored m.tunnel.local m.tunnel.peer m.tunnel.remote)
note_of (move.Forgot m) cause = Some (note.TunnelLost m.tunnel)
note_of (move.Froze m) cause = Some (note.TunnelFrozen m.tunnel)
note_of (move.ResetAttempting m) cause = Some (note.TunnelRecovered m.tunnel)
note_of (move.ResetAnswering m) cause = Some (note.TunnelRecovered m.tunnel)
note_of m cause = None

-- by an answer to a query of sessions each call of one that the peer doesn't have ends, and each has a note of its own
abbrev pub missing : ℕ → List ℕ → List Note
missing tunnel calls = map (λ s. note.CallMissing s tunnel) calls

unfoldable pub notes_at : Move → Option CauseOf → List Note
notes_at (move.TookAnswer m) cause = missing m.tunnel m.ended
notes_at m cause = option_to_list (note_of m cause)

-- ---- what is told of a step

-- by its moves, in their order, each with its cause
unfoldable pub notes_by : List CauseOf → List Move → List Note
notes_by causes [] = []
notes_by causes (m ∷ ms) = notes_at m (cause_for (tells_code m) causes) ++ notes_by (causes_behind (tells_code m) causes) ms

abbrev pub notes_of : List Move → List Out → List Note
notes_of moves outputs = notes_by (causes_of outputs) moves
