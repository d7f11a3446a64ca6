-- That the right moves make a line, and no other.
use Rattle.std.specs.Prelude.{◌≡◌, ℕ, ◌+◌, ◌==◌, List, [], ◌∷◌, replicate, length, Bool, true, false, if◌then◌else◌, unwrap_or}
use Rattle.std.specs.List.{flat_map, list_all}
use Rattle.session_book.specs.declared.record.Record.{Record}
use Rattle.session_book.specs.declared.record.Record.TheVariants.{TunnelUp, TunnelDown, CallUp, CallDown, Mark}
use Rattle.end_model.specs.declared.out.Out.{Out}
use Rattle.end_model.specs.declared.moves.Move.{Move}
use Rattle.end_model.specs.declared.moves.Move.TheVariants as move
use Rattle.end_model.specs.Contents.{records_of}
use Rattle.node_notes.specs.declared.note.Note.{Note}
use Rattle.node_notes.specs.declared.note.Note.TheVariants as note
use Rattle.node_notes.specs.Notes.{notes_of}
use Rattle.node_notes.specs.Texts.{notes_text}

-- ---- what makes no line

-- neither a tunnel nor a call of this end comes up or ends, and no tunnel is restored, frozen or recovered: an opening that is declined, a
-- call that is refused, a letter that is taken, sent or repeated, an acknowledgement, a frame, what only begins, what a recovery tunnel
-- does beside its reset, a query of sessions, one that is answered, an answer by which no call ends, and a message that a tunnel which is
-- recovered passes over
abbrev pub is_quiet : Move → Bool
is_quiet (move.Opened m) = true
is_quiet (move.Accepted m) = true
is_quiet (move.Added m) = true
is_quiet (move.Requested m) = true
is_quiet (move.Replied m) = true
is_quiet (move.Refused m) = true
is_quiet (move.Declined m) = true
is_quiet (move.Greeted m) = true
is_quiet (move.TookPlain m) = true
is_quiet (move.NrRead m) = true
is_quiet (move.LetGo m) = true
is_quiet (move.Repeated m) = true
is_quiet (move.Quiet tunnel) = true
is_quiet (move.Negotiated m) = true
is_quiet (move.Counted m) = true
is_quiet (move.FrameSent m) = true
is_quiet (move.FrameUp m) = true
is_quiet (move.Queried m) = true
is_quiet (move.AnsweredQuery m) = true
is_quiet (move.TookAnswer m) = length m.ended == 0
is_quiet (move.RecoveryWentOn tunnel) = true
is_quiet (move.RecoveryEnded tunnel) = true
is_quiet (move.Ignored tunnel) = true
is_quiet m = false

-- a step whose moves are all quiet makes no text, whatever it gives
abbrev pub QuietMovesMakeNoText : Type 0
QuietMovesMakeNoText = (moves : List Move) (outputs : List Out) → list_all is_quiet moves ≡ true → notes_text moves outputs ≡ []

-- how many lines a move has: an answer to a query of sessions one for each call that it ends, and any other that isn't quiet one
abbrev pub lines_of : Move → ℕ
lines_of (move.TookAnswer m) = length m.ended
lines_of m = if is_quiet m then 0 else 1

abbrev pub lines_in : List Move → ℕ
lines_in [] = 0
lines_in (m ∷ ms) = lines_in ms + lines_of m

-- and each move has its lines
abbrev pub MovesHaveTheirNotes : Type 0
MovesHaveTheirNotes = (moves : List Move) (outputs : List Out) → length (notes_of moves outputs) ≡ lines_in moves

-- ---- what a checkpoint has

-- the note tells what the record leaves: which tunnel or call comes up, with its peer, the peer's id and its subscriber, or which one goes
abbrev pub Tells : Record → Note → Type 0
Tells (TunnelUp b) (note.TunnelUp tunnel peer remote) = (tunnel ≡ b.local) × (peer ≡ b.peer) × (remote ≡ b.remote)
Tells (TunnelDown i) (note.TunnelClosed tunnel told) = tunnel ≡ i
Tells (TunnelDown i) (note.TunnelClosedBy tunnel) = tunnel ≡ i
Tells (TunnelDown i) (note.TunnelLost tunnel) = tunnel ≡ i
Tells (CallUp b) (note.CallUp call tunnel remote who) =
    (call ≡ b.local) × (tunnel ≡ b.tunnel) × (remote ≡ b.remote) × (unwrap_or who (replicate 6 0) ≡ b.subscriber)
Tells (CallDown s) (note.CallGone call tunnel told) = call ≡ s
Tells (CallDown s) (note.CallGoneBy call tunnel) = call ≡ s
Tells (CallDown s) (note.CallLeft call tunnel) = call ≡ s
Tells (CallDown s) (note.CallMissing call tunnel) = call ≡ s
Tells r n = ⊥

-- the notes tell the records of tunnels and calls that come up or go, in their order, each by a note of its own. The record of a mark has
-- none: an operator isn't told of marks. There may be other notes between those
pub data AreTold : List Record → List Note → Type 0 where
  NoneLeft : (ns : List Note) → AreTold [] ns
  ToldBy : (r : Record) (rs : List Record) (n : Note) (ns : List Note) → Tells r n → AreTold rs ns → AreTold (r ∷ rs) (n ∷ ns)
  ToldLater : (rs : List Record) (n : Note) (ns : List Note) → AreTold rs ns → AreTold rs (n ∷ ns)
  Untold : (tunnel mark : ℕ) (rs : List Record) (ns : List Note) → AreTold rs ns → AreTold (Mark tunnel mark ∷ rs) ns

-- no tunnel and no call comes into a checkpoint or goes from it without a note
abbrev pub RecordsHaveTheirNotes : Type 0
RecordsHaveTheirNotes = (moves : List Move) (outputs : List Out) → AreTold (flat_map (λ m. records_of m) moves) (notes_of moves outputs)
