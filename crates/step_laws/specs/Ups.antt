-- What a step hands up is what its moves hand up; and how many frames are handed up, how many calls are born, and how often Nr
-- is read, in a step.
use Rattle.std.specs.Prelude.{◌≡◌, ℕ, ◌≤◌, List, [], ◌∷◌, length}
use Rattle.std.specs.List.{flat_map}
use Rattle.end_model.specs.declared.event.Event.{Event}
use Rattle.end_model.specs.declared.event.Event.TheVariants.{Datagram, Ring, Admitted}
use Rattle.end_model.specs.declared.out.Out.{Out}
use Rattle.end_model.specs.declared.out.Out.TheVariants.{Up}
use Rattle.end_model.specs.declared.moves.Move.{Move}
use Rattle.end_model.specs.declared.moves.Move.TheVariants as move
use Rattle.end_model.specs.End.{End, plain_step}

-- an output, if it hands a frame up
abbrev pub ups_of_output : Out → List Out
ups_of_output (Up session side frame) = Up session side frame ∷ []
ups_of_output o = []

-- the output that a move is to have, if it hands a frame up
abbrev pub ups_of_move : Move → List Out
ups_of_move (move.FrameUp m) = Up m.session m.side m.frame ∷ []
ups_of_move m = []

-- the session of the call that a move adds
abbrev pub births_of_move : Move → List ℕ
births_of_move (move.Added m) = m.session ∷ []
births_of_move m = []

-- the tunnel in which a move reads Nr
abbrev pub reads_of_move : Move → List ℕ
reads_of_move (move.NrRead m) = m.tunnel ∷ []
reads_of_move m = []

-- how many frames are handed up at most, and how many calls are born at most, on an event
abbrev pub most_ups : Event → ℕ
most_ups (Datagram peer bytes) = 1
most_ups ev = 0

abbrev pub most_births : Event → ℕ
most_births (Ring port) = 1
most_births (Admitted mac) = 1
most_births ev = 0

abbrev pub most_reads : Event → ℕ
most_reads (Datagram peer bytes) = 1
most_reads ev = 0

-- in each step of each end the outputs that hand frames up are, in order, those of its moves: the session, the side and
-- the frame of each are the same
abbrev pub UpsAreMoves : Type 0
UpsAreMoves =
    (e : End) (moment : ℕ) (block : List ℕ) (ev : Event)
    → flat_map ups_of_output (plain_step e moment block ev).outputs ≡ flat_map ups_of_move (plain_step e moment block ev).moves

-- one frame at most is handed up, and none on an event that is no datagram
abbrev pub UpsAreFew : Type 0
UpsAreFew =
    (e : End) (moment : ℕ) (block : List ℕ) (ev : Event)
    → length (flat_map ups_of_output (plain_step e moment block ev).outputs) ≤ most_ups ev

-- one call at most is born, and none on an event that is no ring
abbrev pub BirthsAreFew : Type 0
BirthsAreFew =
    (e : End) (moment : ℕ) (block : List ℕ) (ev : Event)
    → length (flat_map births_of_move (plain_step e moment block ev).moves) ≤ most_births ev

-- Nr is read once at most, and only of a datagram
abbrev pub ReadsAreFew : Type 0
ReadsAreFew =
    (e : End) (moment : ℕ) (block : List ℕ) (ev : Event)
    → length (flat_map reads_of_move (plain_step e moment block ev).moves) ≤ most_reads ev
