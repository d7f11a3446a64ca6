-- What a run did with the frames of calls, of what its lines did. No end keeps it, and the run doesn't depend on it.
use Rattle.std.specs.Prelude.{ℕ, List, [], ◌∷◌, ◌++◌}
use Rattle.schedule_text.specs.declared.line.Line.{Line}
use Rattle.end_names.specs.declared.role.Role.{Role}
use Rattle.end_model.specs.declared.moves.Move.{Move}
use Rattle.end_model.specs.declared.moves.Move.TheVariants as move
use Rattle.end_names.specs.Names.{node_of}
use Rattle.world_model.specs.World.{Deed}
use Rattle.world_model.specs.Run.{run}

-- a PPP frame that an end sent in a call, or handed up in a call
pub record Passage : Type 0 where
  -- the line in which it did
  pub line : ℕ
  pub node : ℕ
  -- which end of the call the node is
  pub role : Role
  -- the node that the call's tunnel goes to
  pub peer : ℕ
  -- the call, by the session id that the node gave it, and by its birth
  pub session : ℕ
  pub birth : ℕ
  -- from its protocol field on
  pub frame : List ℕ

-- what was sent, and what was handed up, in order
pub record Past : Type 0 where
  pub sent : List Passage
  pub handed : List Passage

abbrev pub passage_of : Deed → ℕ → ℕ → List ℕ → Passage
passage_of d peer session frame = record { line = d.line; node = d.node; role = d.role; peer = node_of peer; session = session; birth = d.birth; frame = frame }

abbrev pub sent_by : Deed → Move → List Passage
sent_by d (move.FrameSent m) = passage_of d m.peer m.session m.frame ∷ []
sent_by d m = []

abbrev pub handed_by : Deed → Move → List Passage
handed_by d (move.FrameUp m) = passage_of d m.peer m.session m.frame ∷ []
handed_by d m = []

unfoldable pub sent_in : List Deed → List Passage
sent_in [] = []
sent_in (d ∷ ds) = sent_by d d.move ++ sent_in ds

unfoldable pub handed_in : List Deed → List Passage
handed_in [] = []
handed_in (d ∷ ds) = handed_by d d.move ++ handed_in ds

abbrev pub past_in : List Deed → Past
past_in ds = record { sent = sent_in ds; handed = handed_in ds }

abbrev pub past_of : List Line → Past
past_of lines = past_in (run lines).done
