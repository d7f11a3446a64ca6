-- In each run, what each line brings to a node is answered.
use Rattle.std.specs.Prelude.{◌≡◌, ℕ, ◌+◌, false, List, [], ◌∷◌, ◌++◌, length, map, option_map, Option, Some, None, Ok}
use Rattle.id_table.specs.Ids.{at}
use Rattle.wire_base.specs.declared.cause.Cause.{Cause as CauseOf}
use Rattle.schedule_text.specs.declared.line.Line.{Line}
use Rattle.schedule_text.specs.declared.line.Line.TheVariants.{Hand}
use Rattle.schedule_text.specs.Grammar.{AreLines}
use Rattle.end_model.specs.declared.event.Event.{Event}
use Rattle.end_model.specs.declared.moves.Move.{Move}
use Rattle.end_model.specs.declared.out.Out.TheVariants.{Cause}
use Rattle.end_model.specs.Secrets.{uncovered_event}
use Rattle.world_model.specs.Texts.{Causes}
use Rattle.end_model.specs.End.{Stepped, step}
use Rattle.world_model.specs.declared.held.Held.{Held}
use Rattle.world_model.specs.World.{World, Node, Deed, Lined, held_at, hand_move, block_of, line}
use Rattle.world_model.specs.Run.{run}
use Rattle.step_laws.specs.Answers.{StepAnswers}
use Rattle.step_laws.specs.Letters.{Among}
use Rattle.step_laws.specs.Steps.{IsChain}
use Rattle.cause_laws.specs.Causes.{Brings, moment_of}

-- the step of a node that a line makes on what it brings, at the line's moment and with the line's random bytes
abbrev pub step_at : ℕ → Line → ℕ → Node → Event → Stepped
step_at number l n node ev = step node.end (moment_of l node) (block_of n number) ev

-- before that step a line may hand up a frame, which the node held
abbrev pub held_move : Option Held → List Move
held_move None = []
held_move (Some f) = hand_move f ∷ []

abbrev pub hands_first : World → Line → List Move
hands_first w (Hand m k) = held_move (at (held_at w m) k)
hands_first w l = []

-- what the line did are the moves of that step, behind the frame that it handed up, if any, each cause that the step tells is told in an
-- entry of the line, and the step answers the request, or the ring, that the line brings; a datagram counts as it is read, with what the
-- node's secret uncovers in plain. The moves of the step are a chain from the end that the node has before the line to the one that it has
-- after it: each has what it needs in the end to which the moves before it lead, and leads to the next by what it changes there. So the one
-- move that answers a request puts one letter on its tunnel's channel, behind those that the tunnel gave before it; and so does the move by
-- which a ring asks for its call.
pub record LineAnswers (w : World) (number : ℕ) (l : Line) (x : Lined) (n : ℕ) (node : Node) (ev : Event) : Type 0 where
  pub done : map (λ (d : Deed). d.move) x.done ≡ hands_first w l ++ (step_at number l n node ev).moves
  pub told : (c : CauseOf) → Among (Cause c) (step_at number l n node ev).outputs → Among (Causes number n c) x.entries
  pub answers : StepAnswers node.end (moment_of l node) (uncovered_event node.end.config.secret ev) (step_at number l n node ev)
  pub chain : IsChain node.end (moment_of l node) (uncovered_event node.end.config.secret ev) (step_at number l n node ev)
  pub left : option_map (λ (q : Node). q.end) (at x.world.nodes n) ≡ Some (step_at number l n node ev).end

-- so it is of a line that is done in a world, for the node to which it brings an event; a step that a stop cut off is left out
abbrev pub AnswersWhatComes : World → ℕ → Line → Type 0
AnswersWhatComes w number l = (x : Lined) → line w number l ≡ Ok x → x.cut ≡ false → (n : ℕ) (node : Node) (ev : Event) → at w.nodes n ≡ Some node
    → Brings w l n ev → LineAnswers w number l x n node ev

-- at each of the lines of a run
abbrev pub AnswerThroughout : List Line → Type 0
AnswerThroughout lines =
    (before after : List Line) (l : Line) → lines ≡ before ++ l ∷ after → AnswersWhatComes (run before).world (length before + 1) l

-- of each list of lines of the grammar
abbrev pub AnswersOfRuns : Type 0
AnswersOfRuns = (lines : List Line) → AreLines lines → AnswerThroughout lines
