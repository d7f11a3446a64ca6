-- What a step hears, and that the machine's moves of it take no other letter. A step hears one message. The letters by which a tunnel or a
-- call comes up go by stages, and each is given by a move that takes one of the stage before. So a step in which a move takes such a letter
-- hasn't given it: where a stop cuts the step off amid its records, the letter stood before the step.
use Rattle.std.specs.Prelude.{◌≡◌, ℕ, ◌<◌, List, [], ◌∷◌, Option, Some, None, Result, Ok, Err}
use Rattle.wire_base.specs.declared.why.Why.{Why}
use Rattle.control_message.specs.declared.kind.Kind.{Kind}
use Rattle.control_message.specs.declared.kind.Kind.TheVariants as kind
use Rattle.control_message.specs.declared.message.Message.{Message}
use Rattle.control_message.specs.declared.message.Message.TheVariants as message
use Rattle.end_model.specs.declared.event.Event.{Event}
use Rattle.end_model.specs.Reading.{message_in, CallFault, call_fault_in}
use Rattle.step_laws.specs.Arrivals.{Came, CameIn}
use Rattle.epoch_machine.specs.Letters.{Letter, Sccrq, Sccrp, Scccn, Request, Reply, Connect}
use Rattle.epoch_machine.specs.Channels.{Stands}
use Rattle.epoch_machine.specs.Worlds as machine
use Rattle.epoch_machine.specs.Worlds.{all_rules}
use Rattle.epoch_machine.specs.Moves as moves
use Rattle.epoch_machine.specs.Moves.{step}

-- each of these moves is so, in the world that those before it lead to
abbrev pub AllOf : (machine.World → moves.Move → Type 0) → machine.World → List moves.Move → Type 0
AllOf P m [] = Unit {0}
AllOf P m (j ∷ js) = P m j × AllOf P (step all_rules m j) js

-- ---- stages

-- of the messages by which a tunnel or a call comes up, or is asked for, and of no others: how far it is then
abbrev pub stage_of : Message → ℕ
stage_of (message.Sccrq o) = 1
stage_of (message.Sccrp o) = 2
stage_of (message.Scccn response) = 3
stage_of (message.Icrq session serial calling) = 5
stage_of (message.Icrp session) = 6
stage_of (message.Iccn speed framing sequenced) = 7
stage_of m = 0

abbrev pub stage : Letter → ℕ
stage Sccrq = 1
stage Sccrp = 2
stage Scccn = 3
stage (Request own) = 5
stage (Reply own z) = 6
stage (Connect z) = 7
stage l = 0

-- a request is also heard where its Calling Number can't be had, as where ends have different secrets: it is refused then, but is taken
abbrev pub stage_of_kind : Kind → ℕ
stage_of_kind kind.Icrq = 5
stage_of_kind k = 0

abbrev pub stage_of_fault : Option CallFault → ℕ
stage_of_fault None = 0
stage_of_fault (Some f) = stage_of_kind f.kind

abbrev pub stage_said : Result Message Why → Option CallFault → ℕ
stage_said (Ok m) f = stage_of m
stage_said (Err why) f = stage_of_fault f

abbrev pub stage_in : List ℕ → ℕ
stage_in body = stage_said (message_in body) (call_fault_in body)

-- ---- what is heard

-- what comes in a step is of this stage
pub record Hears (ev : Event) (at_stage : ℕ) : Type 0 where
  pub came : Came
  pub comes : CameIn ev came
  pub is : stage_in came.body ≡ at_stage

-- what a move of the machine takes is what the step hears
abbrev pub IsHeard : Event → machine.World → moves.Move → Type 0
IsHeard ev m (moves.Delivers x s e k z) = (l : Letter) → Stands m.channels s e k l → 0 < stage l → Hears ev (stage l)
IsHeard ev m (moves.Accepts s x) = Hears ev 1
IsHeard ev m j = Unit {0}

abbrev pub AreHeard : Event → machine.World → List moves.Move → Type 0
AreHeard ev m js = AllOf (IsHeard ev) m js
