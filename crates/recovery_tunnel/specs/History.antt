-- Whatever calls are made of an attempt or an answer, it tells to reset its tunnel once at most, and refuses once at most.
use Rattle.std.specs.Prelude.{ℕ, ◌≡◌, ◌+◌, ◌≤◌, Bool, true, false, List, [], ◌∷◌, Option, is_some}
use Rattle.wire_base.specs.declared.cause.Cause.{Cause}
use Rattle.control_message.specs.declared.message.Message.{Message}
use Rattle.control_message.specs.declared.message.Opening.{Opening}
use Rattle.control_message.specs.declared.message.Recovery.{Recovery}
use Rattle.control_message.specs.declared.message.Suggested.{Suggested}
use Rattle.control_channel.specs.Channel.{Channel, received, taken_by, let_go_at, ticked_at}
use Rattle.recovery_tunnel.specs.declared.progress.Progress.{Progress}
use Rattle.recovery_tunnel.specs.declared.progress.Progress.TheVariants.{Waiting, Reset, Given, Cleared}
use Rattle.recovery_tunnel.specs.Connections.{ControlConnection, refuses, told_by_refusal, one_where, told_by_time}
use Rattle.recovery_tunnel.specs.Attempts.{new_attempt, told_to_attempt, attempt_after}
use Rattle.recovery_tunnel.specs.Answers.{Answering, new_answer, told_to_answer, answer_after}

-- a call that changes an attempt or an answer, or tells what becomes of it
pub data Call : Type 0 where
  -- those of its channel
  Receives : (nr moment : ℕ) → Call
  Takes : Call
  Pumps : (moment : ℕ) → Call
  Ticks : (moment : ℕ) → Call
  -- a message, one that has a fault, and the time
  Hears : (secret : Option (List ℕ)) (message : Message) (moment : ℕ) → Call
  Faults : (cause : Cause) → Call
  Waits : (moment : ℕ) → Call

abbrev pub channel_after : Call → Channel → Channel
channel_after (Receives nr moment) c = received c nr moment
channel_after Takes c = taken_by c
channel_after (Pumps moment) c = let_go_at c moment
channel_after (Ticks moment) c = ticked_at c moment
channel_after call c = c

-- what a connection is after a call that isn't about a message
abbrev pub connection_after : Call → ControlConnection → ControlConnection
connection_after (Faults cause) c = refuses cause c
connection_after call c = record c { channel = channel_after call c.channel }

abbrev pub connection_tells : Call → ControlConnection → Progress
connection_tells (Faults cause) c = told_by_refusal cause c
connection_tells (Waits moment) c = told_by_time moment c
connection_tells call c = Waiting

abbrev pub attempt_after_call : Call → ControlConnection → ControlConnection
attempt_after_call (Hears secret message moment) c = attempt_after secret moment message c
attempt_after_call call c = connection_after call c

abbrev pub attempt_tells : Call → ControlConnection → Progress
attempt_tells (Hears secret message moment) c = told_to_attempt secret message c
attempt_tells call c = connection_tells call c

abbrev pub answer_after_call : Call → Answering → Answering
answer_after_call (Hears secret message moment) a = answer_after secret moment message a
answer_after_call call a = record a { connection = connection_after call a.connection }

abbrev pub answer_tells : Call → Answering → Progress
answer_tells (Hears secret message moment) a = told_to_answer secret message a
answer_tells call a = connection_tells call a.connection

abbrev pub is_reset : Progress → Bool
is_reset (Reset suggested draw) = true
is_reset Waiting = false
is_reset (Given cause) = false
is_reset Cleared = false

abbrev pub is_given : Progress → Bool
is_given (Given cause) = true
is_given Waiting = false
is_given (Reset suggested draw) = false
is_given Cleared = false

-- how often a list of calls tells what passes a test
abbrev pub told_by_attempt : (Progress → Bool) → List Call → ControlConnection → ℕ
told_by_attempt test [] c = 0
told_by_attempt test (call ∷ calls) c = one_where (test (attempt_tells call c)) + told_by_attempt test calls (attempt_after_call call c)

abbrev pub told_by_answer : (Progress → Bool) → List Call → Answering → ℕ
told_by_answer test [] a = 0
told_by_answer test (call ∷ calls) a = one_where (test (answer_tells call a)) + told_by_answer test calls (answer_after_call call a)

-- what it is after a list of calls
abbrev pub attempt_run : List Call → ControlConnection → ControlConnection
attempt_run [] c = c
attempt_run (call ∷ calls) c = attempt_run calls (attempt_after_call call c)

abbrev pub answer_run : List Call → Answering → Answering
answer_run [] a = a
answer_run (call ∷ calls) a = answer_run calls (answer_after_call call a)

-- that was once at most, and it was where it counts so then
pub record IsOnce (told : ℕ) (so : Bool) : Type 0 where
  pub few : told ≤ 1
  pub counted : told ≡ one_where so

-- of a connection after the calls: how often these told to reset the tunnel, and how often they refused
pub record TellsOnce (resets refusals : ℕ) (c : ControlConnection) : Type 0 where
  pub reset : IsOnce resets (is_some c.reset)
  pub closed : IsOnce refusals c.closed

abbrev pub AttemptTellsOnce : Type 0
AttemptTellsOnce = (local : ℕ) (main : Recovery) (draw : ℕ) (o : Opening) (moment : ℕ) (calls : List Call) →
    let c = new_attempt local main draw o moment in
    TellsOnce (told_by_attempt is_reset calls c) (told_by_attempt is_given calls c) (attempt_run calls c)

abbrev pub AnswerTellsOnce : Type 0
AnswerTellsOnce = (local remote : ℕ) (suggested : Suggested) (o : Opening) (window draw moment : ℕ) (calls : List Call) →
    let a = new_answer local remote suggested o window draw moment in
    TellsOnce (told_by_answer is_reset calls a) (told_by_answer is_given calls a) (answer_run calls a).connection
