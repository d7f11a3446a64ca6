-- Either end of a recovery tunnel.
use Rattle.std.specs.Prelude.{ℕ, Bool, List, Option, is_some}
use Rattle.wire_base.specs.declared.cause.Cause.{Cause}
use Rattle.control_message.specs.declared.message.Message.{Message}
use Rattle.control_channel.specs.Channel.{Channel, received, taken_by, let_go_at, ticked_at}
use Rattle.recovery_tunnel.specs.declared.progress.Progress.{Progress}
use Rattle.recovery_tunnel.specs.declared.either.Recovering.{Recovering}
use Rattle.recovery_tunnel.specs.declared.either.Recovering.TheVariants.{ByAttempt, ByAnswer}
use Rattle.recovery_tunnel.specs.Connections.{ControlConnection, refuses}
use Rattle.recovery_tunnel.specs.Attempts.{told_to_attempt, attempt_after, is_attempt_over}
use Rattle.recovery_tunnel.specs.Answers.{told_to_answer, answer_after, is_answer_over}

abbrev pub connection_of : Recovering → ControlConnection
connection_of (ByAttempt c) = c
connection_of (ByAnswer a) = a.connection

abbrev pub with_connection : ControlConnection → Recovering → Recovering
with_connection c (ByAttempt old) = ByAttempt c
with_connection c (ByAnswer old) = ByAnswer (record old { connection = c })

-- it told to reset its tunnel
abbrev pub is_reset : Recovering → Bool
is_reset r = is_some (connection_of r).reset

-- ---- its channel

abbrev pub with_channel : Channel → Recovering → Recovering
with_channel c r = with_connection (record (connection_of r) { channel = c }) r

abbrev pub channel_of : Recovering → Channel
channel_of r = (connection_of r).channel

abbrev pub reads_nr : ℕ → ℕ → Recovering → Recovering
reads_nr nr moment r = with_channel (received (channel_of r) nr moment) r

abbrev pub takes_letter : Recovering → Recovering
takes_letter r = with_channel (taken_by (channel_of r)) r

abbrev pub lets_go : ℕ → Recovering → Recovering
lets_go moment r = with_channel (let_go_at (channel_of r) moment) r

abbrev pub ticked : ℕ → Recovering → Recovering
ticked moment r = with_channel (ticked_at (channel_of r) moment) r

-- ---- what it hears

abbrev pub told_by : Option (List ℕ) → Message → Recovering → Progress
told_by secret m (ByAttempt c) = told_to_attempt secret m c
told_by secret m (ByAnswer a) = told_to_answer secret m a

abbrev pub after_message : Option (List ℕ) → ℕ → Message → Recovering → Recovering
after_message secret moment m (ByAttempt c) = ByAttempt (attempt_after secret moment m c)
after_message secret moment m (ByAnswer a) = ByAnswer (answer_after secret moment m a)

-- a message that is refused
abbrev pub after_refusal : Cause → Recovering → Recovering
after_refusal cause r = with_connection (refuses cause (connection_of r)) r

-- it has ended by itself
abbrev pub is_over_by : ℕ → Recovering → Bool
is_over_by moment (ByAttempt c) = is_attempt_over c
is_over_by moment (ByAnswer a) = is_answer_over moment a
