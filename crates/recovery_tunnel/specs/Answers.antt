-- The end that answers an attempt at the recovery of a tunnel (RFC 4951 section 4.3).
use Rattle.std.specs.Prelude.{ℕ, Bool, true, false, if◌then◌else◌, List, Option, Some, None}
use Rattle.wire_base.specs.declared.cause.Cause.TheVariants as cause
use Rattle.control_message.specs.declared.message.Message.{Message}
use Rattle.control_message.specs.declared.message.Message.TheVariants.{Sccrq, Sccrp, Scccn, StopCcn}
use Rattle.control_message.specs.declared.message.Opening.{Opening}
use Rattle.control_message.specs.declared.message.Suggested.{Suggested}
use Rattle.control_channel.specs.Channel.{opened_at, sent_into}
use Rattle.recovery_tunnel.specs.declared.progress.Progress.{Progress}
use Rattle.recovery_tunnel.specs.declared.progress.Progress.TheVariants.{Waiting, Reset, Given, Cleared}
use Rattle.recovery_tunnel.specs.Secrets.{is_wrong}
use Rattle.recovery_tunnel.specs.Connections.{ControlConnection, is_waiting, letter_of, refuses, told_by_refusal, is_over}

pub record Answering : Type 0 where
  pub connection : ControlConnection
  -- the numbers that its SCCRP suggests
  pub suggested : Suggested

-- what its SCCRP says: the tunnel id that it assigns, the numbers that it suggests, and its draw number; all else as it is given
abbrev pub reply_of : ℕ → Suggested → ℕ → Opening → Opening
reply_of local suggested draw o = record o { tunnel = local; suggested = Some suggested; attempt = Some draw }

-- it begins with that letter, and the SCCRQ that it answers was the first letter of the other end
unfoldable pub new_answer : ℕ → ℕ → Suggested → Opening → ℕ → ℕ → ℕ → Answering
new_answer local remote suggested o window draw moment = record {
  connection = record {
    local = local;
    remote = remote;
    draw = draw;
    challenge = o.challenge;
    channel = sent_into (opened_at 0 1 window) (letter_of (Sccrp (reply_of local suggested draw o)));
    since = moment;
    reset = None;
    closed = false;
  };
  suggested = suggested;
}

-- ---- messages

abbrev pub told_by_confirmation : Bool → Suggested → Progress
told_by_confirmation true s = Given cause.Secret
told_by_confirmation false s = Reset s None

abbrev pub after_confirmation : Bool → ℕ → ControlConnection → ControlConnection
after_confirmation true moment c = refuses cause.Secret c
after_confirmation false moment c = record c { reset = Some moment }

-- what a message does: the first SCCCN decides, any other opening is out of turn, a StopCCN clears the tunnel, and other kinds are
-- passed over
unfoldable pub told_to_answer : Option (List ℕ) → Message → Answering → Progress
told_to_answer secret (Scccn response) a =
    if is_waiting a.connection then told_by_confirmation (is_wrong 3 secret a.connection.challenge response) a.suggested
    else told_by_refusal cause.State a.connection
told_to_answer secret (Sccrq o) a = told_by_refusal cause.State a.connection
told_to_answer secret (Sccrp o) a = told_by_refusal cause.State a.connection
told_to_answer secret (StopCcn tunnel result error) a = Cleared
told_to_answer secret m a = Waiting

unfoldable pub answer_after : Option (List ℕ) → ℕ → Message → Answering → Answering
answer_after secret moment (Scccn response) a = record a {
  connection =
      if is_waiting a.connection then after_confirmation (is_wrong 3 secret a.connection.challenge response) moment a.connection
      else refuses cause.State a.connection;
}
answer_after secret moment (Sccrq o) a = record a { connection = refuses cause.State a.connection }
answer_after secret moment (Sccrp o) a = record a { connection = refuses cause.State a.connection }
answer_after secret moment m a = a

-- how long it is kept after its reset, so that it acknowledges what comes again: 31 seconds
abbrev pub kept_after_reset : ℕ
kept_after_reset = 31000

abbrev pub is_kept_long : ℕ → Option ℕ → Bool
is_kept_long moment None = false
is_kept_long moment (Some at) = is_over kept_after_reset moment at

abbrev pub is_answer_over : ℕ → Answering → Bool
is_answer_over moment a = is_kept_long moment a.connection.reset
