-- The end that attempts the recovery of a tunnel (RFC 4951 section 4.3).
use Rattle.std.specs.Prelude.{ℕ, ◌==◌, ◌&&◌, ◌||◌, not, nat_lt, Bool, false, if◌then◌else◌, List, Option, Some, None, is_some, unwrap_or}
use Rattle.wire_base.specs.declared.cause.Cause.{Cause}
use Rattle.wire_base.specs.declared.cause.Cause.TheVariants as cause
use Rattle.control_message.specs.declared.message.Message.{Message}
use Rattle.control_message.specs.declared.message.Message.TheVariants.{Sccrq, Sccrp, Scccn, StopCcn}
use Rattle.control_message.specs.declared.message.Opening.{Opening}
use Rattle.control_message.specs.declared.message.Recovery.{Recovery}
use Rattle.control_message.specs.declared.message.Suggested.{Suggested}
use Rattle.control_channel.specs.Channel.{opened_at, sent_into}
use Rattle.recovery_tunnel.specs.declared.progress.Progress.{Progress}
use Rattle.recovery_tunnel.specs.declared.progress.Progress.TheVariants.{Waiting, Reset, Given, Cleared}
use Rattle.recovery_tunnel.specs.Secrets.{response_by, lacks_secret, is_wrong}
use Rattle.recovery_tunnel.specs.Connections.{ControlConnection, is_waiting, letter_of, confirms, refuses, told_by_refusal}

-- what its SCCRQ says: the tunnel id that it assigns, the tunnel that is to be recovered, and its draw number; all else as it is given
abbrev pub request_of : ℕ → Recovery → ℕ → Opening → Opening
request_of local main draw o = record o { tunnel = local; recovery = Some main; attempt = Some draw }

-- it begins with that letter; as long as it isn't told, the other end's window counts as 4 (RFC 2661 section 4.4.3)
unfoldable pub new_attempt : ℕ → Recovery → ℕ → Opening → ℕ → ControlConnection
new_attempt local main draw o moment = record {
  local = local;
  remote = 0;
  draw = draw;
  challenge = o.challenge;
  channel = sent_into (opened_at 0 0 4) (letter_of (Sccrq (request_of local main draw o)));
  since = moment;
  reset = None;
  closed = false;
}

-- ---- the SCCRP that it waits for

-- what stands against it, the first that counts: its version isn't 1.0; it asks an end that has no secret, or answers wrongly
abbrev pub against : Option (List ℕ) → Option (List ℕ) → Opening → Option Cause
against secret asked o =
    if not (o.version == 256) then Some cause.Version
    else if lacks_secret secret o.challenge || is_wrong 2 secret asked o.response then Some cause.Secret
    else None

-- the numbers that it suggests; 0 and 0 where it suggests none
abbrev pub suggested_in : Opening → Suggested
suggested_in o = unwrap_or o.suggested (record { ns = 0; nr = 0 })

abbrev pub told_by_reply : Option Cause → Opening → Progress
told_by_reply None o = Reset (suggested_in o) o.attempt
told_by_reply (Some c) o = Given c

-- one that is taken is confirmed; of one that is refused the tunnel id is known from then on
abbrev pub after_reply : Option Cause → Option (List ℕ) → ℕ → Opening → ControlConnection → ControlConnection
after_reply None secret moment o c = confirms o (response_by 3 secret o.challenge) moment c
after_reply (Some x) secret moment o c = record (refuses x c) { remote = o.tunnel }

-- ---- messages

-- what a message does: the first SCCRP decides, any other opening is out of turn, a StopCCN clears the tunnel, and other kinds are
-- passed over
unfoldable pub told_to_attempt : Option (List ℕ) → Message → ControlConnection → Progress
told_to_attempt secret (Sccrp o) c = if is_waiting c then told_by_reply (against secret c.challenge o) o else told_by_refusal cause.State c
told_to_attempt secret (Sccrq o) c = told_by_refusal cause.State c
told_to_attempt secret (Scccn response) c = told_by_refusal cause.State c
told_to_attempt secret (StopCcn tunnel result error) c = Cleared
told_to_attempt secret m c = Waiting

unfoldable pub attempt_after : Option (List ℕ) → ℕ → Message → ControlConnection → ControlConnection
attempt_after secret moment (Sccrp o) c =
    if is_waiting c then after_reply (against secret c.challenge o) secret moment o c else refuses cause.State c
attempt_after secret moment (Sccrq o) c = refuses cause.State c
attempt_after secret moment (Scccn response) c = refuses cause.State c
attempt_after secret moment m c = c

-- its SCCCN, which is its second letter, is acknowledged
abbrev pub is_attempt_over : ControlConnection → Bool
is_attempt_over c = is_some c.reset && nat_lt 1 c.channel.outbox.window.acked
