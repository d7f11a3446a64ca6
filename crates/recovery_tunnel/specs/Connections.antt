-- One end of a recovery tunnel (RFC 4951 section 4.3): a control connection of its own, over which one end asks for the recovery of
-- a tunnel and the other one answers.
use Rattle.std.specs.Prelude.{ℕ, ◌-◌, ◌+◌, ◌==◌, ◌&&◌, ◌||◌, not, nat_le, Bool, true, false, if◌then◌else◌, List, Option, Some, None, is_some, is_none}
use Rattle.wire_base.specs.declared.letter.Letter.{Letter}
use Rattle.wire_base.specs.declared.cause.Cause.{Cause}
use Rattle.wire_base.specs.declared.cause.Cause.TheVariants.{Avp, Mandatory, Version, State, Secret}
use Rattle.avp_codec.specs.Spelling.{spelling}
use Rattle.control_message.specs.declared.message.Message.{Message}
use Rattle.control_message.specs.declared.message.Message.TheVariants.{Scccn, StopCcn}
use Rattle.control_message.specs.declared.message.Opening.{Opening}
use Rattle.control_message.specs.Pairs.{pairs_of}
use Rattle.send_window.specs.declared.window.Tick.{Tick}
use Rattle.send_window.specs.declared.window.Tick.TheVariants.{Quiet, Again, Failed}
use Rattle.control_channel.specs.Channel.{Channel, sent_into, learnt_by, answer_to_tick}
use Rattle.recovery_tunnel.specs.declared.progress.Progress.{Progress}
use Rattle.recovery_tunnel.specs.declared.progress.Progress.TheVariants.{Waiting, Given, Cleared}

pub record ControlConnection : Type 0 where
  -- the tunnel id that this end assigned, and the one of the other end, which is 0 while it isn't known
  pub local : ℕ
  pub remote : ℕ
  -- the number that this end drew
  pub draw : ℕ
  -- what it asked the other end to answer by the secret
  pub challenge : Option (List ℕ)
  pub channel : Channel
  -- the moment at which it began, and the one at which it told to reset the tunnel, where it has
  pub since : ℕ
  pub reset : Option ℕ
  -- it is closed, by a StopCCN of its own
  pub closed : Bool

-- it has neither told to reset the tunnel nor been closed
abbrev pub is_waiting : ControlConnection → Bool
is_waiting c = is_none c.reset && not c.closed

-- ---- letters

-- a message of the tunnel itself as a letter: its header has the session id 0
abbrev pub letter_of : Message → Letter
letter_of m = record { session = 0; avps = spelling (pairs_of m) }

abbrev pub gives : Message → ControlConnection → ControlConnection
gives m c = record c { channel = sent_into c.channel (letter_of m) }

-- a window of 0 letters is none
abbrev pub learns_window : ℕ → Channel → Channel
learns_window window channel = if window == 0 then channel else learnt_by channel window

-- how many letters it was given at most: one as it began, one as it told to reset the tunnel, and its StopCCN
abbrev pub one_where : Bool → ℕ
one_where b = if b then 1 else 0

abbrev pub most_letters : Option ℕ → Bool → ℕ
most_letters reset closed = 1 + one_where (is_some reset) + one_where closed

-- ---- refusals

-- the result code and the error code of the StopCCN that says why (RFC 2661 section 4.4.2)
abbrev pub result_code : Cause → ℕ
result_code Version = 5
result_code State = 7
result_code Secret = 4
result_code c = 2

abbrev pub error_code : Cause → Option ℕ
error_code Version = None
error_code State = None
error_code Secret = None
error_code Avp = Some 2
error_code Mandatory = Some 8
error_code c = Some 3

abbrev pub stop_of : ℕ → Cause → Message
stop_of local c = StopCcn local (result_code c) (error_code c)

-- what comes is refused: the other end is told why, and this one is closed. A closed one passes over what comes
unfoldable pub refuses : Cause → ControlConnection → ControlConnection
refuses cause c = if c.closed then c else record (gives (stop_of c.local cause) c) { closed = true }

abbrev pub told_by_refusal : Cause → ControlConnection → Progress
told_by_refusal cause c = if c.closed then Waiting else Given cause

-- ---- confirmations

-- an SCCRP is confirmed by an SCCCN with this response, and tells the other end's tunnel id and window; the tunnel is reset now
abbrev pub confirms : Opening → Option (List ℕ) → ℕ → ControlConnection → ControlConnection
confirms o response moment c = record c {
  channel = learns_window o.window (sent_into c.channel (letter_of (Scccn response)));
  remote = o.tunnel;
  reset = Some moment;
}

-- ---- time

-- so many milliseconds have passed; where the moment is below the kept one, no time has
abbrev pub is_over : ℕ → ℕ → ℕ → Bool
is_over limit moment kept = nat_le limit (moment - kept)

-- how long it may take until the tunnel is reset: 60 seconds
abbrev pub patience : ℕ
patience = 60000

abbrev pub is_failure : Tick → Bool
is_failure Quiet = false
is_failure (Again number) = false
is_failure (Failed first) = true

-- the channel has failed, or the reset took too long
abbrev pub is_lost : ℕ → ControlConnection → Bool
is_lost moment c = is_failure (answer_to_tick c.channel moment) || (is_none c.reset && is_over patience moment c.since)

-- then the tunnel that was to be recovered is cleared
abbrev pub told_by_time : ℕ → ControlConnection → Progress
told_by_time moment c = if is_lost moment c then Cleared else Waiting
