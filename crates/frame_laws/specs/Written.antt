-- What ends write where nothing is recovered: the codec's messages, but for what a recovery tells, and the queries of sessions.
use Rattle.std.specs.Prelude.{◌≡◌, ◌<◌, ◌≤◌, ◌^◌, length, None, IsSomeAnd, IfSome}
use Rattle.control_message.specs.declared.message.Message.{Message}
use Rattle.control_message.specs.declared.message.Message.TheVariants.{Sccrq, Sccrp, Fsq, Fsr}
use Rattle.control_message.specs.declared.message.Opening.{Opening}
use Rattle.control_message.specs.Pairs as codec

-- an opening that is written, and neither asks for a recovery nor answers to one
pub record IsWrittenOpening (o : Opening) : Type 0 where
  pub version : o.version ≡ 256
  pub framing : o.framing < 2 ^ 32
  pub name : length o.name ≤ 1017
  pub tunnel : o.tunnel < 2 ^ 16
  pub tunnel_not_zero : 0 < o.tunnel
  pub window : o.window < 2 ^ 16
  pub window_not_zero : 0 < o.window
  pub failover : IsSomeAnd o.failover (λ f. (f.flags < 2 ^ 16) × (f.time < 2 ^ 32))
  pub challenge : IfSome o.challenge (λ v. length v ≤ 1017)
  pub response : IfSome o.response (λ r. length r ≡ 16)
  pub recovery : o.recovery ≡ None
  pub suggested : o.suggested ≡ None
  pub attempt : o.attempt ≡ None

abbrev pub IsWritten : Message → Type 0
-- a request answers no challenge
IsWritten (Sccrq o) = IsWrittenOpening o × (o.response ≡ None)
IsWritten (Sccrp o) = IsWrittenOpening o
IsWritten (Fsq sessions) = ⊥
IsWritten (Fsr sessions) = ⊥
IsWritten m = codec.IsWritten m
