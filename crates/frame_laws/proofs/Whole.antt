-- What ends write is written by the codec's rules.
use Rattle.control_message.specs.declared.message.Message.{Message}
use Rattle.control_message.specs.declared.message.Message.TheVariants.{Sccrq, Sccrp, Fsq, Fsr}
use Rattle.control_message.specs.declared.message.Opening.{Opening}
use Rattle.control_message.specs.declared.kind.Kinds.TheVariants.{Queries}
use Rattle.control_message.specs.Pairs as codec
use Rattle.control_message.specs.Grammar.{IsKnownTo}
use Rattle.frame_laws.specs.Written.{IsWrittenOpening, IsWritten}

whole_opening : (o : Opening) → IsWrittenOpening o → codec.IsWrittenOpening o
whole_opening o w =
    record {
      version = w.version;
      framing = w.framing;
      name = w.name;
      tunnel = w.tunnel;
      tunnel_not_zero = w.tunnel_not_zero;
      window = w.window;
      window_not_zero = w.window_not_zero;
      failover = w.failover;
      challenge = w.challenge;
      response = w.response;
      recovery = rw w.recovery tt;
      suggested = rw w.suggested tt;
      attempt = rw w.attempt tt;
    }

pub whole : (m : Message) → IsWritten m → codec.IsWritten m
whole (Sccrq o) w = (whole_opening o w.0, w.1, w.0.suggested)
whole (Sccrp o) w = (whole_opening o w, w.recovery)
whole (Fsq sessions) w = absurd w
whole (Fsr sessions) w = absurd w
whole m w = w

-- each end reads all that is written
pub whole_read : (m : Message) → IsKnownTo m Queries
whole_read (Fsq sessions) = tt
whole_read (Fsr sessions) = tt
whole_read m = tt
