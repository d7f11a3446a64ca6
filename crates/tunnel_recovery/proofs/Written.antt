-- What the ends of a recovery tunnel say can be written.
use Rattle.std.proofs.Common.{◌≡◌, ℕ, ◌<◌, None}
use Rattle.std.specs.Prelude.{◌^◌}
use Rattle.control_message.specs.Pairs.{IsWritten, IsWrittenOpening}
use Rattle.control_message.specs.declared.message.Message.TheVariants.{Sccrq, Sccrp}
use Rattle.control_message.specs.declared.message.Opening.{Opening}
use Rattle.control_message.specs.declared.message.Recovery.{Recovery}
use Rattle.control_message.specs.declared.message.Suggested.{Suggested}
use Rattle.recovery_tunnel.specs.Attempts.{request_of}
use Rattle.recovery_tunnel.specs.Answers.{reply_of}

pub request_written : (o : Opening) (local : ℕ) (main : Recovery) (draw : ℕ) → IsWrittenOpening o → o.response ≡ None → o.suggested ≡ None
    → 0 < local → local < 2 ^ 16 → main.sender < 2 ^ 32 → main.receiver < 2 ^ 32 → draw < 2 ^ 32 → IsWritten (Sccrq (request_of local main draw o))
request_written o local main draw w response suggested some id sender receiver number = (
  record {
    version = w.version;
    framing = w.framing;
    name = w.name;
    tunnel = id;
    tunnel_not_zero = some;
    window = w.window;
    window_not_zero = w.window_not_zero;
    failover = w.failover;
    challenge = w.challenge;
    response = w.response;
    recovery = (sender, receiver);
    suggested = w.suggested;
    attempt = number;
  },
  response,
  suggested,
)

pub reply_written : (o : Opening) (local : ℕ) (s : Suggested) (draw : ℕ) → IsWrittenOpening o → o.recovery ≡ None
    → 0 < local → local < 2 ^ 16 → s.ns < 2 ^ 16 → s.nr < 2 ^ 16 → draw < 2 ^ 32 → IsWritten (Sccrp (reply_of local s draw o))
reply_written o local s draw w none some id ns nr number = (
  record {
    version = w.version;
    framing = w.framing;
    name = w.name;
    tunnel = id;
    tunnel_not_zero = some;
    window = w.window;
    window_not_zero = w.window_not_zero;
    failover = w.failover;
    challenge = w.challenge;
    response = w.response;
    recovery = w.recovery;
    suggested = (ns, nr);
    attempt = number;
  },
  none,
)
