-- What a recovery tunnel says may be read: its message is spelled as one that is written by the codec's rules.
use Rattle.std.proofs.Common.{◌≡◌, ⊎_elim, ℕ, ◌^◌, ◌%◌, ◌/◌, ◌<◌, refl, sym, ap, ◌∙◌, Some, None, arith}
use Rattle.wire_base.specs.Numbers.{u32_bytes}
use Rattle.wire_base.specs.declared.cause.Cause.{Cause}
use Rattle.wire_base.specs.declared.cause.Cause.TheVariants as cause
use Rattle.control_message.specs.declared.message.Message.{Message}
use Rattle.control_message.specs.declared.message.Message.TheVariants.{Sccrq, Sccrp, Scccn}
use Rattle.control_message.specs.declared.message.Opening.{Opening}
use Rattle.control_message.specs.declared.message.Recovery.{Recovery}
use Rattle.control_message.specs.Pairs.{pairs_of, IsWritten}
use Rattle.recovery_tunnel.specs.Connections.{ControlConnection, result_code, error_code, stop_of}
use Rattle.recovery_tunnel.specs.Attempts.{request_of}
use Rattle.recovery_tunnel.specs.Answers.{Answering, reply_of}
use Rattle.end_names.specs.declared.role.Role.{Role}
use Rattle.end_model.specs.declared.tunnel.Config.{Config}
use Rattle.end_model.specs.Messages.{opening_of}
use Rattle.end_model.specs.Tunnels.{Recovering, ByAttempt, ByAnswer}
use Rattle.step_laws.specs.Codes.{CodesFit}
use Rattle.step_laws.specs.Letters.{AsksRecovery, ConfirmsRecovery, AnswersRecovery, StopsRecovery, IsOfRecovery}
use Rattle.frame_laws.proofs.Facts.{Nodes, NamesItsCall, RecoveryOk}
use Rattle.frame_laws.proofs.WrittenLetters.{asks_short, responds_sized, opening_written}

-- ---- what is spelled

-- of a number four bytes are spelled, whatever is above them
small_bytes : (n : ℕ) → u32_bytes (n % 4294967296) ≡ u32_bytes n
unfolding u32_bytes
small_bytes n =
    let a : n % 4294967296 / 256 ^ 3 % 256 ≡ n / 256 ^ 3 % 256 = omega arith in
    let b : n % 4294967296 / 256 ^ 2 % 256 ≡ n / 256 ^ 2 % 256 = omega arith in
    let c : n % 4294967296 / 256 ^ 1 % 256 ≡ n / 256 ^ 1 % 256 = omega arith in
    let d : n % 4294967296 % 256 ≡ n % 256 = omega arith in
    rw (a, b, c, d) refl

-- an opening that asks for the recovery of a tunnel is spelled as one whose ids have 32 bits
abbrev pub asked_for : Opening → Recovery → Opening
asked_for o r = record o { recovery = Some r }

pub small_request : (o : Opening) (sender receiver : ℕ)
    → pairs_of (Sccrq (asked_for o (record { sender = sender; receiver = receiver % 4294967296 })))
    ≡ pairs_of (Sccrq (asked_for o (record { sender = sender; receiver = receiver })))
small_request o sender receiver = rw (small_bytes receiver) refl

-- the codes of a StopCCN have 16 bits
pub stop_fits : (x : Cause) → CodesFit (result_code x) (error_code x)
stop_fits cause.Version = (omega arith, tt)
stop_fits cause.State = (omega arith, tt)
stop_fits cause.Secret = (omega arith, tt)
stop_fits cause.Avp = (omega arith, omega arith)
stop_fits cause.Mandatory = (omega arith, omega arith)
stop_fits x = (omega arith, omega arith)

-- ---- messages

-- a message that is written, names no call, and is spelled as this one is
pub record IsSaid (m : Message) : Type 0 where
  pub message : Message
  pub written : IsWritten message
  pub names : (ns : Nodes) (from to session : ℕ) → NamesItsCall ns from to session message
  pub same : pairs_of message ≡ pairs_of m

module _ (role : Role) (config : Config) (number : config.number < 256) (i : ℕ) (small : i < 65536) where
  -- a StopCCN
  stops : (c : ControlConnection) → c.local < 65536 → (m : Message) → StopsRecovery c m → IsSaid m
  stops c fits m a =
      let fit = stop_fits a.0 in
      record {
        message = stop_of c.local a.0;
        written =
            (omega (arith, fits), fit.0, fit.1);
        names = λ ns from to session. tt;
        same = ap pairs_of (sym a.1);
      }

  module _ (c : ControlConnection) (ok : RecoveryOk (ByAttempt c)) where
    asks : (m : Message) → AsksRecovery role config i c.local c.draw m → IsSaid m
    asks m a =
        let base = opening_written role config a.challenge None c.local number ok.some ok.local
        (asks_short config.secret a.challenge a.asks) tt in
        let plain = request_of c.local a.named c.draw (opening_of role config a.challenge None c.local) in
        let sender_is = a.sender in
        record {
          message = Sccrq (asked_for plain (record { sender = a.named.sender; receiver = a.named.receiver % 4294967296 }));
          written = (
            record {
              version = base.version;
              framing = base.framing;
              name = base.name;
              tunnel = base.tunnel;
              tunnel_not_zero = base.tunnel_not_zero;
              window = base.window;
              window_not_zero = base.window_not_zero;
              failover = base.failover;
              challenge = base.challenge;
              response = tt;
              recovery = (omega (arith, sender_is, small), omega arith);
              suggested = tt;
              attempt = ok.draw;
            },
            refl,
            refl,
          );
          names = λ ns from to session. tt;
          same = small_request plain a.named.sender a.named.receiver ∙ ap pairs_of (sym a.is);
        }

    confirms : (m : Message) → ConfirmsRecovery config c.reset m → IsSaid m
    confirms m a = record {
      message = Scccn a.response;
      written = responds_sized 3 config.secret a.asked a.response a.responds;
      names = λ ns from to session. tt;
      same = ap pairs_of (sym a.is);
    }

  replies : (a : Answering) → RecoveryOk (ByAnswer a) → (m : Message)
      → AnswersRecovery role config a.connection.local a.connection.draw a.suggested m → IsSaid m
  replies a ok m r =
      let base = opening_written role config r.challenge r.response a.connection.local number ok.some ok.local
      (asks_short config.secret r.challenge r.asks)
      (responds_sized 2 config.secret r.asked r.response r.responds) in
      let ns = ok.suggests.0 in
      let nr = ok.suggests.1 in
      record {
        message = Sccrp (reply_of a.connection.local a.suggested a.connection.draw
            (opening_of role config r.challenge r.response a.connection.local));
        written = (
          record {
            version = base.version;
            framing = base.framing;
            name = base.name;
            tunnel = base.tunnel;
            tunnel_not_zero = base.tunnel_not_zero;
            window = base.window;
            window_not_zero = base.window_not_zero;
            failover = base.failover;
            challenge = base.challenge;
            response = base.response;
            recovery = tt;
            suggested = (omega (arith, ns), omega (arith, nr));
            attempt = ok.draw;
          },
          refl,
        );
        names = λ ns from to session. tt;
        same = ap pairs_of (sym r.is);
      }

  -- what a recovery tunnel says
  pub said_by : (r : Recovering) → RecoveryOk r → (m : Message) → IsOfRecovery role config i r m → IsSaid m
  said_by (ByAttempt c) ok m says = ⊎_elim (λ a. asks c ok m a) (λ k. ⊎_elim (λ a. confirms c ok m a) (λ a. stops c ok.local m a) k) says
  said_by (ByAnswer a) ok m says = ⊎_elim (λ r. replies a ok m r) (λ s. stops a.connection ok.local m s) says
