-- Attempts of peers at the recovery of a tunnel that is there (RFC 4951 section 4.3).
use Rattle.std.specs.Prelude.{ℕ, List, ◌==◌, not, nat_lt, if◌then◌else◌, Option, Some, None, Result, Ok, Err}
use Rattle.id_source.specs.declared.IdError.{IdError}
use Rattle.id_source.specs.Spaces.{takes_id}
use Rattle.wire_base.specs.declared.why.Why.{Why}
use Rattle.wire_base.specs.declared.why.Why.TheVariants as why
use Rattle.l2tp_header.specs.declared.header.Header.{Header}
use Rattle.l2tp_header.specs.declared.header.HeaderError.{HeaderError}
use Rattle.l2tp_header.specs.Reading.{header_of, body_of}
use Rattle.control_message.specs.declared.message.Message.{Message}
use Rattle.control_message.specs.declared.message.Message.TheVariants.{Sccrq}
use Rattle.control_message.specs.declared.message.Opening.{Opening}
use Rattle.control_message.specs.declared.message.Recovery.{Recovery as Named}
use Rattle.end_names.specs.declared.role.Role.{Role}
use Rattle.end_model.specs.declared.event.Event.{Event}
use Rattle.end_model.specs.declared.event.Event.TheVariants.{Datagram}
use Rattle.end_model.specs.declared.out.Out.TheVariants.{Drop}
use Rattle.end_model.specs.declared.tunnel.Config.{Config}
use Rattle.end_model.specs.Reasons.{other_version, no_recovery, no_secret, no_id}
use Rattle.end_model.specs.Reading.{message_in}
use Rattle.end_model.specs.Secrets.{lacks_secret}
use Rattle.end_model.specs.Tunnels.{Tunnel, Turn, Recovering}
use Rattle.end_model.specs.Recovering.{RecoveryTurn, froze, asked_in}
use Rattle.end_model.specs.End.{is_recoverable, is_tied, next_of_peer}
use Rattle.event_routing.specs.declared.answers.Given.{Given}
use Rattle.event_routing.specs.Answers.{gives, declines}
use Rattle.locked_tunnels.specs.declared.attempt.Attempted.{Attempted}
use Rattle.locked_tunnels.specs.declared.attempt.Attempted.TheVariants.{Answers, Gives}

-- what stands against it, the first that counts: its version, the tunnel that it names, an attempt of this end's own, which counts at a LAC,
-- a later attempt, a challenge to an end that has no secret
abbrev pub judged_by : Role → Config → Tunnel → ℕ → ℕ → Opening → Named → Attempted
judged_by role c t peer nr o named =
    if not (o.version == 256) then Gives (declines peer o.tunnel nr other_version)
    else if not (is_recoverable peer named.sender t) then Gives (declines peer o.tunnel nr no_recovery)
    else if is_tied role t then Gives (gives (Drop why.Tie))
    else if nat_lt (asked_in o) t.control.mark then Gives (gives (Drop why.Mark))
    else if lacks_secret c.secret o.challenge then Gives (declines peer o.tunnel nr no_secret)
    else Answers peer nr o

abbrev pub named_by : Role → Config → Tunnel → ℕ → ℕ → Opening → Option Named → Attempted
named_by role c t peer nr o None = Gives (declines peer o.tunnel nr no_recovery)
named_by role c t peer nr o (Some named) = judged_by role c t peer nr o named

abbrev pub said_by : Role → Config → Tunnel → ℕ → ℕ → Result Message Why → Attempted
said_by role c t peer nr (Ok (Sccrq o)) = named_by role c t peer nr o o.recovery
said_by role c t peer nr m = Gives (gives (Drop why.Tunnel))

abbrev pub read_by : Role → Config → Tunnel → ℕ → List ℕ → Result Header HeaderError → Attempted
read_by role c t peer bytes (Err x) = Gives (gives (Drop why.Tunnel))
read_by role c t peer bytes (Ok h) =
    if h.control then said_by role c t peer (next_of_peer h) (message_in (body_of bytes h)) else Gives (gives (Drop why.Tunnel))

-- what is no attempt is ignored
abbrev pub judged_in : Role → Config → Tunnel → Event → Attempted
judged_in role c t (Datagram peer bytes) = read_by role c t peer bytes (header_of bytes)
judged_in role c t ev = Gives (gives (Drop why.Tunnel))

-- this is given in a turn that was begun, and nothing else is done
abbrev pub gives_in : Given → Option Recovering → Turn → RecoveryTurn
gives_in g recovery u = record { turn = record u { outputs = g.outputs; moves = g.moves }; recovery = recovery }

-- it is answered, where a tunnel id and a draw number are left
abbrev pub answers_in : Role → Config → Tunnel → Turn → ℕ → ℕ → Opening → Result ℕ IdError → Result ℕ IdError → RecoveryTurn
answers_in role c t u peer nr o (Ok local) (Ok draw) = froze role c t.calls o local draw u
answers_in role c t u peer nr o (Ok local) (Err e) = gives_in (declines peer o.tunnel nr no_id) t.recovery u
answers_in role c t u peer nr o (Err e) draw = gives_in (declines peer o.tunnel nr no_id) t.recovery u

abbrev pub attempt_in : Role → Config → Tunnel → Turn → Attempted → RecoveryTurn
attempt_in role c t u (Gives g) = gives_in g t.recovery u
attempt_in role c t u (Answers peer nr o) = answers_in role c t u peer nr o (takes_id u.ids.tunnels) (takes_id u.ids.recoveries)

abbrev pub attempt_hears : Role → Config → Tunnel → Event → Turn → RecoveryTurn
attempt_hears role c t ev u = attempt_in role c t u (judged_in role c t ev)
