-- Turns of a tunnel by what takes the event: the tunnel itself, its recovery tunnel, or the tunnel as one whose recovery is asked for.
use Rattle.std.specs.Prelude.{◌≡◌, ℕ, false, List, if◌then◌else◌, Option, Some, None, Result, Ok, Err}
use Rattle.session_looks.specs.declared.look.CellChange.{CellChange}
use Rattle.l2tp_header.specs.declared.header.Header.{Header}
use Rattle.l2tp_header.specs.declared.header.HeaderError.{HeaderError}
use Rattle.l2tp_header.specs.Reading.{header_of, body_of}
use Rattle.end_names.specs.declared.role.Role.{Role}
use Rattle.end_model.specs.declared.event.Event.{Event}
use Rattle.end_model.specs.declared.event.Event.TheVariants.{Datagram}
use Rattle.end_model.specs.declared.tunnel.Config.{Config}
use Rattle.end_model.specs.Secrets.{uncovered_event}
use Rattle.end_model.specs.Tunnels.{Tunnel, Turn, Drawing, turn_in}
use Rattle.end_model.specs.Events.{tunnel_after}
use Rattle.end_model.specs.Recovering.{RecoveryTurn, recovering_turns, hears_recovery}
use Rattle.step_hub.specs.Hubs.{lent_env}
use Rattle.tunnel_core.specs.Cores.{Plan, IsTurn, made_of}
use Rattle.locked_tunnels.specs.declared.kind.TurnKind.{TurnKind}
use Rattle.locked_tunnels.specs.declared.kind.TurnKind.TheVariants.{Main, Recovery, Attempt}
use Rattle.locked_tunnels.specs.Kept.{Known}
use Rattle.locked_tunnels.specs.Attempts.{attempt_hears}

-- a control message is heard by the recovery tunnel; what is none is an event of the tunnel itself
abbrev pub hears_header : Role → Config → Tunnel → ℕ → List ℕ → Result Header HeaderError → Turn → RecoveryTurn
hears_header role c t peer bytes (Err x) u = recovering_turns role c t (Datagram peer bytes) u
hears_header role c t peer bytes (Ok h) u =
    if h.control then hears_recovery c t.letters t.calls h (body_of bytes h) t.recovery u
    else recovering_turns role c t (Datagram peer bytes) u

abbrev pub recovery_hears : Role → Config → Tunnel → Event → Turn → RecoveryTurn
recovery_hears role c t (Datagram peer bytes) u = hears_header role c t peer bytes (header_of bytes) u
recovery_hears role c t ev u = recovering_turns role c t ev u

-- by an event as its end reads it
abbrev pub kind_hears : TurnKind → Role → Config → Tunnel → Event → Turn → RecoveryTurn
kind_hears Main role c t ev u = recovering_turns role c t ev u
kind_hears Recovery role c t ev u = recovery_hears role c t ev u
kind_hears Attempt role c t ev u = attempt_hears role c t ev u

-- of an end that is told this and draws from these spaces: what is hidden by its secret is uncovered
abbrev pub kind_by : TurnKind → Known → Config → Drawing → ℕ → List ℕ → Event → RecoveryTurn
kind_by kind k c ids moment block ev =
    kind_hears kind k.role c k.tunnel (uncovered_event c.secret ev) (turn_in k.tunnel (lent_env ids moment block))

-- what is planned of a tunnel is this turn; where nothing is, the turn leaves the tunnel that very tunnel
abbrev pub PlansTurn : Option Plan → Tunnel → RecoveryTurn → Type 0
PlansTurn (Some p) t r = IsTurn p t.recovery r
PlansTurn None t r = (tunnel_after r.turn t.letters t.calls r.recovery ≡ t) × (r.turn.cleared ≡ false)

-- the tunnel after it, with what it changed in the looks
abbrev pub made_by : Option Plan → List CellChange → Known → Known
made_by (Some p) changes k = record { role = k.role; tunnel = made_of p k.tunnel; changes = changes; gone = p.cleared }
made_by None changes k = record k { changes = changes }
