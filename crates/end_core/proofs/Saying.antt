-- The first step of a tunnel that is new, by what its peer's first message says.
use Rattle.std.proofs.Common.{◌≡◌, ℕ, Bool, true, false, List, Option, None, Result, Ok, sym, ap, ◌∙◌, refl}
use Rattle.std.specs.Prelude.{if◌then◌else◌}
use Rattle.wire_base.specs.declared.why.Why.{Why}
use Rattle.wire_base.specs.declared.letter.Letter.{Letter}
use Rattle.l2tp_header.specs.declared.header.Header.{Header}
use Rattle.l2tp_header.specs.Reading.{header_of, body_of}
use Rattle.control_message.specs.declared.message.Message.{Message}
use Rattle.tunnel_fsm.specs.declared.table.TunnelState.TheVariants.{Idle}
use Rattle.end_names.specs.declared.role.Role.{Role}
use Rattle.end_model.specs.declared.event.Event.{Event}
use Rattle.end_model.specs.declared.event.Event.TheVariants.{Datagram}
use Rattle.end_model.specs.declared.tunnel.Call.{Call}
use Rattle.end_model.specs.declared.tunnel.Config.{Config}
use Rattle.end_model.specs.declared.tunnel.Mode.{Mode}
use Rattle.end_model.specs.declared.tunnel.Mode.TheVariants.{Current}
use Rattle.end_model.specs.Tunnels.{Tunnel, Turn, Env, Recovering, Asking, no_query, turn_of, turn_in, mode_of}
use Rattle.end_model.specs.Sending.{settles}
use Rattle.end_model.specs.Reading.{message_in}
use Rattle.end_model.specs.Hearing.{first_said, hears_control, hears_datagram}
use Rattle.end_model.specs.Events.{turns}
use Rattle.end_model.specs.Recovering.{is_tick, recovery_ticks, recovering_turns}
use Rattle.tunnel_table.specs.Cores.{beside}
use Rattle.end_core.specs.Saying.{SaysThis}

by_header : (role : Role) (c : Config) (letters : List Letter) (calls : List (ℕ × Call)) (peer : ℕ) (bytes : List ℕ) (h : Header) (t : Turn) → header_of bytes ≡ Ok h → h.control ≡ true → t.control.state ≡ Idle
    → turns role c letters calls (Datagram peer bytes) t ≡ settles false letters (first_said role c (message_in (body_of bytes h)) t)
unfolding turns hears_datagram hears_control
by_header role c letters calls peer bytes h t read control idle = rw (read, control, idle) refl

-- it is the turn that the event leads to
pub first_turn : (role : Role) (c : Config) (letters : List Letter) (calls : List (ℕ × Call)) (said : Result Message Why) (ev : Event) (t : Turn) → SaysThis said ev → t.control.state ≡ Idle
    → settles false letters (first_said role c said t) ≡ turns role c letters calls ev t
first_turn role c letters calls said ev t s idle =
    let e = s.is in
    ap (λ m. settles false letters (first_said role c m t)) (s.says ∙ ap (λ b. message_in b) e.same)
    ∙ sym (by_header role c letters calls e.peer e.bytes e.header t e.read e.control idle)
    ∙ ap (λ x. turns role c letters calls x t) (sym e.event)

-- a tunnel that has no recovery tunnel gets none by an event
alone_by : (calls : List (ℕ × Call)) (o : Option Recovering) (b : Bool) (t : Turn) → o ≡ None
    → (if b then recovery_ticks calls o t else record { turn = t; recovery = o }) ≡ beside None t
unfolding recovery_ticks
alone_by calls o true t none = rw none refl
alone_by calls o false t none = rw none refl

pub alone_turn : (role : Role) (c : Config) (u : Tunnel) (ev : Event) (t : Turn) → u.recovery ≡ None → recovering_turns role c u ev t ≡ beside None (turns role c u.letters u.calls ev t)
unfolding recovering_turns
alone_turn role c u ev t none = alone_by u.calls u.recovery (is_tick ev) (turns role c u.letters u.calls ev t) none

-- in an environment as a step begins with, its mode is current
pub same_turn : (u : Tunnel) (env : Env) → u.recovery ≡ None → u.query ≡ no_query → env.on.mode ≡ Current → turn_in u env ≡ turn_of u.control env
same_turn u env none quiet current =
    ap (λ (q : Asking). record (turn_of u.control (record env { on = record env.on { mode = mode_of u.recovery } })) { query = q }) quiet
    ∙ ap (λ (m : Mode). turn_of u.control (record env { on = record env.on { mode = m } })) (ap (λ (o : Option Recovering). mode_of o) none ∙ sym current)
