-- What a tunnel that is frozen keeps: its established calls; and what is seen of it.
use Rattle.std.proofs.Common.{◌≡◌, ℕ, Bool, true, false, List, [], ◌∷◌, refl, sym, ap, ◌∙◌, subst, Option, Some, None, cond, eqb}
use Rattle.std.proofs.lemmas.Bool.{true≢false}
use Rattle.std.proofs.lemmas.Option.{none-some, same_Some}
use Rattle.std.specs.Prelude.{is_some, is_none, ◌&&◌, not, filter, if◌then◌else◌}
use Rattle.id_table.specs.Ids.{at, at-none, at-cons}
use Rattle.id_table.specs.Order.{Ascends}
use Rattle.control_message.specs.declared.message.Suggested.{Suggested}
use Rattle.tunnel_fsm.specs.declared.table.TunnelState.{TunnelState}
use Rattle.tunnel_fsm.specs.Rows.{state_number}
use Rattle.recovery_tunnel.specs.Connections.{ControlConnection, is_waiting}
use Rattle.end_model.specs.declared.tunnel.Call.{Call}
use Rattle.end_model.specs.declared.tunnel.Mode.TheVariants.{Current, Frozen}
use Rattle.end_model.specs.Calls.{is_up}
use Rattle.end_model.specs.Tunnels.{Tunnel, Recovering, ByAttempt, ByAnswer, is_finished, mode_of, is_current}
use Rattle.step_laws.specs.Moves.{IsAnswer, finished_of}
use Rattle.book_laws.specs.Books.{call_record, booked_call}
use Rattle.book_laws.proofs.Finished.{finished_found, finished_record}
use Rattle.epoch_machine.specs.Tunnels.{Attempts, Answers, is_established}
use Rattle.session_laws.specs.Names.{name, phase_of}
use Rattle.session_laws.proofs.Heard.{open_phase}
use Rattle.recovery_laws.specs.Joined.{phase_by}

-- ---- the calls that stay

-- those that are established
pub finished_up : (es : List (ℕ × Call)) (s : ℕ) (c : Call) → at (finished_of es) s ≡ Some c → is_up c.state ≡ true
finished_up [] s c is = absurd (none-some c (sym (at-none s) ∙ is))
finished_up (e ∷ es) s c is = by (λ more. finished_up es s c more) (is_up e.1.state) refl is
  where
    by_first : (at (finished_of es) s ≡ Some c → is_up c.state ≡ true) → is_up e.1.state ≡ true → (b : Bool) → eqb s e.0 ≡ b
        → cond b (Some e.1) (at (finished_of es) s) ≡ Some c → is_up c.state ≡ true
    by_first later up true here h = subst (λ (y : Call). is_up y.state ≡ true) (same_Some e.1 c h) up
    by_first later up false here h = later h

    by : (at (finished_of es) s ≡ Some c → is_up c.state ≡ true) → (b : Bool) → is_up e.1.state ≡ b
        → at (cond b (e ∷ finished_of es) (finished_of es)) s ≡ Some c → is_up c.state ≡ true
    by later true up h = by_first later up (eqb s e.0) refl (sym (at-cons e (finished_of es) s) ∙ h)
    by later false up h = later h

-- and all of those
pub up_finished : (es : List (ℕ × Call)) → Ascends es → (s : ℕ) (c : Call) → at es s ≡ Some c → is_up c.state ≡ true
    → at (finished_of es) s ≡ Some c
up_finished es order s c there up = by (at (finished_of es) s) refl
  where
    record_is : call_record 0 s (at (finished_of es) s) ≡ Some (booked_call 0 s c)
    record_is =
        finished_record 0 s es order ∙ (ap (call_record 0 s) there ∙ ap (λ b. if b then Some (booked_call 0 s c) else None) up)

    by : (o : Option Call) → at (finished_of es) s ≡ o → at (finished_of es) s ≡ Some c
    by None is = absurd (none-some (booked_call 0 s c) (sym (ap (call_record 0 s) is) ∙ record_is))
    by (Some d) is = is ∙ (sym (finished_found es order s d is) ∙ there)

-- ---- what is seen of the tunnel

established_state : (s : TunnelState) → state_number s ≡ 3 → is_established (phase_of s) ≡ true
established_state s three = ap is_established (open_phase s three)

pub established_phase : (n : ℕ) (t : Tunnel) (o : Option Recovering) → state_number t.control.state ≡ 3
    → is_established (phase_by n t o) ≡ true
established_phase n t None three = established_state t.control.state three
established_phase n t (Some (ByAttempt c)) three = by (is_finished (ByAttempt c))
  where
    by : (b : Bool) → is_established (if b then phase_of t.control.state else Attempts (name n c.local)) ≡ true
    by true = established_state t.control.state three
    by false = refl
established_phase n t (Some (ByAnswer a)) three = by (is_finished (ByAnswer a))
  where
    by : (b : Bool) → is_established (if b then phase_of t.control.state else Answers (name n a.connection.local)) ≡ true
    by true = established_state t.control.state three
    by false = refl

-- an answer that waits hasn't reset its tunnel
unreset : (q : ControlConnection) → is_waiting q ≡ true → is_some q.reset ≡ false
unreset q h = by q.reset h
  where
    by : (o : Option ℕ) → is_none o && not q.closed ≡ true → is_some o ≡ false
    by None h = refl
    by (Some y) h = absurd (true≢false (sym h))

pub frozen_phase : (n : ℕ) (t : Tunnel) (r : Recovering) (c a draw : ℕ) (s : Suggested) → IsAnswer r c a draw s
    → phase_by n t (Some r) ≡ Answers (name n c)
frozen_phase n t r c a draw s is =
    ap (λ y. phase_by n t (Some y)) is.is
    ∙ (ap (λ y. if y then phase_of t.control.state else Answers (name n is.answering.connection.local)) (unreset
    is.answering.connection is.waits)
    ∙ ap (λ y. Answers (name n y)) is.local_is)

pub frozen_mode : (r : Recovering) (c a draw : ℕ) (s : Suggested) → IsAnswer r c a draw s → is_current (mode_of (Some r)) ≡ true → ⊥
frozen_mode r c a draw s is current =
    true≢false (sym current
    ∙ (ap (λ y. is_current (mode_of (Some y))) is.is ∙ ap (λ b. is_current (if b then Current else Frozen)) (unreset
    is.answering.connection is.waits)))
