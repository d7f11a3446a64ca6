-- Steps in which nothing is recovered: no tunnel of the end has a recovery tunnel or asks for a session, no SCCRQ comes that asks for a
-- recovery, and no FSQ. None of their moves is one of a recovery, or of a query of sessions.
use Rattle.std.proofs.Common.{◌≡◌, ℕ, false, List, sym, ap, ◌∙◌, subst, Option, Some, None, Ok}
use Rattle.std.proofs.lemmas.Bool.{true≢false}
use Rattle.std.proofs.lemmas.Option.{none-some}
use Rattle.std.specs.List.{AllByRecursion}
use Rattle.id_table.specs.Ids.{at}
use Rattle.schedule_text.specs.declared.line.Line.{Line}
use Rattle.schedule_text.specs.Grammar.{AreLines}
use Rattle.control_message.specs.declared.message.Message.TheVariants.{Sccrq, Fsq}
use Rattle.control_message.specs.declared.message.Opening.{Opening}
use Rattle.end_model.specs.declared.event.Event.{Event}
use Rattle.end_model.specs.declared.event.Event.TheVariants.{Tick}
use Rattle.end_model.specs.declared.moves.Move.{Move}
use Rattle.end_model.specs.declared.moves.Move.TheVariants as move
use Rattle.end_model.specs.Reading.{message_in}
use Rattle.session_query.specs.Queries.{next_batch, told_in}
use Rattle.wire_base.specs.declared.pair.Pair.{Pair}
use Rattle.end_model.specs.Tunnels.{Tunnel, no_query, Recovering, ByAttempt, ByAnswer, mode_of, is_current}
use Rattle.end_model.specs.End.{End}
use Rattle.world_model.specs.World.{Deed}
use Rattle.world_model.specs.Run.{run}
use Rattle.step_laws.specs.Calm.{AreCalm}
use Rattle.step_laws.specs.Failing.{HasFailed}
use Rattle.step_laws.specs.Moves.{Came, CameIn, Does, WhyCleared, HasFailedItself, IsClosedNow, ByRecovery}
use Rattle.step_laws.specs.Steps.{IsOfNoStart}

-- no tunnel of an end has a recovery tunnel, or asks for a session
abbrev pub NoneRecovers : End → Type 0
NoneRecovers e = (i : ℕ) (t : Tunnel) → at e.tunnels i ≡ Some t → (t.recovery ≡ None) × (t.query ≡ no_query)

-- no SCCRQ comes that asks for a recovery, and no FSQ
abbrev pub AsksForNone : Event → Type 0
AsksForNone ev =
    ((k : Came) → CameIn ev k → (o : Opening) → message_in k.body ≡ Ok (Sccrq o) → o.recovery ≡ None)
    × ((k : Came) → CameIn ev k → (pairs : List Pair) → message_in k.body ≡ Ok (Fsq pairs) → ⊥)

-- a move that isn't one of a recovery, or of a query of sessions
abbrev pub IsMain : Move → Type 0
IsMain (move.Restored m) = ⊥
IsMain (move.Forgot m) = ⊥
IsMain (move.Froze m) = ⊥
IsMain (move.ResetAttempting m) = ⊥
IsMain (move.ResetAnswering m) = ⊥
IsMain (move.Queried m) = ⊥
IsMain (move.AnsweredQuery m) = ⊥
IsMain (move.TookAnswer m) = ⊥
IsMain (move.RecoveryWentOn i) = ⊥
IsMain (move.RecoveryEnded i) = ⊥
IsMain (move.Ignored i) = ⊥
IsMain m = Unit {0}

-- a tunnel without a recovery tunnel is current
pub none_is_current : (t : Tunnel) → t.recovery ≡ None → is_current (mode_of t.recovery) ≡ false → ⊥
none_is_current t none inactive = true≢false (ap (λ (r : Option Recovering). is_current (mode_of r)) (sym none) ∙ inactive)

-- it is removed without a word only as it failed
pub fails_itself : (e : End) (moment : ℕ) (ev : Event) (i : ℕ) (t : Tunnel) → t.recovery ≡ None → WhyCleared e moment ev i t
    → (ev ≡ Tick) × HasFailed moment t.control
fails_itself e moment ev i t none (HasFailedItself ticks failed) = (ticks, failed)
fails_itself e moment ev i t none (IsClosedNow is inactive) = absurd (none_is_current t none inactive)
fails_itself e moment ev i t none (ByRecovery r has why) = absurd (none-some r (sym none ∙ has))

-- a tunnel that asks for nothing has no next session to ask for, and no answer is one to it
asks_none : (pairs : List Pair) → next_batch no_query ≡ Some pairs → ⊥
unfolding next_batch
asks_none pairs h = absurd cc

told_none : (answers gone : List Pair) → told_in no_query answers ≡ Ok gone → ⊥
unfolding told_in
told_none answers gone h = absurd cc

-- each move that such an end makes on such an event
pub is_main : (e : End) → NoneRecovers e → (moment : ℕ) (ev : Event) → AsksForNone ev → (m : Move) → IsOfNoStart m
    → (x : End) → Does e moment ev m x → IsMain m
is_main e none moment ev asks (move.Restored m) start x h = start
is_main e none moment ev asks (move.Forgot m) start x h = start
is_main e none moment ev asks (move.Froze m) start x h = none-some _ (sym (asks.0 h.letter h.came h.opening h.said) ∙ h.named)
is_main e none moment ev asks (move.ResetAttempting m) start x h = none-some (ByAttempt h.old)
    (sym (none m.tunnel h.tunnel h.there).0 ∙ h.attempts)
is_main e none moment ev asks (move.ResetAnswering m) start x h = none-some (ByAnswer h.old)
    (sym (none m.tunnel h.tunnel h.there).0 ∙ h.answers)
is_main e none moment ev asks (move.Queried m) start x h = asks_none m.pairs
    (subst (λ q. next_batch q ≡ Some m.pairs) (none m.tunnel h.tunnel h.there).1 h.pairs)
is_main e none moment ev asks (move.AnsweredQuery m) start x h = asks.1 h.letter h.takes.next.comes.came m.pairs h.said
is_main e none moment ev asks (move.TookAnswer m) start x h =
    told_none m.answers h.gone (subst (λ q. told_in q m.answers ≡ Ok h.gone) (none m.tunnel h.tunnel h.there).1 h.told)
is_main e none moment ev asks (move.RecoveryWentOn i) start x h = none-some h.old (sym (none i h.tunnel h.there).0 ∙ h.has)
is_main e none moment ev asks (move.RecoveryEnded i) start x h = none-some h.old (sym (none i h.tunnel h.there).0 ∙ h.has)
is_main e none moment ev asks (move.Ignored i) start x h = none_is_current h.tunnel (none i h.tunnel h.there).0 h.inactive
is_main e none moment ev asks m start x h = tt

-- what a line of a run did is no move of a recovery, or of a query of sessions, where no node crashes, is to stop, or starts
abbrev pub MovesOfRuns : Type 0
MovesOfRuns = (lines : List Line) → AreLines lines → AreCalm lines → AllByRecursion (λ (d : Deed). IsMain d.move) (run lines).done
