use Rattle.std.proofs.Common.{◌≡◌, false, subst}
use Rattle.std.specs.Prelude.{Option, None, IfOk, OnOk}
use Rattle.std.specs.Option.{option_copied}
use Rattle.end_model.specs.Tunnels.{Turn, Recovering, turn_of}
use Rattle.end_model.specs.Recovering.{RecoveryTurn, recovering_turns}
use Rattle.end_model.specs.Events.{turns}
use Rattle.end_model.specs.Sending.{settles}
use Rattle.end_model.specs.Hearing.{first_said}
use Rattle.end_model.specs.Turn.{with_turn}
use Rattle.tunnel_table.specs.Cores.{IsTurn, tunnel_of, beside}
use Rattle.end_core.specs.Saying.{IsSaidBy}
use Rattle.end_core.proofs.Saying.{first_turn, alone_turn, same_turn}
use Rattle.end_core.proofs.planning.plan_opening.Goals as goal

pub returns-in-None-clause-planned : goal.returns-in-None-clause-planned
returns-in-None-clause-planned c =
    let core = c.args.core.now in
    let begin : Turn = turn_of core.control c.args.env.now in
    let own : Turn = turns c.args.role c.args.config.now core.letters.letters core.calls.entries c.args.event.now begin in
    let same = alone_turn c.args.role c.args.config.now (tunnel_of core) c.args.event.now begin c.requires.alone in
    subst (λ (r : Option Recovering). IfOk c.plan.result (λ p. IsTurn p r (beside None own))) c.requires.alone
    (subst (λ (t : RecoveryTurn). IfOk c.plan.result (λ p. IsTurn p core.recovery t)) same
    (subst (λ (u : Turn). IfOk c.plan.result (λ p. IsTurn p core.recovery (recovering_turns c.args.role c.args.config.now (tunnel_of core) c.args.event.now u)))
    (same_turn (tunnel_of core) c.args.env.now c.requires.alone c.requires.quiet c.requires.current) c.plan.ensures.planned))

pub returns-in-None-clause-given : goal.returns-in-None-clause-given
returns-in-None-clause-given c =
    let core = c.args.core.now in
    let begin : Turn = turn_of core.control c.args.env.now in
    let same = alone_turn c.args.role c.args.config.now (tunnel_of core) c.args.event.now begin c.requires.alone in
    subst (λ (t : RecoveryTurn). OnOk c.plan.result (c.plan.new.env ≡ with_turn t.turn c.args.env.now)) same
    (subst (λ (u : Turn). OnOk c.plan.result (c.plan.new.env ≡ with_turn (recovering_turns c.args.role c.args.config.now (tunnel_of core) c.args.event.now u).turn c.args.env.now))
    (same_turn (tunnel_of core) c.args.env.now c.requires.alone c.requires.quiet c.requires.current) c.plan.ensures.given)

pub returns-in-Some-clause-planned : goal.returns-in-Some-clause-planned
returns-in-Some-clause-planned c =
    let core = c.args.core.now in
    let begin : Turn = turn_of core.control c.args.env.now in
    let own : Turn = turns c.args.role c.args.config.now core.letters.letters core.calls.entries c.args.event.now begin in
    let said = subst (λ o. IsSaidBy (option_copied o) c.args.event.now) c.in-Some.is c.requires.said in
    let same = first_turn c.args.role c.args.config.now core.letters.letters core.calls.entries c.in-Some.said.now c.args.event.now begin said c.requires.idle in
    subst (λ (r : Option Recovering). IfOk c.plan_first.result (λ p. IsTurn p r (beside r own))) c.requires.alone
    (subst (λ (t : Turn). IfOk c.plan_first.result (λ p. IsTurn p core.recovery (beside core.recovery t))) same
    (subst (λ (u : Turn). IfOk c.plan_first.result (λ p. IsTurn p core.recovery (beside core.recovery (settles false core.letters.letters (first_said c.args.role c.args.config.now c.in-Some.said.now u)))))
    (same_turn (tunnel_of core) c.args.env.now c.requires.alone c.requires.quiet c.requires.current) c.plan_first.ensures.planned))

pub returns-in-Some-clause-given : goal.returns-in-Some-clause-given
returns-in-Some-clause-given c =
    let core = c.args.core.now in
    let begin : Turn = turn_of core.control c.args.env.now in
    let said = subst (λ o. IsSaidBy (option_copied o) c.args.event.now) c.in-Some.is c.requires.said in
    let same = first_turn c.args.role c.args.config.now core.letters.letters core.calls.entries c.in-Some.said.now c.args.event.now begin said c.requires.idle in
    subst (λ (t : Turn). OnOk c.plan_first.result (c.plan_first.new.env ≡ with_turn t c.args.env.now)) same
    (subst (λ (u : Turn). OnOk c.plan_first.result (c.plan_first.new.env ≡ with_turn (settles false core.letters.letters (first_said c.args.role c.args.config.now c.in-Some.said.now u)) c.args.env.now))
    (same_turn (tunnel_of core) c.args.env.now c.requires.alone c.requires.quiet c.requires.current) c.plan_first.ensures.given)
