use Rattle.std.proofs.Common.{sym, subst, ◌∙◌, arith, ◌^◌, ◌+◌}
use Rattle.pppoe_session.specs.Subscribers.{subscriber_of, is_from, is_repeat_of, IsInOrder}
use Rattle.pppoe_session.proofs.Index.{not_from, none_below, none_through}
use Rattle.pppoe_session.proofs.Order.{exact}
use Rattle.pppoe_session.proofs.Table.repeat_of.Goals as goal

pub returns-then-is_repeat_at-clause-least : goal.returns-then-is_repeat_at-clause-least
returns-then-is_repeat_at-clause-least c = (sym c.is_repeat_at.ensures ∙ c.if-is_repeat_at.true, none_below (λ s. is_repeat_of c.args.mac c.args.uniq.now (subscriber_of c.args.self.now s)) (λ s. is_from c.args.mac (subscriber_of c.args.self.now s)) c.loop-session.first c.in-Some.session c.loop-session.invariant c.in-Some.ensures.some.1 (λ s. not_from c.args.mac c.args.uniq.now (subscriber_of c.args.self.now s)))

pub returns-then-session-clause-least : goal.returns-then-session-clause-least
returns-then-session-clause-least c = none_through (λ s. is_repeat_of c.args.mac c.args.uniq.now (subscriber_of c.args.self.now s)) (λ s. is_from c.args.mac (subscriber_of c.args.self.now s)) c.loop-session.first c.in-Some.session (2 ^ 16) c.loop-session.invariant c.in-Some.ensures.some.1 (λ s. not_from c.args.mac c.args.uniq.now (subscriber_of c.args.self.now s)) (sym c.is_repeat_at.ensures ∙ c.if-is_repeat_at.false) (let h = c.if-session.true in grind (arith))

pub loop-session-preserved : goal.loop-session-preserved
loop-session-preserved c = none_through (λ s. is_repeat_of c.args.mac c.args.uniq.now (subscriber_of c.args.self.now s)) (λ s. is_from c.args.mac (subscriber_of c.args.self.now s)) c.loop-session.first c.in-Some.session (c.in-Some.session + 1) c.loop-session.invariant c.in-Some.ensures.some.1 (λ s. not_from c.args.mac c.args.uniq.now (subscriber_of c.args.self.now s)) (sym c.is_repeat_at.ensures ∙ c.if-is_repeat_at.false) (grind (arith))

pub returns-clause-least : goal.returns-clause-least
returns-clause-least c = none_below (λ s. is_repeat_of c.args.mac c.args.uniq.now (subscriber_of c.args.self.now s)) (λ s. is_from c.args.mac (subscriber_of c.args.self.now s)) c.loop-session.first (2 ^ 16) c.loop-session.invariant c.in_default.ensures.none (λ s. not_from c.args.mac c.args.uniq.now (subscriber_of c.args.self.now s))

pub returns-then-is_repeat_at-clause-exact : goal.returns-then-is_repeat_at-clause-exact
returns-then-is_repeat_at-clause-exact c =
    exact c.args.mac c.args.uniq.now c.args.self.now (subst (λ es. IsInOrder es) c.self.view_is c.self.invariant.1) _ (returns-then-is_repeat_at-clause-least c)

pub returns-then-session-clause-exact : goal.returns-then-session-clause-exact
returns-then-session-clause-exact c =
    exact c.args.mac c.args.uniq.now c.args.self.now (subst (λ es. IsInOrder es) c.self.view_is c.self.invariant.1) _ (returns-then-session-clause-least c)

pub returns-clause-exact : goal.returns-clause-exact
returns-clause-exact c =
    exact c.args.mac c.args.uniq.now c.args.self.now (subst (λ es. IsInOrder es) c.self.view_is c.self.invariant.1) _ (returns-clause-least c)
