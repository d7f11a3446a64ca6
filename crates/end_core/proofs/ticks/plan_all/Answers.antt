use Rattle.std.proofs.Common.{◌∙◌, refl, sym, ap, subst}
use Rattle.std.proofs.lemmas.List.{take_all}
use Rattle.std.specs.List.Sorted.{IsStrictlySortedBy}
use Rattle.std.specs.Ordering.{nat_cmp}
use Rattle.end_core.specs.Ticking.{ticks_at, ArePlanned, with_ticks}
use Rattle.end_core.proofs.Plans.{none_planned, there, next_planned}
use Rattle.end_core.proofs.ticks.plan_all.Goals as goal

pub loop-id-init : goal.loop-id-init
loop-id-init c = none_planned c.args.role c.args.config.now c.args.tunnels.now.entries c.args.env.now c.args.tunnels.now c.new-plans.result refl c.new-plans.ensures

pub plan_at-requires : goal.plan_at-requires
plan_at-requires c =
    there c.args.role c.args.config.now c.args.tunnels.now.entries c.args.env.now c.args.ids.now c.requires.ascend c.loop-id.id-index c.loop-id-test.true c.loop-id.tunnels c.loop-id.tunnels c.loop-id.env c.loop-id.env c.loop-id.plans c.loop-id.invariant c.requires.there

pub returns-in_err-planned-clause-same : goal.returns-in_err-planned-clause-same
returns-in_err-planned-clause-same c = c.in_err-planned.ensures.same ∙ c.loop-id.invariant.same

pub returns-in_err-push-clause-same : goal.returns-in_err-push-clause-same
returns-in_err-push-clause-same c = c.in_ok-planned.ensures.same ∙ c.loop-id.invariant.same

pub loop-id-preserved : goal.loop-id-preserved
loop-id-preserved c =
    next_planned c.args.role c.args.config.now c.args.tunnels.now.entries c.args.env.now c.args.ids.now c.requires.ascend c.loop-id.id-index c.loop-id-test.true c.loop-id.tunnels c.plan_at.new.tunnels c.loop-id.env c.plan_at.new.env c.loop-id.plans c.loop-id.invariant c.in_ok-planned.planned c.in_ok-planned.ensures.same c.in_ok-planned.ensures.others c.in_ok-planned.ensures.planned c.in_ok-planned.ensures.place c.in_ok-planned.ensures.given c.push.new.self c.in_ok-push.ensures.ok

pub returns-clause-same : goal.returns-clause-same
returns-clause-same c = c.loop-id.invariant.same

pub returns-clause-planned : goal.returns-clause-planned
returns-clause-planned c =
    subst (λ is. ArePlanned c.loop-id.plans (ticks_at c.args.role c.args.config.now c.args.tunnels.now.entries c.args.env.now is)) (take_all c.loop-id.id-index c.args.ids.now c.loop-id-test.false) c.loop-id.invariant.planned

pub returns-clause-ascend : goal.returns-clause-ascend
returns-clause-ascend c =
    subst (λ is. IsStrictlySortedBy nat_cmp is) (sym (c.loop-id.invariant.ids ∙ take_all c.loop-id.id-index c.args.ids.now c.loop-id-test.false)) c.requires.ascend

pub returns-clause-places : goal.returns-clause-places
returns-clause-places c = c.loop-id.invariant.places

pub returns-clause-given : goal.returns-clause-given
returns-clause-given c =
    c.loop-id.invariant.given ∙ ap (λ is. with_ticks (ticks_at c.args.role c.args.config.now c.args.tunnels.now.entries c.args.env.now is) c.args.env.now) (take_all c.loop-id.id-index c.args.ids.now c.loop-id-test.false)
