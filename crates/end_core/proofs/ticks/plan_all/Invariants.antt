use Rattle.std.proofs.Common.{take}
use Rattle.end_core.proofs.Plans.{AllPlanned}
use Rattle.end_core.proofs.ticks.plan_all.Given as goal

abbrev pub invariant-loop-id : goal.invariant-loop-id
invariant-loop-id l = AllPlanned l.role l.config l.fn.tunnels.entries l.fn.env (take l.id-index l.ids) l.tunnels l.env l.plans
