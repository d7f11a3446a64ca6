use Rattle.std.proofs.Common.{refl}
use Rattle.worker_pool.proofs.Pools.{took_one, still_caller}
use Rattle.worker_pool.proofs.work.work_one.Goals as goal

pub returns-in-Done-clause-of : goal.returns-in-Done-clause-of
returns-in-Done-clause-of g c =
    let e = c.work_one.ensures in
    let h = c.in-Done.ensures.worked in
    took_one _ c.args.pass.now _ c.in-Done.finished e.of c.requires.of h.1 h.2 h.3 e.same.5 refl c.count.ensures

pub returns-in-Done-clause-caller : goal.returns-in-Done-clause-caller
returns-in-Done-clause-caller g c =
    λ caller.
    let e = c.work_one.ensures in
    let h = c.in-Done.ensures.worked in
    let known = e.opener caller.opener.opens in (
      still_caller _ c.args.pass.now _
          (took_one _ c.args.pass.now _ c.in-Done.finished e.of c.requires.of h.1 h.2 h.3 e.same.5 refl c.count.ensures)
          caller known e.same.2 e.same.4 refl,
      known,
    )
