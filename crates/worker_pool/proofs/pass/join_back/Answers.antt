use Rattle.std.proofs.Common.{refl}
use Rattle.worker_pool.proofs.Pools.{both_members, still_caller}
use Rattle.worker_pool.proofs.pass.join_back.Goals as goal

pub returns-clause-of : goal.returns-clause-of
returns-clause-of g c =
    let j = c.join_pass.ensures in
    let mine = c.requires.of.0 in
    still_caller _ c.args.pass.now _
    (both_members _ c.args.pass.now c.args.other _ j.of j.once mine.member c.requires.of.1 j.took j.made j.got c.saturating_add-pass.ensures c.with-pass.ensures)
    mine j.same.0 j.same.3 j.same.2 refl
