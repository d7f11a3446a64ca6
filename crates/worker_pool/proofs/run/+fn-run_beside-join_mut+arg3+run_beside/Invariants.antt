use Rattle.worker_pool.proofs.run.+fn-run_beside-join_mut+arg3+run_beside.Given as goal

abbrev pub decreases-run_beside : goal.decreases-run_beside
decreases-run_beside g l = l.workers

abbrev pub decreases-join_mut+arg3 : goal.decreases-join_mut+arg3
decreases-join_mut+arg3 g l = l.fewer
