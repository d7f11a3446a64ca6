use Rattle.std.proofs.Common.{arith}
use Rattle.checkpoint_journal.proofs.Parts.{most_is}
use Rattle.world_checkpoint.proofs.Folds.{whole_is, full_is}
use Rattle.world_checkpoint.proofs.commits.commit_all.Goals as goal

pub returns-in-Ok-clause-committed : goal.returns-in-Ok-clause-committed
returns-in-Ok-clause-committed c =
    let le = c.in-Ok.ensures.cause.1 in
    (omega (arith, le, most_is), whole_is c.args.store.now c.commit_step.new.self c.args.records.now _ c.in-Ok.ensures.state)

pub returns-in-Err-StoreFull-clause-committed : goal.returns-in-Err-StoreFull-clause-committed
returns-in-Err-StoreFull-clause-committed c =
    full_is c.args.store.now c.commit_step.new.self c.args.records.now c.in-Err-StoreFull.field-0 c.in-Err-StoreFull.records 0 0 _ _ c.in-Err-StoreFull.field-0-is
    c.in-Err-StoreFull.ensures.cause c.in-Err-StoreFull.ensures.refused
