use Rattle.std.proofs.Common.{Option, ap}
use Rattle.world_checkpoint.specs.Stores.{stop_of}
use Rattle.world_checkpoint.specs.declared.commits.Armed.{Armed}
use Rattle.world_checkpoint.proofs.Folds.{committed_free}
use Rattle.world_checkpoint.proofs.checkpoint.commit_by.Goals as goal

pub returns-in-None-clause-committed : goal.returns-in-None-clause-committed
returns-in-None-clause-committed c =
    committed_free c.args.store.now c.commit_all.new.store c.args.records.now c.commit_all.result (stop_of c.args.stop.now) (ap (λ (o : Option Armed). stop_of o) c.in-None.is) c.commit_all.ensures.committed
