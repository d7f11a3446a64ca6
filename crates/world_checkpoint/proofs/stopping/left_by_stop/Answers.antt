use Rattle.std.proofs.Common.{Option, [], take, subst}
use Rattle.std.specs.Prelude.{IfSome}
use Rattle.std.proofs.lemmas.Result.{IfOk-weaker}
use Rattle.std.proofs.lemmas.Option.{IfSome_then}
use Rattle.disk_core.specs.Memory.{Stopping}
use Rattle.end_store.specs.Stored.{Stored}
use Rattle.world_model.specs.World.{kept_by}
use Rattle.world_checkpoint.specs.Stores.{HasMore}
use Rattle.world_checkpoint.proofs.Folds.{more_of_copy}
use Rattle.world_checkpoint.proofs.stopping.left_by_stop.Goals as goal

pub returns-in-Some-clause-cut : goal.returns-in-Some-clause-cut
returns-in-Some-clause-cut c =
    let rs = take (kept_by c.args.armed.stop) c.args.records.now in
    let copy = subst (λ (o : Option (Stored × Stopping)). IfSome o (λ p. HasMore [] c.args.store.now p.0)) c.in-Some.is c.in_ok-copy.ensures.same in
    IfOk-weaker c.stop_copy.result _ _ (λ left more. IfSome_then left more (λ p h. more_of_copy rs c.args.store.now c.in-Some.copy p.0 copy h)) c.stop_copy.ensures.cut
