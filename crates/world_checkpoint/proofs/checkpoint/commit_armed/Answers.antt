use Rattle.std.proofs.Common.{◌<◌, ◌≤◌, Option, length, refl, ap, arith}
use Rattle.std.proofs.lemmas.Result.{err_from_is_err_and}
use Rattle.world_checkpoint.specs.Stores.{stop_of}
use Rattle.world_checkpoint.specs.declared.commits.Armed.{Armed}
use Rattle.world_checkpoint.proofs.Folds.{committed_before, committed_not, committed_at}
use Rattle.world_checkpoint.proofs.checkpoint.commit_armed.Goals as goal

pub returns-then-from-count-clause-committed : goal.returns-then-from-count-clause-committed
returns-then-from-count-clause-committed c =
    let within : c.args.armed.stop.commit ≤ length c.args.records.now = omega (arith, c.if-from-count.true, c.from.ensures) in
    committed_at c.args.store.now c.cut_off.new.store c.args.records.now c.cut_off.result (stop_of c.args.stop.now) c.args.armed.stop (ap (λ (o : Option Armed). stop_of o) c.requires.armed) within c.cut_off.ensures.cut

pub returns-in_err-commit_all-clause-committed : goal.returns-in_err-commit_all-clause-committed
returns-in_err-commit_all-clause-committed c =
    let p = err_from_is_err_and c.from_residual.result c.from_residual.ensures.1 in
    rw (p.1, p.2) (committed_not c.args.store.now c.commit_all.new.store c.args.records.now c.in_err-commit_all.field-0.0 (stop_of c.args.stop.now) c.in_err-commit_all.ensures.committed)

pub returns-clause-committed : goal.returns-clause-committed
returns-clause-committed c =
    let above : length c.args.records.now < c.args.armed.stop.commit = omega (arith, c.if-from-count.false, c.from.ensures) in
    committed_before c.args.store.now c.commit_all.new.store c.args.records.now (stop_of c.args.stop.now) c.args.armed.stop _ (ap (λ (o : Option Armed). stop_of o) c.requires.armed) above refl c.in_ok-commit_all.ensures.committed
