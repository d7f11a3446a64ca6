use Rattle.std.proofs.Common.{Ok, sym, subst, ap, ◌∙◌}
use Rattle.std.proofs.lemmas.Result.{err_from_is_err_and}
use Rattle.id_table.specs.Ids.{at}
use Rattle.end_model.specs.Contents.{contents_of}
use Rattle.end_model.specs.End.{Stepped}
use Rattle.end_core.specs.declared.end.Given.{Given}
use Rattle.end_core.proofs.Committed.{refused_by}
use Rattle.end_core.proofs.Steps.{behind_first}
use Rattle.end_core.proofs.end.End.run_task.Goals as goal

pub returns-clause-given : goal.returns-clause-given
returns-clause-given g c =
    sym (behind_first c.args.self.now c.args.moment c.args.block c.args.first c.env_behind-env.result c.env_behind-env.ensures c.args.task.now c.args.id (at c.args.self.now.tunnels c.args.id)) ∙ c.in_ok-take_step.ensures.made
    ∙ ap (λ (x : Given). record { end = c.take_step.new.self; outputs = x.outputs; moves = x.moves }) (sym c.of.ensures)

pub returns-in_err-take_step-clause-committed : goal.returns-in_err-take_step-clause-committed
returns-in_err-take_step-clause-committed g c =
    let p = err_from_is_err_and c.from_residual.result c.from_residual.ensures.1 in
    refused_by g.L.Ledger.commits_to _ p.0 _ _ _ _ _ p.1 p.2 (ap (contents_of c.args.self.now) (sym (behind_first c.args.self.now c.args.moment c.args.block c.args.first c.env_behind-env.result c.env_behind-env.ensures c.args.task.now c.args.id (at c.args.self.now.tunnels c.args.id)))) c.in_err-take_step.ensures.committed

pub returns-clause-committed : goal.returns-clause-committed
returns-clause-committed g c =
    subst (λ (s : Stepped). g.L.Ledger.commits_to c.args.ledger.now (contents_of c.args.self.now s) (Ok tt) c.take_step.new.ledger) (behind_first c.args.self.now c.args.moment c.args.block c.args.first c.env_behind-env.result c.env_behind-env.ensures c.args.task.now c.args.id (at c.args.self.now.tunnels c.args.id)) c.in_ok-take_step.ensures.committed
