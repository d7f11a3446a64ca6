use Rattle.std.proofs.Common.{◌≡◌, IfOk, subst}
use Rattle.schedule_text.specs.declared.line.Line.{Line}
use Rattle.schedule_making.proofs.Runs.{settled_none, remark_of}
use Rattle.schedule_making.proofs.making.Maker.settle.Goals as goal

pub returns-in-None-clause-line : goal.returns-in-None-clause-line
returns-in-None-clause-line c =
    rw c.in-None.is (subst (λ (p : Line). IfOk c.passed_over.result (λ l. l ≡ p)) (settled_none c.args.self.now.lines) c.passed_over.ensures)

pub returns-in-None-clause-run : goal.returns-in-None-clause-run
returns-in-None-clause-run c = remark_of c.passed_over.result c.args.self.now.lines c.args.self.now.world c.passed_over.ensures c.requires
