use Rattle.schedule_making.proofs.Runs.{went_on, settled_taken, settled_refused, refused_line, refused_runs}
use Rattle.schedule_making.proofs.making.Maker.take.Goals as goal

pub returns-in-Ok-clause-line : goal.returns-in-Ok-clause-line
returns-in-Ok-clause-line c =
    let e = c.in-Ok.ensures in
    settled_taken c.args.self.now.lines c.args.line c.next_number-number.result c.next_number-number.ensures c.args.self.now.world c.line.new.self c.requires e.1

pub returns-in-Ok-clause-run : goal.returns-in-Ok-clause-run
returns-in-Ok-clause-run c =
    let e = c.in-Ok.ensures in
    went_on c.args.self.now.lines c.args.line c.next_number-number.result c.next_number-number.ensures c.args.self.now.world c.line.new.self c.requires e.1 e.2

pub returns-in-Err-Refused-clause-line : goal.returns-in-Err-Refused-clause-line
returns-in-Err-Refused-clause-line c =
    let said = rw c.in-Err-Refused.field-0-is at c.in-Err-Refused.ensures in
    let is = settled_refused c.args.self.now.lines c.args.line c.next_number-number.result c.next_number-number.ensures c.args.self.now.world c.args.self.now.world c.requires _ said.1 in
    refused_line c.pass_over.result _ c.args.self.now.lines c.args.line c.pass_over.ensures is

pub returns-in-Err-Refused-clause-run : goal.returns-in-Err-Refused-clause-run
returns-in-Err-Refused-clause-run c =
    let said = rw c.in-Err-Refused.field-0-is at c.in-Err-Refused.ensures in
    refused_runs c.pass_over.result _ c.args.self.now.lines c.args.self.now.world c.line.new.self c.pass_over.ensures said.2 c.requires
