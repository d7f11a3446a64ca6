use Rattle.std.proofs.Common.{subst}
use Rattle.wire_base.specs.Answers.{Gives}
use Rattle.schedule_text.specs.Reading.{Told}
use Rattle.schedule_text.proofs.Laws.{is_found, is_bad, schedule_again, bad_again}
use Rattle.schedule_text.proofs.reading.read_schedule.Goals as goal

pub returns-clause-found : goal.returns-clause-found
returns-clause-found c = is_found c.args.text.now c.read_all.result c.read_all.ensures

pub returns-clause-bad : goal.returns-clause-bad
returns-clause-bad c = is_bad c.args.text.now c.read_all.result c.read_all.ensures

pub returns-clause-only : goal.returns-clause-only
returns-clause-only c = λ v h. subst (λ r. Gives Told (λ x. x) c.read_all.result r) (schedule_again c.args.text.now v h) c.read_all.ensures

pub returns-clause-told : goal.returns-clause-told
returns-clause-told c = λ n h. subst (λ r. Gives Told (λ x. x) c.read_all.result r) (bad_again c.args.text.now n h) c.read_all.ensures
