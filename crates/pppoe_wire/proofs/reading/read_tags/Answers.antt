use Rattle.std.proofs.Common.{subst}
use Rattle.wire_base.specs.Answers.{Gives}
use Rattle.pppoe_wire.specs.Reading.{ToldTag}
use Rattle.pppoe_wire.proofs.Tags.{is_exact, tags_again, fault_again}
use Rattle.pppoe_wire.proofs.reading.read_tags.Goals as goal

pub returns-clause-exact : goal.returns-clause-exact
returns-clause-exact c = is_exact c.args.payload.now c.read_all.result c.read_all.ensures.found c.read_all.ensures.fault

pub returns-clause-only : goal.returns-clause-only
returns-clause-only c = λ v h. subst (λ r. Gives ToldTag (λ x. x) c.read_all.result r) (tags_again c.args.payload.now v h) (is_exact c.args.payload.now c.read_all.result c.read_all.ensures.found c.read_all.ensures.fault)

pub returns-clause-told : goal.returns-clause-told
returns-clause-told c = λ at h. subst (λ r. Gives ToldTag (λ x. x) c.read_all.result r) (fault_again c.args.payload.now at h) (is_exact c.args.payload.now c.read_all.result c.read_all.ensures.found c.read_all.ensures.fault)
