use Rattle.std.proofs.Common.{subst}
use Rattle.wire_base.specs.Answers.{Gives}
use Rattle.lcp_wire.specs.Reading.{ToldOption}
use Rattle.lcp_wire.proofs.Options.{is_exact, options_again, fault_again}
use Rattle.lcp_wire.proofs.reading.read_options.Goals as goal

pub returns-clause-exact : goal.returns-clause-exact
returns-clause-exact c = is_exact c.args.bytes.now c.read_all.result c.read_all.ensures.found c.read_all.ensures.fault

pub returns-clause-only : goal.returns-clause-only
returns-clause-only c = λ v fits e. subst (λ r. Gives ToldOption (λ x. x) c.read_all.result r) (options_again c.args.bytes.now v e) (is_exact c.args.bytes.now c.read_all.result c.read_all.ensures.found c.read_all.ensures.fault)

pub returns-clause-told : goal.returns-clause-told
returns-clause-told c = λ at h. subst (λ r. Gives ToldOption (λ x. x) c.read_all.result r) (fault_again c.args.bytes.now at h) (is_exact c.args.bytes.now c.read_all.result c.read_all.ensures.found c.read_all.ensures.fault)
