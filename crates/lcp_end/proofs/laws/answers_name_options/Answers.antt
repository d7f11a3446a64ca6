use Rattle.lcp_end.proofs.Answering.{each_answers_options, each_suggests_good}
use Rattle.lcp_end.proofs.laws.answers_name_options.Goals as goal

pub returns-clause-options : goal.returns-clause-options
returns-clause-options c = each_answers_options

pub returns-clause-suggestions : goal.returns-clause-suggestions
returns-clause-suggestions c = each_suggests_good
