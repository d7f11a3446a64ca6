use Rattle.std.proofs.Common.{rules, map, string_bytes}
use Rattle.node_words.proofs.Plans.{refused}
use Rattle.node_words.proofs.reading.read_plan.Goals as goal

pub returns-in-Err-clause-usage : goal.returns-in-Err-clause-usage
returns-in-Err-clause-usage c is = refused (map string_bytes c.args.words.now) (c.in-Err.ensures.usage (search (rules, is)))
