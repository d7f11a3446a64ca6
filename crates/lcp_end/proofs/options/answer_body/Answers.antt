use Rattle.lcp_end.proofs.Lengths.{body_is_short, front_is_short}
use Rattle.lcp_end.proofs.options.answer_body.Goals as goal

pub returns-clause-short : goal.returns-clause-short
returns-clause-short c =
    front_is_short c.loop-option.body _ _ _ c.loop-option.invariant.0 (body_is_short c.args.verdict c.args.own c.args.wish c.args.options.now)
