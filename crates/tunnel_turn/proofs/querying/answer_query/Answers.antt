use Rattle.std.proofs.Common.{arith, ap, length, List}
use Rattle.wire_base.specs.declared.pair.Pair.{Pair}
use Rattle.tunnel_turn.proofs.Batches.{as_many}
use Rattle.end_model.specs.Calls.{sessions_of}
use Rattle.tunnel_turn.proofs.querying.answer_query.Goals as goal

pub answer_now-requires-clause-written : goal.answer_now-requires-clause-written
answer_now-requires-clause-written c =
    let answers = c.in_ok-answers in
    let same = ap (λ (ps : List Pair). length ps) answers.ensures.answers in
    record {
      few = omega (arith, same, as_many (sessions_of c.args.calls.now.entries) c.args.asked.now, c.requires.few);
      ids = answers.ensures.ids;
    }
