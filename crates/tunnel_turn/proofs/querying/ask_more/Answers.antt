use Rattle.std.proofs.Common.{◌∙◌, sym}
use Rattle.tunnel_turn.proofs.Batches.{few_asked}
use Rattle.tunnel_turn.proofs.querying.ask_more.Goals as goal

pub ask-requires-clause-written : goal.ask-requires-clause-written
ask-requires-clause-written c = record {
  few = few_asked _ c.in-Some.pairs (sym c.in_ok-pairs.ensures.batch ∙ c.in-Some.is);
  ids = rw c.in-Some.is at c.in_ok-pairs.ensures.ids;
}
