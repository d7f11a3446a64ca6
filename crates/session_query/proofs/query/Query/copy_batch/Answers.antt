use Rattle.std.proofs.Common.{◌≡◌, ◌∙◌, ap, arith, List, Some, take, drop, length}
use Rattle.std.proofs.lemmas.List.{take_rest}
use Rattle.wire_base.specs.declared.pair.Pair.{Pair}
use Rattle.session_query.specs.Kept.{pairs_kept}
use Rattle.session_query.specs.Queries.{next_batch}
use Rattle.session_query.proofs.Batches.{batch_is}
use Rattle.session_query.proofs.query.Query.copy_batch.Goals as goal

pub returns-clause-batch : goal.returns-clause-batch
returns-clause-batch c =
    let left : c.first_of.result.now ≡ take 64 (drop c.self.inside.done (pairs_kept c.self.inside.pairs)) = c.first_of.ensures ∙ (ap (take 64) (take_rest c.lent-pairs.result.now c.self.inside.done) ∙ ap (λ xs. take 64 (drop c.self.inside.done xs)) c.lent-pairs.ensures) in
    ap (λ (xs : List Pair). Some xs) (c.in_ok-batch.ensures.same ∙ left)
    ∙ (batch_is (record { pairs = pairs_kept c.self.inside.pairs; done = c.self.inside.done; asked = c.self.inside.asked }) (omega (arith, c.if-self-gt0.false)) (omega (arith, c.if-self-pairs.false, ap length c.lent-pairs.ensures))
    ∙ ap next_batch c.self.view_is)
