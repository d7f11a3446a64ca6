use Rattle.std.proofs.Common.{◌≡◌, ◌∙◌, sym, ap, arith, Some}
use Rattle.session_query.specs.Kept.{pairs_kept}
use Rattle.session_query.specs.Queries.{next_batch}
use Rattle.session_query.proofs.Batches.{batch_fits}
use Rattle.session_query.proofs.query.Query.next_fsq.Goals as goal

pub invariant_of-self : goal.invariant_of-self
invariant_of-self c =
    let told : next_batch (record { pairs = pairs_kept c.self.inside.pairs; done = c.self.inside.done; asked = c.self.inside.asked }) ≡ Some c.in-Some.batch =
    ap next_batch c.self.view_is ∙ (sym c.in_ok-batch.ensures.batch ∙ c.in-Some.is) in
    let fits = batch_fits (record { pairs = pairs_kept c.self.inside.pairs; done = c.self.inside.done; asked = c.self.inside.asked }) c.in-Some.batch c.self.invariant told in
    omega (arith, fits, c.len-self-inside.ensures)
