use Rattle.std.proofs.Common.{◌∙◌}
use Rattle.capture_file.proofs.Words.{goes_on}
use Rattle.capture_file.proofs.sums.sum_of.Goals as goal

pub loop-left-preserved : goal.loop-left-preserved
loop-left-preserved c =
    goes_on c.loop-left.sum c.add_words-sum.result c.read_u16.result c.loop-left.left.now c.split_at.result.0.now c.split_at.result.1.now c.loop-left-test.true c.split_at.ensures.front c.split_at.ensures.back c.read_u16.ensures c.add_words-sum.ensures ∙ c.loop-left.invariant
