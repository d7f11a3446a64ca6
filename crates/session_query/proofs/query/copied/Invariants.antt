use Rattle.std.proofs.Common.{◌≡◌, take}
use Rattle.session_query.specs.Kept.{AreIds}
use Rattle.session_query.proofs.query.copied.Given as goal

abbrev pub invariant-loop-pair : goal.invariant-loop-pair
invariant-loop-pair l = (l.copy ≡ take l.pair-index l.pairs) × AreIds l.copy
