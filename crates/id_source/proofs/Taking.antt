-- A raise of the ceiling and a draw are one.
use Rattle.std.proofs.Common.{arith, rules}
use Rattle.id_source.specs.Spaces.{draws, takes_id}
use Rattle.id_source.specs.Taking.{TakesAreDraws}

pub takes_are_draws : TakesAreDraws
unfolding draws takes_id
takes_are_draws s near within = grind (arith, rules)
