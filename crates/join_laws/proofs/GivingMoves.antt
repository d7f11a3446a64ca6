-- The moves by which an established tunnel gives a letter, and takes none.
use Rattle.end_model.specs.declared.moves.Move.{Move}
use Rattle.end_model.specs.declared.moves.Move.TheVariants as move
use Rattle.recovery_laws.specs.Growing.{ChannelsGrow}
use Rattle.join_laws.specs.Moves.{GivingMovesJoin}
use Rattle.join_laws.proofs.Greeting.{greeted_joins}
use Rattle.join_laws.proofs.Requesting.{requested_joins}
use Rattle.join_laws.proofs.EndingTold.{end_told_joins}

pub giving_moves_join : ChannelsGrow → GivingMovesJoin
giving_moves_join grow (move.Greeted m) is = greeted_joins grow m
giving_moves_join grow (move.Requested m) is = requested_joins grow m
giving_moves_join grow (move.EndTold m) is = end_told_joins grow m
giving_moves_join grow m is = absurd is
