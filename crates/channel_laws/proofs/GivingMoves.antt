-- Moves by which an established tunnel is given a letter, and takes none.
use Rattle.end_model.specs.declared.moves.Move.TheVariants as move
use Rattle.frame_laws.specs.Codecs.{Codecs}
use Rattle.channel_laws.proofs.Querying.{queried_keeps}
use Rattle.channel_laws.specs.Steps.{GivingMovesKeep}
use Rattle.channel_laws.proofs.Giving.{requested_keeps, end_told_keeps, greeted_keeps}

pub giving_moves_keep : Codecs → GivingMovesKeep
giving_moves_keep codecs (move.Requested m) of w h n node sender moment ev x d k = requested_keeps w h n node sender moment ev x d codecs m k
giving_moves_keep codecs (move.EndTold m) of w h n node sender moment ev x d k = end_told_keeps w h n node sender moment ev x d m k
giving_moves_keep codecs (move.Greeted m) of w h n node sender moment ev x d k = greeted_keeps w h n node sender moment ev x d m k
giving_moves_keep codecs (move.Queried m) of w h n node sender moment ev x d k = queried_keeps w h n node sender moment ev x d m k
giving_moves_keep codecs m of w h n node sender moment ev x d k = absurd of
