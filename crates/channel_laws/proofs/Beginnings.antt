-- Moves by which a tunnel is opened or accepted, or an opening is declined.
use Rattle.end_model.specs.declared.moves.Move.TheVariants as move
use Rattle.frame_laws.specs.Codecs.{Codecs}
use Rattle.channel_laws.specs.Recoveries.{WrittenIsRead, WrittenHasRoom}
use Rattle.channel_laws.specs.Steps.{BeginningMovesKeep}
use Rattle.channel_laws.proofs.Accepting.{accepted_keeps}
use Rattle.channel_laws.proofs.Declining.{declined_keeps}
use Rattle.channel_laws.proofs.Opening.{opened_keeps}

pub beginning_moves_keep : Codecs → WrittenIsRead → WrittenHasRoom → BeginningMovesKeep
beginning_moves_keep codecs again room (move.Opened m) of w h n node sender moment ev x d k = opened_keeps w h n node sender moment ev m x d k
beginning_moves_keep codecs again room (move.Accepted m) of w h n node sender moment ev x d k = accepted_keeps codecs again room w h n node sender moment ev m x d k
beginning_moves_keep codecs again room (move.Declined m) of w h n node sender moment ev x d k = declined_keeps w h n node sender moment ev m x d k
beginning_moves_keep codecs again room m of w h n node sender moment ev x d k = absurd of
