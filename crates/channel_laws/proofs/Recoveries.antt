-- Moves by which an attempt is answered, and by which either end resets its tunnel.
use Rattle.end_model.specs.declared.moves.Move.TheVariants as move
use Rattle.frame_laws.specs.Codecs.{Codecs}
use Rattle.channel_laws.specs.Recoveries.{WrittenIsRead, WrittenHasRoom}
use Rattle.channel_laws.specs.Steps.{RecoveriesKeep}
use Rattle.channel_laws.proofs.Freezing.{froze_holds}
use Rattle.channel_laws.proofs.ResetsAttempting.{reset_attempting}
use Rattle.channel_laws.proofs.ResetsAnswering.{reset_answering}

pub recoveries_keep : Codecs → WrittenIsRead → WrittenHasRoom → RecoveriesKeep
recoveries_keep codecs again room (move.Froze m) of w h n node sender moment ev x d k = froze_holds codecs again room w h n node sender moment ev m x d k
recoveries_keep codecs again room (move.ResetAttempting m) of w h n node sender moment ev x d k = reset_attempting codecs again room w h n node sender moment ev m x d k
recoveries_keep codecs again room (move.ResetAnswering m) of w h n node sender moment ev x d k = reset_answering w h n node sender moment ev m x d k
recoveries_keep codecs again room m of w h n node sender moment ev x d k = absurd of
