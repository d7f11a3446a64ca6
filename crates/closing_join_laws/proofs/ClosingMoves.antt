-- The moves by which an opening is declined, and a tunnel is closed by a StopCCN.
use Rattle.std.proofs.Common.{◌≡◌, ⊎_elim}
use Rattle.id_table.specs.Order.{same_or_not}
use Rattle.recv_window.specs.Window.{ClassIsTrue}
use Rattle.end_model.specs.declared.moves.ClosedBy.{ClosedBy}
use Rattle.end_model.specs.declared.moves.Move.TheVariants as move
use Rattle.world_model.specs.World.{epoch_of}
use Rattle.connection_laws.specs.Steps.{MovesKeep, StopIsHeard}
use Rattle.letter_laws.specs.Letters.{LettersOfRuns}
use Rattle.join_laws.specs.Steps.{Joins}
use Rattle.frame_laws.specs.Codecs.{Codecs}
use Rattle.channel_laws.specs.Recoveries.{WrittenIsRead, WrittenHasRoom}
use Rattle.epoch_laws.specs.Epochs.{EpochsOfRuns}
use Rattle.recovery_laws.specs.Growing.{ChannelsGrow}
use Rattle.closing_join_laws.specs.Moves.{DeclinesJoin, StopsJoin}
use Rattle.closing_join_laws.proofs.Declining.{declined_joins}
use Rattle.closing_join_laws.proofs.Stopping.{stopped_first}
use Rattle.closing_join_laws.proofs.StoppingLater.{stopped_later}

pub declines_join : Codecs → WrittenIsRead → WrittenHasRoom → DeclinesJoin
declines_join codecs again room (move.Declined m) is = declined_joins codecs again room m
declines_join codecs again room m is = absurd is

-- a StopCCN closes a tunnel of epoch 0, or of a later one
stopped_joins : MovesKeep → StopIsHeard → Codecs → WrittenIsRead → WrittenHasRoom → ClassIsTrue → EpochsOfRuns → LettersOfRuns
    → ChannelsGrow
    → (m : ClosedBy) → Joins (move.ClosedBy m)
stopped_joins keep stops codecs again room classes epochs letters grow m w h n node sender moment ev x d k j q b mirrors = ⊎_elim
    (λ (first : epoch_of w n m.tunnel ≡ 0).
    stopped_first keep stops codecs again room epochs letters grow.stay m w h n node sender moment ev x d k j q first b mirrors)
    (λ (later : epoch_of w n m.tunnel ≡ 0 → ⊥).
    stopped_later codecs again room classes grow.stay w h n node sender moment ev m x d k j q later b mirrors)
    (same_or_not (epoch_of w n m.tunnel) 0)

pub stops_join : MovesKeep → StopIsHeard → Codecs → WrittenIsRead → WrittenHasRoom → ClassIsTrue → EpochsOfRuns → LettersOfRuns
    → ChannelsGrow
    → StopsJoin
stops_join keep stops codecs again room classes epochs letters grow (move.ClosedBy m) is =
    stopped_joins keep stops codecs again room classes epochs letters grow m
stops_join keep stops codecs again room classes epochs letters grow m is = absurd is
