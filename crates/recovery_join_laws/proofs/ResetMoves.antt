-- The moves by which an end resets its tunnel are the machine's.
use Rattle.end_model.specs.declared.moves.Move.TheVariants as move
use Rattle.frame_laws.specs.Codecs.{Codecs}
use Rattle.birth_laws.specs.Births.{BirthsOfRuns}
use Rattle.channel_laws.specs.Recoveries.{WrittenIsRead, WrittenHasRoom}
use Rattle.recovery_laws.specs.Growing.{ChannelsGrow}
use Rattle.recovery_join_laws.specs.Moves.{ResetsJoin}
use Rattle.recovery_join_laws.proofs.Answering.{answering_joins}
use Rattle.recovery_join_laws.proofs.Attempting.{attempting_joins}

pub resets_join : Codecs → WrittenIsRead → WrittenHasRoom → BirthsOfRuns → ChannelsGrow → ResetsJoin
resets_join codecs again room births grow (move.ResetAttempting m) of = attempting_joins codecs again room births grow.stay m
resets_join codecs again room births grow (move.ResetAnswering m) of = answering_joins codecs again room births grow.stay m
resets_join codecs again room births grow m of = absurd of
