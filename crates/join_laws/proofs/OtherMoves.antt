-- The moves by which a tunnel is made, comes open, is closed or removed, those by which it takes letters about calls, and those of
-- recoveries.
use Rattle.end_model.specs.declared.moves.Move.{Move}
use Rattle.end_model.specs.declared.moves.Move.TheVariants as move
use Rattle.epoch_laws.specs.Epochs.{EpochsOfRuns}
use Rattle.recv_window.specs.Window.{ClassIsTrue}
use Rattle.frame_laws.specs.Codecs.{Codecs}
use Rattle.connection_laws.specs.Steps as calm
use Rattle.channel_laws.specs.Recoveries.{WrittenIsRead, WrittenHasRoom}
use Rattle.birth_laws.specs.Births.{BirthsOfRuns}
use Rattle.coverage_laws.specs.Coverage.{CoverageOfRuns}
use Rattle.letter_laws.specs.Letters.{LettersOfRuns}
use Rattle.recovery_laws.specs.Growing.{ChannelsGrow}
use Rattle.join_laws.specs.Roles.{RefusingMovesJoin}
use Rattle.join_laws.specs.Moves.{OpeningMovesJoin, EndingMovesJoin, CallMovesJoin, TakingMovesJoin, RecoveryMovesJoin}
use Rattle.join_laws.proofs.Opening.{opened_joins}
use Rattle.join_laws.proofs.Accepting.{accepted_joins}
use Rattle.join_laws.proofs.Confirming.{confirmed_joins}
use Rattle.join_laws.proofs.Connecting.{connected_joins}
use Rattle.join_laws.proofs.Clearing.{cleared_joins}
use Rattle.join_laws.proofs.Closing.{closed_joins}
use Rattle.join_laws.proofs.Rejecting.{rejected_joins}
use Rattle.join_laws.proofs.Adding.{added_joins}
use Rattle.join_laws.proofs.FirstUp.{first_up_joins}
use Rattle.join_laws.proofs.Replying.{replied_joins}
use Rattle.join_laws.proofs.SecondUp.{second_up_joins}
use Rattle.join_laws.proofs.EndHeard.{end_heard_joins}
use Rattle.join_laws.proofs.EndingSilent.{end_silent_joins}
use Rattle.join_laws.proofs.TakingPlain.{took_plain_joins}
use Rattle.join_laws.proofs.Refusing.{refused_joins}
use Rattle.join_laws.proofs.Froze.{froze_joins}

pub opening_moves_join : ChannelsGrow → BirthsOfRuns → CoverageOfRuns → OpeningMovesJoin
opening_moves_join grow births coverage (move.Opened m) is = opened_joins grow m
opening_moves_join grow births coverage (move.Accepted m) is = accepted_joins grow m
opening_moves_join grow births coverage (move.Connected m) is = connected_joins grow births coverage m
opening_moves_join grow births coverage (move.Confirmed m) is = confirmed_joins grow births coverage m
opening_moves_join grow births coverage m is = absurd is

pub ending_moves_join : ChannelsGrow → EpochsOfRuns → EndingMovesJoin
ending_moves_join grow epochs (move.Cleared i booked) is = cleared_joins grow.stay i booked
ending_moves_join grow epochs (move.Closed m) is = closed_joins grow m
ending_moves_join grow epochs (move.Rejected m) is = rejected_joins grow epochs m
ending_moves_join grow epochs m is = absurd is

-- how it is known what comes in a step
pub record Hearing : Type 0 where
  pub keep : calm.MovesKeep
  pub plain : calm.PlainIsHeard
  pub codecs : Codecs
  pub again : WrittenIsRead
  pub room : WrittenHasRoom
  pub classes : ClassIsTrue

pub call_moves_join : Hearing → ChannelsGrow → BirthsOfRuns → CallMovesJoin
call_moves_join hears grow births (move.Added m) is = added_joins grow.stay births m
call_moves_join hears grow births (move.Replied m) is = replied_joins grow births m
call_moves_join hears grow births (move.FirstUp m) is = first_up_joins grow m
call_moves_join hears grow births (move.SecondUp m) is = second_up_joins grow m
call_moves_join hears grow births (move.EndHeard m) is =
    end_heard_joins hears.keep hears.plain hears.codecs hears.again hears.room hears.classes grow births m
call_moves_join hears grow births (move.EndSilent m) is =
    end_silent_joins hears.keep hears.codecs hears.again hears.room grow births m
call_moves_join hears grow births m is = absurd is

pub taking_moves_join : Hearing → ChannelsGrow → BirthsOfRuns → LettersOfRuns → TakingMovesJoin
taking_moves_join hears grow births letters (move.TookPlain m) is =
    took_plain_joins hears.keep hears.plain hears.codecs hears.again hears.room hears.classes grow births letters m
taking_moves_join hears grow births letters m is = absurd is

pub refusing_moves_join : Hearing → ChannelsGrow → BirthsOfRuns → RefusingMovesJoin
refusing_moves_join hears grow births (move.Refused m) is =
    refused_joins hears.keep hears.plain hears.codecs hears.again hears.room hears.classes grow births m
refusing_moves_join hears grow births m is = absurd is

pub recovery_moves_join : ChannelsGrow → RecoveryMovesJoin
recovery_moves_join grow (move.Froze m) is = froze_joins grow.stay m
recovery_moves_join grow m is = absurd is
