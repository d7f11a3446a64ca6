-- The moves by which sessions are asked for, and answered, are the machine's.
use Rattle.end_model.specs.declared.moves.Move.TheVariants as move
use Rattle.birth_laws.specs.Births.{BirthsOfRuns}
use Rattle.recovery_laws.specs.Asking.{QueriesAreMoves}
use Rattle.recovery_laws.specs.Growing.{ChannelsGrow}
use Rattle.recovery_laws.specs.Left.{QueriesGoOn}
use Rattle.recovery_join_laws.specs.Moves.{QueriesJoin}
use Rattle.recovery_join_laws.proofs.Questioning.{queried_joins}
use Rattle.recovery_join_laws.proofs.TookAnswer.{took_answer_joins}
use Rattle.recovery_join_laws.proofs.TookQuestion.{answered_joins}

pub queries_join : ChannelsGrow → QueriesAreMoves → QueriesGoOn → BirthsOfRuns → QueriesJoin
queries_join grow are on births (move.Queried m) of = queried_joins grow are on m
queries_join grow are on births (move.AnsweredQuery m) of = answered_joins grow are births m
queries_join grow are on births (move.TookAnswer m) of = took_answer_joins grow are on births m
queries_join grow are on births m of = absurd of
