use Rattle.run_join_laws.proofs.OneCall.{calls_know_their_mates}
use Rattle.run_join_laws.proofs.calls_know_their_mates.Goals as goal

pub returns : goal.returns
returns c =
    calls_know_their_mates c.each_birth_has_one_mate.ensures c.births_are_drawn.ensures c.worlds_are_joined.ensures
    c.births_are_of_one_call.ensures
