use Rattle.std.proofs.Common.{◌≡◌, ◌++◌, drop}
use Rattle.end_model.specs.Querying.{ended_of}
use Rattle.tunnel_turn.proofs.querying.ended_of.Given as goal

abbrev pub invariant-loop-pair : goal.invariant-loop-pair
invariant-loop-pair l = l.ended ++ ended_of l.calls.entries (drop l.pair-index l.gone) ≡ ended_of l.calls.entries l.gone
