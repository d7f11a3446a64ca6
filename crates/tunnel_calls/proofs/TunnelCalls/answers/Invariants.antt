use Rattle.std.proofs.Common.{◌≡◌, ◌++◌, drop}
use Rattle.session_query.specs.Kept.{AreIds}
use Rattle.session_query.specs.Queries.{answers_to}
use Rattle.end_model.specs.Calls.{sessions_of}
use Rattle.tunnel_calls.proofs.TunnelCalls.answers.Given as goal

abbrev pub invariant-loop-pair : goal.invariant-loop-pair
invariant-loop-pair l = record {
  told : l.answers ++ answers_to (sessions_of l.self.entries) (drop l.pair-index l.asked) ≡ answers_to (sessions_of l.self.entries) l.asked;
  ids : AreIds l.answers;
}
