use Rattle.session_workers.specs.Passes.{IsPassIn, IsOpener}
use Rattle.worker_examples.proofs.queue_tests.put_many.Given as goal

abbrev pub invariant-loop-k : goal.invariant-loop-k
invariant-loop-k g l = IsPassIn l.shared l.pass × IsOpener l.pass
