use Rattle.recv_window.specs.Ahead.{count_kept}
use Rattle.component_examples.proofs.recv_window_tests.receive.Given as goal

abbrev pub decreases-loop-message : goal.decreases-loop-message
decreases-loop-message l = count_kept l.kept
