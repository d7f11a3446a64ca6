use Rattle.recv_window.proofs.SameFirst.{takes_the_same_first}
use Rattle.recv_window.proofs.keeping_takes_the_same_first.Goals as goal

pub returns : goal.returns
returns g c = takes_the_same_first
