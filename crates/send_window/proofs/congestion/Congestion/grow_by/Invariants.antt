use Rattle.std.proofs.Common.{◌≡◌}
use Rattle.send_window.specs.Congestion.{IsOpen, times_grown}
use Rattle.send_window.proofs.congestion.Congestion.grow_by.Given as goal

abbrev pub invariant-loop : goal.invariant-loop
invariant-loop l = (l.next ≡ times_grown l.counter l.fn.self) × IsOpen l.next
