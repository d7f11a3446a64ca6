-- Numbers of 16 bits on the wire.
use Rattle.std.proofs.Common.{◌≡◌, ℕ, ◌<◌, arith}
use Rattle.std.specs.Prelude.{◌^◌}
use Rattle.recv_window.specs.Window.{on_wire}

pub on_wire_is : (n : ℕ) → n < 2 ^ 16 → on_wire n ≡ n
on_wire_is n lt = omega (arith, lt)
