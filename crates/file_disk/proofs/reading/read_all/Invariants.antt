use Rattle.std.proofs.Common.{◌≡◌, ◌≤◌, length}
use Rattle.file_disk.proofs.reading.read_all.Given as goal

abbrev pub invariant-loop : goal.invariant-loop
invariant-loop l = (l.have ≤ length l.initial.buf) × (length l.buf ≡ length l.initial.buf)
