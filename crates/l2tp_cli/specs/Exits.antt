-- The status of each exit.
use Rattle.std.specs.Prelude.{ℕ}
use Rattle.l2tp_cli.specs.declared.exit.Exit.{Exit}
use Rattle.l2tp_cli.specs.declared.exit.Exit.TheVariants as exits

abbrev pub status_of : Exit → ℕ
status_of exits.Ok = 0
status_of exits.Usage = 1
status_of (exits.BadLine line) = 2
status_of (exits.Unfit line why) = 3
status_of (exits.HalfSpace line number count) = 4
status_of (exits.Stale line sent own) = 4
status_of exits.ReadFault = 5
status_of exits.WriteFault = 6
status_of (exits.TooLong lines) = 7
status_of (exits.StoreFull records) = 13
status_of exits.NoMemory = 20
