-- The status of each exit.
use Rattle.std.specs.Prelude.{ℕ}
use Rattle.node_top.specs.declared.exit.NodeExit.{NodeExit}
use Rattle.node_top.specs.declared.exit.NodeExit.TheVariants as exits

abbrev pub status_of : NodeExit → ℕ
status_of exits.Ok = 0
status_of exits.Usage = 1
status_of exits.WriteFault = 6
status_of (exits.NotJournal at) = 8
status_of exits.StoreFault = 9
status_of exits.LinkFault = 10
status_of exits.EtherFault = 11
status_of exits.UplinkFault = 12
status_of (exits.StoreFull records) = 13
status_of exits.NoMemory = 20
