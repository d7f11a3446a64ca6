-- What a node writes at its end.
use Rattle.std.specs.Prelude.{ℕ, List, [], ◌++◌, codes}
use Rattle.std.specs.Fmt.{decimal}
use Rattle.node_run.specs.declared.lending.Counts.{Counts}
use Rattle.node_top.specs.declared.exit.NodeExit.{NodeExit}
use Rattle.node_top.specs.declared.exit.NodeExit.TheVariants as exits

-- a word and its number, in a line
abbrev pub number_line : List ℕ → ℕ → List ℕ
number_line word number = word ++ decimal number ++ codes "\n"

abbrev pub counts_text : Counts → List ℕ
counts_text c = number_line (codes "turns ") c.turns ++ number_line (codes "taken ") c.taken ++ number_line (codes "sent ") c.sent

-- nothing is written where memory was wanting
abbrev pub exit_text : NodeExit → List ℕ
exit_text (exits.NotJournal at) = number_line (codes "not a journal: ") at
exit_text exits.StoreFault = codes "store fault\n"
exit_text exits.LinkFault = codes "link fault\n"
exit_text exits.EtherFault = codes "ether fault\n"
exit_text exits.UplinkFault = codes "uplink fault\n"
exit_text (exits.StoreFull records) = number_line (codes "store full: ") records
exit_text _ = []
