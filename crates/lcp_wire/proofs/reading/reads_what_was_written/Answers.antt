use Rattle.std.proofs.Common.{refl}
use Rattle.lcp_wire.specs.Spelling.{spelling}
use Rattle.lcp_wire.proofs.Packets.{written_again}
use Rattle.lcp_wire.proofs.Options.{options_again}
use Rattle.lcp_wire.proofs.reading.reads_what_was_written.Goals as goal

pub returns-clause-packet : goal.returns-clause-packet
returns-clause-packet c = written_again

pub returns-clause-options : goal.returns-clause-options
returns-clause-options c = λ v fits. options_again (spelling v) v refl
