use Rattle.std.proofs.Common.{subst, arith}
use Rattle.wire_base.specs.Answers.{Gives}
use Rattle.lcp_wire.specs.Reading.{Told}
use Rattle.lcp_wire.proofs.Packets.{is_found, is_first, packet_again, fault_again}
use Rattle.lcp_wire.proofs.reading.read_lcp.Goals as goal

pub returns-clause-found : goal.returns-clause-found
returns-clause-found c = is_found c.args.bytes.now c.read_packet.result (λ i. omega (arith, c.type_inv.bytes i)) c.read_packet.ensures

pub returns-clause-fault : goal.returns-clause-fault
returns-clause-fault c = is_first c.args.bytes.now c.read_packet.result (λ i. omega (arith, c.type_inv.bytes i)) c.read_packet.ensures

pub returns-clause-only : goal.returns-clause-only
returns-clause-only c = λ p h. subst (λ r. Gives Told (λ x. x) c.read_packet.result r) (packet_again c.args.bytes.now p h) c.read_packet.ensures

pub returns-clause-told : goal.returns-clause-told
returns-clause-told c = λ e h. subst (λ r. Gives Told (λ x. x) c.read_packet.result r) (fault_again c.args.bytes.now e h) c.read_packet.ensures
