use Rattle.std.proofs.Common.{◌∙◌, arith}
use Rattle.l2tp_header.proofs.Laws.{is_found, is_first, header_again, fault_again}
use Rattle.l2tp_header.proofs.reading.read_header.Goals as goal

pub returns-clause-found : goal.returns-clause-found
returns-clause-found c = is_found c.args.bytes.now c.read_fields.result (λ i. omega (arith, c.type_inv.bytes i)) c.read_fields.ensures.exact

pub returns-clause-fault : goal.returns-clause-fault
returns-clause-fault c = is_first c.args.bytes.now c.read_fields.result (λ i. omega (arith, c.type_inv.bytes i)) c.read_fields.ensures.exact

pub returns-clause-only : goal.returns-clause-only
returns-clause-only c = λ h i. c.read_fields.ensures.exact ∙ header_again c.args.bytes.now h i

pub returns-clause-told : goal.returns-clause-told
returns-clause-told c = λ e f. c.read_fields.ensures.exact ∙ fault_again c.args.bytes.now e (λ i. omega (arith, c.type_inv.bytes i)) f
