use Rattle.std.proofs.Common.{subst, arith}
use Rattle.wire_base.specs.Answers.{Gives}
use Rattle.pppoe_wire.specs.Reading.{Told}
use Rattle.pppoe_wire.proofs.Frames.{is_found, is_first, frame_again, fault_again}
use Rattle.pppoe_wire.proofs.reading.read_frame.Goals as goal

pub returns-clause-found : goal.returns-clause-found
returns-clause-found c = is_found c.args.bytes.now c.read_whole.result (λ i. omega (arith, c.type_inv.bytes i)) c.read_whole.ensures

pub returns-clause-fault : goal.returns-clause-fault
returns-clause-fault c = is_first c.args.bytes.now c.read_whole.result (λ i. omega (arith, c.type_inv.bytes i)) c.read_whole.ensures

pub returns-clause-only : goal.returns-clause-only
returns-clause-only c = λ f h. subst (λ r. Gives Told (λ x. x) c.read_whole.result r) (frame_again c.args.bytes.now f h) c.read_whole.ensures

pub returns-clause-told : goal.returns-clause-told
returns-clause-told c = λ e h. subst (λ r. Gives Told (λ x. x) c.read_whole.result r) (fault_again c.args.bytes.now e h) c.read_whole.ensures
