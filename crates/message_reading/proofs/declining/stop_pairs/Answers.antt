use Rattle.std.proofs.Common.{arith, rules}
use Rattle.control_message.specs.Pairs.{IsWritten}
use Rattle.control_message.specs.declared.message.Message.TheVariants.{StopCcn}
use Rattle.message_reading.proofs.declining.stop_pairs.Goals as goal

pub returns-clause-room : goal.returns-clause-room
returns-clause-room c =
    let written : IsWritten (StopCcn 0 c.args.code c.args.error) = (omega arith, c.ranges.code.fits, search rules) in
    let few = c.has_room.ensures (StopCcn 0 c.args.code c.args.error) written in
    let are = c.in_ok-write_message.ensures.ok in
    rw (are, c.new-pairs.ensures) few
