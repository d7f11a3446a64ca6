use Rattle.std.proofs.Common.{◌≡◌, ◌∙◌, ap, length, List, ℕ, rules}
use Rattle.capture_file.specs.Frames.{datagram_frame}
use Rattle.capture_file.proofs.Lengths.{frame_length}
use Rattle.capture_file.proofs.packet.datagram_frame.Goals as goal

pub returns-clause-size : goal.returns-clause-size
unfolding datagram_frame
returns-clause-size c =
    let is : c.push_slice.new.self ≡ datagram_frame c.args.packet c.args.from c.args.to c.args.payload.now = search rules in
    ap length is ∙ frame_length c.args.packet c.args.from c.args.to c.args.payload.now
