use Rattle.std.proofs.Common.{◌≡◌, refl, arith}
use Rattle.lcp_wire.specs.declared.packet.Lcp.{Lcp}
use Rattle.lcp_wire.specs.Spelling.{packet_bytes, FitsPacket}
use Rattle.lcp_end.proofs.Sending.{is_packet, pushed}
use Rattle.lcp_end.proofs.turn.Turn.send.Goals as goal

pub invariant_of-self : goal.invariant_of-self
invariant_of-self c =
    let p : Lcp = record { code = c.args.code; id = c.args.id; body = c.in_ok-from_slice.field-0 } in
    let fits : FitsPacket p = record { code = omega arith; id = omega arith; body = rw c.in_ok-from_slice.ensures c.requires } in
    let spelled : c.write_lcp.new.out ≡ packet_bytes p = rw (c.in_ok-write_lcp.ensures.ok, c.new-bytes.ensures) refl in
    pushed c.push.result _ _ _ c.push.ensures.ok c.push.ensures.err c.self.invariant (is_packet _ p c.reads_what_was_written.ensures.packet fits spelled)
