-- How long a frame is.
use Rattle.std.proofs.Common.{◌≡◌, ℕ, ◌+◌, List, [], ◌∷◌, ◌++◌, length, refl, length-append, arith}
use Rattle.wire_base.specs.Numbers.{u16_bytes, u32_bytes}
use Rattle.wire_base.specs.NumberLaws.{length-u16_bytes, length-u32_bytes}
use Rattle.end_names.specs.Names.{mac_of}
use Rattle.capture_file.specs.Frames.{ipv4_header, udp_header, datagram_frame}

length-mac_of : (node : ℕ) → length (mac_of node) ≡ 6
unfolding mac_of
length-mac_of node = refl

pub frame_length : (packet from to : ℕ) (payload : List ℕ) → length (datagram_frame packet from to payload) ≡ 42 + length payload
unfolding datagram_frame ipv4_header udp_header
frame_length packet from to payload = simp (length-append, length-u16_bytes, length-u32_bytes, length-mac_of) (omega arith)
