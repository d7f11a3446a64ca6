-- A datagram between two nodes as an Ethernet frame (RFC 894, RFC 791, RFC 768).
use Rattle.std.specs.Prelude.{ℕ, ◌+◌, ◌%◌, List, [], ◌∷◌, ◌++◌, length}
use Rattle.wire_base.specs.Numbers.{u16_bytes, u32_bytes}
use Rattle.end_names.specs.Names.{address_of, mac_of}
use Rattle.capture_file.specs.Sums.{checksum, sent_checksum}

-- the most bytes that a UDP datagram has in an IPv4 packet: the packet's length, with both headers, has two bytes
abbrev pub most_payload : ℕ
most_payload = 65507

-- the IPv4 addresses of two nodes, the sender's first
abbrev pub addresses : ℕ → ℕ → List ℕ
addresses from to = u32_bytes (address_of from) ++ u32_bytes (address_of to)

-- The header of an IPv4 packet without options, up to its checksum: version 4 and five words of header, no type of service, the packet's
-- length, its identification, no flags and no offset of a fragment, 64 to live, and UDP's number.
abbrev pub ipv4_front : ℕ → ℕ → List ℕ
ipv4_front id len = (0x45 ∷ 0 ∷ []) ++ u16_bytes len ++ u16_bytes id ++ (0 ∷ 0 ∷ 64 ∷ 17 ∷ [])

-- the checksum of a header is made with 0 in its place
unfoldable pub ipv4_header : ℕ → ℕ → ℕ → ℕ → List ℕ
ipv4_header id len from to =
    ipv4_front id len ++ u16_bytes (checksum (ipv4_front id len ++ u16_bytes 0 ++ addresses from to)) ++ addresses from to

-- the header of a UDP datagram up to its checksum: L2TP's port at both ends, and the length with the header
abbrev pub udp_front : ℕ → List ℕ
udp_front len = u16_bytes 1701 ++ u16_bytes 1701 ++ u16_bytes len

-- what stands before a UDP header for its checksum alone
abbrev pub pseudo_header : ℕ → ℕ → ℕ → List ℕ
pseudo_header from to len = addresses from to ++ (0 ∷ 17 ∷ []) ++ u16_bytes len

-- what a UDP checksum covers
unfoldable pub udp_covered : ℕ → ℕ → List ℕ → List ℕ
udp_covered from to payload =
    pseudo_header from to (8 + length payload) ++ udp_front (8 + length payload) ++ u16_bytes 0 ++ payload

unfoldable pub udp_header : ℕ → ℕ → List ℕ → List ℕ
udp_header from to payload = udp_front (8 + length payload) ++ u16_bytes (sent_checksum (checksum (udp_covered from to payload)))

-- the Ethernet addresses of two nodes, the addressee's first, and the ethertype of IPv4
abbrev pub ethernet_header : ℕ → ℕ → List ℕ
ethernet_header from to = mac_of to ++ mac_of from ++ u16_bytes 0x0800

-- the frame that carries a packet with this number; the low half of the number is the identification
unfoldable pub datagram_frame : ℕ → ℕ → ℕ → List ℕ → List ℕ
datagram_frame packet from to payload =
    ethernet_header from to ++ ipv4_header (packet % 65536) (28 + length payload) from to ++ udp_header from to payload ++ payload
