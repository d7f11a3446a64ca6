-- What is written is read again.
use Rattle.std.specs.Prelude.{◌≡◌, ℕ, List, Ok}
use Rattle.std.specs.List.{AllByRecursion}
use Rattle.lcp_wire.specs.declared.packet.Lcp.{Lcp}
use Rattle.lcp_wire.specs.Spelling.{packet_bytes, FitsPacket}
use Rattle.lcp_wire.specs.Reading.{packet_of}

-- the bytes are the spelling of a packet, and are read as that packet
pub record IsPacket (bytes : List ℕ) : Type 0 where
  pub packet : Lcp
  pub fits : FitsPacket packet
  pub spelled : bytes ≡ packet_bytes packet
  pub read : packet_of bytes ≡ Ok packet

abbrev pub ArePackets : List (List ℕ) → Type 0
ArePackets packets = AllByRecursion IsPacket packets
