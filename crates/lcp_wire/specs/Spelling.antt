-- The one spelling of each packet and of each list of options (RFC 1661 sections 5 and 6).
use Rattle.std.specs.Prelude.{ℕ, ◌+◌, ◌<◌, ◌≤◌, ◌^◌, List, ◌∷◌, ◌++◌, length}
use Rattle.std.specs.List.{flat_map, AllByRecursion}
use Rattle.wire_base.specs.Numbers.{u16_bytes}
use Rattle.lcp_wire.specs.declared.packet.Lcp.{Lcp}
use Rattle.lcp_wire.specs.declared.packet.LcpOption.{LcpOption}

-- the code, the identifier, the length in two bytes, which counts these four too, and the data
abbrev pub packet_bytes : Lcp → List ℕ
packet_bytes p = p.code ∷ p.id ∷ u16_bytes (4 + length p.body) ++ p.body

-- what has a spelling
pub record FitsPacket (p : Lcp) : Type 0 where
  pub code : p.code < 2 ^ 8
  pub id : p.id < 2 ^ 8
  pub body : length p.body ≤ 65531

-- the type, the length in one byte, which counts these two too, and the data
abbrev pub option_bytes : ℕ → List ℕ → List ℕ
option_bytes kind value = kind ∷ (2 + length value) ∷ value

abbrev pub spelling_of : LcpOption → List ℕ
spelling_of o = option_bytes o.kind o.value

abbrev pub spelling : List LcpOption → List ℕ
spelling options = flat_map spelling_of options

-- what has a spelling
pub record FitsOption (o : LcpOption) : Type 0 where
  pub kind : o.kind < 2 ^ 8
  pub value : length o.value ≤ 253

abbrev pub AreOptions : List LcpOption → Type 0
AreOptions options = AllByRecursion FitsOption options
