-- Which bytes have which packet or options, and what is wrong with bytes that have none (RFC 1661 sections 5 and 6).
use Rattle.std.specs.Prelude.{◌≡◌, ℕ, ◌+◌, ◌<◌, ◌^◌, ◌⊎◌, List, [], ◌∷◌, ◌++◌, length, drop}
use Rattle.wire_base.specs.Numbers.{u16_bytes}
use Rattle.lcp_wire.specs.declared.packet.Lcp.{Lcp}
use Rattle.lcp_wire.specs.declared.packet.LcpOption.{LcpOption}
use Rattle.lcp_wire.specs.declared.error.LcpError.{LcpError}
use Rattle.lcp_wire.specs.declared.error.LcpError.TheVariants as packet_errors
use Rattle.lcp_wire.specs.declared.error.OptionError.{OptionError}
use Rattle.lcp_wire.specs.declared.error.OptionError.TheVariants as option_errors
use Rattle.lcp_wire.specs.Spelling.{packet_bytes, FitsPacket, spelling_of, spelling, FitsOption, AreOptions}

-- ---- packets

-- the packet, and padding behind it of any kind
pub record HasPacket (bytes : List ℕ) (p : Lcp) : Type 0 where
  pub fits : FitsPacket p
  pub padding : List ℕ
  pub parts : bytes ≡ packet_bytes p ++ padding

-- a head whose length doesn't count the head, or passes the end
pub record HasOtherLength (bytes : List ℕ) (said have : ℕ) : Type 0 where
  pub code : ℕ
  pub id : ℕ
  pub behind : List ℕ
  pub fits : said < 2 ^ 16
  pub parts : bytes ≡ code ∷ id ∷ u16_bytes said ++ behind
  pub total : have ≡ length bytes
  pub wrong : (said < 4) ⊎ (have < said)

-- the first fault; want of memory is no fault of the bytes
abbrev pub IsFault : List ℕ → LcpError → Type 0
IsFault bytes packet_errors.Short = length bytes < 4
IsFault bytes (packet_errors.Length said have) = HasOtherLength bytes said have
IsFault bytes packet_errors.NoMemory = ⊥

-- the fault that was told, if one was
abbrev pub IsFirstFault : List ℕ → LcpError → Type 0
IsFirstFault bytes packet_errors.NoMemory = Unit {0}
IsFirstFault bytes e = IsFault bytes e

-- ---- options

-- an option of as many bytes stands at the front
pub record BeginsWith (bytes : List ℕ) (o : LcpOption) (n : ℕ) : Type 0 where
  pub fits : FitsOption o
  pub size : n ≡ length (spelling_of o)
  pub parts : bytes ≡ spelling_of o ++ drop n bytes

-- some bytes and no option at their front: a single byte, or a length that doesn't count its two bytes or passes the end
abbrev pub LacksOption : List ℕ → Type 0
LacksOption [] = ⊥
LacksOption (kind ∷ []) = Unit {0}
LacksOption (kind ∷ len ∷ rest) = (len < 2) ⊎ (2 + length rest < len)

-- the fault that was told of a place, if one was
abbrev pub LacksAt : List ℕ → ℕ → OptionError → Type 0
LacksAt bytes at (option_errors.OptionLength told) = (told ≡ at) × LacksOption bytes
LacksAt bytes at option_errors.NoMemory = Unit {0}

-- whole options stand before the place, and none at it
pub record IsOptionFault (bytes : List ℕ) (at : ℕ) : Type 0 where
  pub before : List LcpOption
  pub rest : List ℕ
  pub whole : AreOptions before
  pub parts : bytes ≡ spelling before ++ rest
  pub place : at ≡ length (spelling before)
  pub wrong : LacksOption rest

-- the fault that was told, if one was
abbrev pub IsFirstOptionFault : List ℕ → OptionError → Type 0
IsFirstOptionFault bytes (option_errors.OptionLength at) = IsOptionFault bytes at
IsFirstOptionFault bytes option_errors.NoMemory = Unit {0}
