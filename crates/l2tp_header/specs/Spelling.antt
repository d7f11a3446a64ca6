-- The one written spelling of each control message and of each data message (RFC 2661 section 3.1).
use Rattle.std.specs.Prelude.{ℕ, ◌+◌, Option, Some, None, List, [], ◌∷◌, ◌++◌, length}
use Rattle.wire_base.specs.Numbers.{u16_bytes}

-- T, L and S are set, and the version is 2; the length counts the twelve bytes of the header too
unfoldable pub control_bytes : ℕ → ℕ → ℕ → ℕ → List ℕ → List ℕ
control_bytes tunnel session ns nr avps = u16_bytes 0xc802 ++ u16_bytes (12 + length avps) ++ u16_bytes tunnel ++ u16_bytes session ++ u16_bytes ns ++ u16_bytes nr ++ avps

-- the address and control bytes of HDLC, and the frame from its protocol field on (RFC 1662 section 3.1)
abbrev pub hdlc_bytes : List ℕ → List ℕ
hdlc_bytes frame = 255 ∷ 3 ∷ [] ++ frame

-- without a number no flag is set; with one S is set, Ns is the number, and Nr is 0
unfoldable pub data_bytes : ℕ → ℕ → Option ℕ → List ℕ → List ℕ
data_bytes tunnel session None frame = u16_bytes 0x0002 ++ u16_bytes tunnel ++ u16_bytes session ++ hdlc_bytes frame
data_bytes tunnel session (Some number) frame = u16_bytes 0x0802 ++ u16_bytes tunnel ++ u16_bytes session ++ u16_bytes number ++ u16_bytes 0 ++ hdlc_bytes frame
