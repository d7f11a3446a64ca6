-- What becomes of a data message, by what is seen of its session.
use Rattle.std.specs.Prelude.{ℕ, List, [], ◌∷◌, Bool, true, false, ◌==◌, not, nat_lt, bytes_eq, length, take, drop, ◌||◌, if◌then◌else◌}
use Rattle.wire_base.specs.declared.why.Why.{Why}
use Rattle.wire_base.specs.declared.why.Why.TheVariants as why
use Rattle.wire_base.specs.declared.letter.Side.{Side}
use Rattle.wire_base.specs.declared.letter.Side.TheVariants as side
use Rattle.l2tp_header.specs.declared.header.Header.{Header}
use Rattle.l2tp_header.specs.declared.header.HeaderError.{HeaderError}
use Rattle.l2tp_header.specs.declared.header.HeaderError.TheVariants as header
use Rattle.end_names.specs.declared.role.Role.{Role}
use Rattle.end_names.specs.declared.role.Role.TheVariants.{Lac, Lns}
use Rattle.session_looks.specs.declared.look.Look.{Look}
use Rattle.session_looks.specs.declared.look.Look.TheVariants.{Unborn, Bound, Established, Dead}

-- a datagram whose header can't be read is dropped
abbrev pub header_why : HeaderError → Why
header_why header.Short = why.Short
header_why (header.Version seen) = why.Version
header_why (header.ControlFlags word) = why.Flags
header_why (header.Length said have) = why.Length

-- a frame that is handed up, and where, or why it is dropped
pub data Carried : Type 0 where
  Upward : (tunnel peer : ℕ) (side : Side) (frame : List ℕ) → Carried
  Dropped : Why → Carried

-- a frame stands behind the address and control bytes of HDLC, which may be left out
abbrev pub frame_of : List ℕ → List ℕ
frame_of body = if bytes_eq (take 2 body) (255 ∷ 3 ∷ []) then drop 2 body else body

-- a PPP frame of LCP has the protocol c021 (RFC 1661 section 2)
abbrev pub is_lcp : List ℕ → Bool
is_lcp frame = bytes_eq (take 2 frame) (192 ∷ 33 ∷ [])

-- an LNS ends LCP itself; the other frames go to the network
abbrev pub lns_side : Bool → Side
lns_side lcp = if lcp then side.Lcp else side.Net

abbrev pub side_of : Role → List ℕ → Side
side_of Lac frame = side.Sub
side_of Lns frame = lns_side (is_lcp frame)

-- a frame for the LCP end of an LNS's call passes as soon as the call has one
abbrev pub is_for_lcp : Role → List ℕ → Bool
is_for_lcp Lac frame = false
is_for_lcp Lns frame = is_lcp frame

-- a frame of a call that the other end knows, in this tunnel to this peer; whether frames of the network pass
unfoldable pub carry_known : Role → Bool → ℕ → ℕ → ℕ → ℕ → List ℕ → Carried
carry_known role up tunnel of peer from frame =
    if not (tunnel == of) then Dropped why.Tunnel
    else if not (peer == from) then Dropped why.Peer
    else if nat_lt (length frame) 2 then Dropped why.Short
    else if up || is_for_lcp role frame then Upward tunnel peer (side_of role frame) frame
    else Dropped why.Closed

-- what becomes of a data message from an address, by what is seen of the session that its header names
unfoldable pub carry_look : Role → Look → ℕ → Header → List ℕ → Carried
carry_look role Unborn from h frame = Dropped why.Session
carry_look role Dead from h frame = Dropped why.Session
carry_look role (Bound tunnel peer) from h frame = carry_known role false tunnel h.tunnel peer from frame
carry_look role (Established tunnel peer) from h frame = carry_known role true tunnel h.tunnel peer from frame
