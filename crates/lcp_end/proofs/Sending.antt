-- What is sent is a packet.
use Rattle.std.proofs.Common.{◌≡◌, ℕ, List, [], ◌∷◌, ◌++◌, Result, Ok, Err, OnOk, OnErr, sym, ◌∙◌, ap, subst, append-nil}
use Rattle.lcp_wire.specs.declared.packet.Lcp.{Lcp}
use Rattle.lcp_wire.specs.Spelling.{packet_bytes, FitsPacket}
use Rattle.lcp_wire.specs.Reading.{packet_of}
use Rattle.lcp_end.specs.Packets.{IsPacket, ArePackets}

-- what is written is read again, whatever follows
abbrev pub ReadsAgain : Type 0
ReadsAgain = (p : Lcp) (padding : List ℕ) → FitsPacket p → packet_of (packet_bytes p ++ padding) ≡ Ok p

pub is_packet : (bytes : List ℕ) (p : Lcp) → ReadsAgain → FitsPacket p → bytes ≡ packet_bytes p → IsPacket bytes
is_packet bytes p reads fits spelled =
    record {
      packet = p;
      fits = fits;
      spelled = spelled;
      read = ap packet_of (spelled ∙ sym (append-nil (packet_bytes p))) ∙ reads p [] fits;
    }

one_more : (packets : List (List ℕ)) (bytes : List ℕ) → ArePackets packets → IsPacket bytes → ArePackets (packets ++ bytes ∷ [])
one_more [] bytes all here = (here, tt)
one_more (p ∷ ps) bytes all here = (all.0, one_more ps bytes all.1 here)

pub pushed : {X E : Type 0} (r : Result X E) (old new : List (List ℕ)) (bytes : List ℕ) →
    OnOk r (new ≡ old ++ bytes ∷ []) → OnErr r (new ≡ old) → ArePackets old → IsPacket bytes → ArePackets new
pushed (Ok x) old new bytes ok err all here = subst ArePackets (sym ok) (one_more old bytes all here)
pushed (Err e) old new bytes ok err all here = subst ArePackets (sym err) all
