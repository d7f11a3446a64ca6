-- The frames of a link are packets of its LCP end.
use Rattle.std.proofs.Common.{◌≡◌, ℕ, zero, suc, ◌<◌, true, List, [], ◌∷◌, length, map, slice_index_or, Contains, refl, sym, ◌∙◌, ap, subst, arith}
use Rattle.std.specs.List.{AllByRecursion}
use Rattle.lcp_wire.specs.Spelling.{packet_bytes}
use Rattle.call_link.specs.declared.env.LinkEnv.{LinkEnv}
use Rattle.call_link.specs.Link.{Link}
use Rattle.call_link.specs.Frames.{is_for_link, lcp_frame}
use Rattle.call_link.specs.Turns.{LinkCall, lcp_turn}
use Rattle.call_link.specs.Laws.{IsMade, ByLcp, EachFrameIsMade, EachPacketIsGiven, EachFrameIsForLink}
use Rattle.call_link.specs.Calling.{by_called}
use Rattle.call_link.proofs.Spelled.{IsSpelled, turn_spelled}

-- a frame is that of a packet
record IsOf (packets : List (List ℕ)) (frame : List ℕ) : Type 0 where
  pub packet : List ℕ
  pub among : Contains packets packet
  pub is : frame ≡ lcp_frame packet

at_place : (packets : List (List ℕ)) (frame : List ℕ) (i : ℕ) → i < length (map lcp_frame packets) →
    slice_index_or (map lcp_frame packets) i frame ≡ frame → IsOf packets frame
at_place [] frame i lt h = absurd (omega arith)
at_place (p ∷ ps) frame zero lt h = record { packet = p; among = (0, omega arith, refl); is = sym h }
at_place (p ∷ ps) frame (suc i) lt h =
    let rest = at_place ps frame i (omega arith) h in
    record { packet = rest.packet; among = (suc rest.among.0, omega arith, rest.among.2); is = rest.is }

spelled_at : (packets : List (List ℕ)) (packet : List ℕ) (i : ℕ) → AllByRecursion IsSpelled packets → i < length packets →
    slice_index_or packets i packet ≡ packet → IsSpelled packet
spelled_at [] packet i all lt h = absurd (omega arith)
spelled_at (p ∷ ps) packet zero all lt h = (all.0.0, sym h ∙ all.0.1)
spelled_at (p ∷ ps) packet (suc i) all lt h = spelled_at ps packet i all.1 (omega arith) h

made_of : (e : LinkEnv) (c : LinkCall) (l : Link) (frame : List ℕ) → IsOf (lcp_turn e c l.lcp).out.packets frame → IsMade e c l frame
made_of e c l frame f =
    let packets = (lcp_turn e c l.lcp).out.packets in
    let s = spelled_at packets f.packet f.among.0 (turn_spelled e c l.lcp) f.among.1 f.among.2 in
    ByLcp s.0 (subst (λ (x : List ℕ). Contains packets x) s.1 f.among) (f.is ∙ ap lcp_frame s.1)

none : (xs : List (List ℕ)) (frame : List ℕ) (P : Type 0) → xs ≡ [] → Contains xs frame → P
none [] frame P e f = let lt = f.1 in absurd (omega arith)
none (x ∷ xs) frame P e f = cc

pub each_frame_is_made : EachFrameIsMade
each_frame_is_made e c l frame =
    by_called (λ t. Contains t.frames frame → IsMade e c l frame) e c l
    (λ h f. made_of e c l frame (at_place (lcp_turn e c l.lcp).out.packets frame f.0 f.1 f.2))
    (λ h f. none [] frame (IsMade e c l frame) refl f)

for_link : (packet : List ℕ) → is_for_link (lcp_frame packet) ≡ true
for_link packet = refl

made_for_link : (e : LinkEnv) (c : LinkCall) (l : Link) (frame : List ℕ) → IsMade e c l frame → is_for_link frame ≡ true
made_for_link e c l frame (ByLcp p among is) = ap is_for_link is ∙ for_link (packet_bytes p)

pub each_frame_is_for_link : EachFrameIsForLink
each_frame_is_for_link e c l frame f = made_for_link e c l frame (each_frame_is_made e c l frame f)

pub each_packet_is_given : EachPacketIsGiven
each_packet_is_given e c l called =
    by_called (λ t. t.frames ≡ map lcp_frame (lcp_turn e c l.lcp).out.packets) e c l (λ h. refl) (λ h. cc)
