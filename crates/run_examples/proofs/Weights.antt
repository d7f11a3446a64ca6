-- Steps that hand up what isn't looked at aren't chains of their moves.
use Rattle.std.proofs.Common.{◌≡◌, ℕ, ◌+◌, false, List, [], Option, Some, None, Result, Ok, Err, refl, sym, ap, ◌∙◌, arith}
use Rattle.std.proofs.lemmas.Bool.{true≢false}
use Rattle.l2tp_header.specs.declared.header.Header.{Header}
use Rattle.l2tp_header.specs.declared.header.HeaderError.{HeaderError}
use Rattle.l2tp_header.specs.Reading.{header_of}
use Rattle.end_model.specs.declared.event.Event.{Event}
use Rattle.end_model.specs.declared.event.Event.TheVariants.{Datagram, Ring, Frame, Admitted, Payload, Lower, Lcp, Hang, OpenTunnel, DropCall, CloseTunnel, Tick}
use Rattle.end_model.specs.declared.tunnel.CallPlace.{CallPlace}
use Rattle.session_looks.specs.declared.look.Look.{Look}
use Rattle.session_looks.specs.declared.look.Look.TheVariants as look
use Rattle.end_names.specs.declared.role.Role.{Role}
use Rattle.end_names.specs.declared.role.Role.TheVariants as role
use Rattle.session_looks.specs.Frames.{is_lcp}
use Rattle.end_names.specs.Names.{address_of}
use Rattle.step_laws.specs.Links.{Passes, AsAll, AsLcp}
use Rattle.step_laws.specs.Steps.{IsChain}
use Rattle.run_examples.specs.Messages.{settled}
use Rattle.run_examples.specs.Rules.{lns, waiting, frame as of_network, request, brought, from_node, careless, trusting, early, deaf, hasty, FramesAreLookedAt}
use Rattle.run_examples.proofs.Computing.{computing}

peer_of : Event → ℕ
peer_of (Datagram peer bytes) = peer
peer_of (Ring port) = 0
peer_of (Frame bytes) = 0
peer_of (Admitted mac) = 0
peer_of (Payload session frame) = 0
peer_of (Lower session frame) = 0
peer_of (Lcp session packet) = 0
peer_of (Hang session) = 0
peer_of OpenTunnel = 0
peer_of (DropCall session) = 0
peer_of (CloseTunnel i) = 0
peer_of Tick = 0

bytes_of : Event → List ℕ
bytes_of (Datagram peer bytes) = bytes
bytes_of (Ring port) = []
bytes_of (Frame bytes) = bytes
bytes_of (Admitted mac) = mac
bytes_of (Payload session frame) = frame
bytes_of (Lower session frame) = frame
bytes_of (Lcp session packet) = packet
bytes_of (Hang session) = []
bytes_of OpenTunnel = []
bytes_of (DropCall session) = []
bytes_of (CloseTunnel i) = []
bytes_of Tick = []

tunnel_in : Result Header HeaderError → ℕ
tunnel_in (Ok h) = h.tunnel
tunnel_in (Err e) = 0

peer_in : Look → ℕ
peer_in (look.Established tunnel peer) = peer
peer_in (look.Bound tunnel peer) = peer
peer_in look.Unborn = 0
peer_in look.Dead = 0

look_at : Option CallPlace → Look
look_at None = look.Unborn
look_at (Some p) = p.look

apart : (a b d : ℕ) → a ≡ 1 + (b + d) → a ≡ b → ⊥
apart a b d more e = omega (arith, more, e)

-- the header of that frame names tunnel 1
tunnel_is_one : tunnel_in (header_of (bytes_of (from_node 6 1))) ≡ 1
unfolding computing tunnel_in bytes_of
tunnel_is_one = refl

without_peer : IsChain lns 0 (from_node 9 2) careless → ⊥
unfolding computing peer_of
without_peer h =
    let hears = h.chain.1.hears in
    apart 167772169 167772166 2 refl (ap peer_of hears.is)

without_tunnel : IsChain lns 0 (from_node 6 1) careless → ⊥
unfolding computing tunnel_in bytes_of
without_tunnel h =
    let hears = h.chain.1.hears in
    let same : header_of (bytes_of (from_node 6 1)) ≡ Ok hears.header = ap (λ e. header_of (bytes_of e)) hears.is ∙ hears.read in
    let named : tunnel_in (header_of (bytes_of (from_node 6 1))) ≡ 2 = ap tunnel_in same ∙ hears.tunnel_is in
    apart 2 1 0 refl (sym named ∙ tunnel_is_one)

-- what is seen of the session names the call's own peer
peer_seen : (role : Role) (seen : Look) (tunnel peer : ℕ) (f : List ℕ) → Passes role seen tunnel peer f → peer_in seen ≡ peer
unfolding peer_in
peer_seen role seen tunnel peer f (AsAll is) = ap peer_in is
peer_seen role seen tunnel peer f (AsLcp is ends lcp) = ap peer_in is

with_sender : IsChain lns 0 (from_node 9 2) trusting → ⊥
unfolding computing peer_in look_at
with_sender h =
    let up = h.chain.1 in
    apart 167772169 167772166 2 refl
    (sym (ap (λ o. peer_in (look_at o)) up.there ∙ peer_seen role.Lns up.place.look 2 (address_of 9) of_network up.seen))

-- a call whose peer knows it, and in which frames of the network don't pass, lets a frame of LCP pass at an LNS
lets_none : (r : Role) (seen : Look) (tunnel peer : ℕ) (f : List ℕ) → seen ≡ look.Bound tunnel peer → (r ≡ role.Lns → is_lcp f ≡ false)
    → Passes r seen tunnel peer f → ⊥
lets_none r seen tunnel peer f bound other (AsAll is) = absurd cc
lets_none r seen tunnel peer f bound other (AsLcp is ends lcp) = absurd (true≢false (sym lcp ∙ other ends))

without_lcp : IsChain waiting 0 (from_node 6 2) early → ⊥
unfolding computing look_at
without_lcp h =
    let up = h.chain.1 in
    lets_none role.Lns up.place.look 2 (address_of 6) of_network (sym (ap look_at up.there)) (λ ends. refl) up.seen

-- a frame of LCP is handed up to the LCP end of the LNS's call
without_side : IsChain waiting 0 (brought 6 2 request) deaf → ⊥
unfolding computing
without_side h = let side = h.chain.1.side in absurd cc

without_call : IsChain settled 0 (brought 4 1 request) hasty → ⊥
unfolding computing look_at
without_call h =
    let up = h.chain.1 in
    lets_none role.Lac up.place.look 1 (address_of 4) request (sym (ap look_at up.there)) (λ ends. absurd cc) up.seen

pub frames_are_looked_at : FramesAreLookedAt
unfolding computing
frames_are_looked_at = record {
  own = refl;
  peer = refl;
  tunnel = refl;
  closed = refl;
  lcp = refl;
  of_lac = refl;
  without_peer = without_peer;
  without_tunnel = without_tunnel;
  with_sender = with_sender;
  without_lcp = without_lcp;
  without_side = without_side;
  without_call = without_call;
}
