-- A subscriber that wants a call rings, whether by a port or as a host that was admitted.
use Rattle.std.proofs.Common.{◌≡◌, ℕ, List, false, refl, ap, Some}
use Rattle.wire_base.specs.declared.letter.Letter.{Letter}
use Rattle.end_model.specs.declared.event.Event.{Event}
use Rattle.end_model.specs.declared.event.Event.TheVariants.{Datagram, Ring, Frame, Admitted, Payload, Lower, Lcp, Hang, OpenTunnel, DropCall, CloseTunnel, Tick}
use Rattle.end_model.specs.declared.tunnel.Call.{Call}
use Rattle.end_model.specs.declared.tunnel.Config.{Config}
use Rattle.end_names.specs.declared.role.Role.{Role}
use Rattle.end_names.specs.Names.{subscriber}
use Rattle.end_model.specs.Tunnels.{Turn}
use Rattle.end_model.specs.Events.{turns}
use Rattle.end_model.specs.Ringing.{rings}
use Rattle.end_model.specs.Sending.{settles}
use Rattle.step_laws.specs.Callers.{IsRing}
use Rattle.end_model.specs.Recovering.{is_tick}

some_is : (a b : List ℕ) → Some a ≡ Some b → a ≡ b
some_is a b h = cc

pub turns_ring : (role : Role) (c : Config) (letters : List Letter) (calls : List (ℕ × Call)) (ev : Event) (who : List ℕ) (t : Turn) → IsRing ev who
    → turns role c letters calls ev t ≡ settles false letters (rings role c calls who t)
unfolding turns
turns_ring role c letters calls (Ring port) who t h = ap (λ w. settles false letters (rings role c calls w t)) (some_is (subscriber port) who h)
turns_ring role c letters calls (Admitted mac) who t h = ap (λ w. settles false letters (rings role c calls w t)) (some_is mac who h)
turns_ring role c letters calls (Datagram peer bytes) who t h = absurd cc
turns_ring role c letters calls (Frame bytes) who t h = absurd cc
turns_ring role c letters calls (Payload s frame) who t h = absurd cc
turns_ring role c letters calls (Lower s frame) who t h = absurd cc
turns_ring role c letters calls (Lcp s packet) who t h = absurd cc
turns_ring role c letters calls (Hang s) who t h = absurd cc
turns_ring role c letters calls OpenTunnel who t h = absurd cc
turns_ring role c letters calls (DropCall s) who t h = absurd cc
turns_ring role c letters calls (CloseTunnel i) who t h = absurd cc
turns_ring role c letters calls Tick who t h = absurd cc

-- time doesn't pass on a ring
pub ring_no_tick : (ev : Event) (who : List ℕ) → IsRing ev who → is_tick ev ≡ false
ring_no_tick (Ring port) who h = refl
ring_no_tick (Admitted mac) who h = refl
ring_no_tick (Datagram peer bytes) who h = refl
ring_no_tick (Frame bytes) who h = refl
ring_no_tick (Payload s frame) who h = refl
ring_no_tick (Lower s frame) who h = refl
ring_no_tick (Lcp s packet) who h = refl
ring_no_tick (Hang s) who h = refl
ring_no_tick OpenTunnel who h = refl
ring_no_tick (DropCall s) who h = refl
ring_no_tick (CloseTunnel i) who h = refl
ring_no_tick Tick who h = absurd cc
