-- A tunnel of an end is removed, and all goes on to hold.
use Rattle.std.proofs.Common.{ℕ, List, Option}
use Rattle.id_table.specs.Ids.{without}
use Rattle.id_table.specs.Order.{ascends-without, found_without}
use Rattle.end_model.specs.declared.event.Event.{Event}
use Rattle.end_model.specs.declared.event.Event.TheVariants.{Datagram, Ring, Frame, Admitted, Payload, Lower, Lcp, Hang, OpenTunnel, DropCall, CloseTunnel, Tick}
use Rattle.end_model.specs.declared.out.Origin.{Origin}
use Rattle.end_model.specs.declared.out.Origin.TheVariants as origin
use Rattle.world_model.specs.declared.packet.Packet.{Packet}
use Rattle.end_model.specs.declared.tunnel.CallPlace.{CallPlace}
use Rattle.end_model.specs.End.{End}
use Rattle.world_model.specs.World.{Sender}
use Rattle.connection_laws.specs.Facts.{Accounts, EndOk, AreNear, Comes, Within}

-- ---- a tunnel is removed

module _ (accs : Accounts) (n : ℕ) (e : End) (sender : Option Sender) (ev : Event) (within : Within accs n e sender ev) (i : ℕ)
    (places : List (ℕ × CallPlace)) where
  -- the end that is left
  abbrev left : End
  left = record e { tunnels = without e.tunnels i; calls = places }

  end : EndOk accs n left
  end = record {
    node = within.end.node;
    number = within.end.number;
    lns = within.end.lns;
    first = within.end.first;
    last = within.end.last;
    first_session = within.end.first_session;
    last_session = within.end.last_session;
    order = ascends-without i e.tunnels within.end.order;
    drawn = within.end.drawn;
    live = λ j t f. within.end.live j t (found_without e.tunnels i j t within.end.order f).1;
    apart = λ j k t u f g. within.end.apart j k t u (found_without e.tunnels i j t within.end.order f).1 (found_without e.tunnels i k u within.end.order g).1;
  }

  near : (p : Packet) (bytes : List ℕ) (o : Origin) → AreNear accs n e p bytes o → AreNear accs n left p bytes o
  near p bytes (origin.Control o) h = λ j t b f. h j t b (found_without e.tunnels i j t within.end.order f).1
  near p bytes (origin.Data session) h = tt
  near p bytes (origin.Recovery tunnel number empty) h = tt

  comes : (v : Event) → Comes accs n e sender v → Comes accs n left sender v
  comes (Datagram peer bytes) c = record {
    packet = c.packet;
    ok = c.ok;
    to = c.to;
    peer_is = c.peer_is;
    secret = c.secret;
    bytes_are = c.bytes_are;
    sender_is = c.sender_is;
    near = near c.packet bytes c.packet.origin c.near;
  }
  comes (Ring port) c = tt
  comes (Frame bytes) c = tt
  comes (Admitted mac) c = tt
  comes (Payload s frame) c = tt
  comes (Lower s frame) c = tt
  comes (Lcp s packet) c = tt
  comes (Hang s) c = tt
  comes OpenTunnel c = tt
  comes (DropCall s) c = tt
  comes (CloseTunnel k) c = tt
  comes Tick c = tt

  pub removed_keeps : Within accs n left sender ev
  removed_keeps = record { accounts = within.accounts; end = end; comes = comes ev within.comes }
