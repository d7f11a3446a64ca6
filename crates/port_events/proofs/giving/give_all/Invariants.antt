use Rattle.std.proofs.Common.{◌≡◌, take}
use Rattle.port_events.specs.Giving.{Gave}
use Rattle.port_events.proofs.giving.give_all.Given as goal

abbrev pub invariant-loop-out : goal.invariant-loop-out
invariant-loop-out g l = record {
  gave : Gave (g.L.Link.given l.fn.link) (g.L.Link.given l.link) (g.E.Ether.given l.fn.ether) (g.E.Ether.given l.ether) (g.U.Uplink.given l.fn.up) (g.U.Uplink.given l.up) (take l.out-index l.out-items);
  link_waits : g.L.Link.waiting l.link ≡ g.L.Link.waiting l.fn.link;
  ether_waits : g.E.Ether.waiting l.ether ≡ g.E.Ether.waiting l.fn.ether;
  up_waits : g.U.Uplink.waiting l.up ≡ g.U.Uplink.waiting l.fn.up;
  link_asked : g.L.Link.asked l.link ≡ g.L.Link.asked l.fn.link;
  ether_asked : g.E.Ether.asked l.ether ≡ g.E.Ether.asked l.fn.ether;
  up_asked : g.U.Uplink.asked l.up ≡ g.U.Uplink.asked l.fn.up;
  link_faults : g.L.Link.faults l.link ≡ g.L.Link.faults l.fn.link;
  ether_faults : g.E.Ether.faults l.ether ≡ g.E.Ether.faults l.fn.ether;
  up_faults : g.U.Uplink.faults l.up ≡ g.U.Uplink.faults l.fn.up;
}
