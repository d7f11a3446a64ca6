use Rattle.std.proofs.Common.{◌≡◌, ◌++◌, drop, map}
use Rattle.call_link.specs.Frames.{lcp_frame}
use Rattle.call_link.proofs.frames.frames_of.Given as goal

abbrev pub invariant-loop-packet : goal.invariant-loop-packet
invariant-loop-packet l = l.frames ++ map lcp_frame (drop l.packet-index l.packets) ≡ map lcp_frame l.packets
