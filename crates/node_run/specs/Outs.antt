-- What an end gives, as what goes to a node's ports.
use Rattle.std.specs.Prelude.{ℕ, ◌+◌, List, [], ◌∷◌, ◌++◌, length, map, nat_lt, if◌then◌else◌, true, Option, Some, None}
use Rattle.wire_base.specs.declared.letter.Side.TheVariants.{Sub, Net, Lcp}
use Rattle.wire_base.specs.declared.letter.Side.{Side}
use Rattle.pppoe_wire.specs.Spelling.{frame_bytes}
use Rattle.end_names.specs.Names.{mac_of}
use Rattle.end_model.specs.declared.out.Out.{Out}
use Rattle.end_model.specs.declared.out.Out.TheVariants as given
use Rattle.end_model.specs.Access.{Concentrator, Served, farewell}
use Rattle.end_model.specs.End.{Stepped}
use Rattle.stored_ends.specs.Cores.{subscriber_at}
use Rattle.port_events.specs.declared.end.Out.{Out as Going}
use Rattle.port_events.specs.declared.end.Out.TheVariants as going

-- the PPPoE session frame (RFC 2516 section 6) of a PPP frame, from its protocol field on, to a host: none where the frame has more than the
-- 65,535 bytes that LENGTH counts
abbrev pub session_frame : ℕ → ℕ → List ℕ → List ℕ → Option (List ℕ)
session_frame node session frame host =
    if nat_lt 65535 (length frame)
    then None
    else Some (frame_bytes (record { dst = host; src = mac_of node; session_stage = true; code = 0; session = session; start = 20; end = 20 + length frame; payload = frame }))

-- a frame goes to the Ethernet port, where there is one
abbrev pub by_ether : Option (List ℕ) → Going
by_ether None = going.Drop
by_ether (Some bytes) = going.Ether bytes

-- a frame that is handed up to a host, if the session has one
abbrev pub to_host : ℕ → ℕ → List ℕ → Option (List ℕ) → Going
to_host node session frame None = going.Drop
to_host node session frame (Some host) = by_ether (session_frame node session frame host)

-- A frame for the subscriber goes to the Ethernet port, and one for the network to the uplink; an LCP packet was heard in the step that
-- handed it up, and goes to no port.
abbrev pub handed_up : ℕ → ℕ → Side → List ℕ → Option (List ℕ) → Going
handed_up node session Sub frame host = to_host node session frame host
handed_up node session Net frame host = going.Up session frame
handed_up node session Lcp frame host = going.Drop

-- what a LAC gives: the host of a call that ended is told by a PADT
abbrev pub lac_out : Concentrator → Out → Going
lac_out l (given.Send peer bytes origin) = going.Send peer bytes
lac_out l (given.Up session side frame) = handed_up l.end.config.number session side frame (subscriber_at l.end session)
lac_out l (given.Gone session) = by_ether (farewell l.end.config.number l.access session)
lac_out l (given.Drop why) = going.Drop
lac_out l (given.Cause cause) = going.Drop

-- the frame that answers a host is sent behind all
abbrev pub replied : Option (List ℕ) → List Going
replied None = []
replied (Some frame) = going.Ether frame ∷ []

-- hosts are those that the LAC has after its step
abbrev pub lac_outs : Served → List Going
lac_outs s = map (lac_out s.lac) s.outputs ++ replied s.reply

-- what an LNS gives: it has no hosts
abbrev pub lns_out : Out → Going
lns_out (given.Send peer bytes origin) = going.Send peer bytes
lns_out (given.Up session side frame) = handed_up 0 session side frame None
lns_out (given.Gone session) = going.Drop
lns_out (given.Drop why) = going.Drop
lns_out (given.Cause cause) = going.Drop

abbrev pub lns_outs : Stepped → List Going
lns_outs s = map lns_out s.outputs
