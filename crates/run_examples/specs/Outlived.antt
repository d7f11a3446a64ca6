-- Packets that have outlived half of the numbers of their channel (RFC 2661 section 5.8).
use Rattle.std.specs.Prelude.{◌≡◌, ℕ, List, [], ◌∷◌, false, Option, Some, option_map, Result, Ok, Err, None}
use Rattle.id_table.specs.Ids.{at}
use Rattle.l2tp_header.specs.Spelling.{control_bytes}
use Rattle.avp_codec.specs.Spelling.{spelling}
use Rattle.control_message.specs.declared.message.Message.TheVariants.{Icrq}
use Rattle.control_message.specs.Pairs.{pairs_of}
use Rattle.recv_window.specs.Window.{on_wire}
use Rattle.schedule_text.specs.declared.line.Line.TheVariants.{Deliver}
use Rattle.end_model.specs.declared.event.Event.TheVariants.{Datagram}
use Rattle.end_model.specs.declared.out.Origin.TheVariants as origin
use Rattle.world_model.specs.declared.packet.Packet.{Packet}
use Rattle.world_model.specs.declared.refusal.Refusal.{Refusal}
use Rattle.world_model.specs.declared.refusal.Refusal.TheVariants.{HalfSpace}
use Rattle.end_names.specs.declared.role.Role.TheVariants as role
use Rattle.end_names.specs.Names.{address_of}
use Rattle.end_model.specs.End.{End, new_end, step}
use Rattle.world_model.specs.Texts.{Entry, Sends}
use Rattle.world_model.specs.World.{World, Lined, config_of, empty_world, new_node, packet_from, line}
use Rattle.run_examples.specs.Channels.{channel}
use Rattle.run_examples.specs.Samples.{tunnel_up}

-- the LNS, node 4: in tunnel 7 to node 9 it took so many messages, and 50,000 of its own were acknowledged
abbrev pub lns : ℕ → End
lns taken = record (new_end role.Lns (config_of 4 0 None false)) {
  tunnels = (7, tunnel_up 7 9 1 (channel 50000 0 0 taken) [] []) ∷ [];
}

-- an ICRQ of node 9 with these numbers
abbrev pub bytes : ℕ → ℕ → List ℕ
bytes ns nr = control_bytes 7 0 (on_wire ns) (on_wire nr) (spelling (pairs_of (Icrq 2 2 (Some (48 ∷ [])))))

abbrev pub packet : ℕ → ℕ → Packet
packet ns nr = packet_from 9 4 (bytes ns nr) (origin.Control (record { tunnel = 1; ns = ns; nr = nr; empty = false })) 0

abbrev pub world : ℕ → ℕ → ℕ → World
world taken ns nr = record empty_world { nodes = (4, record (new_node 0 4 role.Lns 0 None false) { end = lns taken }) ∷ []; packets = packet ns nr ∷ [] }

-- what its delivery in line 12 leads to, at an LNS that took so many messages
abbrev pub delivery : ℕ → ℕ → ℕ → Result Lined Refusal
delivery taken ns nr = line (world taken ns nr) 12 (Deliver 1)

abbrev pub entries_in : Result Lined Refusal → List Entry
entries_in (Ok l) = l.entries
entries_in (Err r) = []

-- a step on the packet, without the rule: how many messages were taken then
abbrev pub taken_without : ℕ → ℕ → ℕ → Option ℕ
taken_without taken ns nr = option_map (λ t. t.control.channel.inbox.taken) (at (step (lns taken) 0 [] (Datagram (address_of 9) (bytes ns nr))).end.tunnels 7)

pub record OldPacketsAreRefused : Type 0 where
  -- numbers that are 32,767 below the counts: the packet is delivered, a duplicate
  pub near : entries_in (delivery 40000 7233 17233) ≡ Sends 12 2 4 9 (control_bytes 1 0 50000 40000 []) ∷ []
  -- one more, and the packet is refused; Ns is told first
  pub ns : delivery 40000 7232 17233 ≡ Err (HalfSpace 7232 40000)
  pub nr : delivery 40000 7233 17232 ≡ Err (HalfSpace 17232 50000)
  pub both : delivery 40000 7232 17232 ≡ Err (HalfSpace 7232 40000)
  -- where all numbers were used since, a message that was taken before would be taken again
  pub round : delivery 105536 40000 50000 ≡ Err (HalfSpace 40000 105536)
  pub without : taken_without 105536 40000 50000 ≡ Some 105537
