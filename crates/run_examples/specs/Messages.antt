-- Rules of a tunnel's messages at single steps, which no law speaks of: which are taken, what is acknowledged, and what the
-- windows let go (RFC 2661 section 5.8).
use Rattle.std.specs.Prelude.{◌≡◌, ℕ, List, [], ◌∷◌, Bool, true, false, Some, None}
use Rattle.id_table.specs.Ids.{ids_of}
use Rattle.wire_base.specs.declared.letter.Letter.{Letter}
use Rattle.wire_base.specs.declared.why.Why.TheVariants as why
use Rattle.l2tp_header.specs.Spelling.{control_bytes}
use Rattle.avp_codec.specs.Spelling.{spelling}
use Rattle.control_message.specs.declared.message.Message.{Message}
use Rattle.control_message.specs.declared.message.Message.TheVariants.{Sccrq, Sccrp, Scccn, Icrq, Icrp, Iccn}
use Rattle.control_message.specs.Pairs.{pairs_of}
use Rattle.control_channel.specs.Numbers.{Numbers}
use Rattle.tunnel_fsm.specs.declared.table.TunnelState.TheVariants as states
use Rattle.call_fsm.specs.declared.table.CallState.TheVariants.{WaitTunnel, WaitReply, Established}
use Rattle.call_fsm.specs.declared.table.CallEvent.TheVariants.{IcrpAcc}
use Rattle.end_model.specs.declared.event.Event.{Event}
use Rattle.end_model.specs.declared.event.Event.TheVariants.{Datagram}
use Rattle.end_model.specs.declared.out.Out.{Out}
use Rattle.end_model.specs.declared.out.Out.TheVariants.{Send, Drop}
use Rattle.end_model.specs.declared.out.Origin.{Origin}
use Rattle.end_model.specs.declared.out.Origin.TheVariants as origin
use Rattle.end_model.specs.declared.tunnel.Call.{Call}
use Rattle.session_looks.specs.declared.look.Look.{Look}
use Rattle.session_looks.specs.declared.look.Look.TheVariants as look
use Rattle.end_names.specs.declared.role.Role.TheVariants as role
use Rattle.end_names.specs.Names.{subscriber, address_of, calling_number}
use Rattle.end_model.specs.Messages.{opening_of}
use Rattle.end_model.specs.Openings.{fresh}
use Rattle.end_model.specs.Tunnels.{new_tunnel}
use Rattle.end_model.specs.End.{End, new_end, new_place, step}
use Rattle.world_model.specs.World.{config_of}
use Rattle.run_examples.specs.Channels.{channel}
use Rattle.run_examples.specs.Samples.{tunnel_up, call_in, call_up, place_in}

-- ---- a LAC, node 9, with a tunnel to the LNS, node 4

-- the tunnel is 1, which the LNS calls 7; it has these letters, and one call, session 3
abbrev pub lac_with : Call → Look → Numbers → List Letter → End
lac_with c l n letters = record (new_end role.Lac (config_of 9 (address_of 4) None false)) {
  tunnels = (1, tunnel_up 1 4 7 n letters ((3, c) ∷ [])) ∷ [];
  calls = (3, place_in 1 l) ∷ [];
}

-- its call is asked for
abbrev pub lac : Numbers → List Letter → End
lac n letters = lac_with (call_in WaitReply 0 (subscriber 70)) (look.Bound 1 (address_of 4)) n letters

-- its call is up, session 8 of the LNS
abbrev pub lac_up : Numbers → List Letter → End
lac_up n letters =
    lac_with
    (record (call_up 8 (subscriber 70)) { steps = record { state = WaitReply; event = IcrpAcc; next = Established } ∷ [] })
    (look.Established 1 (address_of 4)) n letters

abbrev pub letter_of : ℕ → Message → Letter
letter_of session m = record { session = session; avps = spelling (pairs_of m) }

-- the request for another call, and the connection of that one
abbrev pub icrq : Message
icrq = Icrq 5 5 None

abbrev pub iccn : Message
iccn = Iccn 100000000 1 false

-- two messages were taken; three letters were acknowledged, and none is left
abbrev pub settled : End
settled = lac (channel 3 0 0 2) []

-- the request is outstanding, and a second one waits for it
abbrev pub filled : End
filled = lac (channel 3 2 1 2) (letter_of 0 icrq ∷ letter_of 0 icrq ∷ [])

-- as many letters as there may be; they are left out
abbrev pub full : End
full = lac (channel 3 8192 1 2) []

-- ---- what comes, and what goes

-- an ICRP of the LNS for a session, with Ns and Nr: the call is its session 8
abbrev pub icrp_for : ℕ → ℕ → ℕ → Event
icrp_for session ns nr = Datagram (address_of 4) (control_bytes 1 session ns nr (spelling (pairs_of (Icrp 8))))

abbrev pub icrp : ℕ → ℕ → Event
icrp ns nr = icrp_for 3 ns nr

-- an acknowledgement alone
abbrev pub alone : ℕ → ℕ → Event
alone ns nr = Datagram (address_of 4) (control_bytes 1 0 ns nr [])

abbrev pub numbered : ℕ → ℕ → Bool → Origin
numbered ns nr empty = origin.Control (record { tunnel = 1; ns = ns; nr = nr; empty = empty })

abbrev pub message : ℕ → ℕ → ℕ → Message → Out
message session ns nr m = Send (address_of 4) (control_bytes 7 session ns nr (spelling (pairs_of m))) (numbered ns nr false)

abbrev pub acknowledgement : ℕ → ℕ → Out
acknowledgement ns nr = Send (address_of 4) (control_bytes 7 0 ns nr []) (numbered ns nr true)

abbrev pub answer : End → Event → List Out
answer e ev = (step e 0 [] ev).outputs

abbrev pub left : End → Event → End
left e ev = (step e 0 [] ev).end

-- ---- which messages are taken

pub record MessagesAreTakenInOrder : Type 0 where
  -- the next one: its call is up, and is connected
  pub next : answer settled (icrp 2 3) ≡ message 8 3 3 iccn ∷ []
  pub taken : left settled (icrp 2 3) ≡ lac_up (channel 3 1 1 3) (letter_of 8 iccn ∷ [])
  -- one that came before, up to half of the numbers ago, is acknowledged again, and does nothing else
  pub last : answer settled (icrp 1 3) ≡ acknowledgement 3 2 ∷ []
  pub first : answer settled (icrp 0 3) ≡ acknowledgement 3 2 ∷ []
  pub oldest : answer settled (icrp 32770 3) ≡ acknowledgement 3 2 ∷ []
  pub last_kept : left settled (icrp 1 3) ≡ settled
  pub oldest_kept : left settled (icrp 32770 3) ≡ settled
  -- one that is ahead of the next one, by less than half of the numbers, is dropped, and isn't acknowledged
  pub ahead : answer settled (icrp 3 3) ≡ Drop why.Ahead ∷ []
  pub farthest : answer settled (icrp 32769 3) ≡ Drop why.Ahead ∷ []
  pub ahead_kept : left settled (icrp 3 3) ≡ settled
  pub farthest_kept : left settled (icrp 32769 3) ≡ settled
  -- one whose letter would be one too many is dropped, and isn't acknowledged
  pub too_many : answer full (icrp 2 3) ≡ Drop why.Queue ∷ []
  pub too_many_kept : left full (icrp 2 3) ≡ full

-- ---- what is acknowledged

pub record MessagesAreAcknowledged : Type 0 where
  -- no letter that goes out says that the message was taken: the window is filled, or there is none
  pub waits : answer filled (icrp 2 3) ≡ acknowledgement 4 3 ∷ []
  pub waiting : left filled (icrp 2 3) ≡ lac_up (channel 3 3 1 3) (letter_of 0 icrq ∷ letter_of 0 icrq ∷ letter_of 8 iccn ∷ [])
  pub ignored : answer settled (icrp_for 6 2 3) ≡ Drop why.Session ∷ acknowledgement 3 3 ∷ []
  -- an acknowledgement alone isn't acknowledged, whatever number it has
  pub before : answer settled (alone 1 3) ≡ []
  pub next : answer settled (alone 2 3) ≡ []
  pub behind : answer settled (alone 3 3) ≡ []
  pub next_kept : left settled (alone 2 3) ≡ settled
  -- what the peer expects next is read of each message, the ones that aren't taken too: the letter that waits goes
  pub by_alone : answer filled (alone 2 4) ≡ message 0 4 2 icrq ∷ []
  pub by_ahead : answer filled (icrp 3 4) ≡ Drop why.Ahead ∷ message 0 4 2 icrq ∷ []
  pub by_last : answer filled (icrp 1 4) ≡ message 0 4 2 icrq ∷ acknowledgement 5 2 ∷ []
  -- and the letter that the message causes behind it: both say that the message was taken
  pub by_next : answer filled (icrp 2 4) ≡ message 0 4 3 icrq ∷ message 8 5 3 iccn ∷ []
  -- one that isn't outstanding isn't acknowledged
  pub unsent : left filled (alone 2 5) ≡ filled
  pub old : left filled (alone 2 2) ≡ filled

-- ---- what the windows let go

-- the LAC has sent its SCCRQ, and session 3 waits for the tunnel
abbrev pub opening_lac : End
opening_lac = record (new_end role.Lac (config_of 9 (address_of 4) None false)) {
  tunnels = (
    1,
    record (new_tunnel (record (fresh (address_of 4) 0) { local = 1; state = states.WaitCtlReply; channel = channel 0 1 1 0 })) {
      letters = letter_of 0 (Sccrq (opening_of role.Lac (config_of 9 (address_of 4) None false) None None 1)) ∷ [];
      calls = (3, call_in WaitTunnel 0 (subscriber 70)) ∷ [];
    },
  ) ∷ [];
  calls = (3, new_place 1) ∷ [];
}

-- the SCCRP tells a window of so many letters
abbrev pub sccrp : ℕ → Event
sccrp window = Datagram (address_of 4) (control_bytes 1 0 0 1 (spelling (pairs_of (Sccrp (record (opening_of role.Lns (config_of 4 0 None false) None None 7) { window = window })))))

-- the SCCRQ that it acknowledges makes the congestion window two letters wide; a window of one letter lets one go
pub record WindowsAreKept : Type 0 where
  pub eight : answer opening_lac (sccrp 8) ≡ message 0 1 1 (Scccn None) ∷ message 0 2 1 (Icrq 3 3 (Some (calling_number (subscriber 70)))) ∷ []
  pub one : answer opening_lac (sccrp 1) ≡ message 0 1 1 (Scccn None) ∷ []

-- ---- openings that come again

-- the LNS, node 4, answered the SCCRQ of the LAC by an SCCRP, in tunnel 7
abbrev pub lns : End
lns = record (new_end role.Lns (config_of 4 0 None false)) {
  tunnels = (
    7,
    record (new_tunnel (record (fresh (address_of 9) 0) { local = 7; remote = 1; state = states.WaitCtlConn; channel = channel 0 1 1 1; flags = 3 })) {
      letters = letter_of 0 (Sccrp (opening_of role.Lns (config_of 4 0 None false) None None 7)) ∷ [];
    },
  ) ∷ [];
}

-- an SCCRQ of a node, which assigns this id
abbrev pub sccrq : ℕ → ℕ → Event
sccrq node local = Datagram (address_of node) (control_bytes 0 0 0 0 (spelling (pairs_of (Sccrq (opening_of role.Lac (config_of node (address_of 4) None false) None None local)))))

pub record OpeningsComeOnce : Type 0 where
  -- it is acknowledged again in the tunnel that it opened, and opens none
  pub again : answer lns (sccrq 9 1) ≡ Send (address_of 9) (control_bytes 1 0 1 1 []) (origin.Control (record { tunnel = 7; ns = 1; nr = 1; empty = true })) ∷ []
  pub kept : left lns (sccrq 9 1) ≡ lns
  -- one of another node, or with another id, opens a tunnel
  pub of_another : ids_of (left lns (sccrq 6 1)).tunnels ≡ 1 ∷ 7 ∷ []
  pub with_another : ids_of (left lns (sccrq 9 2)).tunnels ≡ 1 ∷ 7 ∷ []
