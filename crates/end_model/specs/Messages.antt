-- What ends say when they open tunnels and ask for calls, and what stands against an opening.
use Rattle.std.specs.Prelude.{ℕ, ◌==◌, ◌||◌, not, Bool, List, true, false, if◌then◌else◌, Option, Some, None, is_some, is_none, unwrap_or}
use Rattle.avp_codec.specs.Spelling.{spelling}
use Rattle.control_message.specs.Pairs.{pairs_with}
use Rattle.control_message.specs.declared.message.Message.{Message}
use Rattle.control_message.specs.declared.message.Message.TheVariants.{Icrq, Iccn}
use Rattle.control_message.specs.declared.message.Failover.{Failover}
use Rattle.control_message.specs.declared.message.Opening.{Opening}
use Rattle.tunnel_fsm.specs.declared.table.TunnelEvent.{TunnelEvent}
use Rattle.tunnel_fsm.specs.declared.table.TunnelEvent.TheVariants.{ScccnAcc, ScccnNotAcc}
use Rattle.end_model.specs.declared.tunnel.Config.{Config}
use Rattle.end_names.specs.declared.role.Role.{Role}
use Rattle.end_names.specs.Names.{host_name, calling_number}
use Rattle.end_model.specs.Secrets.{sixteen, lacks_secret, is_wrong}
use Rattle.end_model.specs.Reasons.{Reason, out_of_order, other_version, no_recovery, no_secret}

-- what an end says of itself when it opens or accepts a tunnel: version 1.0, both kinds of framing, its name, the
-- tunnel id that it assigns, a window of 8, failover of both kinds within 30 seconds, and what it asks and answers by its secret
abbrev pub opening_of : Role → Config → Option (List ℕ) → Option (List ℕ) → ℕ → Opening
opening_of role c challenge response local = record {
  version = 256;
  framing = 3;
  name = host_name role c.number;
  tunnel = local;
  window = 8;
  failover = Some (record { flags = 3; time = 30000 });
  challenge = challenge;
  response = response;
  recovery = None;
  suggested = None;
  attempt = None;
}

-- what the letter of a peer that opens, accepts or closes a tunnel tells of the peer: the challenge that it asks, the id that it
-- assigns, its receive window, and what it can recover
pub record Told : Type 0 where
  pub asks : Option (List ℕ)
  pub remote : ℕ
  pub window : ℕ
  pub flags : ℕ

-- an id, and nothing else
abbrev pub tells_id : ℕ → Told
tells_id remote = record { asks = None; remote = remote; window = 0; flags = 0 }

-- what a peer can recover, a set of bits (RFC 4951 section 5.1)
abbrev pub flags_of : Option Failover → ℕ
flags_of None = 0
flags_of (Some f) = f.flags

abbrev pub told_by : Opening → Told
told_by o = record { asks = o.challenge; remote = o.tunnel; window = o.window; flags = flags_of o.failover }

-- the request for a call of a LAC: its session id is its serial number too
abbrev pub request_of : ℕ → List ℕ → Message
request_of s who = Icrq s s (Some (calling_number who))

-- its pairs where the end hides the calling number: behind a Random Vector, by the secret (RFC 2661 section 4.3)
abbrev pub hidden_by : Bool → Option (List ℕ) → List ℕ → Message → Option (List ℕ)
hidden_by true (Some secret) vector m = Some (spelling (pairs_with (Some secret) (Some vector) m))
hidden_by hide secret vector m = None

-- the vector is the step's block
abbrev pub hidden_request : Config → List ℕ → ℕ → List ℕ → Option (List ℕ)
hidden_request c block s who = hidden_by c.hide c.secret (sixteen block) (request_of s who)

-- the connection of a call: 100 Mbit a second, synchronous framing
abbrev pub connection : Message
connection = Iccn 100000000 1 false

-- what stands against an SCCRQ or an SCCRP at an end with this secret, which asked this of its peer, but for the tunnel's state; the
-- first that counts: its version isn't 1.0, it wants to recover a tunnel, it asks an end that has no secret, or answers wrongly
abbrev pub against : Option (List ℕ) → Option (List ℕ) → Opening → Option Reason
against secret asked o =
    if not (o.version == 256) then Some other_version
    else if is_some o.recovery then Some no_recovery
    else if lacks_secret secret o.challenge || is_wrong 2 secret asked o.response then Some no_secret
    else None

-- it is acceptable where nothing does
abbrev pub is_acceptable : Option (List ℕ) → Option (List ℕ) → Opening → Bool
is_acceptable secret asked o = is_none (against secret asked o)

abbrev pub event_by : TunnelEvent → TunnelEvent → Option (List ℕ) → Option (List ℕ) → Opening → TunnelEvent
event_by acceptable not_acceptable secret asked o = if is_acceptable secret asked o then acceptable else not_acceptable

abbrev pub opening_reason : Option (List ℕ) → Option (List ℕ) → Opening → Reason
opening_reason secret asked o = unwrap_or (against secret asked o) out_of_order

-- of an SCCCN, which has an answer where one was asked
abbrev pub connected_event : Option (List ℕ) → Option (List ℕ) → Option (List ℕ) → TunnelEvent
connected_event secret asked given = if is_wrong 3 secret asked given then ScccnNotAcc else ScccnAcc

abbrev pub connected_reason : Option (List ℕ) → Option (List ℕ) → Option (List ℕ) → Reason
connected_reason secret asked given = if is_wrong 3 secret asked given then no_secret else out_of_order
