-- Rules of the data plane that carry weight: without one of them a step isn't a chain of its moves. The numbers of data messages. And
-- what comes where no id is left.
use Rattle.std.specs.Prelude.{◌≡◌, ℕ, ◌+◌, List, [], ◌∷◌, true, false, replicate, Option, Some, None}
use Rattle.wire_base.specs.declared.why.Why.TheVariants as why
use Rattle.wire_base.specs.declared.cause.Cause.TheVariants as cause
use Rattle.wire_base.specs.declared.letter.Side.TheVariants.{Sub, Net, Lcp}
use Rattle.id_source.specs.Spaces.{Space}
use Rattle.l2tp_header.specs.Spelling.{control_bytes, data_bytes}
use Rattle.avp_codec.specs.Spelling.{spelling}
use Rattle.control_message.specs.declared.message.Message.TheVariants.{StopCcn}
use Rattle.control_message.specs.Pairs.{pairs_of}
use Rattle.lcp_end.specs.Steps.{fresh, opened}
use Rattle.call_link.specs.Link.{Link, new_link}
use Rattle.end_model.specs.declared.event.Event.{Event}
use Rattle.end_model.specs.declared.event.Event.TheVariants.{Datagram, Ring, Lower, OpenTunnel}
use Rattle.end_model.specs.declared.out.Out.{Out}
use Rattle.end_model.specs.declared.out.Out.TheVariants.{Send, Up, Drop, Cause}
use Rattle.end_model.specs.declared.out.Origin.TheVariants as origin
use Rattle.session_looks.specs.declared.look.Look.{Look}
use Rattle.session_looks.specs.declared.look.Look.TheVariants.{Bound, Established}
use Rattle.end_names.specs.declared.role.Role.{Role}
use Rattle.end_names.specs.declared.role.Role.TheVariants as role
use Rattle.end_names.specs.Names.{address_of}
use Rattle.session_looks.specs.Frames.{Carried, Upward, Dropped, side_of}
use Rattle.end_model.specs.End.{End, Stepped, new_end, env_of, handed, step}
use Rattle.world_model.specs.World.{config_of}
use Rattle.step_laws.specs.Steps.{IsChain}
use Rattle.run_examples.specs.Channels.{channel}
use Rattle.run_examples.specs.Samples.{tunnel_up, call_up, place_in}
use Rattle.run_examples.specs.Crossing.{wished, conceded}
use Rattle.run_examples.specs.Messages.{settled, answer, sccrq}

-- the LNS, node 4, with one established call: session 3, in tunnel 2 to node 6
abbrev pub lns : End
lns = record (new_end role.Lns (config_of 4 0 None false)) { calls = (3, place_in 2 (Established 2 (address_of 6))) ∷ [] }

-- a link that was opened at moment 0, whose LCP end asks for the magic number 17
abbrev pub opened_link : Link
opened_link = record (new_link (record { moment = 0; block = [] })) { lcp = (opened 0 (fresh 17)).kept }

-- the call as it was just connected, session 8 of node 6, whose tunnel is 5 there: its LCP end asked for its options
abbrev pub waiting : End
waiting = record (new_end role.Lns (config_of 4 0 None false)) {
  tunnels = (2, tunnel_up 2 6 5 (channel 2 0 0 4) [] ((3, record (call_up 8 (replicate 6 0)) { link = Some opened_link }) ∷ [])) ∷ [];
  calls = (3, place_in 2 (Bound 2 (address_of 6))) ∷ [];
}

abbrev pub frame : List ℕ
frame = 0 ∷ 33 ∷ 170 ∷ []

-- a frame for session 3, in a tunnel, from a node
abbrev pub brought : ℕ → ℕ → List ℕ → Event
brought node tunnel f = Datagram (address_of node) (data_bytes tunnel 3 None f)

abbrev pub from_node : ℕ → ℕ → Event
from_node node tunnel = brought node tunnel frame

-- a frame of LCP
abbrev pub request : List ℕ
request = wished 6 194

-- handed up for what is seen of the session alone, wherever it comes from
abbrev pub from_anywhere : Role → Look → Carried
from_anywhere r (Established tunnel peer) = Upward tunnel peer (side_of r frame) frame
from_anywhere r l = Dropped why.Session

-- a step that hands up
abbrev pub hands : End → Carried → Stepped
hands e c = handed e (env_of e 0 []) 3 c

-- one that neither looks at the address that the frame came from, nor at the tunnel of its header
abbrev pub careless : Stepped
careless = hands lns (from_anywhere role.Lns (Established 2 (address_of 6)))

-- one that looks at the header's tunnel, and takes the sender for the call's peer
abbrev pub trusting : Stepped
trusting = hands lns (Upward 2 (address_of 9) (side_of role.Lns frame) frame)

-- one that doesn't wait until LCP is open
abbrev pub early : Stepped
early = hands waiting (Upward 2 (address_of 6) Net frame)

-- one that takes a frame of LCP for one of the network, which its LCP end doesn't hear
abbrev pub deaf : Stepped
deaf = hands waiting (Upward 2 (address_of 6) Net request)

-- one of a LAC that hands a frame of LCP up before its call is established
abbrev pub hasty : Stepped
hasty = hands settled (Upward 1 (address_of 4) Sub request)

pub record FramesAreLookedAt : Type 0 where
  -- a frame of the call's own peer, in its tunnel, is handed up, and no other one
  pub own : answer lns (from_node 6 2) ≡ Up 3 Net frame ∷ []
  pub peer : answer lns (from_node 9 2) ≡ Drop why.Peer ∷ []
  pub tunnel : answer lns (from_node 6 1) ≡ Drop why.Tunnel ∷ []
  -- before LCP is open in the LNS's call, a frame of LCP alone is, and its LCP end answers
  pub closed : answer waiting (from_node 6 2) ≡ Drop why.Closed ∷ []
  pub lcp : answer waiting (brought 6 2 request) ≡ Up 3 Lcp request ∷ Send (address_of 6) (data_bytes 5 8 None (conceded 6 194)) (origin.Data 3) ∷ []
  -- a LAC hands up none before its call is established
  pub of_lac : answer settled (brought 4 1 request) ≡ Drop why.Closed ∷ []
  -- a step that hands such a frame up is no chain of its moves
  pub without_peer : IsChain lns 0 (from_node 9 2) careless → ⊥
  pub without_tunnel : IsChain lns 0 (from_node 6 1) careless → ⊥
  pub with_sender : IsChain lns 0 (from_node 9 2) trusting → ⊥
  pub without_lcp : IsChain waiting 0 (from_node 6 2) early → ⊥
  pub without_side : IsChain waiting 0 (brought 6 2 request) deaf → ⊥
  pub without_call : IsChain settled 0 (brought 4 1 request) hasty → ⊥

-- ---- the numbers of data messages

-- the same call once LCP was open in it, where the next data message has this number, or none has one
abbrev pub numbered : Option ℕ → End
numbered sequence = record waiting {
  tunnels = (
    2,
    tunnel_up 2 6 5 (channel 2 0 0 4) [] ((3, record (call_up 8 (replicate 6 0)) { link = Some (record opened_link { network = true }); sequence = sequence }) ∷ []),
  ) ∷ [];
}

-- a frame of the network for the call, and what the LNS sends for it
abbrev pub given : Event
given = Lower 3 frame

abbrev pub sent : Option ℕ → List Out
sent number = Send (address_of 6) (data_bytes 5 8 number frame) (origin.Data 3) ∷ []

-- the end that is left, and the one behind that
abbrev pub after : End → End
after e = (step e 0 [] given).end

pub record DataAreNumbered : Type 0 where
  -- the next number behind 65535 is 0
  pub number : answer (numbered (Some 65535)) given ≡ sent (Some 65535)
  pub wraps : answer (after (numbered (Some 65535))) given ≡ sent (Some 0)
  pub goes_on : answer (after (after (numbered (Some 65535)))) given ≡ sent (Some 1)
  -- the number counts LCP's packets too: an answer to a request has the first one
  pub lcp : answer (numbered (Some 0)) (brought 6 2 request) ≡ Up 3 Lcp request ∷ Send (address_of 6) (data_bytes 5 8 (Some 0) (conceded 6 194)) (origin.Data 3) ∷ []
  pub behind : answer (step (numbered (Some 0)) 0 [] (brought 6 2 request)).end given ≡ sent (Some 1)
  -- where none has one, none gets one
  pub none : answer (numbered None) given ≡ sent None
  pub still : answer (after (numbered None)) given ≡ sent None

-- ---- ids

-- a space of which every number was drawn
abbrev pub spent : ℕ → Space
spent last = record { last = last; ceiling = last; next = last + 1 }

-- the LAC, node 9, with an open tunnel
abbrev pub lac : End
lac = record (new_end role.Lac (config_of 9 (address_of 4) None false)) {
  tunnels = (1, tunnel_up 1 4 7 (channel 3 0 0 2) [] []) ∷ [];
}

-- where no id is left, an open and a ring are refused with that cause, and an SCCRQ of another node is declined by a StopCCN of no
-- tunnel, with the codes of a general error: 2, and 4 for what there isn't enough of. The end is as before
pub record IdsRunOut : Type 0 where
  pub tunnels : (step (record lac { tunnel_ids = spent 65535 }) 0 [] OpenTunnel).outputs ≡ Cause cause.Ids ∷ []
  pub tunnels_kept : (step (record lac { tunnel_ids = spent 65535 }) 0 [] OpenTunnel).end ≡ record lac { tunnel_ids = spent 65535 }
  pub opening : (step (record lac { tunnel_ids = spent 65535 }) 0 [] (sccrq 6 2)).outputs ≡
      Cause cause.Ids
      ∷ Send (address_of 6) (control_bytes 2 0 0 1 (spelling (pairs_of (StopCcn 0 2 (Some 4)))))
      (origin.Control (record { tunnel = 0; ns = 0; nr = 1; empty = false }))
      ∷ []
  pub opening_kept : (step (record lac { tunnel_ids = spent 65535 }) 0 [] (sccrq 6 2)).end ≡ record lac { tunnel_ids = spent 65535 }
  pub sessions : (step (record lac { session_ids = spent 65534 }) 0 [] (Ring 70)).outputs ≡ Cause cause.Ids ∷ []
  pub sessions_kept : (step (record lac { session_ids = spent 65534 }) 0 [] (Ring 70)).end ≡ record lac { session_ids = spent 65534 }
