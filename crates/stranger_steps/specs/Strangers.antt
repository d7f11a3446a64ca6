-- What a datagram of a stranger does to an end: of an address that is that of no live tunnel's peer.
use Rattle.std.specs.Prelude.{◌≡◌, ℕ, suc, ◌<◌, ◌≤◌, List, [], ◌∷◌, None, Some, Ok}
use Rattle.std.specs.List.{AllByRecursion}
use Rattle.id_table.specs.Ids.{at, put}
use Rattle.id_source.specs.Spaces.{takes_id, after_id}
use Rattle.session_book.specs.declared.record.Record.{Record}
use Rattle.session_book.specs.declared.record.Record.TheVariants.{Ceiling}
use Rattle.session_looks.specs.declared.look.Look.TheVariants.{Bound, Established}
use Rattle.tunnel_fsm.specs.declared.table.TunnelState.TheVariants.{WaitCtlConn}
use Rattle.end_model.specs.declared.event.Event.{Event}
use Rattle.end_model.specs.declared.event.Event.TheVariants.{Datagram}
use Rattle.end_model.specs.declared.moves.Move.{Move}
use Rattle.end_model.specs.declared.moves.Move.TheVariants as move
use Rattle.end_model.specs.declared.out.Out.{Out}
use Rattle.end_model.specs.declared.out.Out.TheVariants.{Send, Up, Gone, Drop, Cause}
use Rattle.end_model.specs.Tunnels.{Tunnel, no_query}
use Rattle.end_model.specs.Contents.{contents_of}
use Rattle.end_model.specs.Access.{Concentrator, of_step, serves}
use Rattle.end_model.specs.End.{End, Stepped, look_in, step}

-- no live tunnel of the end goes to this peer. The recovery tunnel of a tunnel goes to the tunnel's peer, so the peer is that of no attempt
-- and of no answer either
abbrev pub IsStranger : End → ℕ → Type 0
IsStranger e peer = (i : ℕ) (t : Tunnel) → at e.tunnels i ≡ Some t → t.control.peer ≡ peer → ⊥

-- a live tunnel has this id, and goes to this peer
abbrev pub GoesTo : End → ℕ → ℕ → Type 0
GoesTo e peer i = (t : Tunnel) × (at e.tunnels i ≡ Some t) × (t.control.peer ≡ peer)

-- what the data plane sees fits the tunnels: so it is of each end whose looks are true, as laws say of one without a tunnel, of each after
-- a step, and of each after a start
pub record LooksFitTunnels (e : End) : Type 0 where
  -- what is seen of a session names a live tunnel and its peer
  pub bound : (session tunnel peer : ℕ) → look_in (at e.calls session) ≡ Bound tunnel peer → GoesTo e peer tunnel
  pub established : (session tunnel peer : ℕ) → look_in (at e.calls session) ≡ Established tunnel peer → GoesTo e peer tunnel
  -- the id of a live tunnel was drawn
  pub drawn : (i : ℕ) (t : Tunnel) → at e.tunnels i ≡ Some t → i < e.tunnel_ids.next

-- a tunnel that was just accepted: under this id, to this peer, from which it waits for an SCCCN
pub record IsBegun (peer i : ℕ) (t : Tunnel) : Type 0 where
  pub local : t.control.local ≡ i
  pub peer_is : t.control.peer ≡ peer
  pub waits : t.control.state ≡ WaitCtlConn
  -- it has no calls, nobody recovers it, and it asks for no session
  pub calls : t.calls ≡ []
  pub recovery : t.recovery ≡ None
  pub query : t.query ≡ no_query

-- what is left of an end: all of it as it was; or it has one tunnel more, under the id that was drawn, which no tunnel had, and nothing
-- else of it is new. No session id and no number of a recovery is drawn
pub data Leaves (e : End) (peer : ℕ) (x : End) : Type 0 where
  AsItWas : x ≡ e → Leaves e peer x
  OneMore : (i : ℕ) (t : Tunnel) → takes_id e.tunnel_ids ≡ Ok i → at e.tunnels i ≡ None → IsBegun peer i t
      → x ≡ record e { tunnel_ids = after_id e.tunnel_ids; tunnels = put e.tunnels i t } → Leaves e peer x

-- what is given may be sent to that peer, or tell what was dropped, or why an opening is declined; nothing is handed up, and no call ends
abbrev pub IsOnlyTo : ℕ → Out → Type 0
IsOnlyTo peer (Send to bytes origin) = to ≡ peer
IsOnlyTo peer (Up session side frame) = ⊥
IsOnlyTo peer (Gone session) = ⊥
IsOnlyTo peer (Drop w) = Unit {0}
IsOnlyTo peer (Cause c) = Unit {0}

-- how many packets they send
unfoldable pub sends_in : List Out → ℕ
sends_in [] = 0
sends_in (Send to bytes origin ∷ os) = suc (sends_in os)
sends_in (Up session side frame ∷ os) = sends_in os
sends_in (Gone session ∷ os) = sends_in os
sends_in (Drop w ∷ os) = sends_in os
sends_in (Cause c ∷ os) = sends_in os

-- what is done: a tunnel is accepted, its letter goes out or is acknowledged; or an opening is declined
abbrev pub IsOfOpening : Move → Type 0
IsOfOpening (move.Accepted m) = Unit {0}
IsOfOpening (move.LetGo m) = Unit {0}
IsOfOpening (move.Quiet i) = Unit {0}
IsOfOpening (move.Declined m) = Unit {0}
IsOfOpening m = ⊥

-- what is committed: ceilings of tunnel ids, which are the first kind of ids
abbrev pub IsOfTunnelIds : Record → Type 0
IsOfTunnelIds (Ceiling space number) = space ≡ 1
IsOfTunnelIds r = ⊥

-- what a step on such a datagram comes to
pub record ChangesNothing (e : End) (peer : ℕ) (s : Stepped) : Type 0 where
  -- the end is as it was, but for one tunnel more at most
  pub end : Leaves e peer s.end
  -- each live tunnel is as it was, with its calls, its letters, its recovery and its mark
  pub tunnels : (i : ℕ) (t : Tunnel) → at e.tunnels i ≡ Some t → at s.end.tunnels i ≡ Some t
  -- so are the places of the calls, and what the data plane sees of them
  pub calls : s.end.calls ≡ e.calls
  -- nothing is handed up, no call is told as gone, and what is sent goes to that peer
  pub outputs : AllByRecursion (IsOnlyTo peer) s.outputs
  -- and no more than one packet is sent
  pub packets : sends_in s.outputs ≤ 1
  -- nothing is done but what belongs to an opening
  pub moves : AllByRecursion IsOfOpening s.moves
  -- nothing is committed but ceilings of tunnel ids
  pub records : AllByRecursion IsOfTunnelIds (contents_of e s)

-- a step on this event comes to no more than that where the event is a datagram of a stranger, whoever that is
abbrev pub StepKeepsFromStrangers : Event → End → Stepped → Type 0
StepKeepsFromStrangers ev e s =
    (peer : ℕ) (bytes : List ℕ) → ev ≡ Datagram peer bytes → LooksFitTunnels e → IsStranger e peer → ChangesNothing e peer s

-- so does each step of an end
abbrev pub StrangersChangeNothing : Type 0
StrangersChangeNothing =
    (e : End) (moment : ℕ) (block : List ℕ) (ev : Event) → StepKeepsFromStrangers ev e (step e moment block ev)

-- on a datagram, whoever sent it, a LAC does what its end does: the hosts that it holds stay as they were, and none is answered
abbrev pub DatagramsAreOfEnds : Type 0
DatagramsAreOfEnds =
    (l : Concentrator) (moment : ℕ) (block : List ℕ) (peer : ℕ) (bytes : List ℕ)
    → serves l moment block (Datagram peer bytes) ≡ of_step l.access None (step l.end moment block (Datagram peer bytes))
