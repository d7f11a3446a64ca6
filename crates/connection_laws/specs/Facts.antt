-- What holds of the tunnels of a world, of their channels and of the packets between them, after each line and each move.
use Rattle.std.specs.Prelude.{◌≡◌, ◌⊎◌, ℕ, ◌+◌, ◌<◌, ◌≤◌, List, [], ◌∷◌, drop, map, length, slice_get, Option, Some, None, Ok, true, false}
use Rattle.std.specs.List.{AllByRecursion}
use Rattle.id_table.specs.Ids.{at}
use Rattle.id_table.specs.Order.{Ascends}
use Rattle.wire_base.specs.declared.letter.Letter as wire
use Rattle.l2tp_header.specs.declared.header.Header.{Header}
use Rattle.l2tp_header.specs.Reading.{header_of, body_of}
use Rattle.l2tp_header.specs.Grammar.{FitsWord}
use Rattle.l2tp_header.specs.Spelling.{control_bytes, data_bytes}
use Rattle.avp_codec.specs.Spelling.{spelling}
use Rattle.control_message.specs.declared.message.Message.{Message}
use Rattle.control_message.specs.declared.message.Message.TheVariants.{Sccrq, Sccrp, Scccn, StopCcn, Hello, Ocrq, Ocrp, Occn, Icrq, Icrp, Iccn, Cdn, Wen, Sli, Fsq, Fsr}
use Rattle.control_message.specs.declared.message.Opening.{Opening}
use Rattle.control_message.specs.Pairs.{pairs_of}
use Rattle.recv_window.specs.Window.{on_wire}
use Rattle.tunnel_fsm.specs.Rows.{state_number}
use Rattle.end_model.specs.declared.event.Event.{Event}
use Rattle.end_model.specs.declared.event.Event.TheVariants.{Datagram, Ring, Frame, Admitted, Payload, Lower, Lcp, Hang, OpenTunnel, DropCall, CloseTunnel, Tick}
use Rattle.end_model.specs.declared.moves.Move.{Move}
use Rattle.end_model.specs.declared.moves.Move.TheVariants as move
use Rattle.end_model.specs.declared.out.Origin.{Origin}
use Rattle.end_model.specs.declared.out.Origin.TheVariants as origin
use Rattle.end_model.specs.declared.out.ControlOrigin.{ControlOrigin}
use Rattle.world_model.specs.declared.packet.Packet.{Packet}
use Rattle.end_model.specs.declared.tunnel.Call.{Call}
use Rattle.end_names.specs.declared.role.Role.TheVariants.{Lac}
use Rattle.call_fsm.specs.declared.table.CallState.TheVariants.{WaitTunnel}
use Rattle.end_names.specs.Names.{address_of}
use Rattle.end_model.specs.Secrets.{uncovered_datagram}
use Rattle.end_model.specs.Tunnels.{Tunnel, no_query}
use Rattle.end_model.specs.Channels.{letter_as}
use Rattle.end_model.specs.End.{End}
use Rattle.world_model.specs.World.{World, Node, Sender, standing_of, no_standing, sender_of}
use Rattle.step_laws.specs.Letters.{Letter}
use Rattle.step_laws.specs.Moves.{IsFor}
use Rattle.step_laws.specs.Steps.{AreKept}
use Rattle.step_laws.specs.Codes.{CodesFit}
use Rattle.frame_laws.specs.Plain.{HidesOk}
use Rattle.frame_laws.specs.Written.{IsWritten}
use Rattle.connection_laws.specs.Accounts.{Part, Unmade, Opener, Acceptor, Taken, Account, no_account, heeded, partner_of}

-- what is known of each tunnel of each node, by the node and the local id
abbrev pub Accounts : Type 0
Accounts = ℕ → ℕ → Account

-- ---- letters

-- it opens no tunnel, nor accepts one
abbrev pub IsNoOpening : Message → Type 0
IsNoOpening (Sccrq o) = ⊥
IsNoOpening (Sccrp o) = ⊥
IsNoOpening (Scccn response) = Unit {0}
IsNoOpening (StopCcn tunnel code error) = Unit {0}
IsNoOpening Hello = Unit {0}
IsNoOpening (Ocrq session) = Unit {0}
IsNoOpening Ocrp = Unit {0}
IsNoOpening Occn = Unit {0}
IsNoOpening Wen = Unit {0}
IsNoOpening Sli = Unit {0}
IsNoOpening (Fsq sessions) = Unit {0}
IsNoOpening (Fsr sessions) = Unit {0}
IsNoOpening (Icrq session serial calling) = Unit {0}
IsNoOpening (Icrp session) = Unit {0}
IsNoOpening (Iccn speed framing sequenced) = Unit {0}
IsNoOpening (Cdn session code error) = Unit {0}

-- it closes no tunnel, and it does
abbrev pub IsNoStop : Message → Type 0
IsNoStop (StopCcn tunnel code error) = ⊥
IsNoStop (Sccrq o) = Unit {0}
IsNoStop (Sccrp o) = Unit {0}
IsNoStop (Scccn response) = Unit {0}
IsNoStop Hello = Unit {0}
IsNoStop (Ocrq session) = Unit {0}
IsNoStop Ocrp = Unit {0}
IsNoStop Occn = Unit {0}
IsNoStop Wen = Unit {0}
IsNoStop Sli = Unit {0}
IsNoStop (Fsq sessions) = Unit {0}
IsNoStop (Fsr sessions) = Unit {0}
IsNoStop (Icrq session serial calling) = Unit {0}
IsNoStop (Icrp session) = Unit {0}
IsNoStop (Iccn speed framing sequenced) = Unit {0}
IsNoStop (Cdn session code error) = Unit {0}

abbrev pub IsStopCcn : Message → Type 0
IsStopCcn (StopCcn tunnel code error) = Unit {0}
IsStopCcn (Sccrq o) = ⊥
IsStopCcn (Sccrp o) = ⊥
IsStopCcn (Scccn response) = ⊥
IsStopCcn Hello = ⊥
IsStopCcn (Ocrq session) = ⊥
IsStopCcn Ocrp = ⊥
IsStopCcn Occn = ⊥
IsStopCcn Wen = ⊥
IsStopCcn Sli = ⊥
IsStopCcn (Fsq sessions) = ⊥
IsStopCcn (Fsr sessions) = ⊥
IsStopCcn (Icrq session serial calling) = ⊥
IsStopCcn (Icrp session) = ⊥
IsStopCcn (Iccn speed framing sequenced) = ⊥
IsStopCcn (Cdn session code error) = ⊥

-- the letter is spelled, with its number hidden where it is a request that hides it
pub record IsSpelled (l : Letter) : Type 0 where
  pub written : IsWritten l.message
  pub hides : HidesOk l.message l.hidden
  pub session : l.session < 65536

-- the first letter is this message, which tells the tunnel's id, and no other one opens or accepts a tunnel
pub record BeginsWith (i : ℕ) (says : Opening → Message) (given : List Letter) : Type 0 where
  pub first : Letter
  pub rest : List Letter
  pub are : given ≡ first ∷ rest
  pub opening : Opening
  pub says_so : first.message ≡ says opening
  pub id : opening.tunnel ≡ i
  pub later : AllByRecursion (λ (l : Letter). IsNoOpening l.message) rest

-- what a tunnel did with a letter that it took is what the letter says: it learned the id and the window that an opening tells, or was
-- confirmed by an SCCCN; the call that it made replies to the one that the request names; a call came up by the reply or the connection
-- whose header names it; or a call ended by a CDN whose header names it, or names none: then which call the CDN means isn't said here; or
-- it answered the question for sessions that the letter is, or took the answer. Of a letter that it took plainly nothing is said
abbrev pub Tells : Letter → Move → Type 0
Tells l (move.Accepted m) = (o : Opening) × (l.message ≡ Sccrq o) × (m.remote ≡ o.tunnel) × (m.window ≡ o.window)
Tells l (move.Connected m) = (o : Opening) × (l.message ≡ Sccrp o) × (m.remote ≡ o.tunnel) × (m.window ≡ o.window)
Tells l (move.Confirmed m) = (response : Option (List ℕ)) × (l.message ≡ Scccn response)
Tells l (move.Replied m) = (serial : ℕ) × (calling : Option (List ℕ)) × (l.message ≡ Icrq m.remote serial calling)
Tells l (move.FirstUp m) = (l.session ≡ m.session) × (l.message ≡ Icrp m.remote)
Tells l (move.SecondUp m) = (l.session ≡ m.session) × ((speed : ℕ) × (framing : ℕ) × (l.message ≡ Iccn speed framing m.sequenced))
Tells l (move.Refused m) =
    ((serial : ℕ) × (calling : Option (List ℕ)) × (l.message ≡ Icrq m.remote serial calling)) ⊎ (l.message ≡ Icrp m.remote)
Tells l (move.EndHeard m) =
    ((l.session ≡ m.session) ⊎ (l.session ≡ 0)) × ((remote : ℕ) × (code : ℕ) × (error : Option ℕ) × (l.message ≡ Cdn remote code error))
Tells l (move.AnsweredQuery m) = l.message ≡ Fsq m.pairs
Tells l (move.TookAnswer m) = l.message ≡ Fsr m.answers
Tells l m = Unit {0}

-- what a tunnel took as the letter with a number is the letter with that number, of those given to its partner's channel
pub record IsTaken (accs : Accounts) (a : Account) (number : ℕ) (t : Taken) : Type 0 where
  pub numbered : t.number ≡ number
  pub partner : Sender
  pub learned : partner_of a ≡ Some partner
  pub sender : t.sender ≡ Some partner
  pub letter : Letter
  pub there : slice_get (accs partner.node partner.tunnel).given number ≡ Some letter
  pub tells : Tells letter t.move

-- so it is with each that it took as long as it wasn't closed
abbrev pub AreTaken : Accounts → Account → Type 0
AreTaken accs a = (number : ℕ) (t : Taken) → slice_get a.taken number ≡ Some t → number < heeded a → IsTaken accs a number t

-- ---- closed tunnels

abbrev pub IsOpen : Account → Type 0
IsOpen a = a.closed ≡ None

abbrev pub IsClosed : Account → Type 0
IsClosed a = (count : ℕ) × (a.closed ≡ Some count) × (count ≤ length a.taken)

-- a closed tunnel does nothing with what it takes; the letter that closed it is a StopCCN, or an SCCRP that it rejected
abbrev pub IsIgnored : Move → Type 0
IsIgnored (move.TookPlain m) = Unit {0}
IsIgnored (move.ClosedBy m) = Unit {0}
IsIgnored (move.Rejected m) = Unit {0}
IsIgnored m = ⊥

abbrev pub AreIgnored : Account → Type 0
AreIgnored a = (number : ℕ) (t : Taken) → slice_get a.taken number ≡ Some t → heeded a ≤ number → IsIgnored t.move

-- a StopCCN tells the tunnel's own id
abbrev pub TellsOwn : ℕ → Message → Type 0
TellsOwn i (StopCcn tunnel code error) = tunnel ≡ i
TellsOwn i (Sccrq o) = Unit {0}
TellsOwn i (Sccrp o) = Unit {0}
TellsOwn i (Scccn response) = Unit {0}
TellsOwn i Hello = Unit {0}
TellsOwn i (Ocrq session) = Unit {0}
TellsOwn i Ocrp = Unit {0}
TellsOwn i Occn = Unit {0}
TellsOwn i Wen = Unit {0}
TellsOwn i Sli = Unit {0}
TellsOwn i (Fsq sessions) = Unit {0}
TellsOwn i (Fsr sessions) = Unit {0}
TellsOwn i (Icrq session serial calling) = Unit {0}
TellsOwn i (Icrp session) = Unit {0}
TellsOwn i (Iccn speed framing sequenced) = Unit {0}
TellsOwn i (Cdn session code error) = Unit {0}

-- it was closed before it had learned its partner, or taken anything
abbrev pub IsLost : Account → Type 0
IsLost a = (a.closed ≡ Some 0) × (a.remote ≡ 0)

-- ---- two partners

-- what an opener and the acceptor that it has learned took of each other: no more than was given, and at most 8,192 letters more
-- were given than are taken. An opener that is closed may have taken the SCCRP and the StopCCN of another acceptor of its SCCRQ
pub record AreJoined (a b : Account) : Type 0 where
  pub here : (length a.taken ≤ length b.given) ⊎ (IsClosed a × (length a.taken ≤ 2))
  pub there : length b.taken ≤ length a.given
  pub few_here : length a.given ≤ length b.taken + 8192
  pub few_there : length b.given ≤ length a.taken + 8192

-- it gave one letter and then a StopCCN, or that alone
pub record HasStopped (a : Account) : Type 0 where
  pub closed : IsClosed a
  pub few : length a.given ≤ 2
  pub stops : AllByRecursion (λ (l : Letter). IsStopCcn l.message) (drop 1 a.given)

-- the account of the partner of a tunnel that has learned its id
abbrev pub partner_in : Accounts → Account → Account
partner_in accs a = accs a.peer a.remote

-- it gave one letter and a StopCCN at most
abbrev pub GaveLittle : Account → Type 0
GaveLittle a = (length a.given ≤ 2) × AllByRecursion (λ (l : Letter). IsStopCcn l.message) (drop 1 a.given)

-- a tunnel that was opened: what it takes is of the acceptor that it learned; one that is lost gave its SCCRQ and a StopCCN at most, and
-- ignored two letters at most. One that was closed before it heeded a letter, lost or as it rejected its SCCRP, gave no more than that
pub record IsOpener (accs : Accounts) (n i : ℕ) (a : Account) : Type 0 where
  pub begins : BeginsWith i Sccrq a.given
  pub none : a.remote ≡ 0 → (a.taken ≡ []) ⊎ (IsLost a × (length a.taken ≤ 2))
  pub one_given : a.remote ≡ 0 → (length a.given ≡ 1) ⊎ (IsLost a × (length a.given ≤ 2))
  pub some : (a.remote ≡ 0 → ⊥) → 1 ≤ length a.taken
  pub part : (a.remote ≡ 0 → ⊥) → (partner_in accs a).part ≡ Acceptor
  pub peer : (a.remote ≡ 0 → ⊥) → (partner_in accs a).peer ≡ n
  pub remote : (a.remote ≡ 0 → ⊥) → (partner_in accs a).remote ≡ i
  pub joined : (a.remote ≡ 0 → ⊥) → AreJoined a (partner_in accs a)
  pub early : a.closed ≡ Some 0 → GaveLittle a

-- a tunnel that was accepted: as long as its opener hasn't learned it, it took the SCCRQ alone, and gave its SCCRP alone; but one that
-- is closed gave a StopCCN too, and the opener's StopCCN may come where the opener is lost
pub record IsAcceptor (accs : Accounts) (n i : ℕ) (a : Account) : Type 0 where
  pub begins : BeginsWith i Sccrp a.given
  pub known : a.remote ≡ 0 → ⊥
  pub some : 1 ≤ length a.taken
  pub part : (partner_in accs a).part ≡ Opener
  pub peer : (partner_in accs a).peer ≡ n
  pub one_taken : ((partner_in accs a).remote ≡ i → ⊥) → (length a.taken ≡ 1) ⊎ (IsLost (partner_in accs a) × (length a.taken ≤ 2))
  pub one_given : ((partner_in accs a).remote ≡ i → ⊥) → (length a.given ≡ 1) ⊎ HasStopped a

abbrev pub IsPart : Accounts → ℕ → ℕ → Account → Part → Type 0
IsPart accs n i a Unmade = a ≡ no_account
IsPart accs n i a Opener = IsOpener accs n i a
IsPart accs n i a Acceptor = IsAcceptor accs n i a

abbrev pub IsMade : Account → Type 0
IsMade a = a.part ≡ Unmade → ⊥

pub record AccountOk (accs : Accounts) (n i : ℕ) (a : Account) : Type 0 where
  pub part : IsPart accs n i a a.part
  pub some : IsMade a → 0 < i
  pub id : IsMade a → i < 65536
  pub node : IsMade a → n < 256
  pub peer : a.peer < 256
  pub remote : a.remote < 65536
  pub spelled : AllByRecursion IsSpelled a.given
  pub told : AllByRecursion (λ (l : Letter). TellsOwn i l.message) a.given
  pub taken : AreTaken accs a
  pub ignored : AreIgnored a

-- ---- live tunnels

-- the letter as a channel keeps it
abbrev pub kept_letter : Letter → wire.Letter
kept_letter l = letter_as l.session l.message l.hidden

-- an acceptor of the tunnel's SCCRQ took so many of its letters
pub record IsAnswered (accs : Accounts) (n i : ℕ) (a : Account) (acked : ℕ) : Type 0 where
  pub acceptor : ℕ
  pub part : (accs a.peer acceptor).part ≡ Acceptor
  pub peer : (accs a.peer acceptor).peer ≡ n
  pub remote : (accs a.peer acceptor).remote ≡ i
  pub enough : acked ≤ length (accs a.peer acceptor).taken

-- calls that wait for their tunnel
abbrev pub AllWait : List (ℕ × Call) → Type 0
AllWait calls = (s : ℕ) (c : Call) → at calls s ≡ Some c → c.state ≡ WaitTunnel

-- a closed tunnel has no calls
abbrev pub IsShut : Account → Tunnel → Type 0
IsShut a t = (state_number t.control.state ≡ 4) × IsClosed a × (t.calls ≡ [])

-- where a tunnel stands, by how it was made: it has learned its partner's id once it is open, and an acceptor is open only
-- where its opener has learned it
abbrev pub IsInState : Accounts → ℕ → Account → Tunnel → Part → Type 0
IsInState accs i a t Unmade = ⊥
IsInState accs i a t Opener =
    ((state_number t.control.state ≡ 1) × (a.remote ≡ 0) × IsOpen a × AllWait t.calls)
    ⊎ (((state_number t.control.state ≡ 3) × (a.remote ≡ 0 → ⊥) × IsOpen a) ⊎ IsShut a t)
IsInState accs i a t Acceptor =
    ((state_number t.control.state ≡ 2) × (t.calls ≡ []) × IsOpen a)
    ⊎ (((state_number t.control.state ≡ 3) × ((partner_in accs a).remote ≡ i) × IsOpen a) ⊎ IsShut a t)

-- what a tunnel counts as acknowledged was taken: by its partner, or, before it has learned one, by an acceptor of its SCCRQ; of an
-- acceptor that its opener hasn't learned nothing was, but where the opener is lost
abbrev pub AreAcked : Accounts → ℕ → ℕ → Account → ℕ → Part → Type 0
AreAcked accs n i a acked Unmade = ⊥
AreAcked accs n i a acked Opener =
    (a.remote ≡ 0 → (acked ≡ 0) ⊎ (IsAnswered accs n i a acked ⊎ ((acked ≡ 1) × (a.declined ≡ true))))
    × ((a.remote ≡ 0 → ⊥) → acked ≤ length (partner_in accs a).taken)
AreAcked accs n i a acked Acceptor =
    (((partner_in accs a).remote ≡ i → ⊥) → (acked ≡ 0) ⊎ IsLost (partner_in accs a))
    × ((partner_in accs a).remote ≡ i → acked ≤ length (partner_in accs a).taken)

-- a live tunnel and its channel are as what was done in it says
pub record LiveOk (accs : Accounts) (n i : ℕ) (a : Account) (t : Tunnel) : Type 0 where
  pub local : t.control.local ≡ i
  pub peer : t.control.peer ≡ address_of a.peer
  pub remote : t.control.remote ≡ a.remote
  pub state : IsInState accs i a t a.part
  -- the letters from the first that isn't acknowledged on
  pub letters : t.letters ≡ map kept_letter (drop t.control.channel.window.acked a.given)
  pub counted : t.control.channel.window.acked + t.control.channel.window.queued ≡ length a.given
  pub few : t.control.channel.window.queued ≤ 8192
  pub outstanding : t.control.channel.window.outstanding ≤ t.control.channel.window.queued
  pub taken : t.control.channel.inbox.taken ≡ length a.taken
  pub acked : AreAcked accs n i a t.control.channel.window.acked a.part
  -- ids of calls that the other end gave
  pub calls : (s : ℕ) (c : Call) → at t.calls s ≡ Some c → c.remote < 65536
  -- no session stands twice
  pub order : Ascends t.calls
  -- nobody recovers it, and it asks for no session
  pub recovery : t.recovery ≡ None
  pub query : t.query ≡ no_query

-- ---- ends

pub record EndOk (accs : Accounts) (n : ℕ) (e : End) : Type 0 where
  pub node : n < 256
  pub number : e.config.number ≡ n
  pub lns : e.role ≡ Lac → (m : ℕ) × (m < 256) × (e.config.lns ≡ address_of m)
  pub first : 0 < e.tunnel_ids.next
  pub last : e.tunnel_ids.last < 65536
  pub first_session : 0 < e.session_ids.next
  pub last_session : e.session_ids.last < 65536
  -- no id stands twice
  pub order : Ascends e.tunnels
  -- ids that are used were drawn
  pub drawn : (i : ℕ) → IsMade (accs n i) → i < e.tunnel_ids.next
  pub live : (i : ℕ) (t : Tunnel) → at e.tunnels i ≡ Some t → LiveOk accs n i (accs n i) t
  -- a tunnel of another node is the partner of one tunnel at most
  pub apart : (i j : ℕ) (t u : Tunnel) → at e.tunnels i ≡ Some t → at e.tunnels j ≡ Some u → t.control.peer ≡ u.control.peer
      → t.control.remote ≡ u.control.remote → (t.control.remote ≡ 0 → ⊥) → i ≡ j

-- ---- packets

-- the bytes of a control message: of the letter at its number, or of none
pub data Says (a : Account) (o : ControlOrigin) (tunnel : ℕ) (bytes : List ℕ) : Type 0 where
  ALetter : (l : Letter) → o.empty ≡ false → slice_get a.given o.ns ≡ Some l
      → bytes ≡ control_bytes tunnel l.session (on_wire o.ns) (on_wire o.nr) (kept_letter l).avps → Says a o tunnel bytes
  Nothing : o.empty ≡ true → bytes ≡ control_bytes tunnel 0 (on_wire o.ns) (on_wire o.nr) [] → Says a o tunnel bytes

-- a control message is a copy of a letter, with its number, or of none; it tells no more taken than was; it goes to the node
-- of its sender's peer, and names the tunnel that the sender has learned, or none: then it tells nothing taken, and is the first letter,
-- but where the sender is lost
pub record IsCopy (a : Account) (p : Packet) (o : ControlOrigin) : Type 0 where
  pub made : IsMade a
  pub to : p.to ≡ a.peer
  pub nr : o.nr ≤ length a.taken
  pub tunnel : ℕ
  pub named : ((tunnel ≡ 0) × (a.part ≡ Opener) × (IsLost a ⊎ ((o.nr ≡ 0) × (o.empty ≡ false → o.ns ≡ 0))))
      ⊎ ((tunnel ≡ 0 → ⊥) × (tunnel ≡ a.remote))
  pub says : Says a o tunnel p.bytes

-- a StopCCN of no tunnel declines the SCCRQ of a tunnel of the node that it goes to
pub record IsRefusal (accs : Accounts) (p : Packet) (o : ControlOrigin) : Type 0 where
  pub none : o.tunnel ≡ 0
  pub ns : o.ns ≡ 0
  pub nr : o.nr ≡ 1
  pub some : o.empty ≡ false
  pub tunnel : ℕ
  pub opener : (accs p.to tunnel).part ≡ Opener
  pub peer : (accs p.to tunnel).peer ≡ p.from
  pub declined : (accs p.to tunnel).declined ≡ true
  pub result : ℕ
  pub error : Option ℕ
  pub fit : CodesFit result error
  pub are : p.bytes ≡ control_bytes tunnel 0 0 1 (spelling (pairs_of (StopCcn 0 result error)))

-- a data message is one: nothing more is said of it here
pub record IsData (bytes : List ℕ) : Type 0 where
  pub tunnel : ℕ
  pub tunnel_fits : tunnel < 65536
  pub session : ℕ
  pub session_fits : session < 65536
  pub number : Option ℕ
  pub number_fits : FitsWord number
  pub frame : List ℕ
  pub are : bytes ≡ data_bytes tunnel session number frame

abbrev pub OriginOk : Accounts → Packet → Origin → Type 0
OriginOk accs p (origin.Control o) = IsCopy (accs p.from o.tunnel) p o ⊎ IsRefusal accs p o
OriginOk accs p (origin.Data session) = IsData p.bytes
-- none is of a recovery
OriginOk accs p (origin.Recovery tunnel number empty) = ⊥

pub record PacketOk (accs : Accounts) (p : Packet) : Type 0 where
  pub from : p.from < 256
  -- no tunnel enters a second epoch
  pub epoch : p.epoch ≡ 0
  pub sent : OriginOk accs p p.origin

-- ---- what comes in a step

-- the numbers of a control message haven't outlived half the numbers, as each live tunnel counts that it is for; what the
-- step has taken and read of it counts
pub record IsNear (a : Account) (t : Tunnel) (o : ControlOrigin) : Type 0 where
  pub taken : length a.taken ≤ o.ns + 32768
  pub acked : t.control.channel.window.acked ≤ o.nr + 32767

abbrev pub AreNear : Accounts → ℕ → End → Packet → List ℕ → Origin → Type 0
AreNear accs n e p bytes (origin.Control o) =
    (i : ℕ) (t : Tunnel) (h : Header) → at e.tunnels i ≡ Some t → t.control.peer ≡ address_of p.from → header_of bytes ≡ Ok h
    → IsFor h (body_of bytes h) t.control → IsNear (accs n i) t o
AreNear accs n e p bytes (origin.Data session) = Unit {0}
AreNear accs n e p bytes (origin.Recovery tunnel number empty) = Unit {0}

-- the datagram of a step is a packet, as the end reads it with some secret, or with none
pub record IsPacket (accs : Accounts) (n : ℕ) (e : End) (sender : Option Sender) (peer : ℕ) (bytes : List ℕ) : Type 0 where
  pub packet : Packet
  pub ok : PacketOk accs packet
  pub to : packet.to ≡ n
  pub peer_is : peer ≡ address_of packet.from
  pub secret : Option (List ℕ)
  pub bytes_are : bytes ≡ uncovered_datagram secret packet.bytes
  pub sender_is : sender ≡ sender_of packet.from packet.origin
  pub near : AreNear accs n e packet bytes packet.origin

abbrev pub Comes : Accounts → ℕ → End → Option Sender → Event → Type 0
Comes accs n e sender (Datagram peer bytes) = IsPacket accs n e sender peer bytes
Comes accs n e sender (Ring port) = Unit {0}
Comes accs n e sender (Frame bytes) = Unit {0}
Comes accs n e sender (Admitted mac) = Unit {0}
Comes accs n e sender (Payload s frame) = Unit {0}
Comes accs n e sender (Lower s frame) = Unit {0}
Comes accs n e sender (Lcp s packet) = Unit {0}
Comes accs n e sender (Hang s) = Unit {0}
Comes accs n e sender OpenTunnel = Unit {0}
Comes accs n e sender (DropCall s) = Unit {0}
Comes accs n e sender (CloseTunnel i) = Unit {0}
Comes accs n e sender Tick = Unit {0}

-- what holds between two moves of a step of a node's end
pub record Within (accs : Accounts) (n : ℕ) (e : End) (sender : Option Sender) (ev : Event) : Type 0 where
  pub accounts : (m j : ℕ) → AccountOk accs m j (accs m j)
  pub end : EndOk accs n e
  pub comes : Comes accs n e sender ev

-- ---- the world

-- of a node that isn't declared nothing is known
abbrev pub NodeOk : Accounts → ℕ → Option Node → Type 0
NodeOk accs n None = (i : ℕ) → accs n i ≡ no_account
NodeOk accs n (Some node) = EndOk accs n node.end × AreKept node.end

pub record Holds (w : World) (accs : Accounts) : Type 0 where
  pub accounts : (n i : ℕ) → AccountOk accs n i (accs n i)
  pub nodes : (n : ℕ) → NodeOk accs n (at w.nodes n)
  pub packets : AllByRecursion (PacketOk accs) w.packets
  -- no tunnel enters a second epoch, or loses its channel
  pub standings : (n i : ℕ) → standing_of w n i ≡ no_standing
