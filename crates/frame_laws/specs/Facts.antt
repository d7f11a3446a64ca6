-- What holds of a world after each line, whatever crashes: what births there are, what packets may say, what ends know, and what their
-- books have. Where no line crashes a node, stops one or starts one, nothing is recovered, and no session is asked for: that is said
-- beside it, of a world that is `calm`.
use Rattle.std.proofs.Common.{◌≡◌, ◌⊎◌, ℕ, ◌<◌, ◌≤◌, ◌^◌, Bool, true, false, List, Option, Some, None, Ok}
use Rattle.std.specs.List.{AllByRecursion}
use Rattle.id_table.specs.Ids.{at}
use Rattle.id_table.specs.Order.{Ascends}
use Rattle.wire_base.specs.declared.letter.Letter.{Letter}
use Rattle.wire_base.specs.declared.pair.Pair.{Pair}
use Rattle.l2tp_header.specs.declared.header.Header.{Header}
use Rattle.l2tp_header.specs.Reading.{header_of, body_of}
use Rattle.control_message.specs.Pairs as codec
use Rattle.control_message.specs.declared.message.Message.{Message}
use Rattle.control_message.specs.declared.message.Message.TheVariants.{Sccrq, Sccrp, Scccn, StopCcn, Hello, Ocrq, Ocrp, Occn, Icrq, Icrp, Iccn, Cdn, Wen, Sli, Fsq, Fsr}
use Rattle.end_model.specs.declared.tunnel.Call.{Call}
use Rattle.end_names.specs.declared.role.Role.{Role}
use Rattle.end_names.specs.declared.role.Role.TheVariants.{Lac, Lns}
use Rattle.world_model.specs.declared.packet.Packet.{Packet}
use Rattle.end_names.specs.Names.{node_of}
use Rattle.end_model.specs.Tunnels.{Tunnel, no_query, Recovering, ByAttempt, ByAnswer, connection_of}
use Rattle.end_model.specs.declared.event.Addressee.TheVariants.{Opens, Answers}
use Rattle.end_model.specs.Secrets.{uncovered_datagram}
use Rattle.end_model.specs.Channels.{letter_as}
use Rattle.end_model.specs.Reading.{message_in, CallFault, call_fault_in, TunnelFault, tunnel_fault_in, at_zero}
use Rattle.session_looks.specs.Frames.{frame_of}
use Rattle.end_model.specs.Calls.{is_up}
use Rattle.end_model.specs.End.{End}
use Rattle.step_laws.specs.Calm.{AreCalm}
use Rattle.step_laws.specs.Letters.{Among}
use Rattle.step_laws.specs.Looks.{LooksAreTrue, LooksStayTrue, LooksBeginTrue}
use Rattle.step_laws.specs.Steps.{AreKept, StepsAreChains, StepsAreNoStarts}
use Rattle.step_laws.specs.Ups.{UpsAreMoves}
use Rattle.step_laws.specs.Starts.{StartsAreChains, StartsAreOfBooks}
use Rattle.book_laws.specs.Books.{StepsAreBooked, NewEndsAreBooked}
use Rattle.book_laws.specs.Starts.{StartsAreBooked, StartsSendOnly}
use Rattle.session_book.specs.declared.record.BookTunnel.{BookTunnel}
use Rattle.session_book.specs.declared.record.BookCall.{BookCall}
use Rattle.session_book.specs.Books.{Kept}
use Rattle.schedule_text.specs.declared.line.Line.{Line}
use Rattle.schedule_text.specs.Grammar.{AreLines}
use Rattle.world_model.specs.declared.held.Held.{Held}
use Rattle.world_model.specs.World.{World, Node, held_at}
use Rattle.world_model.specs.Run.{run}
use Rattle.frame_laws.specs.Past.{Passage, past_of}
use Rattle.frame_laws.specs.Plain.{HidesOk}
use Rattle.frame_laws.specs.Frames.{other_end}
use Rattle.frame_laws.specs.Written.{IsWritten}

abbrev pub Nodes : Type 0
Nodes = List (ℕ × Node)

-- ---- births and roles

abbrev pub birth_in_node : Option Node → ℕ → Option ℕ
birth_in_node None s = None
birth_in_node (Some node) s = at node.births s

-- the node's session has this birth
abbrev pub Born : Nodes → ℕ → ℕ → ℕ → Type 0
Born ns n s b = birth_in_node (at ns n) s ≡ Some b

abbrev pub role_in_node : Option Node → Option Role
role_in_node None = None
role_in_node (Some node) = Some node.end.role

abbrev pub Plays : Nodes → ℕ → Role → Type 0
Plays ns n r = role_in_node (at ns n) ≡ Some r

-- births and roles stay
pub record Grows (ns ms : Nodes) : Type 0 where
  pub births : (n s b : ℕ) → Born ns n s b → Born ms n s b
  pub roles : (n : ℕ) (r : Role) → Plays ns n r → Plays ms n r

-- two sessions are of one birth, and of the two ends
pub record Mates (ns : Nodes) (n s m a : ℕ) : Type 0 where
  pub birth : ℕ
  pub some : 0 < birth
  pub here : Born ns n s birth
  pub there : Born ns m a birth
  pub role : Role
  pub mine : Plays ns n role
  pub its : Plays ns m (other_end role)

-- ---- packets

-- the session that a message names is that of its call: a request names a session of its LAC, a reply a session that is the
-- mate of the one that its header names, and a notice that a call ends, or can't be had, names none, or a session of its sender,
-- which is the mate of the one that its header names, if that names one
abbrev pub NamesItsCall : Nodes → ℕ → ℕ → ℕ → Message → Type 0
NamesItsCall ns from to session (Icrq own serial calling) = ((b : ℕ) × (0 < b) × Born ns from own b) × Plays ns from Lac
NamesItsCall ns from to session (Icrp own) = Mates ns from own to session
NamesItsCall ns from to session (Cdn own code error) =
    (own ≡ 0) ⊎ (((b : ℕ) × (0 < b) × Born ns from own b) × ((session ≡ 0) ⊎ Mates ns from own to session))
NamesItsCall ns from to session (Sccrq o) = Unit {0}
NamesItsCall ns from to session (Sccrp o) = Unit {0}
NamesItsCall ns from to session (Scccn response) = Unit {0}
NamesItsCall ns from to session (StopCcn tunnel code error) = Unit {0}
NamesItsCall ns from to session Hello = Unit {0}
NamesItsCall ns from to session (Ocrq own) = Unit {0}
NamesItsCall ns from to session Ocrp = Unit {0}
NamesItsCall ns from to session Occn = Unit {0}
NamesItsCall ns from to session Wen = Unit {0}
NamesItsCall ns from to session Sli = Unit {0}
NamesItsCall ns from to session (Fsq sessions) = Unit {0}
NamesItsCall ns from to session (Fsr sessions) = Unit {0}
NamesItsCall ns from to session (Iccn speed framing sequenced) = Unit {0}

-- the frame was sent in the birth of the session that it is for, by its other end
pub record WasSentInCall (ns : Nodes) (gs : List Passage) (from to session : ℕ) (frame : List ℕ) : Type 0 where
  pub passage : Passage
  pub there : Among passage gs
  pub frame_is : frame ≡ passage.frame
  pub birth : Born ns to session passage.birth
  pub some : 0 < passage.birth
  pub role : Plays ns to (other_end passage.role)
  pub from_is : passage.node ≡ from
  pub to_is : passage.peer ≡ to

-- what reading bytes may give
pub record ReadOk (calm : Bool) (ns : Nodes) (gs : List Passage) (from to : ℕ) (bytes : List ℕ) : Type 0 where
  pub frames : (h : Header) → header_of bytes ≡ Ok h → h.control ≡ false
      → WasSentInCall ns gs from to h.session (frame_of (body_of bytes h))
  pub letters : (h : Header) → header_of bytes ≡ Ok h → h.control ≡ true → (m : Message) → message_in (body_of bytes h) ≡ Ok m
      → codec.IsWritten m × NamesItsCall ns from to h.session m
  -- where nothing is recovered it tells of no recovery, and is no query of sessions
  pub plainly : calm ≡ true → (h : Header) → header_of bytes ≡ Ok h → h.control ≡ true → (m : Message)
      → message_in (body_of bytes h) ≡ Ok m → IsWritten m
  -- a message about a call that has a fault tells a session id of 16 bits
  pub faulty : (h : Header) → header_of bytes ≡ Ok h → h.control ≡ true → (f : CallFault) → call_fault_in (body_of bytes h) ≡ Some f
      → (own : ℕ) × (f.session ≡ Some own) × (own < 65536)
  -- one that has another fault tells no tunnel id of more than 16 bits
  pub told : (h : Header) → header_of bytes ≡ Ok h → h.control ≡ true → (g : TunnelFault) → tunnel_fault_in (body_of bytes h) ≡ Some g
      → g.remote < 65536
  -- nor does one that would open a tunnel, or answer an opening, where it comes to none
  pub zero : (h : Header) → header_of bytes ≡ Ok h → h.control ≡ true → (i : ℕ)
      → (at_zero (body_of bytes h) ≡ Opens i) ⊎ (at_zero (body_of bytes h) ≡ Answers i) → i < 65536

-- so it is with the bytes of a packet, whatever secret they are read with
abbrev pub BytesOk : Bool → Nodes → List Passage → ℕ → ℕ → List ℕ → Type 0
BytesOk calm ns gs from to bytes = (secret : Option (List ℕ)) → ReadOk calm ns gs from to (uncovered_datagram secret bytes)

pub record PacketOk (calm : Bool) (ns : Nodes) (gs : List Passage) (p : Packet) : Type 0 where
  pub from : p.from < 256
  pub bytes : BytesOk calm ns gs p.from p.to p.bytes

-- ---- ends

-- an end knows which session of the other end is the mate of its call: an LNS at once, a LAC when the call is up
abbrev pub KnowsItsMate : Role → Call → Type 0
KnowsItsMate role c = (role ≡ Lns) ⊎ (is_up c.state ≡ true)

pub record CallOk (ns : Nodes) (n : ℕ) (role : Role) (bound peer s : ℕ) (c : Call) : Type 0 where
  pub drawn : s < bound
  pub birth : ℕ
  pub some : 0 < birth
  pub born : Born ns n s birth
  -- the session that it knows of the other end, if it knows one, is its mate
  pub remote : c.remote < 65536
  pub known : (c.remote ≡ 0) ⊎ Mates ns n s (node_of peer) c.remote
  pub mate : KnowsItsMate role c → Mates ns n s (node_of peer) c.remote
  -- a LAC's call has no link
  pub link : role ≡ Lac → c.link ≡ None

abbrev pub CallsOk : Nodes → ℕ → Role → ℕ → ℕ → List (ℕ × Call) → Type 0
CallsOk ns n role bound peer calls = (s : ℕ) (c : Call) → at calls s ≡ Some c → CallOk ns n role bound peer s c

-- a letter that a tunnel to a peer keeps spells a message that is written, plainly or with its number hidden, and that names its call
pub record LetterOk (calm : Bool) (ns : Nodes) (n peer : ℕ) (l : Letter) : Type 0 where
  pub message : Message
  pub hidden : Option (List ℕ)
  pub hides : HidesOk message hidden
  pub spelt : l.avps ≡ (letter_as l.session message hidden).avps
  pub session : l.session < 65536
  pub written : codec.IsWritten message
  pub plainly : calm ≡ true → IsWritten message
  pub names : NamesItsCall ns n (node_of peer) l.session message

abbrev pub LettersOk : Bool → Nodes → ℕ → ℕ → List Letter → Type 0
LettersOk calm ns n peer letters = AllByRecursion (LetterOk calm ns n peer) letters

-- the numbers that an answer to an attempt suggests have 16 bits
abbrev pub SuggestsOk : Recovering → Type 0
SuggestsOk (ByAttempt c) = Unit {0}
SuggestsOk (ByAnswer a) = (a.suggested.ns < 65536) × (a.suggested.nr < 65536)

-- what a recovery tunnel says may be read
pub record RecoveryOk (r : Recovering) : Type 0 where
  pub some : 0 < (connection_of r).local
  pub local : (connection_of r).local < 65536
  pub remote : (connection_of r).remote < 65536
  pub draw : (connection_of r).draw < 2 ^ 32
  pub suggests : SuggestsOk r

-- the ids of a session that is asked for have 16 bits
abbrev pub FitsPair : Pair → Type 0
FitsPair p = (p.sender < 65536) × (p.receiver < 65536)

pub record TunnelOk (calm : Bool) (ns : Nodes) (n : ℕ) (e : End) (i : ℕ) (t : Tunnel) : Type 0 where
  pub local : t.control.local ≡ i
  pub drawn : i < e.tunnel_ids.next
  pub remote : t.control.remote < 65536
  pub letters : LettersOk calm ns n t.control.peer t.letters
  pub calls : CallsOk ns n e.role e.session_ids.next t.control.peer t.calls
  pub order : Ascends t.calls
  pub line : (r : Recovering) → t.recovery ≡ Some r → RecoveryOk r
  pub asked : AllByRecursion FitsPair t.query.pairs
  -- where nothing is recovered, nobody recovers it, and it asks for no session
  pub recovery : calm ≡ true → t.recovery ≡ None
  pub query : calm ≡ true → t.query ≡ no_query

pub record EndOk (calm : Bool) (ns : Nodes) (n : ℕ) (e : End) : Type 0 where
  pub number : e.config.number < 256
  pub first : 0 < e.tunnel_ids.next
  pub last : e.tunnel_ids.last < 65536
  pub most_tunnels : e.tunnel_ids.next ≤ 65536
  pub first_session : 0 < e.session_ids.next
  pub last_session : e.session_ids.last < 65536
  pub most : e.session_ids.next ≤ 65536
  pub last_draw : e.recovery_ids.last < 2 ^ 32
  pub tunnels : (i : ℕ) (t : Tunnel) → at e.tunnels i ≡ Some t → TunnelOk calm ns n e i t
  pub order : Ascends e.tunnels

-- ---- books

-- what a book has of a call, in one of its tunnels, which goes to a peer: the session of the other end is its mate
pub record CallBooked (ns : Nodes) (n peer : ℕ) (c : BookCall) : Type 0 where
  pub remote : c.remote < 65536
  pub mate : Mates ns n c.local (node_of peer) c.remote

-- so it is of each call in each of the tunnels that is its own
abbrev pub BooksCall : Nodes → ℕ → List BookTunnel → BookCall → Type 0
BooksCall ns n ts c = AllByRecursion (λ (b : BookTunnel). b.local ≡ c.tunnel → CallBooked ns n b.peer c) ts

pub record BookOk (ns : Nodes) (n : ℕ) (k : Kept) : Type 0 where
  pub tunnels : AllByRecursion (λ (b : BookTunnel). b.remote < 65536) k.tunnels
  pub calls : AllByRecursion (BooksCall ns n k.tunnels) k.calls

-- ---- nodes

-- a node that is down is an end without tunnels, and its book is all that is left
pub record NodeOk (calm : Bool) (ns : Nodes) (n : ℕ) (node : Node) : Type 0 where
  pub number : n < 256
  pub kept : AreKept node.end
  pub looks : LooksAreTrue node.end
  pub end : EndOk calm ns n node.end
  pub book : BookOk ns n node.checkpoint.book
  pub births : (s b : ℕ) → at node.births s ≡ Some b → (s < node.end.session_ids.next) × (0 < b)

-- ---- the world

pub record Holds (calm : Bool) (w : World) (gs : List Passage) : Type 0 where
  pub nodes : (n : ℕ) (node : Node) → at w.nodes n ≡ Some node → NodeOk calm w.nodes n node
  pub packets : AllByRecursion (PacketOk calm w.nodes gs) w.packets

-- a frame that is held at a node was sent in the call for which it is held, by its other end
pub record HeldOk (ns : Nodes) (gs : List Passage) (n : ℕ) (f : Held) : Type 0 where
  pub passage : Passage
  pub there : Among passage gs
  pub frame_is : f.frame ≡ passage.frame
  pub birth_is : f.birth ≡ passage.birth
  pub some : 0 < passage.birth
  -- the session for which it is held has that birth, whatever became of the call
  pub born : Born ns n f.session f.birth
  pub role : Plays ns n (other_end passage.role)
  pub from_is : passage.node ≡ node_of f.peer
  pub to_is : passage.peer ≡ n

pub record HeldIsSent (w : World) (gs : List Passage) : Type 0 where
  pub sent : (n number : ℕ) (f : Held) → at (held_at w n) number ≡ Some f → HeldOk w.nodes gs n f
  pub order : (n : ℕ) → Ascends (held_at w n)
  pub nodes : Ascends w.held

-- what is used of steps, of starts, and of books
pub record StepLaws : Type 0 where
  pub chains : StepsAreChains
  pub looks : LooksStayTrue
  pub ups : UpsAreMoves
  pub begin : LooksBeginTrue
  pub starts : StepsAreNoStarts
  pub start_chains : StartsAreChains
  pub start_moves : StartsAreOfBooks
  pub booked : StepsAreBooked
  pub start_booked : StartsAreBooked
  pub start_sends : StartsSendOnly
  pub new_booked : NewEndsAreBooked

-- after the run of each list of lines of the grammar what the data plane of each node sees is so
abbrev pub LooksOfRuns : Type 0
LooksOfRuns = (lines : List Line) → AreLines lines → (n : ℕ) (node : Node) → at (run lines).world.nodes n ≡ Some node
    → LooksAreTrue node.end

-- and so is each frame that is held
abbrev pub HeldOfRuns : Type 0
HeldOfRuns = (lines : List Line) → AreLines lines → HeldIsSent (run lines).world (past_of lines).sent

-- all of it
abbrev pub FactsOfRuns : Type 0
FactsOfRuns = (lines : List Line) → AreLines lines → Holds false (run lines).world (past_of lines).sent

-- and what is so beside it where no node crashes, is to stop, or starts
abbrev pub CalmFactsOfRuns : Type 0
CalmFactsOfRuns = (lines : List Line) → AreLines lines → AreCalm lines → Holds true (run lines).world (past_of lines).sent
