-- The world: nodes, and every packet that was ever sent.
use Rattle.std.specs.Prelude.{ℕ, ◌+◌, ◌-◌, ◌^◌, ◌==◌, min, List, [], ◌∷◌, ◌++◌, map, length, take, Bool, true, false, nat_lt, nat_le, if◌then◌else◌, slice_get, Option, Some, None, is_some, unwrap_or, Result, Ok, Err}
use Rattle.byteorder.specs.Endian.{big_bytes}
use Rattle.id_table.specs.Ids.{at, put, without, ids_of}
use Rattle.wire_base.specs.declared.letter.Side.{Side}
use Rattle.wire_base.specs.declared.letter.Side.TheVariants as side
use Rattle.wire_base.specs.declared.why.Why.{Why}
use Rattle.wire_base.specs.declared.why.Why.TheVariants as why
use Rattle.l2tp_header.specs.declared.header.Header.{Header}
use Rattle.l2tp_header.specs.declared.header.HeaderError.{HeaderError}
use Rattle.l2tp_header.specs.Reading.{header_of, body_of}
use Rattle.session_looks.specs.Frames.{Carried, Upward, Dropped, carry_look, frame_of, header_why}
use Rattle.schedule_text.specs.declared.line.Line.{Line}
use Rattle.schedule_text.specs.declared.line.Line.TheVariants.{Remark, Lac, Lns, OpenUp, Close, Ring, Frame, FromSub, Down, Hang, DropCall, Deliver, Load, Hand, Tick, Crash, Stop, Start}
use Rattle.session_book.specs.declared.record.Record.{Record}
use Rattle.session_book.specs.Books.{Kept, nothing_kept, fits, stepped as with_record}
use Rattle.end_model.specs.declared.tunnel.Config.{Config}
use Rattle.end_model.specs.declared.tunnel.Control.{Control}
use Rattle.end_names.specs.declared.role.Role.{Role}
use Rattle.end_names.specs.declared.role.Role.TheVariants as role
use Rattle.end_model.specs.declared.event.Event.{Event}
use Rattle.end_model.specs.declared.event.Event.TheVariants as event
use Rattle.end_model.specs.declared.out.Out.{Out}
use Rattle.end_model.specs.declared.out.Out.TheVariants.{Send, Up, Gone, Drop, Cause}
use Rattle.end_model.specs.declared.out.Origin.{Origin}
use Rattle.end_model.specs.declared.out.ControlOrigin.{ControlOrigin}
use Rattle.end_model.specs.declared.out.Origin.TheVariants as origin
use Rattle.end_model.specs.declared.moves.Move.{Move}
use Rattle.end_model.specs.declared.moves.Move.TheVariants as move
use Rattle.world_model.specs.declared.held.Held.{Held}
use Rattle.world_model.specs.declared.packet.Packet.{Packet}
use Rattle.world_model.specs.declared.stop.StopAt.{StopAt}
use Rattle.world_model.specs.declared.standing.Counts.{Counts}
use Rattle.world_model.specs.declared.standing.Standing.{Standing}
use Rattle.world_model.specs.declared.refusal.Refusal.{Refusal}
use Rattle.world_model.specs.declared.refusal.Refusal.TheVariants.{Unfit, HalfSpace, Stale, StoreFull}
use Rattle.end_names.specs.Names.{address_of, node_of}
use Rattle.end_model.specs.Calls.{is_lac}
use Rattle.end_model.specs.Tunnels.{Tunnel}
use Rattle.end_model.specs.End.{End, Stepped, reached, step, new_config, new_end, is_not_closed, look_in}
use Rattle.end_model.specs.Contents.{contents_of}
use Rattle.end_model.specs.Starting.{bare_end, starts, access_over}
use Rattle.world_model.specs.Texts.{Entry, Sends, HandsUp, Holds, Ends, Frames, Drops, Causes, Stopped}
use Rattle.end_model.specs.Access.{Access, access_with, Coming, Ignores, Answers, Runs, Enters, coming, pads_of, entered, farewell}
use Rattle.wire_base.specs.declared.cause.Cause.{Cause as Because}
use Rattle.pppoe_discovery.specs.declared.outcome.Discovered.{Discovered}

-- what of a node outlives a crash: how many records its end committed, and the book that they make; and the stop that is armed
pub record Checkpoint : Type 0 where
  pub records : ℕ
  pub book : Kept
  pub stop : Option StopAt

abbrev pub new_checkpoint : Checkpoint
new_checkpoint = record { records = 0; book = nothing_kept; stop = None }

-- that of a tunnel of which nothing was counted yet
abbrev pub no_standing : Standing
no_standing = record { epoch = 0; made = 0; lost = None }

-- An end, and whether it is up: one that is down has no tunnel. With it its clock, in milliseconds, the births of its calls by local
-- session id, where it is a LAC what it keeps of hosts, and its checkpoint.
pub record Node : Type 0 where
  pub end : End
  pub up : Bool
  pub clock : ℕ
  pub births : List (ℕ × ℕ)
  pub access : Option Access
  pub checkpoint : Checkpoint
  -- by the local ids of tunnels
  pub standings : List (ℕ × Standing)
  -- the epoch that each answer to an attempt makes, by the answer's local id
  pub answers : List (ℕ × ℕ)

pub record World : Type 0 where
  -- by node number
  pub nodes : List (ℕ × Node)
  -- each packet that was ever sent, in order; the first one is packet 1
  pub packets : List Packet
  -- how many calls were born
  pub born : ℕ
  -- the frames that are held, by node number and by their own numbers
  pub held : List (ℕ × List (ℕ × Held))
  -- how many frames were held so far, at all nodes
  pub loads : ℕ

abbrev pub empty_world : World
empty_world = record { nodes = []; packets = []; born = 0; held = []; loads = 0 }

-- the tunnel that sent what a step took, by its node and its local id
pub record Sender : Type 0 where
  pub node : ℕ
  pub tunnel : ℕ

-- what was done in a line: a move of a node
pub record Deed : Type 0 where
  pub line : ℕ
  pub node : ℕ
  pub role : Role
  -- of the packet that was delivered, where a tunnel sent it
  pub sender : Option Sender
  -- the birth of the call that the move is about, as the line leaves it; 0 where it is about none
  pub birth : ℕ
  -- the epoch of the tunnel that the move is about, as the line leaves it; 0 where it is about none
  pub epoch : ℕ
  pub move : Move

-- what a line leads to: the next world, the entries of the report that it makes, what was done, in order, and whether its step was cut
-- off by a stop, so that nothing was done
pub record Lined : Type 0 where
  pub world : World
  pub entries : List Entry
  pub done : List Deed
  pub cut : Bool

-- a line in which nothing is done
abbrev pub quiet_line : World → Lined
quiet_line w = record { world = w; entries = []; done = []; cut = false }

abbrev pub count_at : List (ℕ × ℕ) → ℕ → ℕ
count_at counts n = unwrap_or (at counts n) 0

-- ---- births

-- births are numbered from 1, in the order in which LACs draw the session ids
abbrev pub birth_in : Option Node → ℕ → ℕ
birth_in None session = 0
birth_in (Some node) session = count_at node.births session

unfoldable pub birth_of : World → ℕ → ℕ → ℕ
birth_of w n session = birth_in (at w.nodes n) session

abbrev pub with_node : World → ℕ → Node → World
with_node w n node = record w { nodes = put w.nodes n node }

abbrev pub with_birth_at : World → ℕ → ℕ → ℕ → Option Node → World
with_birth_at w n session birth None = w
with_birth_at w n session birth (Some node) = with_node w n (record node { births = put node.births session birth })

unfoldable pub with_birth : World → ℕ → ℕ → ℕ → World
with_birth w n session birth = with_birth_at w n session birth (at w.nodes n)

-- one more birth, up to the last number of 64 bits
unfoldable pub is_born : World → ℕ → ℕ → World
is_born w n session = let birth = min (w.born + 1) (2 ^ 64 - 1) in with_birth (record w { born = birth }) n session birth

-- ---- epochs

abbrev pub standing_in : Option Node → ℕ → Standing
standing_in None i = no_standing
standing_in (Some node) i = unwrap_or (at node.standings i) no_standing

unfoldable pub standing_of : World → ℕ → ℕ → Standing
standing_of w n i = standing_in (at w.nodes n) i

abbrev pub epoch_of : World → ℕ → ℕ → ℕ
epoch_of w n i = (standing_of w n i).epoch

abbrev pub with_standing_at : World → ℕ → ℕ → Standing → Option Node → World
with_standing_at w n i x None = w
with_standing_at w n i x (Some node) = with_node w n (record node { standings = put node.standings i x })

unfoldable pub with_standing : World → ℕ → ℕ → Standing → World
with_standing w n i x = with_standing_at w n i x (at w.nodes n)

abbrev pub with_answer_at : World → ℕ → ℕ → ℕ → Option Node → World
with_answer_at w n answer epoch None = w
with_answer_at w n answer epoch (Some node) = with_node w n (record node { answers = put node.answers answer epoch })

abbrev pub answer_in : Option Node → ℕ → ℕ
answer_in None answer = 0
answer_in (Some node) answer = count_at node.answers answer

abbrev pub has_made : World → ℕ → ℕ → ℕ → World
has_made w n i epoch = with_standing w n i (record (standing_of w n i) { made = epoch })

-- an answer at a node makes the next epoch of the two tunnels, up to the last number of 64 bits
unfoldable pub makes_epoch : World → ℕ → ℕ → ℕ → ℕ → ℕ → World
makes_epoch w n i m j answer =
    let epoch = min ((standing_of w n i).made + 1) (2 ^ 64 - 1) in
    let v = has_made (has_made w n i epoch) m j epoch in
    with_answer_at v n answer epoch (at v.nodes n)

-- a tunnel enters an epoch: its channel is the one that counts
unfoldable pub enters_epoch : World → ℕ → ℕ → ℕ → World
enters_epoch w n i epoch = with_standing w n i (record (standing_of w n i) { epoch = epoch; lost = None })

-- a call that is added is born; one that is made for a request has the birth of the call that the request names
unfoldable pub moved : ℕ → World → Move → World
moved n w (move.Added m) = is_born w n m.session
moved n w (move.Replied m) = with_birth w n m.session (birth_of w (node_of m.peer) m.remote)
moved n w (move.Froze m) = makes_epoch w n m.tunnel (node_of m.peer) m.remote m.answer
moved n w (move.ResetAttempting m) = enters_epoch w n m.tunnel (answer_in (at w.nodes (node_of m.peer)) m.answer)
moved n w (move.ResetAnswering m) = enters_epoch w n m.tunnel (answer_in (at w.nodes n) m.answer)
moved n w m = w

unfoldable pub moved_all : ℕ → List Move → World → World
moved_all n [] w = w
moved_all n (m ∷ ms) w = moved_all n ms (moved n w m)

-- the session of the call that a move is about
abbrev pub session_of : Move → Option ℕ
session_of (move.Added m) = Some m.session
session_of (move.Requested m) = Some m.session
session_of (move.Replied m) = Some m.session
session_of (move.FirstUp m) = Some m.session
session_of (move.SecondUp m) = Some m.session
session_of (move.EndTold m) = Some m.session
session_of (move.EndHeard m) = Some m.session
session_of (move.EndSilent m) = Some m.session
session_of (move.Negotiated m) = Some m.session
session_of (move.Counted m) = Some m.session
session_of (move.FrameSent m) = Some m.session
session_of (move.FrameUp m) = Some m.session
session_of m = None

-- the tunnel that a move is about, 0 where it is about none
abbrev pub tunnel_of : Move → ℕ
tunnel_of (move.Opened m) = m.tunnel
tunnel_of (move.Accepted m) = m.tunnel
tunnel_of (move.Connected m) = m.tunnel
tunnel_of (move.Confirmed m) = m.tunnel
tunnel_of (move.Added m) = m.tunnel
tunnel_of (move.Requested m) = m.tunnel
tunnel_of (move.Replied m) = m.tunnel
tunnel_of (move.FirstUp m) = m.tunnel
tunnel_of (move.SecondUp m) = m.tunnel
tunnel_of (move.Refused m) = m.tunnel
tunnel_of (move.EndTold m) = m.tunnel
tunnel_of (move.EndHeard m) = m.tunnel
tunnel_of (move.EndSilent m) = m.tunnel
tunnel_of (move.Declined m) = 0
tunnel_of (move.Closed m) = m.tunnel
tunnel_of (move.Rejected m) = m.tunnel
tunnel_of (move.ClosedBy m) = m.tunnel
tunnel_of (move.Cleared i booked) = i
tunnel_of (move.Greeted m) = m.tunnel
tunnel_of (move.TookPlain m) = m.tunnel
tunnel_of (move.NrRead m) = m.tunnel
tunnel_of (move.LetGo m) = m.tunnel
tunnel_of (move.Repeated m) = m.tunnel
tunnel_of (move.Quiet i) = i
tunnel_of (move.Negotiated m) = m.tunnel
tunnel_of (move.Counted m) = m.tunnel
tunnel_of (move.FrameSent m) = m.tunnel
tunnel_of (move.FrameUp m) = m.tunnel
tunnel_of (move.Restored m) = m.tunnel.local
tunnel_of (move.Forgot m) = m.tunnel
tunnel_of (move.Froze m) = m.tunnel
tunnel_of (move.ResetAttempting m) = m.tunnel
tunnel_of (move.ResetAnswering m) = m.tunnel
tunnel_of (move.Queried m) = m.tunnel
tunnel_of (move.AnsweredQuery m) = m.tunnel
tunnel_of (move.TookAnswer m) = m.tunnel
tunnel_of (move.RecoveryWentOn i) = i
tunnel_of (move.RecoveryEnded i) = i
tunnel_of (move.Ignored i) = i

abbrev pub birth_about : World → ℕ → Option ℕ → ℕ
birth_about w n None = 0
birth_about w n (Some session) = birth_of w n session

abbrev pub deed_of : World → ℕ → ℕ → Role → Option Sender → Move → Deed
deed_of w line n r sender m = record {
  line = line;
  node = n;
  role = r;
  sender = sender;
  birth = birth_about w n (session_of m);
  epoch = epoch_of w n (tunnel_of m);
  move = m;
}

-- the random bytes of a step: the node, and the line, in 8 bytes each
unfoldable pub block_of : ℕ → ℕ → List ℕ
block_of n line = big_bytes 8 n ++ big_bytes 8 line

-- ---- what a step gives to the outside

-- the epoch of the tunnel that sends a control message
abbrev pub epoch_sent : World → ℕ → Origin → ℕ
epoch_sent w n (origin.Control o) = epoch_of w n o.tunnel
epoch_sent w n (origin.Recovery tunnel number empty) = 0
epoch_sent w n (origin.Data session) = 0

-- a packet from a node to a node, these bytes, with what the world keeps beside them
abbrev pub packet_from : ℕ → ℕ → List ℕ → Origin → ℕ → Packet
packet_from from to bytes origin epoch = record { from = from; to = to; bytes = bytes; origin = origin; epoch = epoch }

unfoldable pub sent : World → ℕ → ℕ → List ℕ → Origin → World
sent w from to bytes origin = record w { packets = w.packets ++ packet_from from to bytes origin (epoch_sent w from origin) ∷ [] }

-- an output of a node's step: what it does to the world, and the entry of the report that it makes in a line
unfoldable pub shown : ℕ → World → Out → World
shown n w (Send peer bytes origin) = sent w n (node_of peer) bytes origin
shown n w (Up session side frame) = w
shown n w (Gone session) = w
shown n w (Drop x) = w
shown n w (Cause x) = w

-- the PADT to the host of a node's call, where a host had it
abbrev pub farewell_by : ℕ → ℕ → Option Access → Option (List ℕ)
farewell_by n session None = None
farewell_by n session (Some a) = farewell n a session

abbrev pub farewell_in : ℕ → Option Node → Option (List ℕ)
farewell_in session None = None
farewell_in session (Some node) = farewell_by node.end.config.number session node.access

unfoldable pub entry_of : ℕ → ℕ → World → Out → Entry
entry_of line n w (Send peer bytes origin) = Sends line (length w.packets + 1) n (node_of peer) bytes
entry_of line n w (Up session side frame) = HandsUp line n session (birth_of w n session) side frame
entry_of line n w (Gone session) = Ends line n session (farewell_in session (at w.nodes n))
entry_of line n w (Drop x) = Drops line n x
entry_of line n w (Cause x) = Causes line n x

unfoldable pub shown_all : ℕ → List Out → World → World
shown_all n [] w = w
shown_all n (o ∷ os) w = shown_all n os (shown n w o)

unfoldable pub entries_of : ℕ → ℕ → List Out → World → List Entry
entries_of line n [] w = []
entries_of line n (o ∷ os) w = entry_of line n w o ∷ entries_of line n os (shown n w o)

-- what a step gives, in the world that its moves lead to
unfoldable pub given : World → ℕ → ℕ → Role → Option Sender → Stepped → Lined
given w line n r sender s = record {
  world = shown_all n s.outputs w;
  entries = entries_of line n s.outputs w;
  done = map (λ m. deed_of w line n r sender m) s.moves;
  cut = false;
}

-- the step of a node whose records were committed
unfoldable pub after_step : World → ℕ → ℕ → Node → Option Sender → Stepped → Lined
after_step w line n node sender s = given (moved_all n s.moves (with_node w n (record node { end = s.end }))) line n node.end.role sender s

-- ---- what a step commits

-- a record is committed where it is in place, and is nothing where it isn't
abbrev pub recorded : Checkpoint → Record → Checkpoint
recorded k r = if fits k.book r then record k { records = k.records + 1; book = with_record k.book r } else k

unfoldable pub recorded_all : Checkpoint → List Record → Checkpoint
recorded_all k [] = k
recorded_all k (r ∷ rs) = recorded_all (recorded k r) rs

-- a checkpoint has 1,048,576 records at most
abbrev pub is_full : Checkpoint → List Record → Bool
is_full k rs = nat_lt 1048576 (k.records + length rs)

-- what comes of the records of a step: there is no room for them; a stop is reached amid them, and the checkpoint has those before it,
-- and the one that it stops at where that is kept; or all are committed
pub data Committed : Type 0 where
  IsFull : (records : ℕ) → Committed
  IsCut : (checkpoint : Checkpoint) → Committed
  IsWhole : (checkpoint : Checkpoint) → Committed

abbrev pub with_stop : Option StopAt → Checkpoint → Checkpoint
with_stop s k = record k { stop = s }

-- how many records are in the checkpoint where it stops
abbrev pub kept_by : StopAt → ℕ
kept_by s = if s.kept then s.commit else s.commit - 1

unfoldable pub commits_by : Checkpoint → List Record → Option StopAt → Committed
commits_by k rs None = IsWhole (recorded_all k rs)
commits_by k rs (Some s) =
    if nat_le s.commit (length rs) then IsCut (recorded_all k (take (kept_by s) rs))
    else IsWhole (with_stop (Some (record s { commit = s.commit - length rs })) (recorded_all k rs))

unfoldable pub commits : Checkpoint → List Record → Committed
commits k rs = if is_full k rs then IsFull k.records else commits_by k rs k.stop

-- what the channels of an end had counted, as its node goes down
abbrev pub counts_of : Control → Counts
counts_of c = record { taken = c.channel.inbox.taken; acked = c.channel.window.acked }

abbrev pub lost_with : Option Tunnel → Standing → Standing
lost_with None x = x
lost_with (Some t) x = if is_some x.lost then x else record x { lost = Some (counts_of t.control) }

unfoldable pub loses_counts : End → List ℕ → List (ℕ × Standing) → List (ℕ × Standing)
loses_counts e [] xs = xs
loses_counts e (i ∷ is) xs = loses_counts e is (put xs i (lost_with (at e.tunnels i) (unwrap_or (at xs i) no_standing)))

-- a node falls: of its end, which was this before the step, only the checkpoint stays, and no stop is armed any more
unfoldable pub fallen : List ℕ → End → Node → Checkpoint → Node
fallen block before node k = record node {
  end = bare_end node.end.role node.end.config k.book;
  up = false;
  access = access_with node.end.role block;
  checkpoint = with_stop None k;
  standings = loses_counts before (ids_of before.tunnels) node.standings;
}

-- no frame is held at a node any more
abbrev pub without_held : World → ℕ → World
without_held w n = record w { held = without w.held n }

unfoldable pub cut_line : World → ℕ → ℕ → Node → Checkpoint → Lined
cut_line w line n node k = record {
  world = without_held (with_node w n (fallen (block_of n line) node.end node k)) n;
  entries = Stopped line n ∷ [];
  done = [];
  cut = true;
}

unfoldable pub settled : World → ℕ → ℕ → Node → Option Sender → Stepped → Committed → Result Lined Refusal
settled w line n node sender s (IsFull records) = Err (StoreFull records)
settled w line n node sender s (IsCut k) = Ok (cut_line w line n node k)
settled w line n node sender s (IsWhole k) = Ok (after_step w line n (record node { checkpoint = k }) sender s)

-- a step of a node: all that it leaves is committed before anything of it is seen
unfoldable pub committed : World → ℕ → ℕ → Node → Option Sender → Stepped → Result Lined Refusal
committed w line n node sender s = settled w line n node sender s (commits node.checkpoint (contents_of node.end s))

-- ---- which lines fit

-- a node that is up
abbrev pub running : Node → Result Node Why
running node = if node.up then Ok node else Err why.Down

-- the node, which is to be declared, and up
abbrev pub declared : Option Node → Result Node Why
declared None = Err why.Node
declared (Some node) = running node

-- a node that is a LAC, and one that is an LNS
abbrev pub lac_at : Option Node → Result Node Why
lac_at None = Err why.Node
lac_at (Some node) = if is_lac node.end.role then running node else Err why.Node

abbrev pub lns_at : Option Node → Result Node Why
lns_at None = Err why.Node
lns_at (Some node) = if is_lac node.end.role then Err why.Node else running node

-- a node that is declared, and down
abbrev pub down_at : Option Node → Result Node Why
down_at None = Err why.Node
down_at (Some node) = if node.up then Err why.Up else Ok node

-- a node with a live call
abbrev pub with_call : ℕ → Result Node Why → Result Node Why
with_call session (Err x) = Err x
with_call session (Ok node) = if is_some (at node.end.calls session) then Ok node else Err why.Call

-- a node with a live tunnel that isn't closed
abbrev pub with_tunnel : ℕ → Result Node Why → Result Node Why
with_tunnel i (Err x) = Err x
with_tunnel i (Ok node) = if is_not_closed (at node.end.tunnels i) then Ok node else Err why.Tunnel

-- ---- the lines

-- the configuration of a node
abbrev pub config_of : ℕ → ℕ → Option (List ℕ) → Bool → Config
config_of n lns secret hide = new_config n (address_of n) lns secret hide

-- the key of a LAC's cookies is the block of the line that makes it
abbrev pub new_node : ℕ → ℕ → Role → ℕ → Option (List ℕ) → Bool → Node
new_node line n r lns secret hide = record {
  end = new_end r (config_of n lns secret hide);
  up = true;
  clock = 0;
  births = [];
  access = access_with r (block_of n line);
  checkpoint = new_checkpoint;
  standings = [];
  answers = [];
}

unfoldable pub added : World → ℕ → ℕ → Role → ℕ → Option (List ℕ) → Bool → Result Lined Refusal
added w line n r lns secret hide =
    if is_some (at w.nodes n) then Err (Unfit why.Twice) else Ok (quiet_line (with_node w n (new_node line n r lns secret hide)))

-- a step at the node's moment
unfoldable pub stepped : World → ℕ → ℕ → Event → Option Sender → Result Node Why → Result Lined Refusal
stepped w line n e sender (Err x) = Err (Unfit x)
stepped w line n e sender (Ok node) = committed w line n node sender (step node.end node.clock (block_of n line) e)

-- ---- Ethernet frames

-- the entries of a line are these, unless its step was cut off
abbrev pub retold : List Entry → Result Lined Refusal → Result Lined Refusal
retold es (Err x) = Err x
retold es (Ok l) = Ok (if l.cut then l else record l { entries = es })

abbrev pub answer_entries : ℕ → ℕ → Option Because → List ℕ → List Entry
answer_entries line n None bytes = Frames line n bytes ∷ []
answer_entries line n (Some c) bytes = Causes line n c ∷ Frames line n bytes ∷ []

-- a frame is sent behind what a line did, unless its step was cut off
abbrev pub replies : ℕ → ℕ → List ℕ → Result Lined Refusal → Result Lined Refusal
replies line n bytes (Err x) = Err x
replies line n bytes (Ok l) = Ok (if l.cut then l else record l { entries = l.entries ++ Frames line n bytes ∷ [] })

-- a host that was admitted wants a call: the PADS comes behind what the ring does
unfoldable pub enters : World → ℕ → ℕ → Node → Access → List ℕ → Option (List ℕ) → Discovered → Result Lined Refusal
enters w line n node a src uniq asked =
    let s = step node.end node.clock (block_of n line) (event.Admitted src) in
    replies line n (pads_of node.end asked s) (stepped w line n (event.Admitted src) None (Ok (record node { access = Some (entered a node.end src uniq s) })))

-- to the end itself a frame is nothing; the line tells what it is to the LAC
unfoldable pub comes : World → ℕ → ℕ → List ℕ → Node → Access → Coming → Result Lined Refusal
comes w line n bytes node a (Ignores word) = retold (Drops line n word ∷ []) (stepped w line n (event.Frame bytes) None (Ok node))
comes w line n bytes node a (Answers because frame) = retold (answer_entries line n because frame) (stepped w line n (event.Frame bytes) None (Ok node))
comes w line n bytes node a (Runs e) = stepped w line n e None (Ok node)
comes w line n bytes node a (Enters src uniq asked) = enters w line n node a src uniq asked

unfoldable pub comes_by : World → ℕ → ℕ → List ℕ → Node → Option Access → Result Lined Refusal
comes_by w line n bytes node None = Err (Unfit why.Node)
comes_by w line n bytes node (Some a) = comes w line n bytes node a (coming a node.end bytes)

-- an Ethernet frame comes to a LAC
unfoldable pub framed : World → ℕ → ℕ → List ℕ → Result Node Why → Result Lined Refusal
framed w line n bytes (Err x) = Err (Unfit x)
framed w line n bytes (Ok node) = comes_by w line n bytes node node.access

-- ---- packets

-- the packet and the node that it is for, or why it can't be delivered
unfoldable pub addressee_of : Packet → Option Node → Result (Packet × Node) Why
addressee_of p None = Err why.Node
addressee_of p (Some node) = if node.up then Ok (p, node) else Err why.Down

unfoldable pub arrival : World → Option Packet → Result (Packet × Node) Why
arrival w None = Err why.Packet
arrival w (Some p) = addressee_of p (at w.nodes p.to)

-- a number that is more than 32,767 below a count has outlived half of the numbers that a channel has
abbrev pub outlives : ℕ → ℕ → Bool
outlives number count = nat_lt (number + 32767) count

-- what a tunnel has taken, and what was acknowledged, in its epoch: as its channel counts, or as the one did that was lost
abbrev pub counts_now : Option Counts → Control → Counts
counts_now (Some x) c = x
counts_now None c = counts_of c

abbrev pub outlived : ControlOrigin → Counts → Option Refusal
outlived o x =
    if outlives o.ns x.taken then Some (HalfSpace o.ns x.taken)
    else if outlives o.nr x.acked then Some (HalfSpace o.nr x.acked)
    else None

-- a control message that its tunnel sent in an earlier epoch than the tunnel is in that it is for; or in the same one, by what that has
-- taken and acknowledged
abbrev pub is_past : ℕ → ControlOrigin → Standing → Control → Option Refusal
is_past epoch o x c =
    if nat_lt epoch x.epoch then Some (Stale epoch x.epoch)
    else if epoch == x.epoch then outlived o (counts_now x.lost c)
    else None

unfoldable pub too_old : ℕ → ControlOrigin → World → ℕ → Option Control → Option Refusal
too_old epoch o w n None = None
too_old epoch o w n (Some c) = is_past epoch o (standing_of w n c.local) c

unfoldable pub refused_by : World → Packet → Node → Origin → Option Refusal
refused_by w p node (origin.Control o) = too_old p.epoch o w p.to (reached node.end (address_of p.from) p.bytes)
refused_by w p node (origin.Recovery tunnel number empty) = None
refused_by w p node (origin.Data session) = None

abbrev pub sender_of : ℕ → Origin → Option Sender
sender_of from (origin.Control c) = Some (record { node = from; tunnel = c.tunnel })
sender_of from (origin.Recovery tunnel number empty) = Some (record { node = from; tunnel = tunnel })
sender_of from (origin.Data session) = None

unfoldable pub arrives : World → ℕ → Packet → Node → Option Refusal → Result Lined Refusal
arrives w line p node (Some r) = Err r
arrives w line p node None =
    stepped w line p.to (event.Datagram (address_of p.from) p.bytes) (sender_of p.from p.origin) (Ok node)

unfoldable pub delivers_it : World → ℕ → Result (Packet × Node) Why → Result Lined Refusal
delivers_it w line (Err x) = Err (Unfit x)
delivers_it w line (Ok a) = arrives w line a.0 a.1 (refused_by w a.0 a.1 a.0.origin)

unfoldable pub delivers : World → ℕ → Option Packet → Result Lined Refusal
delivers w line p = delivers_it w line (arrival w p)

-- ---- data packets that are carried in two steps

-- the frames that are held at a node
abbrev pub held_at : World → ℕ → List (ℕ × Held)
held_at w n = unwrap_or (at w.held n) []

-- one more frame is held, with the next number, up to the last one of 32 bits
unfoldable pub held_line : World → ℕ → ℕ → Held → Lined
held_line w line n f =
    let number = min (w.loads + 1) (2 ^ 32 - 1) in
    record {
      world = record w { held = put w.held n (put (held_at w n) number f); loads = number };
      entries = Holds line n number ∷ [];
      done = [];
      cut = false;
    }

-- a line in which an input is dropped, and nothing is done
abbrev pub dropped_line : World → ℕ → ℕ → Why → Lined
dropped_line w line n x = record (quiet_line w) { entries = Drops line n x ∷ [] }

unfoldable pub held_or_dropped : World → ℕ → ℕ → ℕ → Carried → Lined
held_or_dropped w line n session (Upward tunnel peer side frame) =
    held_line w line n (record { session = session; birth = birth_of w n session; tunnel = tunnel; peer = peer; side = side; frame = frame })
held_or_dropped w line n session (Dropped x) = dropped_line w line n x

-- a data message from an address is judged as the end does that takes one, by what is seen of its session
unfoldable pub loads_by : World → ℕ → ℕ → End → ℕ → List ℕ → Result Header HeaderError → Result Lined Refusal
loads_by w line n e peer bytes (Err x) = Ok (dropped_line w line n (header_why x))
loads_by w line n e peer bytes (Ok h) =
    if h.control then Err (Unfit why.Packet)
    else Ok (held_or_dropped w line n h.session (carry_look e.role (look_in (at e.calls h.session)) peer h (frame_of (body_of bytes h))))

-- a packet for the node, which is no control message
unfoldable pub loads_it : World → ℕ → ℕ → Node → Option Packet → Result Lined Refusal
loads_it w line n node None = Err (Unfit why.Packet)
loads_it w line n node (Some p) =
    if p.to == n then loads_by w line n node.end (address_of p.from) p.bytes (header_of p.bytes) else Err (Unfit why.Packet)

unfoldable pub loads : World → ℕ → ℕ → Option Packet → Result Node Why → Result Lined Refusal
loads w line n p (Err x) = Err (Unfit x)
loads w line n p (Ok node) = loads_it w line n node p

-- the world without a frame that was held at a node
abbrev pub taken_up : World → ℕ → ℕ → World
taken_up w n number = record w { held = put w.held n (without (held_at w n) number) }

-- a frame is handed up in the call for which it is held, whatever has become of that since
abbrev pub hand_entry : ℕ → ℕ → Held → Entry
hand_entry line n f = HandsUp line n f.session f.birth f.side f.frame

abbrev pub hand_move : Held → Move
hand_move f = move.FrameUp (record { tunnel = f.tunnel; peer = f.peer; session = f.session; side = f.side; frame = f.frame })

abbrev pub hand_deed : ℕ → ℕ → Role → Held → Deed
hand_deed line n r f = record {
  line = line;
  node = n;
  role = r;
  sender = None;
  birth = f.birth;
  epoch = 0;
  move = hand_move f;
}

abbrev pub behind_hand : ℕ → ℕ → Role → Held → Lined → Lined
behind_hand line n r f l = record l { entries = hand_entry line n f ∷ l.entries; done = hand_deed line n r f ∷ l.done }

-- before all that a line does, unless its step was cut off
abbrev pub behind_up : ℕ → ℕ → Role → Held → Result Lined Refusal → Result Lined Refusal
behind_up line n r f (Err x) = Err x
behind_up line n r f (Ok l) = Ok (if l.cut then l else behind_hand line n r f l)

-- an LNS's end hears a frame of LCP, as an event of its own; with another frame it has nothing to do
unfoldable pub hears : World → ℕ → ℕ → Node → Held → Side → Result Lined Refusal
hears w line n node f side.Sub = Ok (quiet_line w)
hears w line n node f side.Net = Ok (quiet_line w)
hears w line n node f side.Lcp = stepped w line n (event.Lcp f.session f.frame) None (Ok node)

unfoldable pub hands_it : World → ℕ → ℕ → ℕ → Node → Option Held → Result Lined Refusal
hands_it w line n number node None = Err (Unfit why.Hand)
hands_it w line n number node (Some f) = behind_up line n node.end.role f (hears (taken_up w n number) line n node f f.side)

unfoldable pub hands : World → ℕ → ℕ → ℕ → Result Node Why → Result Lined Refusal
hands w line n number (Err x) = Err (Unfit x)
hands w line n number (Ok node) = hands_it w line n number node (at (held_at w n) number)

-- the clock of a node goes on, up to the last number of 64 bits
abbrev pub later : ℕ → Result Node Why → Result Node Why
later milliseconds (Err x) = Err x
later milliseconds (Ok node) = Ok (record node { clock = min (node.clock + milliseconds) (2 ^ 64 - 1) })

-- ---- crashes and starts

-- all but the checkpoint is lost
unfoldable pub crashed : World → ℕ → ℕ → Result Node Why → Result Lined Refusal
crashed w line n (Err x) = Err (Unfit x)
crashed w line n (Ok node) = Ok (quiet_line (without_held (with_node w n (fallen (block_of n line) node.end node node.checkpoint)) n))

-- a stop is armed, in place of the one before
unfoldable pub armed : World → ℕ → StopAt → Result Node Why → Result Lined Refusal
armed w n s (Err x) = Err (Unfit x)
armed w n s (Ok node) = Ok (quiet_line (with_node w n (record node { checkpoint = with_stop (Some s) node.checkpoint })))

-- a node that is to start again, which is up as it does so
abbrev pub opened : List ℕ → Node → Node
opened block node = record node { up = true; access = access_over node.end.role block node.checkpoint.book }

unfoldable pub started : World → ℕ → ℕ → Result Node Why → Result Lined Refusal
started w line n (Err x) = Err (Unfit x)
started w line n (Ok node) = committed w line n (opened (block_of n line) node) None (starts node.end.role node.end.config node.checkpoint.book node.clock (block_of n line))

-- what a line with its number leads to, or why it is refused
unfoldable pub line : World → ℕ → Line → Result Lined Refusal
line w number (Remark text) = Ok (quiet_line w)
line w number (Lac n m secret hide) = added w number n role.Lac (address_of m) secret hide
line w number (Lns n secret) = added w number n role.Lns 0 secret false
line w number (OpenUp n) = stepped w number n event.OpenTunnel None (lac_at (at w.nodes n))
line w number (Close n i) = stepped w number n (event.CloseTunnel i) None (with_tunnel i (declared (at w.nodes n)))
line w number (Ring n port) = stepped w number n (event.Ring port) None (lac_at (at w.nodes n))
line w number (Frame n bytes) = framed w number n bytes (lac_at (at w.nodes n))
line w number (FromSub n session frame) = stepped w number n (event.Payload session frame) None (with_call session (lac_at (at w.nodes n)))
line w number (Down n session frame) = stepped w number n (event.Lower session frame) None (with_call session (lns_at (at w.nodes n)))
line w number (Deliver p) = delivers w number (slice_get w.packets (p - 1))
line w number (Hang n session) = stepped w number n (event.Hang session) None (with_call session (lac_at (at w.nodes n)))
line w number (DropCall n session) = stepped w number n (event.DropCall session) None (with_call session (declared (at w.nodes n)))
line w number (Load n p) = loads w number n (slice_get w.packets (p - 1)) (declared (at w.nodes n))
line w number (Hand n h) = hands w number n h (declared (at w.nodes n))
line w number (Tick n milliseconds) = stepped w number n event.Tick None (later milliseconds (declared (at w.nodes n)))
line w number (Crash n) = crashed w number n (declared (at w.nodes n))
line w number (Stop n commit call kept) = armed w n (record { commit = commit; kept = kept }) (declared (at w.nodes n))
line w number (Start n) = started w number n (down_at (at w.nodes n))
