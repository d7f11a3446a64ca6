-- The causes that the report tells stand, nothing is refused for want of room but where a tunnel holds too many letters, no end has more
-- tunnels than it may, and no call and no tunnel is left.
use Rattle.std.specs.Prelude.{is_some, ◌≡◌, ℕ, ◌+◌, ◌-◌, ◌^◌, ◌≤◌, min, List, [], ◌∷◌, ◌++◌, length, true, false, slice_get, Some, None, Ok, Option, unwrap_or}
use Rattle.std.specs.List.{AllByRecursion}
use Rattle.id_table.specs.Ids.{at}
use Rattle.wire_base.specs.declared.letter.Side.TheVariants as side
use Rattle.wire_base.specs.declared.why.Why.TheVariants as why
use Rattle.wire_base.specs.declared.cause.Cause.{Cause}
use Rattle.schedule_text.specs.declared.line.Line.{Line}
use Rattle.schedule_text.specs.declared.line.Line.TheVariants.{Remark, Lac, Lns, OpenUp, Close, Ring, Frame, FromSub, Down, Hang, DropCall, Deliver, Load, Hand, Tick, Crash, Stop, Start}
use Rattle.schedule_text.specs.Grammar.{AreLines}
use Rattle.end_model.specs.declared.event.Event.{Event}
use Rattle.end_model.specs.declared.event.Event.TheVariants as event
use Rattle.world_model.specs.declared.packet.Packet.{Packet}
use Rattle.end_names.specs.Names.{address_of, mac_of, host_name}
use Rattle.end_model.specs.Secrets.{uncovered_event}
use Rattle.end_model.specs.Calls.{owed_by}
use Rattle.end_model.specs.Tunnels.{Tunnel}
use Rattle.end_model.specs.Moments.{is_closed}
use Rattle.pppoe_wire.specs.declared.frame.Tag.{Tag}
use Rattle.end_model.specs.End.{step}
use Rattle.world_model.specs.declared.held.Held.{Held}
use Rattle.world_model.specs.World.{World, Node, Lined, held_at, block_of, line}
use Rattle.pppoe_discovery.specs.declared.outcome.Discovered.TheVariants.{Admit}
use Rattle.world_model.specs.Texts.{Entry, Sends, HandsUp, Holds, Ends, Frames, Drops, Causes, Stopped}
use Rattle.step_laws.specs.Hosts.{LacAt}
use Rattle.world_model.specs.Run.{run}
use Rattle.step_laws.specs.Letters.{Among}
use Rattle.step_laws.specs.Room.{IsFull}
use Rattle.step_laws.specs.Causes.{Stands}
use Rattle.step_laws.specs.Left.{AreAsked, AreFew, NoneHasFailed, NoneIsLate}
use Rattle.cause_laws.specs.Refusals.{IsPadr, IsRefusedFor}
use Rattle.pppoe_wire.specs.Spelling.{frame_bytes}
use Rattle.pppoe_discovery.specs.Cookie.{cookie_of}
use Rattle.pppoe_discovery.specs.Replies.{pado, pads, refusal}
use Rattle.cause_laws.specs.Hosts.{IsPadi, HasValue, IsAsked, HasCookie, IsHeld, IsNew, FrameBrings, AnswersEntry, AnswersHosts}

-- ---- what a line brings

-- the event that a line is for a node; a load brings it none, and so do a crash, the stop of a commit and a start; a frame that is handed up
-- brings one where it is of LCP
abbrev pub Brings : World → Line → ℕ → Event → Type 0
Brings w (Remark text) n ev = ⊥
Brings w (Lac m lns secret hide) n ev = ⊥
Brings w (Lns m secret) n ev = ⊥
Brings w (OpenUp m) n ev = (n ≡ m) × (ev ≡ event.OpenTunnel)
Brings w (Ring m port) n ev = (n ≡ m) × (ev ≡ event.Ring port)
Brings w (Frame m bytes) n ev = (n ≡ m) × FrameBrings w m bytes ev
Brings w (FromSub m session frame) n ev = (n ≡ m) × (ev ≡ event.Payload session frame)
Brings w (Down m session frame) n ev = (n ≡ m) × (ev ≡ event.Lower session frame)
Brings w (Hang m session) n ev = (n ≡ m) × (ev ≡ event.Hang session)
Brings w (Close m i) n ev = (n ≡ m) × (ev ≡ event.CloseTunnel i)
Brings w (DropCall m session) n ev = (n ≡ m) × (ev ≡ event.DropCall session)
Brings w (Deliver k) n ev = (p : Packet) × (slice_get w.packets (k - 1) ≡ Some p) × (n ≡ p.to) × (ev ≡ event.Datagram (address_of p.from) p.bytes)
Brings w (Load m k) n ev = ⊥
Brings w (Hand m k) n ev = (f : Held) × (at (held_at w m) k ≡ Some f) × (f.side ≡ side.Lcp) × (n ≡ m) × (ev ≡ event.Lcp f.session f.frame)
Brings w (Tick m milliseconds) n ev = (n ≡ m) × (ev ≡ event.Tick)
Brings w (Crash m) n ev = ⊥
Brings w (Stop m commit call kept) n ev = ⊥
Brings w (Start m) n ev = ⊥

-- the moment at which it comes: a tick first puts the clock on
abbrev pub moment_of : Line → Node → ℕ
moment_of (Tick m milliseconds) node = min (node.clock + milliseconds) (2 ^ 64 - 1)
moment_of l node = node.clock

-- ---- entries of the report

-- a cause that a line tells of a node stands, in the world before the line; a datagram counts as it is read, with what the node's secret
-- uncovers in plain
pub record CauseIsTrue (w : World) (l : Line) (n : ℕ) (c : Cause) : Type 0 where
  pub node : Node
  pub is : at w.nodes n ≡ Some node
  pub event : Event
  pub brings : Brings w l n event
  pub stands : Stands node.end (moment_of l node) (uncovered_event node.end.config.secret event) c

-- it brings a LAC a PADR, which is refused for its service or for its cookie, by the key of the LAC's cookies
pub record DiscoveryRefuses (w : World) (l : Line) (n : ℕ) (c : Cause) : Type 0 where
  pub lac : LacAt w n
  pub bytes : List ℕ
  pub line_is : l ≡ Frame n bytes
  pub src : List ℕ
  pub tags : List Tag
  pub padr : IsPadr (mac_of lac.node.end.config.number) bytes src tags
  pub why : IsRefusedFor lac.access.key src tags c

-- one of the two
pub data CauseStandsIn (w : World) (l : Line) (n : ℕ) (c : Cause) : Type 0 where
  AtTheEnd : CauseIsTrue w l n c → CauseStandsIn w l n c
  InDiscovery : DiscoveryRefuses w l n c → CauseStandsIn w l n c

-- a message isn't taken, since its tunnel holds too many letters, with those that its calls owe
pub record IsFullAt (w : World) (l : Line) (n : ℕ) : Type 0 where
  pub node : Node
  pub is : at w.nodes n ≡ Some node
  pub event : Event
  pub brings : Brings w l n event
  pub full : IsFull node.end (moment_of l node) (uncovered_event node.end.config.secret event)

-- a frame that a line tells answers a host, which sent one of no more than 2,048 bytes: a PADI for a service that is served by a PADO; a PADR that
-- discovery refuses by the PADS with its cause; one that repeats that of a live call by the PADS of that call; and one whose host enters by what
-- its ring came to
pub data FrameIsTrue (w : World) (line : ℕ) (l : Line) (n : ℕ) (frame : List ℕ) : Type 0 where
  OfPadi : (lac : LacAt w n) (bytes src service : List ℕ) (tags : List Tag) (uniq relay : Option (List ℕ)) → l ≡ Frame n bytes → length bytes ≤ 2048
      → IsPadi (mac_of lac.node.end.config.number) bytes src tags → IsAsked tags service uniq relay
      → frame ≡ frame_bytes (pado (mac_of lac.node.end.config.number) src service (host_name lac.node.end.role lac.node.end.config.number) (cookie_of lac.access.key src) uniq relay)
      → FrameIsTrue w line l n frame
  OfRefusal : (lac : LacAt w n) (bytes src : List ℕ) (tags : List Tag) (uniq relay : Option (List ℕ)) (c : Cause) → l ≡ Frame n bytes → length bytes ≤ 2048
      → IsPadr (mac_of lac.node.end.config.number) bytes src tags → HasValue 0x0103 tags uniq → HasValue 0x0110 tags relay
      → IsRefusedFor lac.access.key src tags c → frame ≡ frame_bytes (refusal (mac_of lac.node.end.config.number) src c uniq relay)
      → FrameIsTrue w line l n frame
  OfLiveCall : (lac : LacAt w n) (bytes src service : List ℕ) (tags : List Tag) (uniq relay : Option (List ℕ)) (session : ℕ) → l ≡ Frame n bytes
      → length bytes ≤ 2048 → IsPadr (mac_of lac.node.end.config.number) bytes src tags → IsAsked tags service uniq relay
      → HasCookie lac.access.key src tags → IsHeld lac.access src uniq session → is_some (at lac.node.end.calls session) ≡ true
      → frame ≡ frame_bytes (pads (mac_of lac.node.end.config.number) src session service uniq relay) → FrameIsTrue w line l n frame
  OfEntry : (lac : LacAt w n) (bytes src service : List ℕ) (tags : List Tag) (uniq relay : Option (List ℕ)) → l ≡ Frame n bytes → length bytes ≤ 2048
      → IsPadr (mac_of lac.node.end.config.number) bytes src tags → IsAsked tags service uniq relay → HasCookie lac.access.key src tags
      → IsNew lac.access lac.node.end src uniq
      → AnswersEntry lac.node.end (Admit src service uniq relay) (step lac.node.end lac.node.clock (block_of n line) (event.Admitted src)) frame
      → FrameIsTrue w line l n frame

-- a line that is no start
abbrev pub IsNoStart : Line → Type 0
IsNoStart (Start n) = ⊥
IsNoStart l = Unit {0}

-- it has the number of its line; and a start drops nothing, and hands nothing up, as it tells no cause
abbrev pub IsTrue : World → ℕ → Line → Entry → Type 0
IsTrue w line l (Causes number n c) = (number ≡ line) × CauseStandsIn w l n c
IsTrue w line l (Drops number n x) = (number ≡ line) × (x ≡ why.Queue → IsFullAt w l n) × IsNoStart l
IsTrue w line l (Sends number packet from to bytes) = number ≡ line
IsTrue w line l (HandsUp number n session birth side frame) = (number ≡ line) × IsNoStart l
IsTrue w line l (Holds number n k) = number ≡ line
IsTrue w line l (Ends number n session padt) = number ≡ line
IsTrue w line l (Stopped number n) = number ≡ line
IsTrue w line l (Frames number n bytes) = (number ≡ line) × FrameIsTrue w line l n bytes

-- so are all entries that a line makes in a world
abbrev pub TellsTruly : World → ℕ → Line → Type 0
TellsTruly w number l = (x : Lined) → line w number l ≡ Ok x → AllByRecursion (IsTrue w number l) x.entries

-- a line brings the next message of a tunnel, which names it, and which the tunnel may not take, once Nr is read
pub record FindsNoRoom (w : World) (l : Line) (n : ℕ) : Type 0 where
  pub node : Node
  pub is : at w.nodes n ≡ Some node
  pub event : Event
  pub brings : Brings w l n event
  pub full : IsFull node.end (moment_of l node) (uncovered_event node.end.config.secret event)
  pub named : full.letter.header.tunnel ≡ full.id
  pub nr : full.nr ≡ unwrap_or full.letter.header.nr 0

-- then the line tells that it is dropped for that; a step that a stop cut off is left out
abbrev pub TellsOfRoom : World → ℕ → Line → Type 0
TellsOfRoom w number l = (x : Lined) → line w number l ≡ Ok x → x.cut ≡ false → (n : ℕ) → FindsNoRoom w l n → Among (Drops number n why.Queue) x.entries

-- ---- room

-- the letters that a tunnel holds, and those that its calls owe, are fewer than a channel holds, so that there is room for each, as
-- long as it isn't closed: then it has no calls and gives nothing more, and holds no more letters than a channel may; and it has 4,096
-- calls at most
pub record HasRoom (t : Tunnel) : Type 0 where
  pub letters : is_closed t.control.state ≡ false → length t.letters + owed_by t.calls ≤ 8191
  pub most : length t.letters ≤ 8192
  pub shut : is_closed t.control.state ≡ true → t.calls ≡ []
  pub calls : length t.calls ≤ 4096

abbrev pub AllHaveRoom : World → Type 0
AllHaveRoom w = (n : ℕ) (node : Node) → at w.nodes n ≡ Some node → (i : ℕ) (t : Tunnel) → at node.end.tunnels i ≡ Some t → HasRoom t

-- each end has 1,024 tunnels at most, and closed ones count
abbrev pub AllAreFew : World → Type 0
AllAreFew w = (n : ℕ) (node : Node) → at w.nodes n ≡ Some node → AreFew node.end

-- ---- calls and tunnels that are left

-- after the lines a call waits for its tunnel only where the tunnel's SCCRQ isn't answered yet; and where the last of them is a
-- tick of a node, none of the node's calls that are being set up has taken 60 seconds, by the node's clock, and none of its tunnels has
-- failed: none that isn't set up was made 60 seconds ago, none was closed 31 seconds ago, and none was repeated to in vain. So it is too where
-- the node fell in that tick
pub record NoneIsLeft (lines : List Line) : Type 0 where
  pub asked : (n : ℕ) (node : Node) → at (run lines).world.nodes n ≡ Some node → AreAsked node.end
  pub ended : (before : List Line) (n milliseconds : ℕ) → lines ≡ before ++ Tick n milliseconds ∷ [] → (run lines).fault ≡ None
      → (node : Node) → at (run lines).world.nodes n ≡ Some node → NoneIsLate node.clock node.end
  pub gone : (before : List Line) (n milliseconds : ℕ) → lines ≡ before ++ Tick n milliseconds ∷ [] → (run lines).fault ≡ None
      → (node : Node) → at (run lines).world.nodes n ≡ Some node → NoneHasFailed node.clock node.end

-- ---- in the run of each list of lines of the grammar

-- at each of its lines
abbrev pub TellTrulyThroughout : List Line → Type 0
TellTrulyThroughout lines =
    (before after : List Line) (l : Line) → lines ≡ before ++ l ∷ after
    → TellsTruly (run before).world (length before + 1) l × TellsOfRoom (run before).world (length before + 1) l
    × AnswersHosts (run before).world (length before + 1) l

abbrev pub CausesOfRuns : Type 0
CausesOfRuns = (lines : List Line) → AreLines lines → TellTrulyThroughout lines

abbrev pub RoomInRuns : Type 0
RoomInRuns = (lines : List Line) → AreLines lines → AllHaveRoom (run lines).world

abbrev pub TunnelsAreFewInRuns : Type 0
TunnelsAreFewInRuns = (lines : List Line) → AreLines lines → AllAreFew (run lines).world

-- and of each front of such a list, which is one too
abbrev pub NoneIsLeftInRuns : Type 0
NoneIsLeftInRuns = (lines : List Line) → AreLines lines → NoneIsLeft lines
