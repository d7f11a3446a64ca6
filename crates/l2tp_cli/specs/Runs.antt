-- What holds of the run of each list of lines, those of each text among them: the run that `due_of` speaks of.
use Rattle.std.specs.Prelude.{◌≡◌, ◌⊎◌, ℕ, ◌^◌, ◌<◌, true, false, List, length, None, Some, Ok}
use Rattle.std.specs.List.{AllByRecursion}
use Rattle.port_traits.specs.Limits.{limit_passed}
use Rattle.schedule_text.specs.declared.line.Line.{Line}
use Rattle.schedule_text.specs.Grammar.{AreLines, FitsLine}
use Rattle.schedule_text.specs.Reading.{lines_of}
use Rattle.id_table.specs.Ids.{at}
use Rattle.end_names.specs.Names.{address_of}
use Rattle.end_model.specs.declared.out.ControlOrigin.{ControlOrigin}
use Rattle.end_model.specs.declared.tunnel.Call.{Call}
use Rattle.end_model.specs.Starting.{starts}
use Rattle.end_model.specs.Tunnels.{Tunnel, mode_of, is_current}
use Rattle.world_model.specs.declared.packet.Packet.{Packet}
use Rattle.world_model.specs.World.{Node, Deed, Lined, line}
use Rattle.world_model.specs.Run.{run}
use Rattle.step_laws.specs.Calm.{AreCalm}
use Rattle.step_laws.specs.Looks.{LooksAreTrue}
use Rattle.book_laws.specs.Starts.{IsBroughtBack}
use Rattle.node_laws.specs.Nodes.{HoldsNode, LeavesNoneOut, AreWithinCeilings}
use Rattle.frame_laws.specs.Past.{past_of}
use Rattle.frame_laws.specs.Frames.{AreSent, IsCarried, IsGiven}
use Rattle.frame_laws.specs.Facts.{BookOk, HeldIsSent}
use Rattle.frame_laws.specs.Reports.{ups_in, told_of}
use Rattle.frame_laws.specs.Unrecovered.{IsMain}
use Rattle.connection_laws.specs.Channels.{LettersAreCarried, AcksAreTrue, NumbersAreRead}
use Rattle.request_laws.specs.Requests.{AreAskedOnce, AreMadeOnce}
use Rattle.cause_laws.specs.Causes.{AllAreFew, AllHaveRoom, NoneIsLeft, TellTrulyThroughout}
use Rattle.cause_laws.specs.Answers.{AnswerThroughout}
use Rattle.session_laws.specs.Sessions.{SessionsAgree, HoldTheSame}
use Rattle.channel_laws.specs.Accounts.{history_of}
use Rattle.channel_laws.specs.Facts.{AreTaken, IsRefusal}
use Rattle.channel_laws.specs.Heard.{IsDelivered, IsOfItsEpoch}
use Rattle.recovery_laws.specs.Covered.{AreOpen, AreCovered}
use Rattle.recovery_laws.specs.Epochs.{Knows}
use Rattle.recovery_laws.specs.Gone.{GoOnce}
use Rattle.recovery_laws.specs.Marks.{MarksStay}
use Rattle.stranger_laws.specs.Lines.{Brings, KeepsFromStrangers}
use Rattle.stranger_laws.specs.Others.{LeavesOthersAlone}
use Rattle.run_join_laws.specs.Births.{AreOfOneCall, KnowsItsMate}
use Rattle.run_join_laws.specs.Runs.{BothReport}
use Rattle.fact_laws.specs.Cells.{AreBooked}
use Rattle.fact_laws.specs.Draws.{IsCovered, IsNoOlder, AllLater}
use Rattle.fact_laws.specs.Epochs.{EntersAnew, EpochsStay}
use Rattle.fact_laws.specs.Ids.{DrawsAnew, IsAbove}

-- ---- the headline

-- Its first part: each PPP frame that is handed up was sent in that call by its other end.
pub record FramesOf (lines : List Line) : Type 0 where
  -- the `up` lines of the report tell of the frames that were handed up
  pub told : ups_in (run lines).entries ≡ told_of (run lines).done
  -- each of them was sent at an earlier line, in a call of the same birth, by its other end
  pub sent : AreSent (past_of lines)
  -- what counts as sent is what its line gave to the end, for the call, or what the call's LCP end gave in the line, also as the call came
  -- back in a start
  pub given : AllByRecursion (IsGiven lines) (past_of lines).sent
  -- and it is in packets of the world, from its node to the call's other node
  pub carried : AllByRecursion (IsCarried (run lines).world.packets) (past_of lines).sent

-- Its second part: ends that both report that they are resynchronised, with nothing outstanding, hold the same established sessions.
-- Those are two tunnels of which the one goes to the other (`BothReport`): they name each other, and both are established, neither frozen
-- nor restored; each knows of each session that it held at its last reset whether the other has it; and each took all that was given to the
-- other. So they are in one epoch. The pairs of the report's `agree` lines are among them.
abbrev pub SessionsOf : List Line → Type 0
SessionsOf lines = (n i m j : ℕ) (t u : Tunnel) → BothReport (run lines).world n i m j t u → HoldTheSame (run lines).world n m t u

-- Its third part: every call request is answered by the tables, each refusal's cause standing. A step that a stop cut off is left out.
pub record RequestsOf (lines : List Line) : Type 0 where
  -- each request that is taken is answered once, and each ring makes a call or tells a cause
  pub answers : AnswerThroughout lines
  -- each cause that is told stands
  pub causes : TellTrulyThroughout lines

pub record HeadlineOf (lines : List Line) : Type 0 where
  pub frames : FramesOf lines
  pub sessions : SessionsOf lines
  pub requests : RequestsOf lines

-- what a text spells that passes no limit are lines of the grammar, and fewer than 2^47
abbrev pub TextsAreShort : Type 0
TextsAreShort = (text : List ℕ) (lines : List Line) → limit_passed text ≡ None → lines_of text ≡ Ok lines → AreLines lines × (length lines < 2 ^ 47)

-- Over every schedule of deliveries, losses, repeats, reorderings, looks of workers and crashes, where what a node finds as it starts is what
-- it committed, and where no control packet is delivered that outlived a reset of its channel or half of the channel's numbers: each PPP
-- frame handed up was sent in that call by its other end; ends that both report that they are resynchronised, with nothing outstanding, hold
-- the same established sessions; and every call request is answered by the tables, each refusal's cause standing. A schedule is any list of
-- fewer than 2^47 lines of the grammar, so that of each text that passes no limit. A line that would deliver a packet that is too old ends
-- the run, which is then that of the lines before it.
pub record Headline : Type 0 where
  pub of_lines : (lines : List Line) → AreLines lines → length lines < 2 ^ 47 → HeadlineOf lines
  pub of_texts : TextsAreShort

-- ---- the facts on which it rests

-- what holds of each node by itself
pub record NodesOf (lines : List Line) : Type 0 where
  -- there is room for each letter that a tunnel has to give: as long as it isn't closed, those that it holds and those that its calls owe
  -- are fewer than 8,192
  pub room : AllHaveRoom (run lines).world
  -- each end has 1,024 tunnels at most, the closed ones among them
  pub few : AllAreFew (run lines).world
  -- no call is left in an open tunnel that isn't asked for, nor after a tick one that took too long to be set up; nor is a tunnel that wasn't
  -- set up in time, that was closed long enough ago, or whose peer acknowledges nothing
  pub none_left : NoneIsLeft lines
  -- the book of a node that is up is that of its end's tables, and one that is down is an end without tunnels above the book's ceilings
  pub books : (n : ℕ) (node : Node) → at (run lines).world.nodes n ≡ Some node → HoldsNode node
  -- each record of each of its steps, and of its start, is in place in its checkpoint
  pub records : (n : ℕ) (node : Node) → at (run lines).world.nodes n ≡ Some node → LeavesNoneOut node
  -- it drew no id above the ceilings that it committed, and draws above them once it crashed
  pub ids : (n : ℕ) (node : Node) → at (run lines).world.nodes n ≡ Some node → AreWithinCeilings node
  -- in the order of the run the numbers that it draws rise, whatever crashed and started in between, so none is drawn twice
  pub drawn : AllLater IsAbove (run lines).done
  -- where it falls and starts again, each of its established tunnels whose peer can recover is established again, as far as ids are left, and so
  -- are its established calls; nothing else is there
  pub restarts : (n : ℕ) (node : Node) → at (run lines).world.nodes n ≡ Some node → node.up ≡ true → (moment : ℕ) (block : List ℕ)
      → IsBroughtBack node.end (starts node.end.role node.end.config node.checkpoint.book moment block)

-- what holds of the line that comes next, whichever it is, as long as it fits
pub record NextLineOf (lines : List Line) : Type 0 where
  -- the sessions that it tells as gone are of one node, none is told twice, and each had a place before, or was kept
  pub gone : (number : ℕ) (l : Line) (x : Lined) → FitsLine l → line (run lines).world number l ≡ Ok x → GoOnce (run lines).world x
  -- and it makes no mark of a tunnel less, which is the greatest draw number of its peer's that the tunnel heeded
  pub marks : (number : ℕ) (l : Line) (x : Lined) → FitsLine l → line (run lines).world number l ≡ Ok x → MarksStay (run lines).world x.world
  -- and where it brings a node a packet of a stranger, the node keeps all its tunnels and calls: one tunnel more at most is there
  pub strangers : (number : ℕ) (l : Line) (x : Lined) → line (run lines).world number l ≡ Ok x → KeepsFromStrangers (run lines).world l x
  -- and whatever packet it brings a node, it leaves the node's tunnels to other peers alone; where no stop cuts its step off
  pub others : (number : ℕ) (l : Line) (x : Lined) → line (run lines).world number l ≡ Ok x → x.cut ≡ false → (packet : Packet) (n : ℕ)
      → Brings (run lines).world l packet n → LeavesOthersAlone (run lines).world n (address_of packet.from) x
  -- and no number that a node drew is drawn again, also where the node falls or starts in it: neither an id of a tunnel or of a session,
  -- nor a draw number of a recovery
  pub ids : (number : ℕ) (l : Line) (x : Lined) → FitsLine l → line (run lines).world number l ≡ Ok x → DrawsAnew (run lines).world x

-- what holds of calls and of the two ends of each
pub record CallsOf (lines : List Line) : Type 0 where
  -- a birth is that of one session of a LAC, and of one session of an LNS
  pub births : AreOfOneCall (run lines).world
  -- the session by which a live call knows the other end has the call's birth there, at a node of the other kind
  pub mates : (n : ℕ) (node : Node) → at (run lines).world.nodes n ≡ Some node → (i : ℕ) (t : Tunnel) → at node.end.tunnels i ≡ Some t
      → (session : ℕ) (c : Call) → at t.calls session ≡ Some c → 0 < c.remote → KnowsItsMate (run lines).world n node t session c
  -- so has that by which a node's checkpoint knows the other end of a call, whether the node is up or down
  pub books : (n : ℕ) (node : Node) → at (run lines).world.nodes n ≡ Some node → BookOk (run lines).world.nodes n node.checkpoint.book
  -- of two open ends of a link each session that one holds established is held by the other, or is covered: the ICCN for it, or the CDN by
  -- which it ended, waits to be taken, or the holder asks for it, or is to
  pub covered : (n i m j : ℕ) (t u : Tunnel) → AreOpen (run lines).world n i m j t u → AreCovered (run lines).world n i m j t u

-- what holds of channels, epoch by epoch
pub record EpochsOf (lines : List Line) : Type 0 where
  -- whichever line comes next, as long as it fits, no tunnel is in an earlier epoch behind it, and of no link were fewer epochs made
  pub rise : (number : ℕ) (l : Line) (x : Lined) → FitsLine l → line (run lines).world number l ≡ Ok x → EpochsStay (run lines).world x.world
  -- and a tunnel that is reset in it enters an epoch above the one in which it was
  pub entered : (number : ℕ) (l : Line) (x : Lined) → FitsLine l → line (run lines).world number l ≡ Ok x
      → AllByRecursion (EntersAnew (run lines).world) x.done
  -- of two linked ends whose epochs differ the lower one isn't there, or it is frozen or restored
  pub known : Knows (run lines).world (history_of (run lines).done)
  -- what a channel took in an epoch, as long as it wasn't closed, are the first letters that its partner gave in that very epoch, in order
  pub taken : (n i e : ℕ) → AreTaken (history_of (run lines).done).accounts e ((history_of (run lines).done).accounts n i e)
  -- and whatever packet comes next to a tunnel that takes messages, it was sent in the tunnel's own epoch, unless it declines an opening
  pub heard : AllByRecursion (λ (p : Packet). (o : ControlOrigin) (node : Node) (i : ℕ) (t : Tunnel) → IsDelivered (run lines).world p o node i t
      → is_current (mode_of t.recovery) ≡ true
      → IsOfItsEpoch (run lines).world (history_of (run lines).done) p o i t ⊎ IsRefusal (history_of (run lines).done) p o)
      (run lines).world.packets

-- what holds of marks, each of which is the greatest draw number of its peer's that a tunnel heeded
pub record MarksOf (lines : List Line) : Type 0 where
  -- the mark of a tunnel is no less than each draw number of its peer's that the tunnel heeded
  pub covered : AllByRecursion (IsCovered (run lines).world) (run lines).done
  -- and no attempt is answered that is older than one which the tunnel heeded before, or than an answer that it did
  pub none_older : AllLater IsNoOlder (run lines).done

-- what the data plane of each node sees
pub record CellsOf (lines : List Line) : Type 0 where
  -- what is seen of a session is so of its call: it is live, in the tunnel and to the peer that are seen
  pub looks : (n : ℕ) (node : Node) → at (run lines).world.nodes n ≡ Some node → LooksAreTrue node.end
  -- of a node that is up, a session of which frames pass is in the book, and each of the book is seen
  pub booked : (n : ℕ) (node : Node) → at (run lines).world.nodes n ≡ Some node → node.up ≡ true → AreBooked node
  -- a frame that is held was sent in the call for which it is held, by its other end
  pub held : HeldIsSent (run lines).world (past_of lines).sent

-- The facts, of each list of lines of the grammar: the ids that are drawn, and what is committed; which epoch is ahead; which letters are
-- taken; what the marks cover; which calls are each other's; which sessions are covered; and what cells say. Those of calls and of epochs
-- are said of lists of fewer than 2^47 lines, the others of any.
pub record FactsOf (lines : List Line) : Type 0 where
  pub nodes : NodesOf lines
  pub next : NextLineOf lines
  pub epochs : length lines < 2 ^ 47 → EpochsOf lines
  pub marks : MarksOf lines
  pub calls : length lines < 2 ^ 47 → CallsOf lines
  pub cells : CellsOf lines

abbrev pub Facts : Type 0
Facts = (lines : List Line) → AreLines lines → FactsOf lines

-- ---- schedules of any length

-- The frames and the requests of the headline, in the run of each list of lines of the grammar, crashes among them, however long.
pub record OriginsOf (lines : List Line) : Type 0 where
  pub frames : FramesOf lines
  pub requests : RequestsOf lines

abbrev pub Origins : Type 0
Origins = (lines : List Line) → AreLines lines → OriginsOf lines

-- ---- schedules without crashes

-- what control connections carry in a run
pub record ChannelsOf (lines : List Line) : Type 0 where
  -- each control message is a copy of the letter at its number, or declines an opening, and each tunnel took the first letters of its
  -- partner's list as long as it wasn't closed
  pub letters : LettersAreCarried (run lines)
  -- each letter that counts as acknowledged was taken, ignored by a closed tunnel, or declined
  pub acks : AcksAreTrue (run lines)
  -- the numbers of each control message that may be delivered are read as the numbers without an end
  pub numbers : NumbersAreRead (run lines)
  -- a node asks for each of its calls once, and for each request at most one call is made
  pub asked : AreAskedOnce (run lines).done
  pub made : AreMadeOnce (run lines).done
  -- no tunnel is recovered where nothing crashed
  pub main : AllByRecursion (λ (d : Deed). IsMain d.move) (run lines).done

-- What else holds of a run without crashes, of fewer than 2^47 lines. The sessions: partners that are established, with nothing outstanding, hold the
-- same ones, with the same births, also where an epoch isn't asked for. The channels: what control connections carry.
pub record CalmOf (lines : List Line) : Type 0 where
  pub sessions : SessionsAgree (run lines)
  pub channels : ChannelsOf lines

abbrev pub Calm : Type 0
Calm = (lines : List Line) → AreLines lines → AreCalm lines → length lines < 2 ^ 47 → CalmOf lines
