-- What a step of a node's end gives, of either kind, and the line that it makes.
use Rattle.std.specs.Prelude.{◌≡◌, ◌⊎◌, ℕ, List, [], ◌∷◌, ◌++◌, true, false, if◌then◌else◌, Option, Some, None, is_some, Result, Ok, Err}
use Rattle.wire_base.specs.declared.letter.Side.{Side}
use Rattle.wire_base.specs.declared.letter.Side.TheVariants as side
use Rattle.wire_base.specs.declared.why.Why.{Why}
use Rattle.wire_base.specs.declared.why.Why.TheVariants as why
use Rattle.end_model.specs.Calls.{is_lac}
use Rattle.end_model.specs.declared.event.Event.{Event}
use Rattle.end_model.specs.declared.event.Event.TheVariants.{Datagram, Ring, Frame, Admitted, Payload, Lower, Lcp, Hang, OpenTunnel, DropCall, CloseTunnel, Tick}
use Rattle.end_model.specs.declared.moves.Move.{Move}
use Rattle.end_model.specs.declared.out.Out.{Out}
use Rattle.end_model.specs.Access.{Access, Served, serves}
use Rattle.end_names.specs.declared.role.Role.{Role}
use Rattle.end_names.specs.declared.role.Role.TheVariants.{Lac, Lns}
use Rattle.session_book.specs.Books.{Kept}
use Rattle.end_model.specs.declared.tunnel.Config.{Config}
use Rattle.end_model.specs.Contents.{contents_of}
use Rattle.end_model.specs.End.{End, Stepped, step}
use Rattle.session_book.specs.declared.record.Record.{Record}
use Rattle.step_ledger.specs.declared.ledger.StepFault.{StepFault}
use Rattle.step_ledger.specs.declared.ledger.StepFault.TheVariants as fault
use Rattle.world_checkpoint.specs.declared.commits.CommitStop.{CommitStop}
use Rattle.world_checkpoint.specs.declared.commits.CommitStop.TheVariants as stop
use Rattle.world_checkpoint.specs.Stores.{Filed, OpensTo}
use Rattle.end_model.specs.Starting.{starts, access_over}
use Rattle.world_model.specs.Texts.{Entry, Frames, Stopped, entry_text, entries_text}
use Rattle.schedule_replay.specs.declared.fault.LineFault.{LineFault}
use Rattle.schedule_replay.specs.declared.fault.LineFault.TheVariants.{Refused, NoMemory as OutOfMemory}
use Rattle.schedule_replay.specs.Counting.{ups_with, ups_after}
use Rattle.schedule_replay.specs.Fault.{Told}
use Rattle.world_model.specs.declared.refusal.Refusal.{Refusal}
use Rattle.world_model.specs.declared.refusal.Refusal.TheVariants.{StoreFull, Unfit}
use Rattle.world_model.specs.declared.held.Held.{Held}
use Rattle.world_model.specs.World.{World, Node, Checkpoint, Lined, Committed, IsFull, IsCut, IsWhole, quiet_line, with_node, moved_all, shown_all, entries_of, block_of, commits, fallen, without_held, cut_line, held_line, dropped_line, hand_entry, behind_up}
use Rattle.schedule_replay.specs.declared.held.Loaded.{Loaded}
use Rattle.schedule_replay.specs.declared.held.Loaded.TheVariants as loaded
use Rattle.schedule_replay.specs.declared.kinds.Moved.{Moved}
use Rattle.schedule_replay.specs.declared.node.Unmade.{Unmade}
use Rattle.schedule_replay.specs.declared.node.Unmade.TheVariants as unmade
use Rattle.schedule_replay.specs.Kinds.{Site, site_in}

-- the next end with what it keeps of hosts, what the step gave, and the frame that answers a host behind all that
pub record SiteStep : Type 0 where
  pub site : Site
  pub outputs : List Out
  pub moves : List Move
  pub reply : Option (List ℕ)

abbrev pub by_served : Served → SiteStep
by_served v = record { site = record { end = v.lac.end; access = Some v.lac.access }; outputs = v.outputs; moves = v.moves; reply = v.reply }

abbrev pub by_stepped : Stepped → SiteStep
by_stepped s = record { site = record { end = s.end; access = None }; outputs = s.outputs; moves = s.moves; reply = None }

abbrev pub step_with : Site → Option Access → ℕ → List ℕ → Event → SiteStep
step_with s None moment block ev = by_stepped (step s.end moment block ev)
step_with s (Some a) moment block ev = by_served (serves (record { end = s.end; access = a }) moment block ev)

unfoldable pub site_step : Site → ℕ → List ℕ → Event → SiteStep
site_step s moment block ev = step_with s s.access moment block ev

-- the step is this, or the end is as before, where it wasn't made
abbrev pub GivesSite : {F : Type 0} → Result Moved F → SiteStep → Site → Site → Type 0
GivesSite (Ok g) s old new = s ≡ record { site = new; outputs = g.outputs; moves = g.moves; reply = g.reply }
GivesSite (Err e) s old new = new ≡ old

-- a start over a book, at a moment with a block, which a LAC's cookies are made with
unfoldable pub site_start : Role → Config → ℕ → List ℕ → Kept → SiteStep
site_start r c moment block k = record {
  site = record { end = (starts r c k moment block).end; access = access_over r block k };
  outputs = (starts r c k moment block).outputs;
  moves = (starts r c k moment block).moves;
  reply = None;
}

-- ---- what a node commits

-- the kind of end that a journal tells: 1 for a LAC, 2 for an LNS
abbrev pub kind_of : Role → ℕ
kind_of Lac = 1
kind_of Lns = 2

-- a checkpoint's file is that of this node
pub record IsFileOf (e : End) (f : Filed) : Type 0 where
  pub kind : f.kind ≡ kind_of e.role
  pub number : f.number ≡ e.config.number

-- opened as the journal of this node a file has the book of its checkpoint
abbrev pub OpensAt : Node → List ℕ → Type 0
OpensAt x file = OpensTo (kind_of x.end.role) x.end.config.number x.checkpoint.book file

abbrev pub end_step : SiteStep → Stepped
end_step v = record { end = v.site.end; outputs = v.outputs; moves = v.moves }

-- what a step leaves
abbrev pub site_contents : Site → SiteStep → List Record
site_contents s v = contents_of s.end (end_step v)

-- what comes of the records of a node's step
abbrev pub site_commits : Node → SiteStep → Committed
site_commits x v = commits x.checkpoint (site_contents (site_in x) v)

-- the node after it, where all of them were committed
abbrev pub after_site : Node → SiteStep → Checkpoint → Node
after_site x v k = record x { end = v.site.end; access = v.site.access; checkpoint = k }

-- why a node's step wasn't made, by the fault of its end's: where a stop cut it off, the node fell, and it is as before otherwise
abbrev pub IsLeft : Unmade → StepFault CommitStop → List ℕ → Node → Node → Type 0
IsLeft unmade.Cut (fault.Uncommitted stop.Cut) block old new = new ≡ fallen block old.end old old.checkpoint
IsLeft unmade.Cut (fault.Uncommitted stop.NoMemory) block old new = ⊥
IsLeft unmade.Cut (fault.Uncommitted stop.Differs) block old new = ⊥
IsLeft unmade.Cut (fault.Uncommitted (stop.Full records)) block old new = ⊥
IsLeft unmade.Cut fault.NoMemory block old new = ⊥
IsLeft (unmade.Full records) (fault.Uncommitted (stop.Full told)) block old new = (records ≡ told) × (new ≡ old)
IsLeft (unmade.Full records) (fault.Uncommitted stop.NoMemory) block old new = ⊥
IsLeft (unmade.Full records) (fault.Uncommitted stop.Differs) block old new = ⊥
IsLeft (unmade.Full records) (fault.Uncommitted stop.Cut) block old new = ⊥
IsLeft (unmade.Full records) fault.NoMemory block old new = ⊥
IsLeft unmade.NoMemory (fault.Uncommitted stop.NoMemory) block old new = new ≡ old
IsLeft unmade.NoMemory (fault.Uncommitted stop.Differs) block old new = new ≡ old
IsLeft unmade.NoMemory (fault.Uncommitted (stop.Full records)) block old new = ⊥
IsLeft unmade.NoMemory (fault.Uncommitted stop.Cut) block old new = new ≡ old
IsLeft unmade.NoMemory fault.NoMemory block old new = new ≡ old

-- what a checkpoint may be where memory was wanting in a step: as before, or as a stop left it that cut the step off
abbrev pub MayLeave : Committed → Checkpoint → Checkpoint → Type 0
MayLeave (IsFull records) old new = new ≡ old
MayLeave (IsCut k) old new = (new ≡ old) ⊎ (new ≡ k)
MayLeave (IsWhole k) old new = new ≡ old

-- Where a step wasn't made, by what comes of its records, and no stop cut it off, the node is as before. Where one did, and memory was
-- wanting for the fall, it is but for its checkpoint.
abbrev pub IsAsBefore : {T : Type 0} → Result T Unmade → Committed → Node → Node → Type 0
IsAsBefore (Ok x) c old new = Unit {0}
IsAsBefore (Err unmade.Cut) c old new = Unit {0}
IsAsBefore (Err (unmade.Full records)) c old new = new ≡ old
IsAsBefore (Err unmade.NoMemory) c old new = (k : Checkpoint) × (new ≡ record old { checkpoint = k }) × MayLeave c old.checkpoint k

-- a node's step is this, as far as memory sufficed
abbrev pub MakesStep : Result Moved Unmade → List ℕ → SiteStep → Node → Node → Type 0
MakesStep (Ok g) block v old new =
    (k : Checkpoint) × (site_commits old v ≡ IsWhole k) × (new ≡ after_site old v k)
    × (g.outputs ≡ v.outputs) × (g.moves ≡ v.moves) × (g.reply ≡ v.reply)
MakesStep (Err unmade.Cut) block v old new = (k : Checkpoint) × (site_commits old v ≡ IsCut k) × (new ≡ fallen block old.end old k)
MakesStep (Err (unmade.Full records)) block v old new = site_commits old v ≡ IsFull records
MakesStep (Err unmade.NoMemory) block v old new = Unit {0}

-- ---- what doesn't fit

-- why a frame can't come to a node
abbrev pub frames_unfit : Option Node → Option Why
frames_unfit None = Some why.Node
frames_unfit (Some x) =
    if is_lac x.end.role then (if x.up then (if is_some x.access then None else Some why.Node) else Some why.Down) else Some why.Node

-- why a node can't start
abbrev pub start_unfit : Option Node → Option Why
start_unfit None = Some why.Node
start_unfit (Some x) = if x.up then Some why.Up else None

-- ---- the line

abbrev pub reply_entries : ℕ → ℕ → Option (List ℕ) → List Entry
reply_entries line n None = []
reply_entries line n (Some bytes) = Frames line n bytes ∷ []

unfoldable pub moved_to : World → ℕ → Node → SiteStep → Checkpoint → World
moved_to w n x v k = moved_all n v.moves (with_node w n (after_site x v k))

-- its world and its entries; what is done stands elsewhere
unfoldable pub whole_line : World → ℕ → ℕ → Node → SiteStep → Checkpoint → Lined
whole_line w line n x v k = record {
  world = shown_all n v.outputs (moved_to w n x v k);
  entries = entries_of line n v.outputs (moved_to w n x v k) ++ reply_entries line n v.reply;
  done = [];
  cut = false;
}

abbrev pub served_by : World → ℕ → ℕ → Node → SiteStep → Committed → Result Lined Refusal
served_by w line n x v (IsFull records) = Err (StoreFull records)
served_by w line n x v (IsCut k) = Ok (cut_line w line n x k)
served_by w line n x v (IsWhole k) = Ok (whole_line w line n x v k)

unfoldable pub served_line : World → ℕ → ℕ → Node → SiteStep → Result Lined Refusal
served_line w line n x v = served_by w line n x v (site_commits x v)

unfoldable pub served_at : World → ℕ → ℕ → Event → Option Node → Result Lined Refusal
served_at w line n ev None = Ok (quiet_line w)
served_at w line n ev (Some x) = served_line w line n x (site_step (site_in x) x.clock (block_of n line) ev)

-- a node that starts, where it is down
unfoldable pub start_served : World → ℕ → ℕ → Node → Result Lined Refusal
start_served w line n x =
    served_line w line n (record x { up = true }) (site_start x.end.role x.end.config x.clock (block_of n line) x.checkpoint.book)

-- an event that isn't of a LAC's access
abbrev pub IsPlain : Event → Type 0
IsPlain (Frame bytes) = ⊥
IsPlain (Admitted mac) = ⊥
IsPlain (Datagram peer bytes) = Unit {0}
IsPlain (Ring port) = Unit {0}
IsPlain (Payload s frame) = Unit {0}
IsPlain (Lower s frame) = Unit {0}
IsPlain (Lcp s packet) = Unit {0}
IsPlain (Hang s) = Unit {0}
IsPlain OpenTunnel = Unit {0}
IsPlain (DropCall s) = Unit {0}
IsPlain (CloseTunnel i) = Unit {0}
IsPlain Tick = Unit {0}

-- ---- what a line tells

-- what came of a node's step is shown, in a world that has the node as the step left it
abbrev pub ShowsMade : {T : Type 0} → Result T LineFault → Result Moved Unmade → ℕ → ℕ → Told → Told → Type 0
ShowsMade (Ok x) (Ok g) line n old new =
    let v = moved_all n g.moves old.world in
    (new.world ≡ shown_all n g.outputs v)
    × (new.report ≡ old.report ++ entries_text (entries_of line n g.outputs v ++ reply_entries line n g.reply))
    × (new.ups ≡ ups_after old.ups (entries_of line n g.outputs v ++ reply_entries line n g.reply))
ShowsMade (Ok x) (Err unmade.Cut) line n old new =
    (new.world ≡ without_held old.world n) × (new.report ≡ old.report ++ entries_text (Stopped line n ∷ [])) × (new.ups ≡ old.ups)
ShowsMade (Ok x) (Err (unmade.Full records)) line n old new = ⊥
ShowsMade (Ok x) (Err unmade.NoMemory) line n old new = ⊥
ShowsMade (Err (Refused refusal)) (Err (unmade.Full records)) line n old new = (refusal ≡ StoreFull records) × (new ≡ old)
ShowsMade (Err (Refused refusal)) (Err unmade.Cut) line n old new = ⊥
ShowsMade (Err (Refused refusal)) (Err unmade.NoMemory) line n old new = ⊥
ShowsMade (Err (Refused refusal)) (Ok g) line n old new = ⊥
ShowsMade (Err OutOfMemory) made line n old new = Unit {0}

-- ---- frames that are held

-- the line of what came of a load
abbrev pub loaded_line : World → ℕ → ℕ → Loaded → Result Lined Refusal
loaded_line w line n (loaded.Passes f) = Ok (held_line w line n f)
loaded_line w line n (loaded.Dropped x) = Ok (dropped_line w line n x)
loaded_line w line n loaded.Control = Err (Unfit why.Packet)

-- a frame is told before what came of a node's step on it, where the step was made
abbrev pub told_first : {T E : Type 0} → Result T E → ℕ → ℕ → Held → Told → Told
told_first (Ok g) line n f old = record old { report = old.report ++ entry_text (hand_entry line n f); ups = ups_with old.ups (hand_entry line n f) }
told_first (Err e) line n f old = old

abbrev pub ShowsBehind : {T : Type 0} → Result T LineFault → Result Moved Unmade → ℕ → ℕ → Held → Told → Told → Type 0
ShowsBehind r made line n f old new = ShowsMade r made line n (told_first made line n f old) new

-- the line of a frame of LCP that a node hears
unfoldable pub heard_at : World → ℕ → ℕ → Held → Option Node → Result Lined Refusal
heard_at w line n f None = Ok (quiet_line w)
heard_at w line n f (Some x) =
    behind_up line n x.end.role f (served_line w line n x (site_step (site_in x) x.clock (block_of n line) (Lcp f.session f.frame)))

-- the line of a frame that was held
abbrev pub passes_to : World → ℕ → ℕ → Held → Side → Option Node → Result Lined Refusal
passes_to w line n f side.Sub o = behind_up line n Lac f (Ok (quiet_line w))
passes_to w line n f side.Net o = behind_up line n Lac f (Ok (quiet_line w))
passes_to w line n f side.Lcp o = heard_at w line n f o

abbrev pub passes : World → ℕ → ℕ → Held → Option Node → Result Lined Refusal
passes w line n f o = passes_to w line n f f.side o
