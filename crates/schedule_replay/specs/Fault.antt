-- What the answers of the world say.
use Rattle.std.specs.Prelude.{◌≡◌, ℕ, List, [], ◌++◌, Bool, true, false, Result, Ok, Err}
use Rattle.wire_base.specs.declared.bytes.NoMemory.{NoMemory as OutOfMemory}
use Rattle.world_model.specs.declared.refusal.Refusal.{Refusal}
use Rattle.world_model.specs.declared.refusal.Refusal.TheVariants.{Unfit, HalfSpace, Stale, StoreFull}
use Rattle.world_model.specs.Texts.{entries_text}
use Rattle.world_model.specs.World.{World, Lined, empty_world}
use Rattle.world_model.specs.Run.{tables}
use Rattle.schedule_replay.specs.Counting.{ups_after}
use Rattle.schedule_replay.specs.declared.fault.LineFault.{LineFault}
use Rattle.schedule_replay.specs.declared.fault.LineFault.TheVariants.{Refused, NoMemory}

-- a world, with its report so far, and how many frames were handed up by then
pub record Told : Type 0 where
  pub world : World
  pub report : List ℕ
  pub ups : ℕ

-- the line leads there: to its world, the texts of its entries are behind the report, and the frames that they tell of are counted
pub record LeadsTo (l : Lined) (old new : Told) : Type 0 where
  pub world : new.world ≡ l.world
  pub report : new.report ≡ old.report ++ entries_text l.entries
  pub ups : new.ups ≡ ups_after old.ups l.entries

-- what the line leads to, where it isn't refused
abbrev pub Leads : Result Lined Refusal → Told → Told → Type 0
Leads (Ok l) old new = LeadsTo l old new
Leads (Err x) old new = ⊥

-- What stays where a line is refused: the whole world; but of one that found no room for a step's records its report alone, as a tick's clock
-- has gone on, and a table in which a node was put back isn't known to be the same table.
abbrev pub Stays : Refusal → Told → Told → Type 0
Stays (Unfit why) old new = new ≡ old
Stays (HalfSpace number count) old new = new ≡ old
Stays (Stale sent own) old new = new ≡ old
Stays (StoreFull records) old new = (new.report ≡ old.report) × (new.ups ≡ old.ups)

-- the line's outcome is this, or this is why the line is refused
abbrev pub Says : {T : Type 0} → Result T LineFault → Result Lined Refusal → Told → Told → Type 0
Says (Ok x) outcome old new = Leads outcome old new
Says (Err (Refused refusal)) outcome old new = (outcome ≡ Err refusal) × Stays refusal old new
Says (Err NoMemory) outcome old new = Unit {0}

-- a world with its report, and whether memory was wanting in it once, or room for records: then its state says nothing any more, but that the
-- report is what it was
pub record Known : Type 0 where
  pub told : Told
  pub spent : Bool

abbrev pub new_told : Told
new_told = record { world = empty_world; report = []; ups = 0 }

abbrev pub new_known : Known
new_known = record { told = new_told; spent = false }

-- a world goes on behind a line that is refused, unless it found no room for records
abbrev pub Remains : Refusal → Known → Known → Type 0
Remains (Unfit why) old new = new ≡ old
Remains (HalfSpace number count) old new = new ≡ old
Remains (Stale sent own) old new = new ≡ old
Remains (StoreFull records) old new = (new.told.report ≡ old.told.report) × (new.spent ≡ true)

-- the same, of a world that answers want of memory for ever once it has answered it, or found no room for records
abbrev pub WorldSays : {T : Type 0} → Result T LineFault → Result Lined Refusal → Known → Known → Type 0
WorldSays (Ok x) outcome old new = (old.spent ≡ false) × Leads outcome old.told new.told × (new.spent ≡ false)
WorldSays (Err (Refused refusal)) outcome old new = (old.spent ≡ false) × (outcome ≡ Err refusal) × Remains refusal old new
WorldSays (Err NoMemory) outcome old new = new.spent ≡ true

-- the tables are behind the report
abbrev pub Finishes : {T : Type 0} → Result T OutOfMemory → Known → Known → Type 0
Finishes (Ok x) old new = (old.spent ≡ false) × (new.told ≡ record old.told { report = old.told.report ++ tables old.told.world }) × (new.spent ≡ false)
Finishes (Err e) old new = new.spent ≡ true
