-- An end that is opened over a disk.
use Rattle.std.proofs.Common.{◌≡◌, inl, inr, ℕ, false, List, Option, Result, Ok, Err, IfSome, sym, subst, ◌∙◌}
use Rattle.std.specs.Prelude.{⊤}
use Rattle.std.proofs.lemmas.Bool.{true≢false}
use Rattle.wire_base.specs.Causes.{Rose}
use Rattle.disk_core.specs.Disk.{Held}
use Rattle.session_book.specs.declared.record.Record.{Record}
use Rattle.session_book.specs.Books.{Kept}
use Rattle.checkpoint_journal.specs.Answers.{IsUnwritten, IsSafe, Opens, OpenHasCause}
use Rattle.checkpoint_journal.specs.declared.open.JournalOpen.{JournalOpen}
use Rattle.checkpoint_journal.specs.declared.open.JournalOpen.TheVariants as journal
use Rattle.end_names.specs.declared.role.Role.TheVariants.{Lac, Lns}
use Rattle.end_model.specs.declared.tunnel.Config.{Config}
use Rattle.end_model.specs.Access.{new_access}
use Rattle.end_model.specs.Contents.{contents_of}
use Rattle.end_model.specs.Starting.{bare_end, starts}
use Rattle.lac_core.specs.Cores.{Given}
use Rattle.lac_core.specs.Cores.{GivesStep}
use Rattle.lac_core.specs.Gives.{GivesStart, end_step, starts_with}
use Rattle.end_store.specs.declared.store.StoreStop.{StoreStop}
use Rattle.end_store.specs.declared.store.StoreStop.TheVariants as stop
use Rattle.end_store.specs.Stored.{Stored, reads, IsKept, IsLeftBehind}
use Rattle.stored_ends.specs.Steps.{LacStored, LnsStored, StepsOnDisk, OpensOnDisk, StaysUnstarted, OpenStops, unopened, unstarted}
use Rattle.stored_ends.specs.Opening.{OpensLac, OpensLns}

module _ {D : Type 0} (holds : D → Option Held) (reach calls_left faults : D → ℕ) (number : ℕ) (disk mid now : D) (opened : Stored) where
  -- a store was opened over what the disk held
  pub record IsOpened (kind : ℕ) : Type 0 where
    pub book : IfSome (holds disk) (λ held. reads kind number held.bytes ≡ Ok opened.kept)
    pub kept : IsKept opened (holds mid)
    pub unwritten : IfSome (holds disk) (IsUnwritten (holds mid))
    pub unfailed : faults mid ≡ faults disk
    pub running : opened.journal.halted ≡ false

  module _ (kind : ℕ) (is : IsOpened kind) (records : Kept → List Record) (after : Stored) where
    on_disk : {T : Type 0} (r : Result T StoreStop) → StepsOnDisk holds reach calls_left faults (records opened.kept) opened after mid now r
        → OpensOnDisk holds reach calls_left faults kind number records disk now after r
    on_disk r h = record { opened = opened; mid = mid; book = is.book; kept = is.kept; unwritten = is.unwritten; unfailed = is.unfailed; started = h }

    unstarted_as : (e : StoreStop) → StepsOnDisk {T = ⊤} holds reach calls_left faults (records opened.kept) opened after mid now (Err e)
        → StaysUnstarted holds reach calls_left faults kind number records disk now e
    unstarted_as e h = (after, on_disk {T = ⊤} (Err e) h)

    -- a start that wasn't made is told
    pub stops_as : (T : Type 0) (e : StoreStop) → StepsOnDisk {T = T} holds reach calls_left faults (records opened.kept) opened after mid now (Err e)
        → OpenStops holds reach calls_left faults kind number records disk now (unstarted e)
    stops_as T stop.NoMemory h = (
      inr (unstarted_as stop.NoMemory
          (record { room = h.room; state = tt; cause = h.cause; refused = h.refused; untouched = h.untouched; tells = h.tells; stored = λ contents s. tt; crash = h.crash })),
      h.cause.1 ∙ is.unfailed,
    )
    stops_as T stop.Halted h = absurd (true≢false (sym h.cause.0 ∙ is.running))
    stops_as T stop.StoreFault h = (
      inr (unstarted_as stop.StoreFault
          (record { room = h.room; state = tt; cause = h.cause; refused = tt; untouched = h.untouched; tells = h.tells; stored = λ contents s. tt; crash = h.crash })),
      subst (λ (n : ℕ). Rose n (faults now)) is.unfailed h.cause.2,
    )
    stops_as T (stop.StoreFull count) h =
        unstarted_as (stop.StoreFull count)
        (record { room = h.room; state = tt; cause = h.cause; refused = h.refused; untouched = h.untouched; tells = h.tells; stored = λ contents s. tt; crash = h.crash })

-- a store that wasn't opened is told
pub unopened_as : {D : Type 0} (holds : D → Option Held) (reach calls_left faults : D → ℕ) (kind number : ℕ) (records : Kept → List Record) (disk now : D)
    (T : Type 0) (view : T → Kept) (e : JournalOpen) → IfSome (holds disk) (λ held. Opens view (reads kind number held.bytes) (Err e)) → IfSome (holds disk) (IsSafe (holds now))
    → IfSome (holds disk) (IsLeftBehind {T = T} kind number (holds now) (Err e)) → OpenHasCause {T = T} (faults disk) (faults now) (Err e)
    → OpenStops holds reach calls_left faults kind number records disk now (unopened e)
unopened_as holds reach calls_left faults kind number records disk now T view (journal.NotJournal at) opens safe left cause = (record { left = left; safe = safe }, opens, cause)
unopened_as holds reach calls_left faults kind number records disk now T view journal.StoreFault opens safe left cause = (inl (record { left = left; safe = safe }), cause)
unopened_as holds reach calls_left faults kind number records disk now T view journal.NoMemory opens safe left cause = (inl (record { left = left; safe = safe }), cause)

module _ {D : Type 0} (holds : D → Option Held) (reach calls_left faults : D → ℕ) (config : Config) (moment : ℕ) (block : List ℕ) (disk mid now : D) (opened : Stored) where
  -- the end of that store, as a fall leaves it
  abbrev pub lac_over : List ℕ → LacStored
  lac_over key = record { lac = record { end = bare_end Lac config opened.kept; access = new_access key }; store = opened }

  abbrev pub lns_over : LnsStored
  lns_over = record { lns = bare_end Lns config opened.kept; store = opened }

  abbrev lac_starts : List ℕ → LacStored → List Record
  lac_starts key x = contents_of x.lac.end (end_step (starts_with x.lac key x.store.kept moment block))

  abbrev lns_starts : LnsStored → List Record
  lns_starts x = contents_of x.lns (starts x.lns.role x.lns.config x.store.kept moment block)

  pub lac_opened : (key : List ℕ) (over after : LacStored) (g : Given) → IsOpened holds reach calls_left faults config.number disk mid now opened 1 → over ≡ lac_over key
      → StepsOnDisk {T = Given} holds reach calls_left faults (lac_starts key over) over.store after.store mid now (Ok g)
      → GivesStart {F = StoreStop} (Ok g) (starts_with over.lac key over.store.kept moment block) over.lac after.lac → OpensLac holds reach calls_left faults config moment block key disk now after g
  unfolding on_disk
  lac_opened key over after g is made h gives = record {
    found = on_disk holds reach calls_left faults config.number disk mid now opened 1 is (λ k. contents_of (bare_end Lac config k) (starts Lac config k moment block)) after.store (Ok g)
        (subst (λ (x : LacStored). StepsOnDisk {T = Given} holds reach calls_left faults (lac_starts key x) x.store after.store mid now (Ok g)) made h);
    given = subst (λ (x : LacStored). GivesStart {F = StoreStop} (Ok g) (starts_with x.lac key x.store.kept moment block) x.lac after.lac) made gives;
  }

  pub lac_stops : (T : Type 0) (key : List ℕ) (over : LacStored) (after : Stored) (e : StoreStop) → IsOpened holds reach calls_left faults config.number disk mid now opened 1 → over ≡ lac_over key
      → StepsOnDisk {T = T} holds reach calls_left faults (lac_starts key over) over.store after mid now (Err e)
      → OpenStops holds reach calls_left faults 1 config.number (λ k. contents_of (bare_end Lac config k) (starts Lac config k moment block)) disk now (unstarted e)
  lac_stops T key over after e is made h =
      stops_as holds reach calls_left faults config.number disk mid now opened 1 is (λ k. contents_of (bare_end Lac config k) (starts Lac config k moment block)) after T e
      (subst (λ (x : LacStored). StepsOnDisk {T = T} holds reach calls_left faults (lac_starts key x) x.store after mid now (Err e)) made h)

  pub lns_opened : (over after : LnsStored) (g : Given) → IsOpened holds reach calls_left faults config.number disk mid now opened 2 → over ≡ lns_over
      → StepsOnDisk {T = Given} holds reach calls_left faults (lns_starts over) over.store after.store mid now (Ok g)
      → GivesStep {F = StoreStop} (Ok g) (starts over.lns.role over.lns.config over.store.kept moment block) over.lns after.lns → OpensLns holds reach calls_left faults config moment block disk now after g
  unfolding on_disk
  lns_opened over after g is made h gives = record {
    found = on_disk holds reach calls_left faults config.number disk mid now opened 2 is (λ k. contents_of (bare_end Lns config k) (starts Lns config k moment block)) after.store (Ok g)
        (subst (λ (x : LnsStored). StepsOnDisk {T = Given} holds reach calls_left faults (lns_starts x) x.store after.store mid now (Ok g)) made h);
    given = subst (λ (x : LnsStored). GivesStep {F = StoreStop} (Ok g) (starts x.lns.role x.lns.config x.store.kept moment block) x.lns after.lns) made gives;
  }

  pub lns_stops : (T : Type 0) (over : LnsStored) (after : Stored) (e : StoreStop) → IsOpened holds reach calls_left faults config.number disk mid now opened 2 → over ≡ lns_over
      → StepsOnDisk {T = T} holds reach calls_left faults (lns_starts over) over.store after mid now (Err e)
      → OpenStops holds reach calls_left faults 2 config.number (λ k. contents_of (bare_end Lns config k) (starts Lns config k moment block)) disk now (unstarted e)
  lns_stops T over after e is made h =
      stops_as holds reach calls_left faults config.number disk mid now opened 2 is (λ k. contents_of (bare_end Lns config k) (starts Lns config k moment block)) after T e
      (subst (λ (x : LnsStored). StepsOnDisk {T = T} holds reach calls_left faults (lns_starts x) x.store after mid now (Err e)) made h)
