-- What a clause says of passes.
use Rattle.std.specs.Prelude.{◌≡◌, ℕ, ◌-◌, ◌<◌, ◌≤◌, ◌^◌, ◌⊎◌, true, List, [], ◌∷◌, ◌++◌, length, map, Option, Some, None}
use Rattle.crossbeam_queue.specs.Passes.{view, IsPassOf}
use Rattle.crossbeam_queue.specs.Fifo.{Held}
use Rattle.session_cells.specs.Tokens.{IsOf}
use Rattle.step_hub.specs.declared.hub.Hub.{Ghosts}
use Rattle.session_workers.specs.declared.views.ItemView.{ItemView}
use Rattle.session_workers.specs.declared.views.FinishedView.{FinishedView}
use Rattle.session_workers.specs.declared.item.Numbered.{Numbered}
use Rattle.session_workers.specs.declared.item.Item.{Item}
use Rattle.session_workers.specs.declared.shared.Shared.{Shared}
use Rattle.session_workers.specs.declared.shared.Pass.{Pass}
use Rattle.session_workers.specs.declared.finished.Finished.{Finished}
use Rattle.session_workers.specs.declared.finished.Worked.{Worked}
use Rattle.session_workers.specs.declared.finished.Worked.TheVariants.{Empty, Done}
use Rattle.session_workers.specs.Items.{name_in, numbers_of, IsPut, Tells}
use Rattle.session_workers.specs.Finishing.{Evens}
use Rattle.session_workers.specs.Lists.{times}

abbrev pub items_of : Pass → ItemView
items_of p = view p.items

abbrev pub finished_of : Pass → FinishedView
finished_of p = view p.finished

-- what the pass knows to have been put, in order
abbrev pub known_of : Pass → List Numbered
known_of p = (items_of p).known

-- the items that the pass took
abbrev pub took_of : Pass → List Numbered
took_of p = (items_of p).taken

-- their numbers
abbrev pub taken_of : Pass → List ℕ
taken_of p = numbers_of (took_of p)

-- what the pass made of the items that it took
abbrev pub made_of : Pass → List Finished
made_of p = (finished_of p).made

-- what the pass handed over
abbrev pub gave_of : Pass → List Finished
gave_of p = (finished_of p).gave

-- what the pass collected
abbrev pub got_of : Pass → List Finished
got_of p = (finished_of p).got

-- it is a pass of these cells and queues
pub record IsPassIn {H : Type 0} {G : Ghosts H} (shared : Shared H G) (p : Pass) : Type 0 where
  pub cells : IsOf shared.locked.cells p.seen
  pub queue : IsPassOf shared.items p.items
  pub part : 0 < (items_of p).parts
  pub row : (items_of p).row ≡ Some (name_in shared.locked.cells.first.book)
  pub finished : IsPassOf shared.finished p.finished
  pub finished_part : 0 < (finished_of p).parts

-- it is the opener's, which alone puts, and knows all that was put
pub record IsOpener (p : Pass) : Type 0 where
  pub opens : (items_of p).opener ≡ true
  pub counts : p.puts ≡ length (known_of p)

-- no number is taken twice
abbrev pub EachOnce : List ℕ → Type 0
EachOnce taken = (n : ℕ) → times n taken ≤ 1

abbrev pub numbered : ℕ → Item → Numbered
numbered n item = record { number = n; item = item }

-- what it was made of
abbrev pub origin_of : Finished → Numbered
origin_of f = numbered f.number f.item

abbrev pub origins_of : List Finished → List Numbered
origins_of fs = map origin_of fs

-- no number was left, or the queue held 1,024 items at one moment
abbrev pub WasFull : Pass → Type 0
WasFull p = (length (known_of p) ≡ 2 ^ 64 - 1) ⊎ Held 1024 (Tells (items_of p))

-- What one call of a worker did to its pass. The queue was empty at one moment; or the item was put, at its number, this pass hadn't
-- taken it, made this of it, and what was seen is of these cells
abbrev pub WorkedOne : {H : Type 0} → {G : Ghosts H} → Shared H G → Pass → Pass → Worked → Type 0
WorkedOne shared old new Empty = (items_of new ≡ items_of old) × (finished_of new ≡ finished_of old) × Held 0 (Tells (items_of old))
WorkedOne shared old new (Done f) =
    IsPut (known_of new) (origin_of f)
    × (took_of new ≡ took_of old ++ origin_of f ∷ []) × (times f.number (taken_of old) ≡ 0)
    × (made_of new ≡ made_of old ++ f ∷ [])
    × IsOf shared.locked.cells f.seen

-- what a collection did to its pass
abbrev pub CollectedOne : Pass → Pass → Option Finished → Type 0
CollectedOne old new None = (finished_of new ≡ finished_of old) × Held 0 (Evens (finished_of old))
CollectedOne old new (Some f) = got_of new ≡ got_of old ++ f ∷ []

-- it knows what it knew, and did no more
abbrev pub IsAsBefore : Pass → Pass → Type 0
IsAsBefore old new =
    (known_of new ≡ known_of old) × (took_of new ≡ took_of old) × (gave_of new ≡ gave_of old) × (got_of new ≡ got_of old)
    × ((items_of new).opener ≡ (items_of old).opener) × (new.puts ≡ old.puts) × (made_of new ≡ made_of old)

-- it knows what the old one knew, and did nothing
abbrev pub IsNew : Pass → Pass → Type 0
IsNew old new = (known_of new ≡ known_of old) × (took_of new ≡ []) × (gave_of new ≡ []) × (got_of new ≡ []) × (made_of new ≡ [])
