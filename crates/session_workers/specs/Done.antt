-- What became of an item, by its cases.
use Rattle.std.specs.Prelude.{ℕ, List, Option, Some, None}
use Rattle.end_model.specs.declared.event.Event.{Event}
use Rattle.end_model.specs.declared.event.Event.TheVariants as event
use Rattle.data_plane.specs.declared.carry.Carry.{Carry}
use Rattle.session_workers.specs.declared.item.Item.{Item}
use Rattle.session_workers.specs.declared.finished.Done.{Done}
use Rattle.session_workers.specs.declared.finished.Done.TheVariants.{Carried, Turned, Failed}

-- the judgement of a data message
abbrev pub carried_of : Done → Option Carry
carried_of (Carried carry) = Some carry
carried_of (Turned turned) = None
carried_of (Failed error) = None

-- what a turn is told
pub record Due : Type 0 where
  pub event : Event
  pub moment : ℕ
  pub block : List ℕ

abbrev pub told_of : Done → Option Due
told_of (Turned t) = Some (record { event = t.event; moment = t.moment; block = t.block })
told_of (Carried carry) = None
told_of (Failed error) = None

-- what it is to be told: that the item's datagram came from its peer
abbrev pub due_of : Done → Item → Option Due
due_of (Turned t) item = Some (record { event = event.Datagram item.peer item.bytes; moment = item.now; block = item.block })
due_of (Carried carry) item = None
due_of (Failed error) item = None
