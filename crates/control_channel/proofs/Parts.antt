-- Each call acts on the numbers and the letters alone.
use Rattle.std.proofs.Common.{ℕ, Bool, true, false, refl}
use Rattle.send_window.specs.Kept.{Kept}
use Rattle.recv_window.specs.Window.{Inbox}
use Rattle.control_channel.specs.History.{Reserves, Sends, Receives, Takes, Pumps, Ticks, Freezes, Resets, Learns}
use Rattle.control_channel.specs.Parts.{ActsOnParts, EachCallActsOnParts, BeginsAsParts, LendsByPlace}

pumps : (moment : ℕ) (o : Kept) (i : Inbox) (frozen : Bool) → ActsOnParts (Pumps moment) (record { outbox = o; inbox = i; frozen = frozen })
pumps moment o i true = record { numbers = refl; letters = refl; answer = refl }
pumps moment o i false = record { numbers = refl; letters = refl; answer = refl }

ticks : (moment : ℕ) (o : Kept) (i : Inbox) (frozen : Bool) → ActsOnParts (Ticks moment) (record { outbox = o; inbox = i; frozen = frozen })
ticks moment o i true = record { numbers = refl; letters = refl; answer = refl }
ticks moment o i false = record { numbers = refl; letters = refl; answer = refl }

pub each_call_acts_on_parts : EachCallActsOnParts
each_call_acts_on_parts (Reserves count) c = record { numbers = refl; letters = refl; answer = refl }
each_call_acts_on_parts (Sends letter) c = record { numbers = refl; letters = refl; answer = refl }
each_call_acts_on_parts (Receives ns nr empty moment) c = record { numbers = refl; letters = refl; answer = refl }
each_call_acts_on_parts Takes c = record { numbers = refl; letters = refl; answer = refl }
each_call_acts_on_parts (Pumps moment) c = pumps moment c.outbox c.inbox c.frozen
each_call_acts_on_parts (Ticks moment) c = ticks moment c.outbox c.inbox c.frozen
each_call_acts_on_parts Freezes c = record { numbers = refl; letters = refl; answer = refl }
each_call_acts_on_parts (Resets send_from expect) c = record { numbers = refl; letters = refl; answer = refl }
each_call_acts_on_parts (Learns peer) c = record { numbers = refl; letters = refl; answer = refl }

pub begins_as_parts : BeginsAsParts
begins_as_parts send_from expect peer_window = record { numbers = refl; letters = refl }

pub lends_by_place : LendsByPlace
lends_by_place c number = refl
