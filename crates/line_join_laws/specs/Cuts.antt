-- A step that a stop cuts off amid its records, as the machine has it: the letter by which a tunnel or a call comes up in it stood before
-- the step, since what gives such a letter hears one of another kind, and a step hears one message.
use Rattle.std.specs.Prelude.{◌≡◌, ℕ, ◌+◌, ◌^◌, ◌<◌, true, List, Option, Some}
use Rattle.id_table.specs.Ids.{at}
use Rattle.session_book.specs.Books.{Kept}
use Rattle.end_model.specs.declared.event.Event.{Event}
use Rattle.end_model.specs.declared.moves.Move.{Move}
use Rattle.world_model.specs.World.{World, Node, Sender}
use Rattle.book_laws.specs.Books.{Mirrors}
use Rattle.channel_laws.specs.Accounts.{History}
use Rattle.channel_laws.specs.Facts.{Holds}
use Rattle.channel_laws.specs.Whole.{Leads}
use Rattle.epoch_machine.specs.Worlds as machine
use Rattle.epoch_machine.specs.Worlds.{all_rules}
use Rattle.epoch_machine.specs.Moves as moves
use Rattle.epoch_machine.specs.Moves.{falls, step}
use Rattle.stop_laws.specs.Records.{writes, each_allowed, SameBook}
use Rattle.stop_laws.specs.Steps.{AllInStep}
use Rattle.join_laws.specs.Hearing.{AreHeard}
use Rattle.join_laws.specs.Steps.{with_book, AreOf, IsJoined}
use Rattle.line_join_laws.specs.Chains.{IsStanding}

-- the moves of a node are those of one step then, which may be cut off after each of its records
abbrev pub HeardMovesStand : Type 0
HeardMovesStand = (ev : Event) (n : ℕ) (m : machine.World) (js : List moves.Move) → AreOf n m js → AreHeard ev m js → AllInStep m n m js

-- ---- where moves lead

-- Where moves of a step lead, the machine has gone on by records that a stop may keep in the world before the step: so its node may fall
-- there, and what stands in the machine's book then is what stands in the book of the end that the moves leave.
pub record StopsThere (n : ℕ) (before z : machine.World) : Type 0 where
  pub records : List moves.Kept
  pub allowed : each_allowed before n records ≡ true
  pub stops : step all_rules before (moves.Stops n records) ≡ falls (writes before records) n
  pub alike : SameBook (writes before records) z

-- the world to which they lead is joined with that one of the machine's
pub record IsAmid (n : ℕ) (before : machine.World) (v : World) (g : History) : Type 0 where
  pub node : Node
  pub there : at v.nodes n ≡ Some node
  pub book : Kept
  pub mirrors : Mirrors node.end book
  pub machine : machine.World
  pub joined : IsJoined (with_book v n book) g machine
  pub stops : StopsThere n before machine

abbrev pub JoinedStepsStop : Type 0
JoinedStepsStop = (w : World) (h : History) (top : ℕ) (s : IsStanding w h top) → top + 131072 < 2 ^ 64
    → (n : ℕ) (old : Node) → at w.nodes n ≡ Some old → old.up ≡ true → (sender : Option Sender) (moment : ℕ) (ev : Event)
    → (made : List Move) (v : World) (g : History) → Leads n sender moment ev w h made v g → Holds v g → IsAmid n s.machine v g
