-- What moves need of the roles of ends: who asks for calls is a LAC. An end's role never changes, also where its node falls and starts
-- again.
use Rattle.std.specs.Prelude.{◌≡◌, ◌⊎◌, ℕ, List, [], Option, Some}
use Rattle.std.specs.List.{AllByRecursion}
use Rattle.id_table.specs.Ids.{at}
use Rattle.session_book.specs.Books.{Kept}
use Rattle.control_message.specs.declared.message.Message.{Message}
use Rattle.control_message.specs.declared.message.Message.TheVariants.{Icrq}
use Rattle.end_model.specs.declared.event.Event.{Event}
use Rattle.end_model.specs.declared.moves.Move.{Move}
use Rattle.end_model.specs.declared.moves.Move.TheVariants as move
use Rattle.end_names.specs.declared.role.Role.TheVariants.{Lns}
use Rattle.end_model.specs.End.{End}
use Rattle.world_model.specs.World.{World, Node, Sender, Deed, empty_world}
use Rattle.step_laws.specs.Letters.{Letter}
use Rattle.book_laws.specs.Books.{Mirrors}
use Rattle.epoch_machine.specs.Worlds as machine
use Rattle.channel_laws.specs.Accounts.{Account, History, no_history, after}
use Rattle.channel_laws.specs.Steps.{moves_on, IsMoved}
use Rattle.join_laws.specs.Steps.{with_book, IsMade, Follows}

abbrev pub IsAsking : Message → Type 0
IsAsking (Icrq own serial calling) = Unit {0}
IsAsking m = ⊥

-- no letter that a channel gave asks for a call
abbrev pub AsksNone : Account → Type 0
AsksNone a = AllByRecursion (λ (l : Letter). IsAsking l.message → ⊥) a.given

-- so it is of all channels of an LNS, in whichever epoch
abbrev pub RequestsAreOfLacs : World → History → Type 0
RequestsAreOfLacs w h = (n i e : ℕ) (node : Node) → at w.nodes n ≡ Some node → node.end.role ≡ Lns → AsksNone (h.accounts n i e)

-- each node of a world has the role that it had in another one, or it is new: no channel of it gave a letter
abbrev pub HasRolesOf : World → World → History → Type 0
HasRolesOf w v h = (n : ℕ) (node : Node) → at v.nodes n ≡ Some node
    → ((old : Node) × (at w.nodes n ≡ Some old) × (old.end.role ≡ node.end.role)) ⊎ ((i e : ℕ) → (h.accounts n i e).given ≡ [])

-- it is so at first, and stays so in each move, and where nodes change otherwise but in their roles
pub record RequestsStay : Type 0 where
  pub first : RequestsAreOfLacs empty_world no_history
  pub moves : (w : World) (h : History) (n : ℕ) (node : Node) (sender : Option Sender) (moment : ℕ) (ev : Event) (m : Move) (x : End)
      (d : Deed) → IsMoved w h n node sender moment ev m x d → RequestsAreOfLacs w h → RequestsAreOfLacs (moves_on w n node m x) (after h d)
  pub others : (w v : World) (h : History) → HasRolesOf w v h → RequestsAreOfLacs w h → RequestsAreOfLacs v h

-- a move that is joined where requests are of LACs
abbrev pub JoinsByRoles : Move → Type 0
JoinsByRoles m = (w : World) (h : History) (n : ℕ) (node : Node) (sender : Option Sender) (moment : ℕ) (ev : Event) (x : End) (d : Deed)
    (k : Kept) (j : machine.World) → RequestsAreOfLacs w h → IsMade w h n node sender moment ev m x d k j → (b : Kept) → Mirrors x b
    → Follows ev (with_book (moves_on w n node m x) n b) (after h d) n j

-- a request is refused
abbrev pub IsRefusing : Move → Type 0
IsRefusing (move.Refused m) = Unit {0}
IsRefusing m = ⊥

abbrev pub RefusingMovesJoin : Type 0
RefusingMovesJoin = (m : Move) → IsRefusing m → JoinsByRoles m
