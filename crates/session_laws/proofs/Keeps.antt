-- What a move of a step is in the abstract machine.
use Rattle.std.proofs.Common.{◌≡◌, ℕ, Option, Some}
use Rattle.std.specs.Prelude.{◌==◌, if◌then◌else◌}
use Rattle.end_model.specs.declared.event.Event.{Event}
use Rattle.end_model.specs.declared.moves.Move.{Move}
use Rattle.end_model.specs.End.{End}
use Rattle.world_model.specs.World.{Sender, Deed}
use Rattle.epoch_machine.specs.Worlds as machine
use Rattle.birth_laws.specs.Births as births
use Rattle.coverage_laws.specs.Coverage as coverage
use Rattle.connection_laws.specs.Facts.{Accounts, Within}
use Rattle.connection_laws.specs.Steps.{after, IsMoved, NextIsHeard, PlainIsHeard, LettersAreHeard, StopIsHeard, ClosingsAreKnown, DeclinesAreOfOpenings, OpeningsAreAcceptable, FaultsAreOfRequests}
use Rattle.session_laws.specs.Joined.{Ends, AreJoined}
use Rattle.session_laws.proofs.Births.{BirthsFollow}

abbrev pub with_end : Ends → ℕ → End → Ends
with_end ends n x m = if m == n then Some x else ends m

-- what is used of other crates
pub record Laws : Type 0 where
  pub heard : NextIsHeard
  pub plain : PlainIsHeard
  pub letters : LettersAreHeard
  pub stop : StopIsHeard
  pub known : ClosingsAreKnown
  pub openings : DeclinesAreOfOpenings
  pub acceptable : OpeningsAreAcceptable
  pub faulty : FaultsAreOfRequests
  pub births : births.BirthsOfRuns
  pub coverage : coverage.CoverageOfRuns

-- a move of a step of a node's end, in a world that is joined
pub record IsMade (accs : Accounts) (ends : Ends) (w : machine.World) (n : ℕ) (e x : End) (sender : Option Sender) (moment : ℕ) (ev : Event) (m : Move)
    (d : Deed) : Type 0 where
  pub moved : IsMoved accs n e x sender moment ev m d
  pub leads : Within (after accs d) n x sender ev
  pub here : ends n ≡ Some e
  pub joined : AreJoined accs ends w

-- the machine moves along
pub record Follows (w : machine.World) (n : ℕ) (e x : End) (m : Move) (accs : Accounts) (ends : Ends) : Type 0 where
  pub world : machine.World
  pub joined : AreJoined accs ends world
  pub births : BirthsFollow w world n e x m

abbrev pub MovesFollow : Type 0
MovesFollow = (accs : Accounts) (ends : Ends) (w : machine.World) (n : ℕ) (e x : End) (sender : Option Sender) (moment : ℕ) (ev : Event) (m : Move) (d : Deed)
    → IsMade accs ends w n e x sender moment ev m d → Follows w n e x m (after accs d) (with_end ends n x)
