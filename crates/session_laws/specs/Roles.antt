-- What an end of each role says in its tunnels.
use Rattle.std.specs.Prelude.{◌≡◌, ℕ, Option, Some, None, slice_get}
use Rattle.std.specs.List.{AllByRecursion}
use Rattle.control_message.specs.declared.message.Message.{Message}
use Rattle.control_message.specs.declared.message.Message.TheVariants as message
use Rattle.end_model.specs.declared.moves.FirstUp.{FirstUp}
use Rattle.end_model.specs.declared.moves.Move.TheVariants as move
use Rattle.end_names.specs.declared.role.Role.{Role}
use Rattle.end_names.specs.declared.role.Role.TheVariants.{Lac, Lns}
use Rattle.end_model.specs.End.{End}
use Rattle.step_laws.specs.Letters.{Letter}
use Rattle.connection_laws.specs.Accounts.{Opener, Taken, Account, no_account}
use Rattle.connection_laws.specs.Facts.{Accounts}

-- the tunnel took a reply by which a call of it came up
pub record TookReply (a : Account) : Type 0 where
  pub number : ℕ
  pub taken : Taken
  pub there : slice_get a.taken number ≡ Some taken
  pub up : FirstUp
  pub up_is : taken.move ≡ move.FirstUp up

-- what a tunnel of an end of this role may have given: a LAC opens tunnels and asks for calls, and connects one only where it took a
-- reply; an LNS replies; both accept and close tunnels and end calls. No end places a call, or tells of a line
abbrev pub Says : Role → Account → Message → Type 0
Says r a (message.Sccrq o) = r ≡ Lac
Says r a (message.Sccrp o) = Unit {0}
Says r a (message.Scccn response) = r ≡ Lac
Says r a (message.StopCcn tunnel result error) = Unit {0}
Says r a message.Hello = Unit {0}
Says r a (message.Ocrq session) = ⊥
Says r a message.Ocrp = ⊥
Says r a message.Occn = ⊥
Says r a message.Wen = ⊥
Says r a message.Sli = ⊥
Says r a (message.Fsq sessions) = ⊥
Says r a (message.Fsr sessions) = ⊥
Says r a (message.Icrq session serial calling) = r ≡ Lac
Says r a (message.Icrp session) = r ≡ Lns
Says r a (message.Iccn speed framing sequenced) = (r ≡ Lac) × TookReply a
Says r a (message.Cdn session result error) = Unit {0}

-- a tunnel of an end of this role
pub record FitsEnd (r : Role) (a : Account) : Type 0 where
  pub opens : a.part ≡ Opener → r ≡ Lac
  pub says : AllByRecursion (λ (l : Letter). Says r a l.message) a.given

-- where there is no end, there is no tunnel
abbrev pub IsOfEnd : Option End → Account → Type 0
IsOfEnd None a = a ≡ no_account
IsOfEnd (Some e) a = FitsEnd e.role a

-- all tunnels of the nodes' ends
abbrev pub FitEnds : Accounts → (ℕ → Option End) → Type 0
FitEnds accs ends = (n i : ℕ) → IsOfEnd (ends n) (accs n i)
