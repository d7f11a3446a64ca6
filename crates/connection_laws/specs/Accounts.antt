-- What a run did with the letters of each tunnel, of what its lines did. No end keeps it, and the run doesn't depend on it.
use Rattle.std.specs.Prelude.{ℕ, List, [], ◌∷◌, ◌++◌, length, Bool, true, false, ◌==◌, ◌&&◌, Option, Some, None, unwrap_or, if◌then◌else◌}
use Rattle.end_model.specs.declared.moves.Place.{Place}
use Rattle.end_model.specs.declared.moves.Move.{Move}
use Rattle.end_model.specs.declared.moves.Move.TheVariants as move
use Rattle.end_names.specs.Names.{node_of}
use Rattle.world_model.specs.World.{Sender, Deed, config_of}
use Rattle.step_laws.specs.Letters.{Letter, letters_of}

-- how a tunnel was made: not at all, by opening it, or by accepting an SCCRQ
pub data Part : Type 0 where
  Unmade : Part
  Opener : Part
  Acceptor : Part

-- a letter that a tunnel took
pub record Taken : Type 0 where
  -- the tunnel that sent it, if one did
  pub sender : Option Sender
  -- its number, counted without an end
  pub number : ℕ
  -- what the tunnel did with it
  pub move : Move

-- what a tunnel is or was, by what was done in it
pub record Account : Type 0 where
  pub part : Part
  -- the node that it goes to, and the id that this node gave its own tunnel, 0 where it isn't known
  pub peer : ℕ
  pub remote : ℕ
  -- every letter that was given to its channel, and every letter that it took, in order
  pub given : List Letter
  pub taken : List Taken
  -- once it is closed, how many letters it had taken before, or before the one that closed it; what it takes since is ignored
  pub closed : Option ℕ
  -- whether its peer declined its SCCRQ, by a StopCCN of no tunnel
  pub declined : Bool

abbrev pub no_account : Account
no_account = record { part = Unmade; peer = 0; remote = 0; given = []; taken = []; closed = None; declined = false }

-- how many letters it took as long as it wasn't closed
abbrev pub heeded : Account → ℕ
heeded a = unwrap_or a.closed (length a.taken)

-- the tunnel that a move is about
abbrev pub about : Move → ℕ
about (move.Opened m) = m.tunnel
about (move.Accepted m) = m.tunnel
about (move.Connected m) = m.tunnel
about (move.Confirmed m) = m.tunnel
about (move.Added m) = m.tunnel
about (move.Requested m) = m.tunnel
about (move.Replied m) = m.tunnel
about (move.FirstUp m) = m.tunnel
about (move.SecondUp m) = m.tunnel
about (move.Refused m) = m.tunnel
about (move.EndTold m) = m.tunnel
about (move.EndHeard m) = m.tunnel
about (move.EndSilent m) = m.tunnel
about (move.Declined m) = 0
about (move.Closed m) = m.tunnel
about (move.Rejected m) = m.tunnel
about (move.ClosedBy m) = m.tunnel
about (move.Cleared i booked) = i
about (move.Greeted m) = m.tunnel
about (move.TookPlain m) = m.tunnel
about (move.NrRead m) = m.tunnel
about (move.LetGo m) = m.tunnel
about (move.Repeated m) = m.tunnel
about (move.Quiet i) = i
about (move.Negotiated m) = m.tunnel
about (move.Counted m) = m.tunnel
about (move.FrameSent m) = m.tunnel
about (move.FrameUp m) = m.tunnel
about (move.Restored m) = m.tunnel.local
about (move.Forgot m) = m.tunnel
about (move.Froze m) = m.tunnel
about (move.ResetAttempting m) = m.tunnel
about (move.ResetAnswering m) = m.tunnel
about (move.Queried m) = m.tunnel
about (move.AnsweredQuery m) = m.tunnel
about (move.TookAnswer m) = m.tunnel
about (move.RecoveryWentOn i) = i
about (move.RecoveryEnded i) = i
about (move.Ignored i) = i

-- the letters that a deed gives
abbrev pub gives : Deed → List Letter
gives d = letters_of d.role (config_of d.node 0 None false) d.move

abbrev pub takes_at : Deed → Place → Account → Account
takes_at d place a = record a { taken = a.taken ++ (record { sender = d.sender; number = place.number; move = d.move }) ∷ [] }

abbrev pub gives_also : Deed → Account → Account
gives_also d a = record a { given = a.given ++ gives d }

-- a tunnel after a deed in it
abbrev pub entered_by : Deed → Move → Account → Account
entered_by d (move.Opened m) a = gives_also d (record a { part = Opener; peer = node_of m.peer })
entered_by d (move.Accepted m) a = gives_also d (takes_at d m.taken (record a { part = Acceptor; peer = node_of m.peer; remote = m.remote }))
entered_by d (move.Connected m) a = gives_also d (takes_at d m.taken (record a { remote = m.remote }))
entered_by d (move.Confirmed m) a = takes_at d m.taken a
entered_by d (move.Added m) a = a
entered_by d (move.Requested m) a = gives_also d a
entered_by d (move.Replied m) a = gives_also d (takes_at d m.taken a)
entered_by d (move.FirstUp m) a = gives_also d (takes_at d m.taken a)
entered_by d (move.SecondUp m) a = takes_at d m.taken a
entered_by d (move.Refused m) a = gives_also d (takes_at d m.taken a)
entered_by d (move.EndTold m) a = gives_also d a
entered_by d (move.EndHeard m) a = takes_at d m.taken a
entered_by d (move.EndSilent m) a = a
entered_by d (move.Declined m) a = a
entered_by d (move.Closed m) a = gives_also d (record a { remote = m.remote; closed = Some (length a.taken) })
entered_by d (move.Rejected m) a = gives_also d (takes_at d m.taken (record a { remote = m.remote; closed = Some (length a.taken) }))
entered_by d (move.ClosedBy m) a = takes_at d m.taken (record a { closed = Some (length a.taken) })
entered_by d (move.Cleared i booked) a = a
entered_by d (move.Greeted m) a = gives_also d a
entered_by d (move.TookPlain m) a = takes_at d m.taken a
entered_by d (move.NrRead m) a = a
entered_by d (move.LetGo m) a = a
entered_by d (move.Repeated m) a = a
entered_by d (move.Quiet i) a = a
entered_by d (move.Negotiated m) a = a
entered_by d (move.Counted m) a = a
entered_by d (move.FrameSent m) a = a
entered_by d (move.FrameUp m) a = a
-- accounts are told of runs in which no move is one of a recovery
entered_by d m a = a

abbrev pub entered : Deed → Account → Account
entered d a = entered_by d d.move a

-- the tunnel of another node whose SCCRQ a move declines
abbrev pub declines_of : Move → ℕ → ℕ → Bool
declines_of (move.Declined m) n i = (node_of m.peer == n) && (m.remote == i)
declines_of m n i = false

abbrev pub declined_in : Bool → Account → Account
declined_in true a = record a { declined = true }
declined_in false a = a

-- the tunnel of a node after a deed
abbrev pub after_deed : Deed → ℕ → ℕ → Account → Account
after_deed d n i a = declined_in (declines_of d.move n i) (if (d.node == n) && (about d.move == i) then entered d a else a)

unfoldable pub account_from : List Deed → ℕ → ℕ → Account → Account
account_from [] n i a = a
account_from (d ∷ ds) n i a = account_from ds n i (after_deed d n i a)

-- by its node and its local id
abbrev pub account_of : List Deed → ℕ → ℕ → Account
account_of ds n i = account_from ds n i no_account

-- the other end of a tunnel, once its id is known
abbrev pub partner_of : Account → Option Sender
partner_of a = if a.remote == 0 then None else Some (record { node = a.peer; tunnel = a.remote })
