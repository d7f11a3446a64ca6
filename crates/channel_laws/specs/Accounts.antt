-- What a run did with the letters of each tunnel, epoch by epoch, and with its recoveries, of what its lines did. No end keeps it, and the run
-- doesn't depend on it. It outlives crashes, and only grows: a node that falls does nothing in the line, so its accounts stay as they are.
use Rattle.std.specs.Prelude.{ℕ, List, [], ◌∷◌, ◌++◌, length, Bool, true, false, ◌==◌, ◌&&◌, Option, Some, None, unwrap_or, if◌then◌else◌}
use Rattle.end_model.specs.declared.moves.Place.{Place}
use Rattle.end_model.specs.declared.moves.Restored.{Restored}
use Rattle.end_model.specs.declared.moves.Froze.{Froze}
use Rattle.end_model.specs.declared.moves.Move.{Move}
use Rattle.end_model.specs.declared.moves.Move.TheVariants as move
use Rattle.end_names.specs.Names.{node_of}
use Rattle.world_model.specs.World.{Sender, Deed}
use Rattle.step_laws.specs.Letters.{Letter}
pub use Rattle.connection_laws.specs.Accounts.{Taken, about, gives, declines_of}

-- how a tunnel entered an epoch: not at all; the first one by opening the tunnel, or by accepting an SCCRQ; a later one by a reset
pub data Part : Type 0 where
  Unmade : Part
  Opener : Part
  Acceptor : Part
  Renewed : Part

-- what a tunnel does or did in one epoch: a channel of its own
pub record Account : Type 0 where
  pub part : Part
  -- the node that it goes to, and the id that this node gave its own tunnel, 0 where it isn't known
  pub peer : ℕ
  pub remote : ℕ
  -- the answer by whose numbers the epoch began, by the node that gave it and its own id
  pub answer : Option Sender
  -- the number of the first letter that is given, and of the first one that is expected; both are 0 in epoch 0, and have 16 bits in a later one
  pub first_given : ℕ
  pub first_taken : ℕ
  -- every letter that was given to the channel, and every letter that it took, in order
  pub given : List Letter
  pub taken : List Taken
  -- once it is closed, how many letters it had taken before, or before the one that closed it; what it takes since is ignored
  pub closed : Option ℕ
  -- whether its peer declined its SCCRQ, by a StopCCN of no tunnel
  pub declined : Bool

abbrev pub no_account : Account
no_account = record {
  part = Unmade;
  peer = 0;
  remote = 0;
  answer = None;
  first_given = 0;
  first_taken = 0;
  given = [];
  taken = [];
  closed = None;
  declined = false;
}

-- how many letters it took as long as it wasn't closed
abbrev pub heeded : Account → ℕ
heeded a = unwrap_or a.closed (length a.taken)

-- the other end of a tunnel, once its id is known
abbrev pub partner_of : Account → Option Sender
partner_of a = if a.remote == 0 then None else Some (record { node = a.peer; tunnel = a.remote })

abbrev pub takes_at : Deed → Place → Account → Account
takes_at d place a = record a { taken = a.taken ++ (record { sender = d.sender; number = place.number; move = d.move }) ∷ [] }

abbrev pub gives_also : Deed → Account → Account
gives_also d a = record a { given = a.given ++ gives d }

-- a channel that begins with the numbers of an answer
abbrev pub renewed : ℕ → ℕ → Sender → ℕ → ℕ → Account
renewed peer remote answer send_from expect = record no_account {
  part = Renewed;
  peer = peer;
  remote = remote;
  answer = Some answer;
  first_given = send_from;
  first_taken = expect;
}

-- the channel after a deed in it
abbrev pub entered_by : Deed → Move → Account → Account
entered_by d (move.Opened m) a = gives_also d (record a { part = Opener; peer = node_of m.peer })
entered_by d (move.Accepted m) a = gives_also d (takes_at d m.taken (record a { part = Acceptor; peer = node_of m.peer; remote = m.remote }))
entered_by d (move.Connected m) a = gives_also d (takes_at d m.taken (record a { remote = m.remote }))
entered_by d (move.Confirmed m) a = takes_at d m.taken a
entered_by d (move.Requested m) a = gives_also d a
entered_by d (move.Replied m) a = gives_also d (takes_at d m.taken a)
entered_by d (move.FirstUp m) a = gives_also d (takes_at d m.taken a)
entered_by d (move.SecondUp m) a = takes_at d m.taken a
entered_by d (move.Refused m) a = gives_also d (takes_at d m.taken a)
entered_by d (move.EndTold m) a = gives_also d a
entered_by d (move.EndHeard m) a = takes_at d m.taken a
entered_by d (move.Closed m) a = gives_also d (record a { remote = m.remote; closed = Some (length a.taken) })
entered_by d (move.Rejected m) a = gives_also d (takes_at d m.taken (record a { remote = m.remote; closed = Some (length a.taken) }))
entered_by d (move.ClosedBy m) a = takes_at d m.taken (record a { closed = Some (length a.taken) })
entered_by d (move.Greeted m) a = gives_also d a
entered_by d (move.TookPlain m) a = takes_at d m.taken a
entered_by d (move.Queried m) a = gives_also d a
entered_by d (move.AnsweredQuery m) a = gives_also d (takes_at d m.taken a)
entered_by d (move.TookAnswer m) a = takes_at d m.taken a
-- the resets: the end that attempts begins with the numbers of its peer's answer, and the one that answers with those of its own
entered_by d (move.ResetAttempting m) a = renewed (node_of m.peer) m.remote (record { node = node_of m.peer; tunnel = m.answer }) m.send_from m.expect
entered_by d (move.ResetAnswering m) a = renewed (node_of m.peer) m.remote (record { node = d.node; tunnel = m.answer }) m.send_from m.expect
entered_by d m a = a

-- its SCCRQ is declined, where it opened a tunnel: that of an attempt at a recovery, which may be declined too, is of no account
abbrev pub declined_by : Part → Account → Account
declined_by Opener a = record a { declined = true }
declined_by Unmade a = a
declined_by Acceptor a = a
declined_by Renewed a = a

abbrev pub declined_in : Bool → Account → Account
declined_in true a = declined_by a.part a
declined_in false a = a

-- An account is by channel: the node, the local id and the epoch. A deed tells the epoch of its tunnel as its line leaves it; a reset comes before
-- all that is given or taken in its step, since before it the tunnel is frozen or restored. What is declined is an SCCRQ, so of epoch 0.
abbrev pub after_deed : Deed → ℕ → ℕ → ℕ → Account → Account
after_deed d n i e a =
    declined_in (declines_of d.move n i && (e == 0)) (if ((d.node == n) && (about d.move == i)) && (d.epoch == e) then entered_by d d.move a else a)

-- ---- all of it

-- what is known of each channel of each node; of each attempt and each answer of a node, by its own id
pub record History : Type 0 where
  pub accounts : ℕ → ℕ → ℕ → Account
  pub attempts : ℕ → ℕ → Option Restored
  pub answers : ℕ → ℕ → Option Froze

abbrev pub no_history : History
no_history = record { accounts = λ n i e. no_account; attempts = λ n a. None; answers = λ n c. None }

abbrev pub attempts_by : Deed → Move → ℕ → ℕ → Option Restored → Option Restored
attempts_by d (move.Restored m) n a before = if (d.node == n) && (m.attempt == a) then Some m else before
attempts_by d m n a before = before

abbrev pub answers_by : Deed → Move → ℕ → ℕ → Option Froze → Option Froze
answers_by d (move.Froze m) n c before = if (d.node == n) && (m.answer == c) then Some m else before
answers_by d m n c before = before

abbrev pub after : History → Deed → History
after h d = record {
  accounts = λ n i e. after_deed d n i e (h.accounts n i e);
  attempts = λ n a. attempts_by d d.move n a (h.attempts n a);
  answers = λ n c. answers_by d d.move n c (h.answers n c);
}

unfoldable pub history_from : List Deed → History → History
history_from [] h = h
history_from (d ∷ ds) h = history_from ds (after h d)

-- of what a run did
abbrev pub history_of : List Deed → History
history_of ds = history_from ds no_history
