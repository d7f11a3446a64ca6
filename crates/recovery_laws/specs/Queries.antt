-- What is asked for after a recovery, and what is answered, in the abstract machine: a letter of its own for each session.
use Rattle.std.specs.Prelude.{◌≡◌, ℕ, ◌+◌, ◌<◌, ◌==◌, not, List, [], ◌∷◌, ◌++◌, length, map, drop, true, false}
use Rattle.std.specs.List.{AllByRecursion, list_any}
use Rattle.wire_base.specs.declared.pair.Pair.{Pair}
use Rattle.control_message.specs.declared.message.Message.{Message}
use Rattle.control_message.specs.declared.message.Message.TheVariants as message
use Rattle.tunnel_fsm.specs.Rows.{state_number}
use Rattle.session_query.specs.Queries.{left_of}
use Rattle.end_model.specs.declared.moves.Move.{Move}
use Rattle.end_model.specs.declared.moves.Move.TheVariants as move
use Rattle.end_model.specs.Tunnels.{Tunnel, mode_of, is_current}
use Rattle.world_model.specs.World.{World}
use Rattle.step_laws.specs.Letters as step
use Rattle.epoch_machine.specs.Letters.{Letter, Fsq, Fsr}
use Rattle.epoch_machine.specs.Worlds as machine
use Rattle.session_laws.specs.Names.{name, name_of, spoken}
use Rattle.channel_laws.specs.Accounts.{Taken, History}
use Rattle.channel_laws.specs.Epochs.{IsLive}

-- ---- letters

abbrev pub asks_in : ℕ → ℕ → List Pair → List Letter
asks_in n m pairs = map (λ (p : Pair). Fsq (name n p.sender) (name_of m p.receiver)) pairs

-- an answer of the machine names its own end's call even where that isn't there: by the name with which it was asked for
abbrev pub answers_in : ℕ → ℕ → List Pair → List Pair → List Letter
answers_in n m asked [] = []
answers_in n m [] (a ∷ rest) = Fsr 0 (name m a.receiver) false ∷ answers_in n m [] rest
answers_in n m (q ∷ qs) (a ∷ rest) = Fsr (name_of n q.receiver) (name m a.receiver) (not (a.sender == 0)) ∷ answers_in n m qs rest

-- what a message of a tunnel from one node to another says; `asked` are the sessions to which it is an answer
abbrev pub said_in : ℕ → ℕ → List Pair → ℕ → Message → List Letter
said_in n m asked header (message.Fsq pairs) = asks_in n m pairs
said_in n m asked header (message.Fsr answers) = answers_in n m asked answers
said_in n m asked header (message.Sccrq o) = spoken n m header (message.Sccrq o) ∷ []
said_in n m asked header (message.Sccrp o) = spoken n m header (message.Sccrp o) ∷ []
said_in n m asked header (message.Scccn response) = spoken n m header (message.Scccn response) ∷ []
said_in n m asked header (message.StopCcn tunnel result error) = spoken n m header (message.StopCcn tunnel result error) ∷ []
said_in n m asked header message.Hello = spoken n m header message.Hello ∷ []
said_in n m asked header (message.Ocrq session) = spoken n m header (message.Ocrq session) ∷ []
said_in n m asked header message.Ocrp = spoken n m header message.Ocrp ∷ []
said_in n m asked header message.Occn = spoken n m header message.Occn ∷ []
said_in n m asked header message.Wen = spoken n m header message.Wen ∷ []
said_in n m asked header message.Sli = spoken n m header message.Sli ∷ []
said_in n m asked header (message.Icrq session serial calling) = spoken n m header (message.Icrq session serial calling) ∷ []
said_in n m asked header (message.Icrp session) = spoken n m header (message.Icrp session) ∷ []
said_in n m asked header (message.Iccn speed framing sequenced) = spoken n m header (message.Iccn speed framing sequenced) ∷ []
said_in n m asked header (message.Cdn session result error) = spoken n m header (message.Cdn session result error) ∷ []

-- an answer is one to the first question that wasn't answered before
abbrev pub first_of : List (List Pair) → List Pair
first_of [] = []
first_of (q ∷ qs) = q

abbrev pub rest_of : Message → List (List Pair) → List (List Pair)
rest_of (message.Fsr answers) qs = drop 1 qs
rest_of m qs = qs

abbrev pub letters_in : ℕ → ℕ → List (List Pair) → List step.Letter → List Letter
letters_in n m qs [] = []
letters_in n m qs (l ∷ ls) = said_in n m (first_of qs) l.session l.message ++ letters_in n m (rest_of l.message qs) ls

-- the questions that a channel took and answered, in order
abbrev pub question_of : Move → List (List Pair)
question_of (move.AnsweredQuery m) = m.pairs ∷ []
question_of m = []

abbrev pub questions_in : List Taken → List (List Pair)
questions_in [] = []
questions_in (t ∷ ts) = question_of t.move ++ questions_in ts

-- how many of the machine's letters these are
abbrev pub weight : Message → ℕ
weight (message.Fsq pairs) = length pairs
weight (message.Fsr answers) = length answers
weight m = 1

abbrev pub weigh : List step.Letter → ℕ
weigh [] = 0
weigh (l ∷ ls) = weight l.message + weigh ls

-- ---- queries

-- what a tunnel of a node that goes to a peer asks for, and is to ask for, is what the machine's does, by the names of both ends
pub record QueryJoined (m : machine.World) (n i peer : ℕ) (t : Tunnel) : Type 0 where
  pub asks : (z : ℕ) → m.calls.asks (name n i) z ≡ list_any (λ (p : Pair). name n p.sender == z) (left_of t.query)
  pub held : AllByRecursion
      (λ (p : Pair). m.calls.held (name n i) (m.tunnels.entered (name n i)) (name n p.sender) ≡ name_of peer p.receiver)
      (left_of t.query)

-- so it is of each live tunnel that is open, and neither frozen nor restored
abbrev pub QueriesJoined : World → History → machine.World → Type 0
QueriesJoined w h m = (n i : ℕ) (t : Tunnel) → IsLive w n i t → is_current (mode_of t.recovery) ≡ true → state_number t.control.state ≡ 3
    → QueryJoined m n i (h.accounts n i 0).peer t

-- each call of the machine's has the name of a session of a node, so no other is asked for
abbrev pub CallsAreNamed : machine.World → Type 0
CallsAreNamed m = (z : ℕ) → m.calls.drawn z ≡ true → (n : ℕ) × (s : ℕ) × (n < 256) × (s < 65536) × (z ≡ name n s)
