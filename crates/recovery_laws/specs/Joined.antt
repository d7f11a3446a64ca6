-- A world of a schedule, and a world of the abstract machine in which its tunnels, attempts, answers and calls have names. Nodes may be down: what is
-- in their books then stands in the machine's too.
use Rattle.std.specs.Prelude.{◌≡◌, ℕ, ◌<◌, ◌≤◌, ◌==◌, ◌||◌, if◌then◌else◌, Bool, true, false, List, take, Option, Some, None, is_some}
use Rattle.id_table.specs.Ids.{at}
use Rattle.session_book.specs.declared.record.BookTunnel.{BookTunnel}
use Rattle.session_book.specs.declared.record.BookCall.{BookCall}
use Rattle.session_book.specs.Books.{tunnel_at, call_at}
use Rattle.end_names.specs.Names.{node_of}
use Rattle.end_model.specs.declared.tunnel.Call.{Call}
use Rattle.end_model.specs.declared.moves.Restored.{Restored}
use Rattle.end_model.specs.declared.moves.Froze.{Froze}
use Rattle.end_model.specs.Tunnels.{Tunnel, Recovering, ByAttempt, ByAnswer, is_finished}
use Rattle.world_model.specs.World.{World, Node, Sender, standing_of, epoch_of, birth_of}
use Rattle.epoch_machine.specs.Worlds as machine
use Rattle.epoch_machine.specs.Worlds.{all_rules}
use Rattle.epoch_machine.specs.Moves.{Move, after}
use Rattle.epoch_machine.specs.Tunnels.{Tunnels, Phase, Gone, Closed, Attempts, Answers, Linked}
use Rattle.epoch_machine.specs.Calls.{NoCall, lives}
use Rattle.session_laws.specs.Names.{name, name_of, phase_of, state_of}
use Rattle.channel_laws.specs.Accounts.{Part, Unmade, Opener, Acceptor, Renewed, Account, heeded, History}
use Rattle.channel_laws.specs.Facts.{Accounts, IsMade, partner_in, makes}
use Rattle.recovery_laws.specs.Queries.{letters_in, questions_in, weigh}

-- ---- names

abbrev pub is_made : Part → Bool
is_made Unmade = false
is_made Opener = true
is_made Acceptor = true
is_made Renewed = true

abbrev pub is_opener : Part → Bool
is_opener Unmade = false
is_opener Opener = true
is_opener Acceptor = false
is_opener Renewed = false

-- an opener that is closed before it heeded a letter learns none: it gave up, or rejected the SCCRP that told it the id
abbrev pub is_early : Part → Option ℕ → Bool
is_early Opener (Some count) = count == 0
is_early Opener None = false
is_early Unmade closed = false
is_early Acceptor closed = false
is_early Renewed closed = false

-- the other end that a tunnel learned by a letter, of its account of epoch 0
abbrev pub learned_name : Account → ℕ
learned_name a = if is_early a.part a.closed then 0 else name_of a.peer a.remote

-- the answer by which a tunnel entered an epoch
abbrev pub answer_name : Option Sender → ℕ
answer_name None = 0
answer_name (Some s) = name s.node s.tunnel

-- an id of a node is used for a tunnel, an attempt, or an answer: they have one space of ids
abbrev pub is_used : History → ℕ → ℕ → Bool
is_used h n k = is_made (h.accounts n k 0).part || (is_some (h.attempts n k) || is_some (h.answers n k))

-- ---- tunnels

-- a live tunnel is in the state of its table, as long as it is neither frozen nor restored; a finished recovery tunnel doesn't matter
abbrev pub phase_by : ℕ → Tunnel → Option Recovering → Phase
phase_by n t None = phase_of t.control.state
phase_by n t (Some (ByAttempt c)) = if is_finished (ByAttempt c) then phase_of t.control.state else Attempts (name n c.local)
phase_by n t (Some (ByAnswer a)) = if is_finished (ByAnswer a) then phase_of t.control.state else Answers (name n a.connection.local)

abbrev pub phase_in : ℕ → Option Tunnel → Phase
phase_in n None = Gone
phase_in n (Some t) = phase_by n t t.recovery

-- what the machine's tunnel has learned: by a letter, as the account says; or an opener that learned none so has learned an acceptor of its SCCRQ by a
-- record that a stop kept, and did nothing else in that step
pub data LearnedSo (accs : Accounts) (n i learned : ℕ) : Type 0 where
  ByLetter : learned ≡ learned_name (accs n i 0) → LearnedSo accs n i learned
  ByRecord : (j : ℕ) → (accs n i 0).part ≡ Opener → (accs n i 0).remote ≡ 0 → 0 < j → learned ≡ name (accs n i 0).peer j
      → (accs (accs n i 0).peer j 0).part ≡ Acceptor → (accs (accs n i 0).peer j 0).peer ≡ n → (accs (accs n i 0).peer j 0).remote ≡ i
      → LearnedSo accs n i learned

-- a tunnel that is or was, of a node; `o` is the live one, and `b` the one in the node's book
pub record TunnelJoined (m : machine.World) (w : World) (h : History) (n i : ℕ) (o : Option Tunnel) (b : Option BookTunnel) : Type 0 where
  pub opener : m.tunnels.opener (name n i) ≡ is_opener (h.accounts n i 0).part
  pub node : IsMade (h.accounts n i 0) → m.tunnels.node (name n i) ≡ n
  pub peer : IsMade (h.accounts n i 0) → m.tunnels.peer (name n i) ≡ (h.accounts n i 0).peer
  pub learned : LearnedSo h.accounts n i (m.tunnels.learned (name n i))
  pub phase : m.tunnels.phase (name n i) ≡ phase_in n o
  pub booked : m.tunnels.booked (name n i) ≡ is_some b
  -- the epoch that it entered last, and how many its link has
  pub entered : m.tunnels.entered (name n i) ≡ epoch_of w n i
  pub epochs : m.tunnels.epochs (name n i) ≡ (standing_of w n i).made
  pub entered_by : (e : ℕ) → m.tunnels.entered_by (name n i) e ≡ answer_name (h.accounts n i e).answer
  -- its letters of each epoch are the machine's, in order. It took those of its partner's that it took here; what it takes once it is
  -- closed isn't counted
  pub sent : (e : ℕ) → m.channels.sent (name n i) e
      ≡ letters_in n (h.accounts n i e).peer (questions_in (h.accounts n i e).taken) (h.accounts n i e).given
  pub taken : (e : ℕ) → m.channels.taken (name n i) e
      ≡ weigh (take (heeded (h.accounts n i e)) (partner_in h.accounts e (h.accounts n i e)).given)
  pub refused : m.channels.refused (name n i) ≡ (h.accounts n i 0).declined

-- ---- attempts and answers

abbrev pub AttemptJoined : machine.World → ℕ → ℕ → Option Restored → Type 0
AttemptJoined m n a None = m.tunnels.attempts (name n a) ≡ 0
AttemptJoined m n a (Some r) = m.tunnels.attempts (name n a) ≡ name n r.tunnel.local

pub record AnswerIs (m : machine.World) (w : World) (h : History) (n c : ℕ) (f : Froze) : Type 0 where
  pub given : m.tunnels.answers (name n c) ≡ name n f.tunnel
  pub answered : m.tunnels.answered (name n c) ≡ name (node_of f.peer) f.attempt
  pub epoch : m.tunnels.makes (name n c) ≡ makes w n c
  pub own : m.tunnels.giver_first (name n c) ≡ f.send_from
  pub theirs : m.tunnels.other_first (name n c) ≡ f.expect
  -- the other end confirmed it as it entered the epoch by it
  pub confirmed : (h.accounts (node_of f.peer) f.remote (makes w n c)).answer ≡ Some (record { node = n; tunnel = c }) → m.tunnels.confirmed (name n c) ≡ true

abbrev pub AnswerJoined : machine.World → World → History → ℕ → ℕ → Option Froze → Type 0
AnswerJoined m w h n c None = m.tunnels.answers (name n c) ≡ 0
AnswerJoined m w h n c (Some f) = AnswerIs m w h n c f

-- ---- calls

-- a live call of a tunnel that goes to a peer
pub record CallJoined (m : machine.World) (n i peer s : ℕ) (c : Call) : Type 0 where
  pub some : 0 < s
  pub state : m.calls.state (name n s) ≡ state_of c.state
  pub tunnel : m.calls.tunnel (name n s) ≡ name n i
  pub remote : m.calls.remote (name n s) ≡ name_of peer c.remote

-- one that is in the book of a node: it comes back with its tunnel
pub record BookCallJoined (m : machine.World) (h : History) (n s : ℕ) (c : BookCall) : Type 0 where
  pub tunnel : m.calls.tunnel (name n s) ≡ name n c.tunnel
  pub remote : m.calls.remote (name n s) ≡ name_of (h.accounts n c.tunnel 0).peer c.remote

-- no tunnel of a node has a live call of this session
abbrev pub HasNoCall : Node → ℕ → Type 0
HasNoCall node s = (i : ℕ) (t : Tunnel) → at node.end.tunnels i ≡ Some t → at t.calls s ≡ None

pub record CallsJoined (m : machine.World) (h : History) (n : ℕ) (node : Node) : Type 0 where
  pub live : (i : ℕ) (t : Tunnel) → at node.end.tunnels i ≡ Some t → (s : ℕ) (c : Call) → at t.calls s ≡ Some c → CallJoined m n i (h.accounts n i 0).peer s c
  pub gone : (s : ℕ) → s < 65536 → HasNoCall node s → m.calls.state (name n s) ≡ NoCall
  pub kept : (s : ℕ) (c : BookCall) → call_at node.checkpoint.book s ≡ Some c → BookCallJoined m h n s c
  pub booked : (s : ℕ) → s < 65536 → m.calls.booked (name n s) ≡ is_some (call_at node.checkpoint.book s)
  -- a live call is in a tunnel of its node
  pub home : (s : ℕ) → s < 65536 → lives (m.calls.state (name n s)) ≡ true → m.tunnels.node (m.calls.tunnel (name n s)) ≡ n
  pub undrawn : (s : ℕ) → node.end.session_ids.next ≤ s → s < 65536 → m.calls.drawn (name n s) ≡ false
  pub zero : m.calls.drawn (name n 0) ≡ false

abbrev pub NodeJoined : machine.World → History → ℕ → Option Node → Type 0
NodeJoined m h n None =
    (m.tunnels.up n ≡ true) × ((s : ℕ) → s < 65536 → (m.calls.state (name n s) ≡ NoCall) × (m.calls.drawn (name n s) ≡ false) × (m.calls.booked (name n s) ≡ false))
NodeJoined m h n (Some node) = (m.tunnels.up n ≡ node.up) × CallsJoined m h n node

-- ---- the whole

abbrev pub live_in : Option Node → ℕ → Option Tunnel
live_in None i = None
live_in (Some node) i = at node.end.tunnels i

abbrev pub kept_in : Option Node → ℕ → Option BookTunnel
kept_in None i = None
kept_in (Some node) i = tunnel_at node.checkpoint.book i

-- the machine's world is one of its runs, and all of the world is joined with it
pub record AreJoined (w : World) (h : History) (m : machine.World) : Type 0 where
  pub drawn : (n k : ℕ) → n < 256 → k < 65536 → m.tunnels.drawn (name n k) ≡ is_used h n k
  pub tunnels : (n i : ℕ) → n < 256 → i < 65536 → TunnelJoined m w h n i (live_in (at w.nodes n) i) (kept_in (at w.nodes n) i)
  pub attempts : (n a : ℕ) → n < 256 → a < 65536 → AttemptJoined m n a (h.attempts n a)
  pub answers : (n c : ℕ) → n < 256 → c < 65536 → AnswerJoined m w h n c (h.answers n c)
  pub nodes : (n : ℕ) → n < 256 → NodeJoined m h n (at w.nodes n)
  pub births : (m.calls.births ≡ w.born) × ((n s : ℕ) → n < 256 → s < 65536 → m.calls.birth (name n s) ≡ birth_of w n s)
  pub moves : List Move
  pub run : m ≡ after all_rules moves

-- ---- closed tunnels of the machine

-- a closed end has entered each epoch that it made, and is not below the other end: as it was when it was open, since it answers and confirms
-- nothing then. It isn't among the laws of epoch_laws
pub record ClosedHold (t : Tunnels) : Type 0 where
  pub made : (x c : ℕ) → t.phase x ≡ Closed → t.answers c ≡ x → t.makes c ≤ t.entered x
  pub above : (x y : ℕ) → t.phase x ≡ Closed → Linked t.learned x y → t.entered y ≤ t.entered x
