-- The tunnels of all ends, with what outlives them: names, links, and the epochs that were made and entered.
use Rattle.std.specs.Prelude.{◌≡◌, ℕ, suc, Bool, true, false, if◌then◌else◌, ◌==◌, ◌≢◌}
use Rattle.epoch_machine.specs.Names.{assign}

pub data Phase : Type 0 where
  -- it doesn't live: not yet, no more, or its node is down
  Gone : Phase
  WaitReply : Phase
  WaitConnect : Phase
  -- established and current
  Open : Phase
  Closed : Phase
  -- restored, with this unfinished attempt
  Attempts : ℕ → Phase
  -- frozen, with this unfinished answer
  Answers : ℕ → Phase

abbrev pub is_live : Phase → Bool
is_live Gone = false
is_live p = true

abbrev pub is_wait_reply : Phase → Bool
is_wait_reply WaitReply = true
is_wait_reply p = false

abbrev pub is_wait_connect : Phase → Bool
is_wait_connect WaitConnect = true
is_wait_connect p = false

abbrev pub is_open : Phase → Bool
is_open Open = true
is_open p = false

-- its channel is at work: letters are put and taken
abbrev pub is_active : Phase → Bool
is_active WaitReply = true
is_active WaitConnect = true
is_active Open = true
is_active p = false

abbrev pub is_established : Phase → Bool
is_established Open = true
is_established (Attempts a) = true
is_established (Answers c) = true
is_established p = false

abbrev pub attempts_by : Phase → ℕ → Bool
attempts_by (Attempts a) b = a == b
attempts_by p b = false

abbrev pub answers_by : Phase → ℕ → Bool
answers_by (Answers c) d = c == d
answers_by p d = false

pub record Tunnels : Type 0 where
  -- the names that were drawn, for tunnels, attempts and answers
  pub drawn : ℕ → Bool
  pub up : ℕ → Bool
  -- the tunnel's node, the peer's node, and whether it opened: the opener is a LAC's end, the acceptor an LNS's, or that of another LAC
  pub node : ℕ → ℕ
  pub peer : ℕ → ℕ
  pub opener : ℕ → Bool
  pub phase : ℕ → Phase
  -- the other end, once it's known
  pub learned : ℕ → ℕ
  -- the tunnel's record stands
  pub booked : ℕ → Bool
  -- the epoch that it entered last, and how many epochs its link has
  pub entered : ℕ → ℕ
  pub epochs : ℕ → ℕ
  -- the answer by which the tunnel entered this epoch, at a reset; 0 where it didn't
  pub entered_by : ℕ → ℕ → ℕ
  -- of an attempt: its tunnel, and how many epochs the link had when it began
  pub attempts : ℕ → ℕ
  pub base : ℕ → ℕ
  -- of an answer: the tunnel that gave it, the attempt that it answers, the epoch that it makes, whether it was confirmed, and the
  -- numbers that it suggests: the first of its giver's letters in that epoch, and the first of the other end's
  pub answers : ℕ → ℕ
  pub answered : ℕ → ℕ
  pub makes : ℕ → ℕ
  pub confirmed : ℕ → Bool
  pub giver_first : ℕ → ℕ
  pub other_first : ℕ → ℕ

abbrev pub no_tunnels : Tunnels
no_tunnels = record {
  drawn = λ k. false;
  up = λ n. true;
  node = λ x. 0;
  peer = λ x. 0;
  opener = λ x. false;
  phase = λ x. Gone;
  learned = λ x. 0;
  booked = λ x. false;
  entered = λ x. 0;
  epochs = λ x. 0;
  entered_by = λ x e. 0;
  attempts = λ a. 0;
  base = λ a. 0;
  answers = λ c. 0;
  answered = λ c. 0;
  makes = λ c. 0;
  confirmed = λ c. false;
  giver_first = λ c. 0;
  other_first = λ c. 0;
}

-- the two ends of one link have learned each other
pub record Linked (learned : ℕ → ℕ) (x y : ℕ) : Type 0 where
  pub forth : learned x ≡ y
  pub back : learned y ≡ x
  pub from_name : x ≢ 0
  pub to_name : y ≢ 0

unfoldable pub opened : Tunnels → ℕ → ℕ → ℕ → Tunnels
opened t n m x = record t { drawn = assign t.drawn x true; node = assign t.node x n; peer = assign t.peer x m; opener = assign t.opener x true; phase = assign t.phase x WaitReply }

unfoldable pub accepted : Tunnels → ℕ → ℕ → Tunnels
accepted t s x = record t { drawn = assign t.drawn x true; node = assign t.node x (t.peer s); peer = assign t.peer x (t.node s); phase = assign t.phase x WaitConnect; learned = assign t.learned x s }

unfoldable pub established_with : Tunnels → ℕ → ℕ → Tunnels
established_with t x s = record t { phase = assign t.phase x Open; learned = assign t.learned x s; booked = assign t.booked x true }

unfoldable pub established : Tunnels → ℕ → Tunnels
established t x = record t { phase = assign t.phase x Open; booked = assign t.booked x true }

-- closed, or gone: in any case without its record
unfoldable pub left : Tunnels → ℕ → Phase → Tunnels
left t x p = record t { phase = assign t.phase x p; booked = assign t.booked x false }

-- the end attempts a recovery
unfoldable pub restored : Tunnels → ℕ → ℕ → Tunnels
restored t x a = record t { drawn = assign t.drawn a true; phase = assign t.phase x (Attempts a); attempts = assign t.attempts a x; base = assign t.base a (t.epochs x) }

-- the end answers an attempt of the other end's, which makes the next epoch of the link, with the first numbers of both ends in it
unfoldable pub frozen : Tunnels → ℕ → ℕ → ℕ → ℕ → ℕ → Tunnels
frozen t x a c own theirs = record t { drawn = assign t.drawn c true; phase = assign t.phase x (Answers c); epochs = assign (assign t.epochs (t.learned x) (suc (t.epochs x))) x (suc (t.epochs x)); answers = assign t.answers c x; answered = assign t.answered c a; makes = assign t.makes c (suc (t.epochs x)); giver_first = assign t.giver_first c own; other_first = assign t.other_first c theirs }

-- the attempting end enters the epoch of this answer, and confirms it
unfoldable pub confirms : Tunnels → ℕ → ℕ → Tunnels
confirms t x c = record t { phase = assign t.phase x Open; entered = assign t.entered x (t.makes c); entered_by = assign t.entered_by x (assign (t.entered_by x) (t.makes c) c); confirmed = assign t.confirmed c true }

-- the answering end enters the epoch of its answer
unfoldable pub is_confirmed : Tunnels → ℕ → ℕ → Tunnels
is_confirmed t x c = record t { phase = assign t.phase x Open; entered = assign t.entered x (t.makes c); entered_by = assign t.entered_by x (assign (t.entered_by x) (t.makes c) c) }

unfoldable pub goes_down : Tunnels → ℕ → Tunnels
goes_down t n = record t { up = assign t.up n false; phase = λ x. if t.node x == n then Gone else t.phase x }

unfoldable pub comes_up : Tunnels → ℕ → Tunnels
comes_up t n = record t { up = assign t.up n true }

-- the record of an establishing is kept, and no more of the step
unfoldable pub keeps_up : Tunnels → ℕ → ℕ → Tunnels
keeps_up t x s = record t { learned = assign t.learned x s; booked = assign t.booked x true }

unfoldable pub keeps_down : Tunnels → ℕ → Tunnels
keeps_down t x = record t { booked = assign t.booked x false }
