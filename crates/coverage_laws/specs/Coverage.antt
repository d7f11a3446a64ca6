-- Queries and coverage.
use Rattle.std.specs.Prelude.{◌≡◌, ◌≢◌, ◌⊎◌, ℕ, ◌<◌, ◌≤◌, Bool, true, false, List, length, Some, None}
use Rattle.epoch_machine.specs.Letters.{Letter, Request, Connect, Cdn, Fsr}
use Rattle.epoch_machine.specs.Tunnels.{Tunnels, Linked, Phase, Gone, WaitReply, WaitConnect, Open, Attempts, Answers}
use Rattle.epoch_machine.specs.Channels.{Channels, Stands}
use Rattle.epoch_machine.specs.Calls.{Calls, CallState, NoCall, Waits, WaitsReply, WaitsConnect, Up}
use Rattle.epoch_machine.specs.Worlds.{World, all_rules}
use Rattle.epoch_machine.specs.Moves.{Move, Kept, Stops, step, after}
use Rattle.epoch_laws.specs.Epochs.{EpochsHold}
use Rattle.epoch_laws.specs.Answers.{AnswersHold}
use Rattle.letter_laws.specs.Letters.{LettersHold}
use Rattle.birth_laws.specs.Births.{CallsHold, LettersMean}

-- the states that a call of a tunnel in this phase may be in
abbrev pub fits : Phase → CallState → Bool
fits p NoCall = true
fits Open s = true
fits WaitReply Waits = true
fits (Attempts a) Up = true
fits (Answers c) Up = true
fits p s = false

-- its request was put, or its reply, and no more
abbrev pub is_young : CallState → Bool
is_young WaitsReply = true
is_young WaitsConnect = true
is_young s = false

-- the call was held at the reset by which the tunnel entered the epoch, or made in it
abbrev pub LivedIn : Calls → ℕ → ℕ → ℕ → Type 0
LivedIn c x e z = (c.held x e z ≢ 0) ⊎ (c.made z ≡ Some e)

pub record StatesHold (t : Tunnels) (c : Calls) : Type 0 where
  -- calls that aren't established are young: of an open tunnel, and made in its epoch
  pub state_fits : (z : ℕ) → fits (t.phase (c.tunnel z)) (c.state z) ≡ true
  pub young : (z : ℕ) → t.phase (c.tunnel z) ≡ Open → is_young (c.state z) ≡ true → c.made z ≡ Some (t.entered (c.tunnel z))
  pub up_lived : (z : ℕ) → t.phase (c.tunnel z) ≡ Open → c.state z ≡ Up → LivedIn c (c.tunnel z) (t.entered (c.tunnel z)) z
  pub made_entered : (z m : ℕ) → c.made z ≡ Some m → m ≤ t.entered (c.tunnel z)
  pub unmade : (z : ℕ) → (t.phase (c.tunnel z) ≡ WaitReply) ⊎ (t.phase (c.tunnel z) ≡ WaitConnect) → c.made z ≡ None
  -- held calls are older than the epoch
  pub held_older : (x e z m : ℕ) → c.held x e z ≢ 0 → c.made z ≡ Some m → m < e
  -- a call in the book is established, unless its tunnel is down
  pub booked_lives : (z : ℕ) → c.booked z ≡ true → t.phase (c.tunnel z) ≢ Gone → c.state z ≡ Up
  -- the asking end is up first
  pub up_first : (z : ℕ) → c.mate z ≢ 0 → c.up z ≡ true → c.up (c.mate z) ≡ true

-- one call replies to the other
abbrev pub Mates : Calls → ℕ → ℕ → Type 0
Mates c y z = ((c.mate y ≡ z) × (z ≢ 0)) ⊎ ((c.mate z ≡ y) × (y ≢ 0))

-- the call was made in this epoch, or an earlier one
pub record MadeBy (c : Calls) (z e : ℕ) : Type 0 where
  pub epoch : ℕ
  pub made : c.made z ≡ Some epoch
  pub before : epoch ≤ e

-- a CDN of this own name and header names the call
abbrev pub Names : Calls → ℕ → ℕ → ℕ → Type 0
Names c own header z = (header ≡ z) ⊎ ((header ≡ 0) × (own ≢ 0) × (c.remote z ≡ own))

-- the tunnel put a CDN about its call
pub record ToldOf (h : Channels) (x e z : ℕ) : Type 0 where
  pub place : ℕ
  pub header : ℕ
  pub stands : Stands h x e place (Cdn z header)

-- it took one about it
pub record HeardOf (t : Tunnels) (h : Channels) (c : Calls) (x e z : ℕ) : Type 0 where
  pub place : ℕ
  pub own : ℕ
  pub header : ℕ
  pub stands : Stands h (t.learned x) e place (Cdn own header)
  pub taken : place < h.taken x e
  pub names : Names c own header z

-- it took an answer that the pair isn't here
pub record DeniedOf (t : Tunnels) (h : Channels) (x e z : ℕ) : Type 0 where
  pub place : ℕ
  pub own : ℕ
  pub stands : Stands h (t.learned x) e place (Fsr own z false)
  pub taken : place < h.taken x e

abbrev pub Known : Tunnels → Channels → Calls → ℕ → ℕ → ℕ → Type 0
Known t h c x e z = ToldOf h x e z ⊎ (HeardOf t h c x e z ⊎ DeniedOf t h x e z)

pub record ConnectPut (h : Channels) (x e z : ℕ) : Type 0 where
  pub place : ℕ
  pub stands : Stands h x e place (Connect z)

pub record AnswerTaken (t : Tunnels) (h : Channels) (x e own z : ℕ) : Type 0 where
  pub place : ℕ
  pub here : Bool
  pub stands : Stands h (t.learned x) e place (Fsr own z here)
  pub taken : place < h.taken x e

pub record QueriesHold (t : Tunnels) (h : Channels) (c : Calls) : Type 0 where
  -- what a tunnel took are places of the other end's list
  pub within : (x e : ℕ) → t.learned x ≢ 0 → h.taken x e ≤ length (h.sent (t.learned x) e)
  -- a call is asked for before it's ended, and only a call that asked is ended with no header
  pub request_first : (x e i j z header : ℕ) → Stands h x e i (Request z) → Stands h x e j (Cdn z header) → i < j
  pub no_header : (x e k own : ℕ) → Stands h x e k (Cdn own 0) → own ≢ 0 → (c.drawn own ≡ true) × (c.mate own ≡ 0)
  pub made_before : (x e k own header : ℕ) → Stands h x e k (Cdn own header) → own ≢ 0 → MadeBy c own e
  -- what an answer says of its own end's call
  pub not_here : (x e k own header : ℕ) → Stands h x e k (Fsr own header false) → c.over own ≡ true
  pub here : (x e k own header : ℕ) → Stands h x e k (Fsr own header true) → LivedIn c x e own
  -- what was taken has had its effect
  pub cdn_taken : (x e k own header z : ℕ) → Stands h (t.learned x) e k (Cdn own header) → k < h.taken x e → own ≢ 0 → c.tunnel z ≡ x → Mates c own z → c.over z ≡ true
  pub denial_taken : (x e k own z : ℕ) → Stands h (t.learned x) e k (Fsr own z false) → k < h.taken x e → c.over z ≡ true
  pub connect_taken : (x e k z : ℕ) → Stands h (t.learned x) e k (Connect z) → k < h.taken x e → (c.up z ≡ true) ⊎ (c.over z ≡ true)
  -- of an open tunnel: a call that asked, and is established in this epoch, was connected; a pair held is asked or answered; and no call that lived in this epoch ends silently
  pub connected : (z : ℕ) → t.phase (c.tunnel z) ≡ Open → c.state z ≡ Up → c.mate z ≡ 0 → c.made z ≡ Some (t.entered (c.tunnel z)) → ConnectPut h (c.tunnel z) (t.entered (c.tunnel z)) (c.remote z)
  pub asked : (x z : ℕ) → t.phase x ≡ Open → c.held x (t.entered x) z ≢ 0 → (c.asks x z ≡ true) ⊎ AnswerTaken t h x (t.entered x) (c.held x (t.entered x) z) z
  pub no_silent_end : (z : ℕ) → t.phase (c.tunnel z) ≡ Open → LivedIn c (c.tunnel z) (t.entered (c.tunnel z)) z → c.over z ≡ true → Known t h c (c.tunnel z) (t.entered (c.tunnel z)) z

-- a letter that the other end hasn't taken
abbrev pub Outstanding : Channels → ℕ → ℕ → ℕ → Letter → ℕ → Type 0
Outstanding h x y e l k = Stands h x e k l × (h.taken y e ≤ k)

-- a connect about the holder's pair is outstanding: y's call z
pub record ConnectOutstanding (h : Channels) (x y e z : ℕ) : Type 0 where
  pub place : ℕ
  pub outstanding : Outstanding h x y e (Connect z) place

-- a CDN about the other's call is outstanding
pub record CdnOutstanding (h : Channels) (x y e z : ℕ) : Type 0 where
  pub place : ℕ
  pub header : ℕ
  pub outstanding : Outstanding h y x e (Cdn z header) place

-- where both tunnels of a link are open, they're in one epoch, and a pair that one holds established and the other doesn't is covered: a connect of the holder's about it or a CDN of the other's about it is outstanding, or the holder's query on it isn't answered
pub record PairsCovered (w : World) : Type 0 where
  pub one_epoch : (x y : ℕ) → Linked w.tunnels.learned x y → w.tunnels.phase x ≡ Open → w.tunnels.phase y ≡ Open → w.tunnels.entered x ≡ w.tunnels.entered y
  pub covered : (x y a b : ℕ) → Linked w.tunnels.learned x y → w.tunnels.phase x ≡ Open → w.tunnels.phase y ≡ Open → Mates w.calls a b → w.calls.tunnel a ≡ x → w.calls.state a ≡ Up → (w.calls.state b ≡ Up → ⊥) → ConnectOutstanding w.channels x y (w.tunnels.entered x) b ⊎ (CdnOutstanding w.channels x y (w.tunnels.entered x) b ⊎ (w.calls.asks x a ≡ true))

-- every pair of the tunnel's query is answered
abbrev pub IsComplete : World → ℕ → Type 0
IsComplete w x = (z : ℕ) → w.calls.asks x z ≡ false

-- the other end took each letter that the tunnel gave in its epoch
abbrev pub AllTaken : World → ℕ → ℕ → Type 0
AllTaken w x y = length (w.channels.sent x (w.tunnels.entered x)) ≤ w.channels.taken y (w.tunnels.entered x)

-- the call is established at the other end too, under the names that both know, and has one birth
pub record HeldByBoth (w : World) (y a : ℕ) : Type 0 where
  pub other : ℕ
  pub known : w.calls.remote a ≡ other
  pub knows : w.calls.remote other ≡ a
  pub tunnel : w.calls.tunnel other ≡ y
  pub established : w.calls.state other ≡ Up
  pub birth : w.calls.birth other ≡ w.calls.birth a

-- two open, complete tunnels of a link with nothing outstanding hold the same established pairs, with the same births
pub record EndsAgree (w : World) : Type 0 where
  pub agree : (x y a : ℕ) → Linked w.tunnels.learned x y → w.tunnels.phase x ≡ Open → w.tunnels.phase y ≡ Open → IsComplete w x → IsComplete w y → AllTaken w x y → AllTaken w y x → w.calls.tunnel a ≡ x → w.calls.state a ≡ Up → HeldByBoth w y a

-- over every list of moves from the empty world, by all rules
pub record CoverageOfRuns : Type 0 where
  pub states : (ms : List Move) → StatesHold (after all_rules ms).tunnels (after all_rules ms).calls
  pub queries : (ms : List Move) → QueriesHold (after all_rules ms).tunnels (after all_rules ms).channels (after all_rules ms).calls
  pub pairs_covered : (ms : List Move) → PairsCovered (after all_rules ms)
  pub ends_agree : (ms : List Move) → EndsAgree (after all_rules ms)

-- a step that is cut after any of its records keeps all of it: whatever records of a node's step are kept as the node goes down, all that held goes on to hold
pub record StopsKeepAll : Type 0 where
  pub epochs : (ms : List Move) (n : ℕ) (ks : List Kept) → EpochsHold (step all_rules (after all_rules ms) (Stops n ks)).tunnels
  pub answers : (ms : List Move) (n : ℕ) (ks : List Kept) → AnswersHold (step all_rules (after all_rules ms) (Stops n ks)).tunnels
  pub letters : (ms : List Move) (n : ℕ) (ks : List Kept) → LettersHold (step all_rules (after all_rules ms) (Stops n ks)).tunnels (step all_rules (after all_rules ms) (Stops n ks)).channels
  pub births : (ms : List Move) (n : ℕ) (ks : List Kept) → CallsHold (step all_rules (after all_rules ms) (Stops n ks)).tunnels (step all_rules (after all_rules ms) (Stops n ks)).calls
  pub meanings : (ms : List Move) (n : ℕ) (ks : List Kept) → LettersMean (step all_rules (after all_rules ms) (Stops n ks)).tunnels (step all_rules (after all_rules ms) (Stops n ks)).channels (step all_rules (after all_rules ms) (Stops n ks)).calls
  pub states : (ms : List Move) (n : ℕ) (ks : List Kept) → StatesHold (step all_rules (after all_rules ms) (Stops n ks)).tunnels (step all_rules (after all_rules ms) (Stops n ks)).calls
  pub queries : (ms : List Move) (n : ℕ) (ks : List Kept) → QueriesHold (step all_rules (after all_rules ms) (Stops n ks)).tunnels (step all_rules (after all_rules ms) (Stops n ks)).channels (step all_rules (after all_rules ms) (Stops n ks)).calls
  pub pairs_covered : (ms : List Move) (n : ℕ) (ks : List Kept) → PairsCovered (step all_rules (after all_rules ms) (Stops n ks))
  pub ends_agree : (ms : List Move) (n : ℕ) (ks : List Kept) → EndsAgree (step all_rules (after all_rules ms) (Stops n ks))
