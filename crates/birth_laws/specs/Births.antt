-- The calls of both ends: who replies to whom, and by which names each knows the other.
use Rattle.std.specs.Prelude.{◌≡◌, ◌≢◌, ◌⊎◌, ℕ, ◌<◌, ◌≤◌, true, false, List, Some, None}
use Rattle.epoch_machine.specs.Letters.{Letter, Request, Reply, Connect, Cdn, Fsq, Fsr}
use Rattle.epoch_machine.specs.Tunnels.{Tunnels, Linked}
use Rattle.epoch_machine.specs.Channels.{Channels, Stands}
use Rattle.epoch_machine.specs.Calls.{Calls, NoCall, Waits, WaitsReply, WaitsConnect, Up}
use Rattle.epoch_machine.specs.Worlds.{all_rules}
use Rattle.epoch_machine.specs.Moves.{Move, after}

-- nothing is known under a name that wasn't drawn
pub record NoCallYet (c : Calls) (z : ℕ) : Type 0 where
  pub state : c.state z ≡ NoCall
  pub remote : c.remote z ≡ 0
  pub booked : c.booked z ≡ false
  pub mate : c.mate z ≡ 0
  pub made : c.made z ≡ None
  pub up : c.up z ≡ false
  pub over : c.over z ≡ false

pub record CallsHold (t : Tunnels) (c : Calls) : Type 0 where
  -- names are drawn before they're used
  pub zero : c.drawn 0 ≡ false
  pub nameless : (z : ℕ) → c.drawn z ≡ false → NoCallYet c z
  pub tunnel_drawn : (z : ℕ) → c.drawn z ≡ true → t.drawn (c.tunnel z) ≡ true
  pub mate_drawn : (z : ℕ) → c.mate z ≢ 0 → c.drawn (c.mate z) ≡ true
  -- what a call knows in each state
  pub waits : (z : ℕ) → c.state z ≡ Waits → (c.made z ≡ None) × (c.remote z ≡ 0) × (c.mate z ≡ 0)
  pub waits_reply : (z : ℕ) → c.state z ≡ WaitsReply → (c.remote z ≡ 0) × (c.mate z ≡ 0) × (c.made z ≢ None)
  pub waits_connect : (z : ℕ) → c.state z ≡ WaitsConnect → c.mate z ≢ 0
  pub up_booked : (z : ℕ) → c.state z ≡ Up → c.booked z ≡ true
  pub booked_up : (z : ℕ) → c.booked z ≡ true → c.up z ≡ true
  pub up_stays : (z : ℕ) → c.up z ≡ true → (c.booked z ≡ true) ⊎ (c.over z ≡ true)
  pub up_remote : (z : ℕ) → c.up z ≡ true → c.remote z ≢ 0
  pub up_made : (z : ℕ) → c.up z ≡ true → c.made z ≢ None
  -- a call that is over neither lives nor stands in the book, and one that was drawn does one of them or is over
  pub over_gone : (z : ℕ) → c.over z ≡ true → (c.state z ≡ NoCall) × (c.booked z ≡ false)
  pub gone_over : (z : ℕ) → c.drawn z ≡ true → c.state z ≡ NoCall → c.booked z ≡ false → c.over z ≡ true
  -- the name that a call knows of the other end is its mate
  pub remote_mates : (z : ℕ) → c.remote z ≢ 0 → (c.mate z ≡ c.remote z) ⊎ (c.mate (c.remote z) ≡ z)
  pub mate_remote : (z : ℕ) → c.mate z ≢ 0 → c.remote z ≡ c.mate z
  -- at most one call replies to a call, and asks for none itself; it has the birth of its mate, and was made in the same epoch, at the other end of the link
  pub mate_once : (y z : ℕ) → c.mate y ≢ 0 → c.mate y ≡ c.mate z → y ≡ z
  pub mate_asks : (z : ℕ) → c.mate z ≢ 0 → c.mate (c.mate z) ≡ 0
  pub mate_birth : (z : ℕ) → c.mate z ≢ 0 → c.birth z ≡ c.birth (c.mate z)
  pub mate_made : (z : ℕ) → c.mate z ≢ 0 → (c.made z ≡ c.made (c.mate z)) × (c.made z ≢ None)
  pub mate_linked : (z : ℕ) → c.mate z ≢ 0 → Linked t.learned (c.tunnel (c.mate z)) (c.tunnel z)
  -- a pair held at a reset is a call of that tunnel with its mate
  pub held_call : (x e z : ℕ) → c.held x e z ≢ 0 → (c.tunnel z ≡ x) × (c.held x e z ≡ c.remote z) × (e ≤ t.entered x) × (c.made z ≢ None)
  -- births are counted from 1, one for each call that asks
  pub born : (z : ℕ) → c.birth z ≤ c.births
  pub born_some : (z : ℕ) → c.drawn z ≡ true → 0 < c.birth z
  pub birth_once : (y z : ℕ) → c.drawn y ≡ true → c.drawn z ≡ true → c.mate y ≡ 0 → c.mate z ≡ 0 → c.birth y ≡ c.birth z → y ≡ z

-- what a letter of tunnel x in epoch e says of calls
abbrev pub Meant : Tunnels → Calls → ℕ → ℕ → Letter → Type 0
Meant t c x e (Request z) = (z ≢ 0) × (c.drawn z ≡ true) × (c.tunnel z ≡ x) × (c.made z ≡ Some e) × (c.mate z ≡ 0) × (t.drawn x ≡ true)
Meant t c x e (Reply own z) = (z ≢ 0) × (c.mate own ≡ z) × (c.tunnel own ≡ x) × (c.made own ≡ Some e)
Meant t c x e (Connect y) = (c.mate y ≢ 0) × (c.tunnel (c.mate y) ≡ x) × (c.made y ≡ Some e) × (c.up (c.mate y) ≡ true)
Meant t c x e (Cdn own y) = (own ≡ 0) ⊎ ((own ≢ 0) × (c.drawn own ≡ true) × (c.tunnel own ≡ x) × (c.over own ≡ true) × ((y ≡ 0) ⊎ (c.remote own ≡ y)))
Meant t c x e (Fsq own y) = (y ≢ 0) × (c.held x e own ≡ y)
Meant t c x e (Fsr own y here) = (own ≢ 0) × (t.learned x ≢ 0) × (c.held (t.learned x) e y ≡ own)
Meant t c x e l = Unit {0}

-- the other end took the request of this call
pub record TakenRequest (h : Channels) (s u e z : ℕ) : Type 0 where
  pub place : ℕ
  pub stands : Stands h s e place (Request z)
  pub taken : place < h.taken u e

-- a request that was refused
pub record Refused (t : Tunnels) (h : Channels) (c : Calls) (u e z : ℕ) : Type 0 where
  pub sender : ℕ
  pub linked : Linked t.learned sender u
  pub request : TakenRequest h sender u e z
  pub unanswered : (y : ℕ) → c.mate y ≢ z

pub record LettersMean (t : Tunnels) (h : Channels) (c : Calls) : Type 0 where
  pub means : (x e k : ℕ) (l : Letter) → Stands h x e k l → Meant t c x e l
  -- a call is asked for once, and its request is answered at most once: by a call, or by a refusal
  pub request_once : (x e j k z : ℕ) → Stands h x e j (Request z) → Stands h x e k (Request z) → j ≡ k
  pub mate_taken : (y e : ℕ) → c.mate y ≢ 0 → c.made y ≡ Some e → TakenRequest h (c.tunnel (c.mate y)) (c.tunnel y) e (c.mate y)
  pub refused : (u e k z : ℕ) → Stands h u e k (Cdn 0 z) → Refused t h c u e z
  -- a query asks for what was held at the last reset
  pub asks_held : (x z : ℕ) → c.asks x z ≡ true → c.held x (t.entered x) z ≢ 0

-- at most one call replies to a call, of its very birth, and what a call knows of the other end is its mate
pub record OneMate (c : Calls) : Type 0 where
  pub once : (y z : ℕ) → c.mate y ≢ 0 → c.mate y ≡ c.mate z → y ≡ z
  pub birth : (y : ℕ) → c.mate y ≢ 0 → c.birth y ≡ c.birth (c.mate y)
  pub other_births : (y z : ℕ) → c.drawn y ≡ true → c.drawn z ≡ true → c.mate y ≡ 0 → c.mate z ≡ 0 → c.birth y ≡ c.birth z → y ≡ z
  pub knows : (z : ℕ) → c.remote z ≢ 0 → (c.mate z ≡ c.remote z) ⊎ (c.mate (c.remote z) ≡ z)

-- over every list of moves from the empty world, by all rules
pub record BirthsOfRuns : Type 0 where
  pub calls : (ms : List Move) → CallsHold (after all_rules ms).tunnels (after all_rules ms).calls
  pub letters : (ms : List Move) → LettersMean (after all_rules ms).tunnels (after all_rules ms).channels (after all_rules ms).calls
  pub one_mate : (ms : List Move) → OneMate (after all_rules ms).calls
