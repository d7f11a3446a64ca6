-- Which answer makes each epoch of a link, and by which answer each end entered it.
--
-- It holds whichever of the five rules are kept, so no run without one of them shows it to fail. It rests on what the moves
-- themselves are: the name of an answer is new, an answer makes the next epoch of its link, and a reset enters the epoch of its
-- answer.
use Rattle.std.specs.Prelude.{◌≡◌, ◌≢◌, ◌⊎◌, ℕ, ◌<◌, ◌≤◌, true, List}
use Rattle.epoch_machine.specs.Tunnels.{Tunnels, Linked}
use Rattle.epoch_machine.specs.Worlds.{World, Rules}
use Rattle.epoch_machine.specs.Moves.{Move, ResetsAttempting, ResetsAnswering, step, after, may_reset_attempting, may_reset_answering}

-- the answer was given by the tunnel, or by its other end, and makes this epoch
pub record Makes (t : Tunnels) (x e c : ℕ) : Type 0 where
  pub given : t.answers c ≢ 0
  pub end : (t.answers c ≡ x) ⊎ (t.answers c ≡ t.learned x)
  pub epoch : t.makes c ≡ e

-- the epoch is made, by this answer
pub record Made (t : Tunnels) (x e : ℕ) : Type 0 where
  pub answer : ℕ
  pub makes : Makes t x e answer

pub record AnswersHold (t : Tunnels) : Type 0 where
  -- of the answers of one link's ends no two make one epoch, and each epoch is made by one
  pub once : (c d : ℕ) → t.answers c ≢ 0 → t.answers d ≢ 0 → (t.answers c ≡ t.answers d) ⊎ (t.learned (t.answers c) ≡ t.answers d) → t.makes c ≡ t.makes d → c ≡ d
  pub made : (x e : ℕ) → 0 < e → e ≤ t.epochs x → Made t x e
  -- a tunnel entered an epoch by an answer that makes it, and no epoch above its own
  pub entered : (x e : ℕ) → t.entered_by x e ≢ 0 → Makes t x e (t.entered_by x e)
  pub below : (x e : ℕ) → t.entered_by x e ≢ 0 → e ≤ t.entered x
  pub current : (x : ℕ) → t.entered x ≢ 0 → t.entered_by x (t.entered x) ≢ 0
  -- who confirmed an answer entered its epoch by it
  pub confirmed : (c : ℕ) → t.confirmed c ≡ true → t.entered_by (t.learned (t.answers c)) (t.makes c) ≡ c

-- of the answers of a link's two ends one makes each epoch, and both ends that entered an epoch entered it by that answer
pub record OneAnswer (t : Tunnels) : Type 0 where
  pub made : (x e : ℕ) → 0 < e → e ≤ t.epochs x → Made t x e
  pub once : (x y e c d : ℕ) → Linked t.learned x y → Makes t x e c → Makes t y e d → c ≡ d
  pub entered : (x e : ℕ) → t.entered_by x e ≢ 0 → Makes t x e (t.entered_by x e)
  pub current : (x : ℕ) → t.entered x ≢ 0 → t.entered_by x (t.entered x) ≢ 0
  pub confirmed : (c : ℕ) → t.confirmed c ≡ true → t.entered_by (t.learned (t.answers c)) (t.makes c) ≡ c
  pub both : (x y e : ℕ) → Linked t.learned x y → t.entered_by x e ≢ 0 → t.entered_by y e ≢ 0 → t.entered_by x e ≡ t.entered_by y e

-- a reset enters its epoch by its answer, and what was entered, and given, stays
pub record AnswersStay (r : Rules) (w : World) : Type 0 where
  pub attempting : (x c : ℕ) → may_reset_attempting w x c ≡ true → (step r w (ResetsAttempting x c)).tunnels.entered_by x (w.tunnels.makes c) ≡ c
  pub answering : (x c : ℕ) → may_reset_answering w x c ≡ true → (step r w (ResetsAnswering x c)).tunnels.entered_by x (w.tunnels.makes c) ≡ c
  pub entered : (m : Move) (x e : ℕ) → w.tunnels.entered_by x e ≢ 0 → (step r w m).tunnels.entered_by x e ≡ w.tunnels.entered_by x e
  pub given : (m : Move) (c : ℕ) → w.tunnels.answers c ≢ 0 → ((step r w m).tunnels.answers c ≡ w.tunnels.answers c) × ((step r w m).tunnels.makes c ≡ w.tunnels.makes c)

-- over every list of moves from the empty world, whichever rules are kept
pub record AnswersOfRuns : Type 0 where
  pub hold : (r : Rules) (ms : List Move) → AnswersHold (after r ms).tunnels
  pub one : (r : Rules) (ms : List Move) → OneAnswer (after r ms).tunnels
  pub stay : (r : Rules) (ms : List Move) → AnswersStay r (after r ms)
