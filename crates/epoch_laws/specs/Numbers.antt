-- The first numbers of both ends' letters in each epoch of a link. As with the answers themselves, no rule stands behind it
-- that a run could be computed without: an answer keeps the numbers that it was given with.
use Rattle.std.specs.Prelude.{◌≡◌, ◌≢◌, ◌⊎◌, ℕ, if◌then◌else◌, ◌==◌, true, List}
use Rattle.epoch_machine.specs.Tunnels.{Tunnels, Linked, Open}
use Rattle.epoch_machine.specs.Worlds.{World, Rules}
use Rattle.epoch_machine.specs.Moves.{Move, Freezes, ResetsAttempting, ResetsAnswering, step, after, may_freeze, may_reset_attempting, may_reset_answering}
use Rattle.epoch_laws.specs.Answers.{Makes}

-- the number that an answer suggests to this tunnel, which gave it or is the other end
abbrev pub suggested : Tunnels → ℕ → ℕ → ℕ
suggested t c x = if t.answers c == x then t.giver_first c else t.other_first c

-- the first number of a tunnel's letters in an epoch that it entered: 0 in epoch 0, and in a later one what the answer by which
-- it entered it suggests
abbrev pub first_number : Tunnels → ℕ → ℕ → ℕ
first_number t x e = if e == 0 then 0 else suggested t (t.entered_by x e) x

-- in this epoch the giver of the answer begins with the one number, and the other end with the other
pub record BeginsBy (t : Tunnels) (giver other e c : ℕ) : Type 0 where
  pub gave : t.answers c ≡ giver
  pub giver_begins : first_number t giver e ≡ t.giver_first c
  pub other_begins : first_number t other e ≡ t.other_first c

-- both ends entered the epoch by one answer, and begin with its numbers
pub record BeginAlike (t : Tunnels) (x y e : ℕ) : Type 0 where
  pub answer : ℕ
  pub makes : Makes t x e answer
  pub first_by : t.entered_by x e ≡ answer
  pub second_by : t.entered_by y e ≡ answer
  pub numbers : BeginsBy t x y e answer ⊎ BeginsBy t y x e answer

pub record NumbersHold (t : Tunnels) : Type 0 where
  pub zero : (x : ℕ) → first_number t x 0 ≡ 0
  pub both : (x y e : ℕ) → Linked t.learned x y → t.entered_by x e ≢ 0 → t.entered_by y e ≢ 0 → BeginAlike t x y e
  -- both ends of a link that are open are in one epoch, and this is their first one or one that both entered
  pub both_open : (x y : ℕ) → Linked t.learned x y → t.phase x ≡ Open → t.phase y ≡ Open → (t.entered x ≡ t.entered y) × ((t.entered x ≡ 0) ⊎ BeginAlike t x y (t.entered x))

-- an answer has the numbers that it was given with, for ever, and a reset begins with them
pub record NumbersStay (r : Rules) (w : World) : Type 0 where
  pub given : (x a c own theirs : ℕ) → may_freeze w x a c ≡ true → ((step r w (Freezes x a c own theirs)).tunnels.giver_first c ≡ own) × ((step r w (Freezes x a c own theirs)).tunnels.other_first c ≡ theirs)
  pub attempting : (x c : ℕ) → may_reset_attempting w x c ≡ true → first_number (step r w (ResetsAttempting x c)).tunnels x (w.tunnels.makes c) ≡ w.tunnels.other_first c
  pub answering : (x c : ℕ) → may_reset_answering w x c ≡ true → first_number (step r w (ResetsAnswering x c)).tunnels x (w.tunnels.makes c) ≡ w.tunnels.giver_first c
  pub answer : (m : Move) (c : ℕ) → w.tunnels.answers c ≢ 0 → ((step r w m).tunnels.giver_first c ≡ w.tunnels.giver_first c) × ((step r w m).tunnels.other_first c ≡ w.tunnels.other_first c)
  pub epoch : (m : Move) (x e : ℕ) → w.tunnels.entered_by x e ≢ 0 → first_number (step r w m).tunnels x e ≡ first_number w.tunnels x e

-- over every list of moves from the empty world, whichever rules are kept
pub record NumbersOfRuns : Type 0 where
  pub hold : (r : Rules) (ms : List Move) → NumbersHold (after r ms).tunnels
  pub stay : (r : Rules) (ms : List Move) → NumbersStay r (after r ms)
