-- The epochs of both ends of a link.
use Rattle.std.specs.Prelude.{◌≡◌, ◌≢◌, ℕ, ◌<◌, ◌≤◌, true, false, List}
use Rattle.epoch_machine.specs.Worlds.{World, Rules}
use Rattle.epoch_machine.specs.Moves.{Move, ResetsAttempting, ResetsAnswering, step, after, may_reset_attempting, may_reset_answering}
use Rattle.epoch_machine.specs.Tunnels.{Tunnels, Linked, Gone, WaitReply, WaitConnect, Open, Attempts, Answers, is_established}

-- nothing is known under a name that wasn't drawn
pub record Nameless (t : Tunnels) (k : ℕ) : Type 0 where
  pub opener : t.opener k ≡ false
  pub phase : t.phase k ≡ Gone
  pub learned : t.learned k ≡ 0
  pub booked : t.booked k ≡ false
  pub epochs : t.epochs k ≡ 0
  pub attempts : t.attempts k ≡ 0
  pub answers : t.answers k ≡ 0
  pub confirmed : t.confirmed k ≡ false

pub record EpochsHold (t : Tunnels) : Type 0 where
  -- names are drawn before they're used
  pub zero : t.drawn 0 ≡ false
  pub nameless : (k : ℕ) → t.drawn k ≡ false → Nameless t k
  pub learned_drawn : (x : ℕ) → t.learned x ≢ 0 → t.drawn (t.learned x) ≡ true
  pub answered_drawn : (c : ℕ) → t.answers c ≢ 0 → t.drawn (t.answered c) ≡ true
  -- an opener that has learned its other end is linked with it, by an acceptor, and acceptors learn openers
  pub opener_linked : (x : ℕ) → t.opener x ≡ true → t.learned x ≢ 0 → Linked t.learned x (t.learned x)
  pub acceptor_learned : (x : ℕ) → t.opener x ≡ false → t.learned x ≢ 0 → t.opener (t.learned x) ≡ true
  pub opener_learned : (x : ℕ) → t.opener x ≡ true → t.learned x ≢ 0 → t.opener (t.learned x) ≡ false
  -- a tunnel that waits has entered and made no epoch
  pub waits_reply : (x : ℕ) → t.phase x ≡ WaitReply → (t.opener x ≡ true) × (t.learned x ≡ 0)
  pub waits_connect : (x : ℕ) → t.phase x ≡ WaitConnect → (t.opener x ≡ false) × (t.epochs x ≡ 0) × (t.learned x ≢ 0)
  pub waits_unattempted : (x a : ℕ) → t.phase x ≡ WaitConnect → t.attempts a ≢ x
  pub waits_unbooked : (x : ℕ) → t.phase x ≡ WaitConnect → t.booked x ≡ false
  -- what is established, in the book, attempted, answered, or has an epoch is one end of a link
  pub established_linked : (x : ℕ) → is_established (t.phase x) ≡ true → Linked t.learned x (t.learned x)
  pub booked_linked : (x : ℕ) → t.booked x ≡ true → Linked t.learned x (t.learned x)
  pub attempts_linked : (a : ℕ) → t.attempts a ≢ 0 → Linked t.learned (t.attempts a) (t.learned (t.attempts a))
  pub answers_linked : (c : ℕ) → t.answers c ≢ 0 → Linked t.learned (t.answers c) (t.learned (t.answers c))
  pub epochs_linked : (x : ℕ) → t.epochs x ≢ 0 → Linked t.learned x (t.learned x)
  -- the epochs of a link are counted alike at both ends
  pub same_epochs : (x y : ℕ) → Linked t.learned x y → t.epochs x ≡ t.epochs y
  pub makes_some : (c : ℕ) → t.answers c ≢ 0 → 0 < t.makes c
  pub makes_counted : (c : ℕ) → t.answers c ≢ 0 → t.makes c ≤ t.epochs (t.answers c)
  -- a tunnel has entered an epoch that was made
  pub entered_made : (x : ℕ) → t.entered x ≤ t.epochs x
  -- an end that attempts: neither end has entered an epoch since it began, it has made none since, and what answers it was made since, by the other end
  pub attempts_own : (x a : ℕ) → t.phase x ≡ Attempts a → t.attempts a ≡ x
  pub attempts_begun : (x a : ℕ) → t.phase x ≡ Attempts a → t.base a ≤ t.epochs x
  pub attempts_entered : (x a : ℕ) → t.phase x ≡ Attempts a → t.entered x ≤ t.base a
  pub attempts_other : (x y a : ℕ) → t.phase x ≡ Attempts a → Linked t.learned x y → t.entered y ≤ t.base a
  pub attempts_made : (x a c : ℕ) → t.phase x ≡ Attempts a → t.answers c ≡ x → t.makes c ≤ t.base a
  pub attempts_answered : (x a c : ℕ) → t.phase x ≡ Attempts a → t.answers c ≢ 0 → t.answered c ≡ a → (t.answers c ≡ t.learned x) × (t.base a < t.makes c)
  -- an end that is frozen: its answer is the last that it gave, it hasn't entered that epoch, and the other end no later one
  pub answers_own : (x c : ℕ) → t.phase x ≡ Answers c → t.answers c ≡ x
  pub answers_last : (x c d : ℕ) → t.phase x ≡ Answers c → t.answers d ≡ x → t.makes d ≤ t.makes c
  pub answers_entered : (x c : ℕ) → t.phase x ≡ Answers c → t.entered x < t.makes c
  pub answers_other : (x y c : ℕ) → t.phase x ≡ Answers c → Linked t.learned x y → t.entered y ≤ t.makes c
  -- who confirmed an answer entered its epoch
  pub confirmed_answers : (c : ℕ) → t.confirmed c ≡ true → t.answers c ≢ 0
  pub confirmed_entered : (c : ℕ) → t.confirmed c ≡ true → t.makes c ≤ t.entered (t.learned (t.answers c))
  -- an open end has entered each epoch that it made, and is not below the other end
  pub open_made : (x c : ℕ) → t.phase x ≡ Open → t.answers c ≡ x → t.makes c ≤ t.entered x
  pub open_above : (x y : ℕ) → t.phase x ≡ Open → Linked t.learned x y → t.entered y ≤ t.entered x

-- the epochs that a tunnel enters rise: no move lowers them, and each reset enters a higher one
pub record Rises (r : Rules) (w : World) : Type 0 where
  pub never_falls : (m : Move) (x : ℕ) → w.tunnels.entered x ≤ (step r w m).tunnels.entered x
  pub attempting : (x c : ℕ) → may_reset_attempting w x c ≡ true → w.tunnels.entered x < (step r w (ResetsAttempting x c)).tunnels.entered x
  pub answering : (x c : ℕ) → may_reset_answering w x c ≡ true → w.tunnels.entered x < (step r w (ResetsAnswering x c)).tunnels.entered x

-- of two linked ends the one whose epoch is lower isn't open
pub record LowerIsNotOpen (t : Tunnels) : Type 0 where
  pub lower : (x y : ℕ) → Linked t.learned x y → t.entered x < t.entered y → t.phase x ≢ Open
  pub one_epoch : (x y : ℕ) → Linked t.learned x y → t.phase x ≡ Open → t.phase y ≡ Open → t.entered x ≡ t.entered y

-- the two resets meet in one epoch: as the answering end enters the epoch of its answer, the other end is in it
pub record ResetsMeet (r : Rules) (w : World) : Type 0 where
  pub meet : (x y c : ℕ) → Linked w.tunnels.learned x y → may_reset_answering w x c ≡ true → ((step r w (ResetsAnswering x c)).tunnels.entered x ≡ w.tunnels.makes c) × (w.tunnels.entered y ≡ w.tunnels.makes c)

-- over every list of moves from the empty world, whichever rules are kept
pub record EpochsOfRuns : Type 0 where
  pub hold : (r : Rules) (ms : List Move) → EpochsHold (after r ms).tunnels
  pub rise : (r : Rules) (ms : List Move) → Rises r (after r ms)
  pub lower : (r : Rules) (ms : List Move) → LowerIsNotOpen (after r ms).tunnels
  pub meet : (r : Rules) (ms : List Move) → ResetsMeet r (after r ms)
