-- The lists of letters of each tunnel, epoch by epoch, and how many of the other end's it took.
use Rattle.std.specs.Prelude.{◌≡◌, ◌≢◌, ◌⊎◌, ℕ, ◌<◌, ◌≤◌, true, false, List, length}
use Rattle.epoch_machine.specs.Letters.{Letter, Sccrq, Sccrp, Scccn, StopCcn}
use Rattle.epoch_machine.specs.Tunnels.{Tunnels, WaitReply, WaitConnect, Open, Closed, is_active}
use Rattle.epoch_machine.specs.Channels.{Channels, Stands}
use Rattle.epoch_machine.specs.Worlds.{World, Rules, all_rules}
use Rattle.epoch_machine.specs.Moves.{Move, Delivers, TakesRefusal, step, after, may_take, may_take_refusal, reaches}

pub record LettersHold (t : Tunnels) (c : Channels) : Type 0 where
  -- a letter was given, or taken, in an epoch that the tunnel entered
  pub given_drawn : (x e k : ℕ) (l : Letter) → Stands c x e k l → t.drawn x ≡ true
  pub given_entered : (x e k : ℕ) (l : Letter) → Stands c x e k l → e ≤ t.entered x
  pub taken_drawn : (x e : ℕ) → c.taken x e ≢ 0 → t.drawn x ≡ true
  pub taken_entered : (x e : ℕ) → c.taken x e ≢ 0 → e ≤ t.entered x
  -- who took a letter has learned the other end
  pub taken_learned : (x e : ℕ) → c.taken x e ≢ 0 → t.learned x ≢ 0
  -- how far an opening is
  pub waits_reply : (x : ℕ) → t.phase x ≡ WaitReply → (c.taken x 0 ≡ 0) × (length (c.sent x 0) ≡ 1)
  pub waits_connect : (x : ℕ) → t.phase x ≡ WaitConnect → (c.taken x 0 ≡ 1) × (length (c.sent x 0) ≡ 1)
  pub open_taken : (x : ℕ) → t.phase x ≡ Open → t.entered x ≡ 0 → c.taken x 0 ≢ 0
  pub open_given : (x : ℕ) → t.phase x ≡ Open → t.entered x ≡ 0 → (0 < length (c.sent x 0)) × (t.opener x ≡ true → 1 < length (c.sent x 0))
  pub opener_given : (x : ℕ) → t.opener x ≡ true → 0 < length (c.sent x 0)
  -- an opener's list of epoch 0 begins with SCCRQ, and SCCCN or StopCCN; an acceptor's with SCCRP
  pub opener_first : (x k : ℕ) (l : Letter) → t.opener x ≡ true → Stands c x 0 k l → ((k ≡ 0) × (l ≡ Sccrq)) ⊎ (((k ≡ 1) × ((l ≡ Scccn) ⊎ (l ≡ StopCcn))) ⊎ (1 < k))
  pub acceptor_first : (x k : ℕ) (l : Letter) → t.opener x ≡ false → Stands c x 0 k l → ((k ≡ 0) × (l ≡ Sccrp)) ⊎ (0 < k)
  -- an acceptor that its opener didn't choose gave no more than a StopCCN
  pub unchosen : (x k : ℕ) (l : Letter) → t.opener x ≡ false → t.learned (t.learned x) ≢ x → Stands c x 0 k l → (k ≡ 0) ⊎ ((k ≡ 1) × (l ≡ StopCcn))

-- the letter is the next one of the learned tunnel's list, in the taker's epoch
pub record IsNextOf (w v : World) (x s e k : ℕ) (l : Letter) : Type 0 where
  pub sender : s ≡ v.tunnels.learned x
  pub epoch : e ≡ w.tunnels.entered x
  pub place : k ≡ w.channels.taken x (w.tunnels.entered x)
  pub stands : Stands w.channels s e k l

-- a StopCCN of an acceptor that the opener didn't choose closes the opener, in epoch 0
pub record ClosesOpener (w v : World) (x s e : ℕ) (l : Letter) : Type 0 where
  pub letter : l ≡ StopCcn
  pub epoch : (e ≡ 0) × (w.tunnels.entered x ≡ 0)
  pub opener : w.tunnels.opener x ≡ true
  pub acceptor : w.tunnels.opener s ≡ false
  pub closed : v.tunnels.phase x ≡ Closed

pub record TakesNext (r : Rules) (w : World) : Type 0 where
  -- a letter that a tunnel takes is the next one of the learned tunnel's list in the taker's epoch, or it closes an opener of epoch 0
  pub takes : (x s e k z : ℕ) (l : Letter) → Stands w.channels s e k l → may_take r w x s e k l ≡ true → IsNextOf w (step r w (Delivers x s e k z)) x s e k l ⊎ ClosesOpener w (step r w (Delivers x s e k z)) x s e l
  -- the same of a StopCCN of no tunnel
  pub refusal : (x : ℕ) → may_take_refusal w x ≡ true → (w.tunnels.opener x ≡ true) × (w.tunnels.entered x ≡ 0) × ((step r w (TakesRefusal x)).tunnels.phase x ≡ Closed)
  -- a letter of a newer epoch reaches only a tunnel that isn't active: neither open nor on the way there. It follows from
  -- the laws of epochs alone: a link has epochs above 0 only once both ends were open, and of two ends the lower isn't open
  pub newer : (x s e k : ℕ) (l : Letter) → Stands w.channels s e k l → reaches w.tunnels s x l ≡ true → w.tunnels.entered x < e → is_active (w.tunnels.phase x) ≡ false

-- over every list of moves from the empty world, by all rules
pub record LettersOfRuns : Type 0 where
  pub hold : (ms : List Move) → LettersHold (after all_rules ms).tunnels (after all_rules ms).channels
  pub next : (ms : List Move) → TakesNext all_rules (after all_rules ms)
