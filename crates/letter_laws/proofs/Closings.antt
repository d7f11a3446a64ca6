-- A tunnel closes, and is closed.
use Rattle.std.proofs.Common.{◌≡◌, ◌≢◌, ◌⊎◌, inl, inr, ⊎_elim, ℕ, zero, suc, ◌<◌, true, false, length, refl, sym, ap, subst, arith}
use Rattle.std.proofs.lemmas.Bool.Decides.{nat_tests}
use Rattle.epoch_machine.specs.Letters.{Letter, Sccrq, Sccrp, Scccn, StopCcn}
use Rattle.epoch_machine.specs.Tunnels.{Tunnels, Phase, Gone, Closed, is_established, is_active, left}
use Rattle.epoch_machine.specs.Channels.{Channels}
use Rattle.epoch_machine.proofs.Places.{Put, Gave, SameTaken}
use Rattle.epoch_laws.specs.Epochs.{EpochsHold}
use Rattle.epoch_machine.proofs.Tells.{active_phase}
use Rattle.letter_laws.proofs.Begins.{drawn_there}
use Rattle.letter_laws.specs.Letters.{LettersHold}

-- the place of a StopCCN in a list of epoch 0
closing_opener : (t : Tunnels) (c : Channels) (x : ℕ) → EpochsHold t → LettersHold t c → is_active (t.phase x) ≡ true → t.opener x ≡ true → t.entered x ≡ 0 → 0 < length (c.sent x 0)
closing_opener t c x ep ok a o e = ⊎_elim (λ p. let w = ok.waits_reply x p in omega (arith, w.1)) (λ q. ⊎_elim (λ p. let w = ok.waits_connect x p in omega (arith, w.1)) (λ p. (ok.open_given x p e).0) q) (active_phase (t.phase x) a)

closing_acceptor : (t : Tunnels) (c : Channels) (x : ℕ) → EpochsHold t → LettersHold t c → is_active (t.phase x) ≡ true → t.learned (t.learned x) ≢ x → t.opener x ≡ false → length (c.sent x 0) ≡ 1
closing_acceptor t c x ep ok a n o = ⊎_elim (λ p. (ok.waits_reply x p).1) (λ q. ⊎_elim (λ p. (ok.waits_connect x p).1) (λ p. absurd (n (ep.established_linked x (ap is_established p)).back)) q) (active_phase (t.phase x) a)

active_drawn : (t : Tunnels) (x : ℕ) → EpochsHold t → is_active (t.phase x) ≡ true → t.drawn x ≡ true
active_drawn t x ep a = drawn_there t x ep (λ g. by (t.phase x) a g)
  where
    by : (p : Phase) → is_active p ≡ true → p ≡ Gone → ⊥
    by Gone a g = cc
    by p a g = cc

module _ (t : Tunnels) (c : Channels) (x y k : ℕ) (m : Letter) (ep : EpochsHold t) (ok : LettersHold t c) (a : is_active (t.phase x) ≡ true) where
  stop_second : t.opener y ≡ true → Put c x (t.entered x) StopCcn y 0 k m → ((k ≡ 0) × (m ≡ Sccrq)) ⊎ (((k ≡ 1) × ((m ≡ Scccn) ⊎ (m ≡ StopCcn))) ⊎ (1 < k))
  stop_second o p = let q = p.tunnel in let e = p.epoch in let l = p.place in let b = closing_opener t c x ep ok a (subst (λ (z : ℕ). t.opener z ≡ true) q o) (sym e) in let w : 0 < k = grind arith in by k w
    where
      by : (k : ℕ) → 0 < k → ((k ≡ 0) × (m ≡ Sccrq)) ⊎ (((k ≡ 1) × ((m ≡ Scccn) ⊎ (m ≡ StopCcn))) ⊎ (1 < k))
      by zero w = absurd (omega arith)
      by (suc zero) w = inr (inl (refl, inr p.letter))
      by (suc (suc j)) w = inr (inr (omega arith))

  stop_later : Put c x (t.entered x) StopCcn y 0 k m → ((k ≡ 0) × (m ≡ Sccrp)) ⊎ (0 < k)
  stop_later p = let e = p.epoch in let l = p.place in inr (⊎_elim (λ q. let w = ok.waits_reply x q in grind arith) (λ r. ⊎_elim (λ q. let w = ok.waits_connect x q in grind arith) (λ q. let w = ok.open_given x q (sym e) in grind arith) r) (active_phase (t.phase x) a))

  stop_unchosen : t.opener y ≡ false → t.learned (t.learned y) ≢ y → Put c x (t.entered x) StopCcn y 0 k m → (k ≡ 0) ⊎ ((k ≡ 1) × (m ≡ StopCcn))
  stop_unchosen o n p = let q = p.tunnel in let e = p.epoch in let l = p.place in let b = closing_acceptor t c x ep ok a (subst (λ (z : ℕ). t.learned (t.learned z) ≢ z) q n) (subst (λ (z : ℕ). t.opener z ≡ false) q o) in inr (grind arith, p.letter)

pub closes_ok : (t : Tunnels) (c d : Channels) (x : ℕ) → EpochsHold t → LettersHold t c → Gave c d x (t.entered x) StopCcn → SameTaken c d → (is_active (t.phase x) ≡ true) → LettersHold (left t x Closed) d
unfolding left
closes_ok t c d x ep ok gs ts p0 =
    let stops : (y k : ℕ) (m : Letter) → t.opener y ≡ true → Put c x (t.entered x) StopCcn y 0 k m → ((k ≡ 0) × (m ≡ Sccrq)) ⊎ (((k ≡ 1) × ((m ≡ Scccn) ⊎ (m ≡ StopCcn))) ⊎ (1 < k)) = λ y k m o p. stop_second t c x y k m ep ok p0 o p in
    let stops_too : (y k : ℕ) (m : Letter) → t.opener y ≡ false → Put c x (t.entered x) StopCcn y 0 k m → ((k ≡ 0) × (m ≡ Sccrp)) ⊎ (0 < k) = λ y k m o p. stop_later t c x y k m ep ok p0 p in
    let stops_there : (y k : ℕ) (m : Letter) → t.opener y ≡ false → t.learned (t.learned y) ≢ y → Put c x (t.entered x) StopCcn y 0 k m → (k ≡ 0) ⊎ ((k ≡ 1) × (m ≡ StopCcn)) = λ y k m o n p. stop_unchosen t c x y k m ep ok p0 o n p in
    record {
      given_drawn = λ y f k m h. ⊎_elim (λ a. ok.given_drawn y f k m a) (λ (p : Put c x (t.entered x) StopCcn y f k m). let q = p.tunnel in let z = active_drawn t x ep p0 in grind (arith, nat_tests)) (gs.before y f k m h);
      given_entered = λ y f k m h. ⊎_elim (λ a. ok.given_entered y f k m a) (λ (p : Put c x (t.entered x) StopCcn y f k m). let q = p.tunnel in let w = p.epoch in grind arith) (gs.before y f k m h);
      taken_drawn = λ y f h. let b = ok.taken_drawn y f in let s = ts.counts y f in grind (arith, nat_tests);
      taken_entered = λ y f h. let b = ok.taken_entered y f in let s = ts.counts y f in grind (arith, nat_tests);
      taken_learned = λ y f h. let b = ok.taken_learned y f in let s = ts.counts y f in grind (arith, nat_tests);
      waits_reply = λ y q. let b = ok.waits_reply y in let s = gs.longer y 0 in let r = ts.counts y 0 in grind (arith, nat_tests);
      waits_connect = λ y q. let b = ok.waits_connect y in let s = gs.longer y 0 in let r = ts.counts y 0 in grind (arith, nat_tests);
      open_taken = λ y q z. let b = ok.open_taken y in let r = ts.counts y 0 in grind (arith, nat_tests);
      open_given = λ y q z. let b = ok.open_given y in let s = gs.longer y 0 in grind (arith, nat_tests);
      opener_given = λ y q. let b = ok.opener_given y in let s = gs.longer y 0 in grind (arith, nat_tests);
      opener_first = λ y k m o h. ⊎_elim (λ a. ok.opener_first y k m o a) (λ (p : Put c x (t.entered x) StopCcn y 0 k m). stops y k m o p) (gs.before y 0 k m h);
      acceptor_first = λ y k m o h. ⊎_elim (λ a. ok.acceptor_first y k m o a) (λ (p : Put c x (t.entered x) StopCcn y 0 k m). stops_too y k m o p) (gs.before y 0 k m h);
      unchosen = λ y k m o n h. ⊎_elim (λ a. ok.unchosen y k m o n a) (λ (p : Put c x (t.entered x) StopCcn y 0 k m). stops_there y k m o n p) (gs.before y 0 k m h);
    }
