-- What is taken stood there before.
use Rattle.std.proofs.Common.{◌≡◌, ◌≢◌, ◌⊎◌, inl, inr, ⊎_elim, ℕ, suc, ◌<◌, ◌≤◌, length, refl, sym, ap, ◌∙◌, subst, arith}
use Rattle.std.proofs.lemmas.Bool.Decides.{nat_tests}
use Rattle.epoch_machine.specs.Letters.{Letter}
use Rattle.epoch_machine.specs.Tunnels.{Tunnels}
use Rattle.epoch_machine.specs.Channels.{Channels, Stands, puts, counts}
use Rattle.epoch_machine.proofs.Splits.{same_or_not}
use Rattle.epoch_machine.proofs.Places.{Counted, Gave, stands_below, one_letter, counted, gave}
use Rattle.epoch_laws.proofs.Growth.{TunnelsGrow}
use Rattle.letter_laws.specs.Letters.{LettersHold}

-- the two facts on takings that a step must show
pub record Takings (t u : Tunnels) (h g : Channels) (l1 : Letter) : Type 0 where
  pub behind : (y f : ℕ) → u.learned y ≢ 0 → g.taken y f ≤ length (h.sent (u.learned y) f)
  pub taken : (y f j : ℕ) (m : Letter) → j < g.taken y f → Stands h (u.learned y) f j m → ((j < h.taken y f) × (t.learned y ≡ u.learned y)) ⊎ (m ≡ l1)

abbrev Within : Tunnels → Channels → Type 0
Within t h = (y f : ℕ) → t.learned y ≢ 0 → h.taken y f ≤ length (h.sent (t.learned y) f)

module _ (t u : Tunnels) (h : Channels) (tg : TunnelsGrow t u) (lh : LettersHold t h) (within : Within t h) where
  -- what was taken before, is taken from the same end
  before : (y f : ℕ) → u.learned y ≢ 0 → h.taken y f ≤ length (h.sent (u.learned y) f)
  before y f n = ⊎_elim (λ e. (let a = lh.taken_learned y f in let b : h.taken y f ≡ 0 = zero_or (h.taken y f) (λ q. a q e) in omega arith)) (λ o. (let a = within y f o in rw (tg.learned y o) a)) (same_or_not (t.learned y) 0)
    where
      zero_or : (k : ℕ) → (k ≢ 0 → ⊥) → k ≡ 0
      zero_or k h = grind (arith, h)

  same_end : (y f j : ℕ) → j < h.taken y f → t.learned y ≡ u.learned y
  same_end y f j below = sym (tg.learned y (lh.taken_learned y f (λ e. (omega arith))))

  pub none_taken : (g : Channels) (l1 : Letter) → ((y f : ℕ) → g.taken y f ≡ h.taken y f) → Takings t u h g l1
  none_taken g l1 same = record { behind = λ y f n. rw (same y f) (before y f n); taken = λ y f j m below st. (let b : j < h.taken y f = rw (← same y f) below in inl (b, same_end y f j b)) }

  pub one_taken : (g : Channels) (x e s k : ℕ) (l1 : Letter) → Counted h g x e → u.learned x ≡ s → k ≡ h.taken x e → Stands h s e k l1 → Takings t u h g l1
  one_taken g x e s k l1 c from place st = record { behind = behind; taken = taken }
    where
      now : length (h.sent s e) ≡ length (h.sent (u.learned x) e)
      now = ap (λ (a : ℕ). length (h.sent a e)) (sym from)

      behind : (y f : ℕ) → u.learned y ≢ 0 → g.taken y f ≤ length (h.sent (u.learned y) f)
      behind y f n = ⊎_elim (λ a. (let b = stands_below h s e k l1 st in let d : length (h.sent (u.learned y) f) ≡ length (h.sent s e) = ap (λ (q : ℕ). length (h.sent (u.learned q) f)) a.0.0 ∙ ap (λ (q : ℕ). length (h.sent (u.learned x) q)) a.0.1 ∙ sym now in let v : h.taken y f ≡ h.taken x e = ap (λ (q : ℕ). h.taken q f) a.0.0 ∙ ap (λ (q : ℕ). h.taken x q) a.0.1 in let z = a.1 in omega arith)) (λ a. rw a (before y f n)) (c.counts y f)

      taken : (y f j : ℕ) (m : Letter) → j < g.taken y f → Stands h (u.learned y) f j m → ((j < h.taken y f) × (t.learned y ≡ u.learned y)) ⊎ (m ≡ l1)
      taken y f j m below sj = ⊎_elim {C = ((j < h.taken y f) × (t.learned y ≡ u.learned y)) ⊎ (m ≡ l1)} (λ a. ⊎_elim (λ e. inr (is_it a.0.0 a.0.1 e)) (λ o. (let z = a.1 in let b : j < h.taken y f = less z o in inl (b, same_end y f j b))) (same_or_not j (h.taken y f))) (λ a. (let b : j < h.taken y f = rw (← a) below in inl (b, same_end y f j b))) (c.counts y f)
        where
          less : g.taken y f ≡ suc (h.taken y f) → (j ≡ h.taken y f → ⊥) → j < h.taken y f
          less z o = grind (arith, nat_tests)

          is_it : y ≡ x → f ≡ e → j ≡ h.taken y f → m ≡ l1
          is_it a b q =
              let place_now : j ≡ k = q ∙ ap (λ (v : ℕ). h.taken v f) a ∙ ap (λ (v : ℕ). h.taken x v) b ∙ sym place in
              let there : Stands h s e k m = subst (λ (v : ℕ). Stands h s e v m) place_now (subst (λ (v : ℕ). Stands h v e j m) from (subst (λ (v : ℕ). Stands h (u.learned v) e j m) a (subst (λ (v : ℕ). Stands h (u.learned y) v j m) b sj))) in
              one_letter h s e k m l1 there st

-- lists only get longer
pub longer_gave : (h g : Channels) (x e : ℕ) (l : Letter) → Gave h g x e l → (y f : ℕ) → length (h.sent y f) ≤ length (g.sent y f)
longer_gave h g x e l a y f = ⊎_elim (λ b. (let c = b.1 in omega arith)) (λ b. omega arith) (a.longer y f)

pub longer_put : (h : Channels) (x e : ℕ) (l : Letter) (y f : ℕ) → length (h.sent y f) ≤ length ((puts h x e l).sent y f)
longer_put h x e l = longer_gave h (puts h x e l) x e l (gave h (puts h x e l) x e l (λ y f. refl))

pub longer_answered : (h : Channels) (x e : ℕ) (l : Letter) (y f : ℕ) → length (h.sent y f) ≤ length ((puts (counts h x e) x e l).sent y f)
unfolding puts counts
longer_answered h x e l = longer_gave h (puts (counts h x e) x e l) x e l (gave h (puts (counts h x e) x e l) x e l (λ y f. refl))

pub longer_accepted : (h : Channels) (x e : ℕ) (l : Letter) (y f : ℕ) → length (h.sent y f) ≤ length ((counts (puts h x e l) x e).sent y f)
unfolding puts counts
longer_accepted h x e l = longer_gave h (counts (puts h x e l) x e) x e l (gave h (counts (puts h x e l) x e) x e l (λ y f. refl))

pub longer_took : (h : Channels) (x e : ℕ) (y f : ℕ) → length (h.sent y f) ≤ length ((counts h x e).sent y f)
unfolding counts
longer_took h x e y f = omega arith

pub counted_took : (h : Channels) (x e : ℕ) → Counted h (counts h x e) x e
counted_took h x e = counted h (counts h x e) x e (λ y f. refl)

pub counted_answered : (h : Channels) (x e : ℕ) (l : Letter) → Counted h (puts (counts h x e) x e l) x e
unfolding puts
counted_answered h x e l = counted h (puts (counts h x e) x e l) x e (λ y f. refl)

pub counted_accepted : (h : Channels) (x e : ℕ) (l : Letter) → Counted h (counts (puts h x e l) x e) x e
unfolding puts counts
counted_accepted h x e l = counted h (counts (puts h x e l) x e) x e (λ y f. refl)

pub put_taken : (h : Channels) (x e : ℕ) (l : Letter) (y f : ℕ) → (puts h x e l).taken y f ≡ h.taken y f
unfolding puts
put_taken h x e l y f = refl
