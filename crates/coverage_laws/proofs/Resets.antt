-- The two resets.
use Rattle.std.proofs.Common.{◌≡◌, ◌≢◌, ◌⊎◌, inl, inr, ⊎_elim, ℕ, ◌<◌, ◌≤◌, Bool, true, false, cond, eqb, ◌&&◌, Some, None, refl, sym, ap, ◌∙◌, arith}
use Rattle.std.proofs.lemmas.Bool.Decides.{nat_tests}
use Rattle.epoch_machine.specs.Tunnels.{Tunnels, Phase, Gone, WaitReply, WaitConnect, Open, Closed, Attempts, Answers, is_established}
use Rattle.epoch_machine.specs.Calls.{Calls, CallState, NoCall, Waits, WaitsReply, WaitsConnect, Up, is_up, resets}
use Rattle.epoch_machine.proofs.Splits.{same_or_not}
use Rattle.epoch_machine.proofs.Tells.{same_test}
use Rattle.birth_laws.proofs.Steps.{held_now, held_else, held_before}
use Rattle.coverage_laws.specs.Coverage.{StatesHold, fits, is_young, LivedIn}

-- a tunnel that isn't open becomes so, in a higher epoch; the others stay
pub record Resets (t u : Tunnels) (x e : ℕ) : Type 0 where
  pub above : t.entered x < e
  pub before : (t.phase x ≡ Open → ⊥) × (is_established (t.phase x) ≡ true)
  pub now : u.entered x ≡ e
  pub opens : u.phase x ≡ Open
  pub others : (y : ℕ) → (y ≡ x → ⊥) → (u.phase y ≡ t.phase y) × (u.entered y ≡ t.entered y)

up_fits : (p : Phase) (s : CallState) → (p ≡ Open → ⊥) → is_established p ≡ true → fits p s ≡ true → is_young s ≡ false
up_fits p NoCall a b c = refl
up_fits p Waits a b c = refl
up_fits p Up a b c = refl
up_fits Open s a b c = absurd (a refl)
up_fits (Attempts q) WaitsReply a b c = absurd cc
up_fits (Answers q) WaitsReply a b c = absurd cc
up_fits (Attempts q) WaitsConnect a b c = absurd cc
up_fits (Answers q) WaitsConnect a b c = absurd cc
up_fits Gone s a b c = absurd cc
up_fits WaitReply s a b c = absurd cc
up_fits WaitConnect s a b c = absurd cc
up_fits Closed s a b c = absurd cc

open_fits : (s : CallState) → fits Open s ≡ true
open_fits NoCall = refl
open_fits s = refl

module _ (t u : Tunnels) (c : Calls) (asked : Bool) (x e : ℕ) (r : Resets t u x e) (known : (z : ℕ) → c.state z ≡ Up → c.remote z ≢ 0) (ok : StatesHold t c) where
  abbrev D : Calls
  D = resets asked c x e

  young_still : (z : ℕ) → u.phase (c.tunnel z) ≡ Open → is_young (c.state z) ≡ true → c.made z ≡ Some (u.entered (c.tunnel z))
  young_still z p y = ⊎_elim (λ same. absurd (let f = up_fits (t.phase (c.tunnel z)) (c.state z) (λ q. r.before.0 (ap t.phase (sym same) ∙ q)) (ap (λ (n : ℕ). is_established (t.phase n)) same ∙ r.before.1) (ok.state_fits z) in cc)) (λ other. let o = r.others (c.tunnel z) other in ok.young z (sym o.0 ∙ p) y ∙ ap Some (sym o.1)) (same_or_not (c.tunnel z) x)

  fits_still : (z : ℕ) → fits (u.phase (c.tunnel z)) (c.state z) ≡ true
  fits_still z = ⊎_elim (λ same. ap (λ (p : Phase). fits p (c.state z)) (ap u.phase same ∙ r.opens) ∙ open_fits (c.state z)) (λ other. ap (λ (p : Phase). fits p (c.state z)) (r.others (c.tunnel z) other).0 ∙ ok.state_fits z) (same_or_not (c.tunnel z) x)

  held_here : (z : ℕ) → c.tunnel z ≡ x → c.state z ≡ Up → D.held (c.tunnel z) (u.entered (c.tunnel z)) z ≢ 0
  held_here z same up f = known z up (sym (ap (λ (b : Bool). cond b (c.remote z) 0) both_true) ∙ sym (held_now c asked x e (c.tunnel z) (u.entered (c.tunnel z)) z same (ap u.entered same ∙ r.now)) ∙ f)
    where
      both_true : (eqb (c.tunnel z) x && is_up (c.state z)) ≡ true
      both_true = rw (same_test (c.tunnel z) x same, up) refl

  lived_still : (z : ℕ) → u.phase (c.tunnel z) ≡ Open → c.state z ≡ Up → LivedIn D (c.tunnel z) (u.entered (c.tunnel z)) z
  unfolding resets
  lived_still z p up = ⊎_elim {C = LivedIn D (c.tunnel z) (u.entered (c.tunnel z)) z} (λ same. inl (held_here z same up)) (λ other. let o = r.others (c.tunnel z) other in ⊎_elim {C = LivedIn D (c.tunnel z) (u.entered (c.tunnel z)) z} (λ h. inl (λ f. h (ap (λ (n : ℕ). c.held (c.tunnel z) n z) (sym o.1) ∙ sym (held_else c asked x e (c.tunnel z) (u.entered (c.tunnel z)) z other) ∙ f))) (λ m. inr (m ∙ ap Some (sym o.1))) (ok.up_lived z (sym o.0 ∙ p) up)) (same_or_not (c.tunnel z) x)

  made_still : (z m : ℕ) → c.made z ≡ Some m → m ≤ u.entered (c.tunnel z)
  made_still z m h = ⊎_elim (λ same. (let a = ok.made_entered z m h in let b : t.entered (c.tunnel z) ≡ t.entered x = ap t.entered same in let d : u.entered (c.tunnel z) ≡ e = ap u.entered same ∙ r.now in let f = r.above in omega arith)) (λ other. (let a = ok.made_entered z m h in let o = (r.others (c.tunnel z) other).1 in omega arith)) (same_or_not (c.tunnel z) x)

  unmade_still : (z : ℕ) → (u.phase (c.tunnel z) ≡ WaitReply) ⊎ (u.phase (c.tunnel z) ≡ WaitConnect) → c.made z ≡ None
  unmade_still z h = ⊎_elim (λ same. absurd (let o = ap u.phase same ∙ r.opens in ⊎_elim (λ a. (let q = sym o ∙ a in cc)) (λ a. (let q = sym o ∙ a in cc)) h)) (λ other. (let o = (r.others (c.tunnel z) other).0 in ok.unmade z (⊎_elim (λ a. inl (sym o ∙ a)) (λ a. inr (sym o ∙ a)) h))) (same_or_not (c.tunnel z) x)

  in_tunnel : (z : ℕ) → cond (eqb (c.tunnel z) x && is_up (c.state z)) (c.remote z) 0 ≢ 0 → c.tunnel z ≡ x
  in_tunnel z h = grind (arith, nat_tests)

  older_still : (y f z m : ℕ) → D.held y f z ≢ 0 → c.made z ≡ Some m → m < f
  older_still y f z m h made = ⊎_elim (λ same. ⊎_elim (λ here. now_older same here) (λ there. ok.held_older y f z m (λ q. h (before same there ∙ q)) made) (same_or_not f e)) (λ other. ok.held_older y f z m (λ q. h (held_else c asked x e y f z other ∙ q)) made) (same_or_not y x)
    where
      now_older : y ≡ x → f ≡ e → m < f
      now_older same here = let i = in_tunnel z (λ q. h (held_now c asked x e y f z same here ∙ q)) in let a = ok.made_entered z m made in let b : t.entered (c.tunnel z) ≡ t.entered x = ap t.entered i in let d = r.above in omega arith

      before : y ≡ x → (f ≡ e → ⊥) → D.held y f z ≡ c.held y f z
      before same there = held_before c asked x e y f z same there

  lives_still : (z : ℕ) → c.booked z ≡ true → u.phase (c.tunnel z) ≢ Gone → c.state z ≡ Up
  lives_still z b n = ok.booked_lives z b (λ g. ⊎_elim (λ same. (let f = r.before.1 in let q = ap t.phase (sym same) ∙ g in let k : is_established Gone ≡ true = sym (ap is_established q) ∙ f in cc)) (λ other. n ((r.others (c.tunnel z) other).0 ∙ g)) (same_or_not (c.tunnel z) x))

  pub resets_ok : StatesHold u (resets asked c x e)
  unfolding resets
  resets_ok = record { state_fits = fits_still; young = young_still; up_lived = lived_still; made_entered = made_still; unmade = unmade_still; held_older = older_still; booked_lives = lives_still; up_first = ok.up_first }
