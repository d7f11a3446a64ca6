-- Recoveries keep what holds of queries.
use Rattle.std.proofs.Common.{◌≡◌, ◌≢◌, ◌⊎◌, inl, inr, ⊎_elim, ℕ, Bool, true, false, cond, eqb, ◌&&◌, Some, refl, sym, ap, ◌∙◌, subst, arith}
use Rattle.std.proofs.lemmas.Bool.Decides.{nat_tests}
use Rattle.epoch_machine.specs.Names.{assign}
use Rattle.epoch_machine.specs.Letters.{Letter, Hello}
use Rattle.epoch_machine.specs.Tunnels.{Tunnels, Open, Attempts, Answers, restored, frozen}
use Rattle.epoch_machine.specs.Channels.{Stands}
use Rattle.epoch_machine.specs.Calls.{Calls, CallState, NoCall, Up, is_up, ends, comes_back, resets, unfinished}
use Rattle.epoch_machine.specs.Worlds.{World, Rules}
use Rattle.epoch_machine.specs.Moves.{freezes, restores}
use Rattle.epoch_machine.proofs.Splits.{same_or_not, at_name}
use Rattle.epoch_machine.proofs.Tells.{both, up_state}
use Rattle.epoch_laws.proofs.Growth.{TunnelsGrow}
use Rattle.birth_laws.proofs.Means.{CallsGrow}
use Rattle.birth_laws.proofs.Growths.{idle_grows}
use Rattle.birth_laws.proofs.Steps.{known}
use Rattle.birth_laws.proofs.Runs.{Sound}
use Rattle.coverage_laws.specs.Coverage.{LivedIn, AnswerTaken, StatesHold, QueriesHold}
use Rattle.coverage_laws.proofs.Inputs.{WasOpen}
use Rattle.coverage_laws.proofs.Takings.{none_taken}
use Rattle.coverage_laws.proofs.Present.{Connected, Asked, Ended}
use Rattle.coverage_laws.proofs.Simple.{puts_quiet, tooks_quiet, finish_same, was_open}
use Rattle.birth_laws.proofs.Steps.{held_now, held_else}
use Rattle.coverage_laws.proofs.Openings.{nameless, simple_ended}
use Rattle.coverage_laws.proofs.Resets.{Resets}

module _ (r : Rules) (w : World) (reads : r.reads_epochs ≡ true) (s : Sound w) (st : StatesHold w.tunnels w.calls) (qh : QueriesHold w.tunnels w.channels w.calls) where
  abbrev To : World → Type 0
  To v = QueriesHold v.tunnels v.channels v.calls

  abbrev Grows : World → Type 0
  Grows v = TunnelsGrow w.tunnels v.tunnels

  frozen_queries : (x a c own theirs : ℕ) → CallsGrow w.calls (ends w.calls (unfinished w.calls x)) → TunnelsGrow w.tunnels (frozen w.tunnels x a c own theirs) → ((f j : ℕ) (m : Letter) → Stands w.channels 0 f j m → ⊥) → QueriesHold (frozen w.tunnels x a c own theirs) w.channels (ends w.calls (unfinished w.calls x))
  unfolding frozen
  frozen_queries x a c own theirs cg tg zero_gives = simple_ended r w reads s st qh (frozen w.tunnels x a c own theirs) w.channels 0 0 Hello Hello tg (idle_grows w.channels 0 0 Hello) (none_taken w.tunnels (frozen w.tunnels x a c own theirs) w.channels tg s.given qh.within w.channels Hello (λ y f. refl)) (λ y f. omega arith) zero_gives (unfinished w.calls x) cg (puts_quiet _ _ _ _ _ _ 0 0 Hello Hello refl) (tooks_quiet _ _ _ _ _ _ 0 0 Hello Hello refl) (λ y p. inl (was_open w.tunnels (frozen w.tunnels x a c own theirs) y s.epochs (opens y p) refl)) (λ z k i p l. absurd (shut z k p))
    where
      opens : (y : ℕ) → assign w.tunnels.phase x (Answers c) y ≡ Open → w.tunnels.phase y ≡ Open
      opens y = at_name w.tunnels.phase x (Answers c) y (λ q. q ≡ Open → w.tunnels.phase y ≡ Open) (λ same h. absurd cc) (λ other h. h)

      shut : (z : ℕ) → unfinished w.calls x z ≡ true → assign w.tunnels.phase x (Answers c) (w.calls.tunnel z) ≡ Open → ⊥
      shut z k h = let a = both (eqb (w.calls.tunnel z) x) _ k in let b : Answers c ≡ Open = sym (ap (λ (q : Bool). cond q (Answers c) (w.tunnels.phase (w.calls.tunnel z))) a.0) ∙ h in cc

  pub freezes_queries : (x a c own theirs : ℕ) → r.ends_at_freezes ≡ true → CallsGrow w.calls (ends w.calls (unfinished w.calls x)) → Grows (freezes r w x a c own theirs) → Sound (freezes r w x a c own theirs) → To (freezes r w x a c own theirs)
  unfolding freezes
  freezes_queries x a c own theirs rule cg tg sv = subst (λ (b : Bool). QueriesHold (frozen w.tunnels x a c own theirs) w.channels (cond b (ends w.calls (unfinished w.calls x)) w.calls)) (sym rule) (frozen_queries x a c own theirs cg tg (nameless _ sv))

  -- a reset
  module _ (u : Tunnels) (x e : ℕ) (rs : Resets w.tunnels u x e) (tg : TunnelsGrow w.tunnels u) where
    abbrev D : Calls
    D = resets true w.calls x e

    was : (y : ℕ) → (y ≡ x → ⊥) → u.phase y ≡ Open → WasOpen w.tunnels u y
    was y n p = let o = rs.others y n in was_open w.tunnels u y s.epochs (sym o.0 ∙ p) o.1

    too_old : (z : ℕ) → w.calls.tunnel z ≡ x → w.calls.made z ≡ Some (u.entered (w.calls.tunnel z)) → ⊥
    too_old z at made = let a = st.made_entered z (u.entered (w.calls.tunnel z)) made in let b : u.entered (w.calls.tunnel z) ≡ e = ap u.entered at ∙ rs.now in let d : w.tunnels.entered (w.calls.tunnel z) ≡ w.tunnels.entered x = ap w.tunnels.entered at in let i = rs.above in omega arith

    reset_connected : Connected w.tunnels u w.channels w.calls (resets true w.calls x e)
    unfolding resets
    reset_connected z p up m made = ⊎_elim (λ at. absurd (too_old z at made)) (λ n. let o = rs.others (w.calls.tunnel z) n in inr (was (w.calls.tunnel z) n p, up, m, made ∙ ap Some o.1, refl, refl)) (same_or_not (w.calls.tunnel z) x)

    test : (z : ℕ) → cond (eqb (w.calls.tunnel z) x && is_up (w.calls.state z)) (w.calls.remote z) 0 ≢ 0 → (eqb (w.calls.tunnel z) x && is_up (w.calls.state z)) ≡ true
    test z n = by (eqb (w.calls.tunnel z) x && is_up (w.calls.state z)) n
      where
        by : (b : Bool) → cond b (w.calls.remote z) 0 ≢ 0 → b ≡ true
        by true n = refl
        by false n = absurd (n refl)

    held_at : (y z : ℕ) → y ≡ x → D.held y (u.entered y) z ≢ 0 → (eqb (w.calls.tunnel z) x && is_up (w.calls.state z)) ≡ true
    held_at y z at n = test z (λ q. n (held_now w.calls true x e y (u.entered y) z at (ap u.entered at ∙ rs.now) ∙ q))

    asks_at : (y z : ℕ) → y ≡ x → (eqb (w.calls.tunnel z) x && is_up (w.calls.state z)) ≡ true → D.asks y z ≡ true
    unfolding resets
    asks_at y z at b = at_name w.calls.asks x (λ v. true && (eqb (w.calls.tunnel v) x && is_up (w.calls.state v))) y (λ (i : ℕ → Bool). i z ≡ true) (λ same. b) (λ other. absurd (other at))

    asks_else : (y z : ℕ) → (y ≡ x → ⊥) → w.calls.asks y z ≡ true → D.asks y z ≡ true
    unfolding resets
    asks_else y z n h = at_name w.calls.asks x (λ v. true && (eqb (w.calls.tunnel v) x && is_up (w.calls.state v))) y (λ (i : ℕ → Bool). i z ≡ true) (λ same. absurd (n same)) (λ other. h)

    reset_asked : Asked w.tunnels u w.channels w.calls (resets true w.calls x e)
    reset_asked y z p n = ⊎_elim {C = (D.asks y z ≡ true) ⊎ (AnswerTaken u w.channels y (u.entered y) (D.held y (u.entered y) z) z ⊎ (WasOpen w.tunnels u y × (w.calls.held y (w.tunnels.entered y) z ≢ 0) × (w.calls.asks y z ≡ true → D.asks y z ≡ true)))} (λ at. inl (asks_at y z at (held_at y z at n))) (λ o. inr (inr (was y o p, (λ q. n (held_else w.calls true x e y (u.entered y) z o ∙ ap (λ (i : ℕ). w.calls.held y i z) (rs.others y o).1 ∙ q)), asks_else y z o))) (same_or_not y x)

    reset_ended : Ended w.tunnels u w.channels w.calls (resets true w.calls x e)
    unfolding resets
    reset_ended z p l over = ⊎_elim (λ at. absurd (none at l)) (λ o. inr (was (w.calls.tunnel z) o p, ⊎_elim (λ n. inl (λ q. n (held_else w.calls true x e (w.calls.tunnel z) (u.entered (w.calls.tunnel z)) z o ∙ ap (λ (i : ℕ). w.calls.held (w.calls.tunnel z) i z) (rs.others (w.calls.tunnel z) o).1 ∙ q))) (λ m. inr (m ∙ ap Some (rs.others (w.calls.tunnel z) o).1)) l, over, refl)) (same_or_not (w.calls.tunnel z) x)
      where
        none : w.calls.tunnel z ≡ x → LivedIn (resets true w.calls x e) (w.calls.tunnel z) (u.entered (w.calls.tunnel z)) z → ⊥
        none at (inr m) = too_old z at m
        none at (inl n) = let b = both (eqb (w.calls.tunnel z) x) (is_up (w.calls.state z)) (held_at (w.calls.tunnel z) z at n) in let up = up_state (w.calls.state z) b.1 in let g = (s.calls.over_gone z over).0 in let i : Up ≡ NoCall = sym up ∙ g in cc

    reset_mate : (y : ℕ) → (resets true w.calls x e).mate y ≡ w.calls.mate y
    unfolding resets
    reset_mate y = refl

    pub reset_queries : CallsGrow w.calls (resets true w.calls x e) → ((f j : ℕ) (m : Letter) → Stands w.channels 0 f j m → ⊥) → QueriesHold u w.channels (resets true w.calls x e)
    reset_queries cg zero_gives = finish_same w.tunnels u w.channels w.channels w.calls (resets true w.calls x e) 0 0 Hello Hello tg cg (known w.tunnels w.calls s.calls) (idle_grows w.channels 0 0 Hello) qh (none_taken w.tunnels u w.channels tg s.given qh.within w.channels Hello (λ y f. refl)) (λ y f. omega arith) zero_gives (puts_quiet _ _ _ _ _ _ 0 0 Hello Hello refl) (tooks_quiet _ _ _ _ _ _ 0 0 Hello Hello refl) reset_mate reset_connected reset_asked reset_ended

  pub restores_queries : (x a : ℕ) → CallsGrow w.calls (comes_back w.calls x) → Grows (restores w x a) → Sound (restores w x a) → To (restores w x a)
  unfolding restores restored comes_back
  restores_queries x a cg tg sv = finish_same w.tunnels (restored w.tunnels x a) w.channels w.channels w.calls (comes_back w.calls x) 0 0 Hello Hello tg cg (known w.tunnels w.calls s.calls) (idle_grows w.channels 0 0 Hello) qh (none_taken w.tunnels (restored w.tunnels x a) w.channels tg s.given qh.within w.channels Hello (λ y f. refl)) (λ y f. omega arith) (nameless _ sv) (puts_quiet _ _ _ _ _ _ 0 0 Hello Hello refl) (tooks_quiet _ _ _ _ _ _ 0 0 Hello Hello refl) (λ y. refl)
      (λ z p up m made. let o = opens (w.calls.tunnel z) p in inr (was_open w.tunnels (restored w.tunnels x a) (w.calls.tunnel z) s.epochs o.0 refl, still (w.calls.tunnel z) (w.calls.booked z) (w.calls.state z) o.1 up, m, made, refl, refl))
      (λ y z p n. inr (inr (was_open w.tunnels (restored w.tunnels x a) y s.epochs (opens y p).0 refl, n, λ q. q)))
      (λ z p l over. inr (was_open w.tunnels (restored w.tunnels x a) (w.calls.tunnel z) s.epochs (opens (w.calls.tunnel z) p).0 refl, l, over, refl))
    where
      opens : (y : ℕ) → assign w.tunnels.phase x (Attempts a) y ≡ Open → (w.tunnels.phase y ≡ Open) × (y ≡ x → ⊥)
      opens y = at_name w.tunnels.phase x (Attempts a) y (λ q. q ≡ Open → (w.tunnels.phase y ≡ Open) × (y ≡ x → ⊥)) (λ same h. absurd cc) (λ other h. (h, other))

      still : (y : ℕ) (b : Bool) (q : CallState) → (y ≡ x → ⊥) → cond (eqb y x && b) Up q ≡ Up → q ≡ Up
      still y b q n h = grind (arith, nat_tests)
