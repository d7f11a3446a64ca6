-- What a step must show of the present, where calls don't change, or only end.
use Rattle.std.proofs.Common.{◌≡◌, ◌≢◌, ◌⊎◌, inl, inr, ⊎_elim, ℕ, Bool, true, false, cond, ◌&&◌, ◌||◌, Option, Some, None, refl, sym, ap, ◌∙◌, subst, arith}
use Rattle.std.proofs.lemmas.Bool.Decides.{nat_tests}
use Rattle.epoch_machine.specs.Tunnels.{Tunnels, Phase, Open, WaitReply, WaitConnect}
use Rattle.epoch_machine.specs.Channels.{Channels}
use Rattle.epoch_machine.specs.Calls.{Calls, CallState, Up, lives, ends}
use Rattle.birth_laws.specs.Births.{CallsHold}
use Rattle.coverage_laws.specs.Coverage.{LivedIn, Known, ConnectPut, AnswerTaken, StatesHold, fits}
use Rattle.coverage_laws.proofs.Inputs.{WasOpen}

-- a tunnel that is open was open, or waited to be connected
abbrev pub OpenBefore : Tunnels → Tunnels → ℕ → Type 0
OpenBefore t u y = WasOpen t u y ⊎ (((t.phase y ≡ WaitReply) ⊎ (t.phase y ≡ WaitConnect)) × (u.entered y ≡ 0))

abbrev pub Connected : Tunnels → Tunnels → Channels → Calls → Calls → Type 0
Connected t u g c d = (z : ℕ) → u.phase (d.tunnel z) ≡ Open → d.state z ≡ Up → d.mate z ≡ 0 → d.made z ≡ Some (u.entered (d.tunnel z)) → ConnectPut g (d.tunnel z) (u.entered (d.tunnel z)) (d.remote z) ⊎ (WasOpen t u (c.tunnel z) × (c.state z ≡ Up) × (c.mate z ≡ 0) × (c.made z ≡ Some (t.entered (c.tunnel z))) × (d.tunnel z ≡ c.tunnel z) × (d.remote z ≡ c.remote z))

abbrev pub Asked : Tunnels → Tunnels → Channels → Calls → Calls → Type 0
Asked t u g c d = (y z : ℕ) → u.phase y ≡ Open → d.held y (u.entered y) z ≢ 0 → (d.asks y z ≡ true) ⊎ (AnswerTaken u g y (u.entered y) (d.held y (u.entered y) z) z ⊎ (WasOpen t u y × (c.held y (t.entered y) z ≢ 0) × (c.asks y z ≡ true → d.asks y z ≡ true)))

abbrev pub Ended : Tunnels → Tunnels → Channels → Calls → Calls → Type 0
Ended t u g c d = (z : ℕ) → u.phase (d.tunnel z) ≡ Open → LivedIn d (d.tunnel z) (u.entered (d.tunnel z)) z → d.over z ≡ true → Known u g d (d.tunnel z) (u.entered (d.tunnel z)) z ⊎ (WasOpen t u (c.tunnel z) × LivedIn c (c.tunnel z) (t.entered (c.tunnel z)) z × (c.over z ≡ true) × (d.tunnel z ≡ c.tunnel z))

-- nothing is established and nothing held of a tunnel that waits
module _ (t u : Tunnels) (c : Calls) (ch : CallsHold t c) (st : StatesHold t c) where
  no_up : (z : ℕ) → (t.phase (c.tunnel z) ≡ WaitReply) ⊎ (t.phase (c.tunnel z) ≡ WaitConnect) → c.state z ≡ Up → ⊥
  no_up z (inl p) s = let a = st.state_fits z in let b : fits WaitReply Up ≡ true = ap (λ (q : Phase). fits q Up) (sym p) ∙ ap (λ (q : CallState). fits (t.phase (c.tunnel z)) q) (sym s) ∙ a in cc
  no_up z (inr p) s = let a = st.state_fits z in let b : fits WaitConnect Up ≡ true = ap (λ (q : Phase). fits q Up) (sym p) ∙ ap (λ (q : CallState). fits (t.phase (c.tunnel z)) q) (sym s) ∙ a in cc

  none_held : (y z : ℕ) → c.held y 0 z ≢ 0 → ⊥
  none_held y z n = by (c.made z) refl
    where
      by : (o : Option ℕ) → c.made z ≡ o → ⊥
      by None m = (ch.held_call y 0 z n).3 m
      by (Some k) m = let a = st.held_older y 0 z k n m in omega arith

  none_lived : (z : ℕ) → (t.phase (c.tunnel z) ≡ WaitReply) ⊎ (t.phase (c.tunnel z) ≡ WaitConnect) → (e : ℕ) → e ≡ 0 → LivedIn c (c.tunnel z) e z → ⊥
  none_lived z w e zero (inl n) = none_held (c.tunnel z) z (λ q. n (ap (λ (k : ℕ). c.held (c.tunnel z) k z) zero ∙ q))
  none_lived z w e zero (inr m) = let a = st.unmade z w in let b : None ≡ Some e = sym a ∙ m in cc

  module _ (g : Channels) (opens : (y : ℕ) → u.phase y ≡ Open → OpenBefore t u y) where
    pub same_connected : Connected t u g c c
    same_connected z p s m made = ⊎_elim (λ w. inr (w, s, m, made ∙ ap Some w.entered, refl, refl)) (λ w. absurd (no_up z w.0 s)) (opens (c.tunnel z) p)

    pub same_asked : Asked t u g c c
    same_asked y z p n = ⊎_elim (λ w. inr (inr (w, (λ q. n (ap (λ (k : ℕ). c.held y k z) w.entered ∙ q)), λ q. q))) (λ w. absurd (none_held y z (λ q. n (ap (λ (k : ℕ). c.held y k z) w.1 ∙ q)))) (opens y p)

    same_lived : (z : ℕ) → WasOpen t u (c.tunnel z) → LivedIn c (c.tunnel z) (u.entered (c.tunnel z)) z → LivedIn c (c.tunnel z) (t.entered (c.tunnel z)) z
    same_lived z w l = subst (λ (k : ℕ). LivedIn c (c.tunnel z) k z) w.entered l

    pub old_ended : (z : ℕ) → u.phase (c.tunnel z) ≡ Open → LivedIn c (c.tunnel z) (u.entered (c.tunnel z)) z → c.over z ≡ true → WasOpen t u (c.tunnel z) × LivedIn c (c.tunnel z) (t.entered (c.tunnel z)) z × (c.over z ≡ true) × (c.tunnel z ≡ c.tunnel z)
    old_ended z p l o = ⊎_elim (λ w. (w, same_lived z w l, o, refl)) (λ w. absurd (none_lived z w.0 (u.entered (c.tunnel z)) w.1 l)) (opens (c.tunnel z) p)

    pub same_ended : Ended t u g c c
    same_ended z p l o = inr (old_ended z p l o)

    module _ (kind : ℕ → Bool) where
      was_up : (z : ℕ) → (ends c kind).state z ≡ Up → c.state z ≡ Up
      unfolding ends
      was_up z h = grind (arith, nat_tests)

      over_before : (z : ℕ) → (ends c kind).over z ≡ true → (c.over z ≡ true) ⊎ ((kind z ≡ true) × ((lives (c.state z) || c.booked z) ≡ true))
      unfolding ends
      over_before z h = by (kind z) refl (lives (c.state z) || c.booked z) refl h
        where
          by : (a : Bool) → kind z ≡ a → (b : Bool) → (lives (c.state z) || c.booked z) ≡ b → cond (a && b) true (c.over z) ≡ true → (c.over z ≡ true) ⊎ ((kind z ≡ true) × ((lives (c.state z) || c.booked z) ≡ true))
          by true a true b h = inr (a, b)
          by true a false b h = inl h
          by false a b e h = inl h

      pub ends_connected : Connected t u g c (ends c kind)
      unfolding ends
      ends_connected z p s m made = same_connected z p (was_up z s) m made

      pub ends_asked : Asked t u g c (ends c kind)
      unfolding ends
      ends_asked y z p n = same_asked y z p n

      -- of the calls that end now, those of an open tunnel that lived in its epoch end as they may
      pub ends_ended : ((z : ℕ) → kind z ≡ true → (lives (c.state z) || c.booked z) ≡ true → u.phase (c.tunnel z) ≡ Open → LivedIn c (c.tunnel z) (u.entered (c.tunnel z)) z → Known u g (ends c kind) (c.tunnel z) (u.entered (c.tunnel z)) z) → Ended t u g c (ends c kind)
      unfolding ends
      ends_ended told z p l o = ⊎_elim (λ a. inr (old_ended z p l a)) (λ a. inl (told z a.0 a.1 p l)) (over_before z o)
